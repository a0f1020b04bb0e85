use Rattle.std.proofs.Common.{◌∙◌, List, ap, refl, subst, sym}
use Rattle.std.proofs.lemmas.Result.{IfOk-weaker}
use Rattle.lx_ccode.specs.Machine.{is_among}
use Rattle.lx_dispatch.specs.FirstQuestions.{IsRestOf, questions_of, seen_first}
use Rattle.lx_dispatch.specs.LeftUnits.{any_holds, left_split}
use Rattle.lx_dispatch.specs.TestTrees.{Ascend, IsTreeOf}
use Rattle.lx_dispatch.specs.TransitionClasses.{Split}
use Rattle.lx_dispatch.specs.UnitSwitches.{IsSwitchOf}
use Rattle.lx_dispatch.specs.Views.{seen_split, seen_stretches, seen_tree}
use Rattle.lx_dispatch.specs.declared.test_trees.TestTree.{TestTree}
use Rattle.lx_dispatch.specs.declared.test_trees.UnitCase.{UnitCase}
use Rattle.lx_dispatch.specs.declared.unit_splits.Stretch.{Stretch}
use Rattle.lx_dispatch.proofs.FirstWays.{rest-tree}
use Rattle.lx_dispatch.proofs.LeftWays.{Ascend-left_split}
use Rattle.lx_dispatch.proofs.SwitchTrees.{rest-switch}
use Rattle.lx_dispatch.proofs.TreeLoops.{seen_tree-switch}
use Rattle.lx_dispatch.proofs.asking.rest_tree.Goals as goal

pub split_tree-requires : goal.split_tree-requires
split_tree-requires c =
    let decided = any_holds (is_among c.args.table.now) (questions_of (seen_first c.args.first.now)) in
    let split = c.args.split.now in
    let whole = λ (l : List Stretch). left_split decided c.args.top (record { tests = seen_stretches l; last = split.last }) in
    subst (λ (left : Split). Ascend 0 left.tests) (sym (c.in_ok-left.ensures ∙ ap whole c.deref.ensures.value))
    (Ascend-left_split decided c.args.top (seen_split split) c.requires)

pub split_tree-requires-2 : goal.split_tree-requires-2
split_tree-requires-2 c =
    let decided = any_holds (is_among c.args.table.now) (questions_of (seen_first c.args.first.now)) in
    let split = c.args.split.now in
    let whole = λ (l : List Stretch). left_split decided c.args.top (record { tests = seen_stretches l; last = split.last }) in
    subst (λ (left : Split). Ascend 0 left.tests) (sym (c.in_ok-left.ensures ∙ ap whole c.deref.ensures.value))
    (Ascend-left_split decided c.args.top (seen_split split) c.requires)

pub returns-then-len-lt-MANY : goal.returns-then-len-lt-MANY
returns-then-len-lt-MANY c =
    let decided = any_holds (is_among c.args.table.now) (questions_of (seen_first c.args.first.now)) in
    let split = c.args.split.now in
    let whole = λ (l : List Stretch). left_split decided c.args.top (record { tests = seen_stretches l; last = split.last }) in
    IfOk-weaker c.split_tree.result (λ (tree : TestTree). IsTreeOf (seen_split c.in_ok-left.left) (seen_tree tree))
    (λ (tree : TestTree). IsRestOf c.args.table.now c.args.top c.args.greatest (seen_split split) (seen_first c.args.first.now) (seen_tree tree))
    (λ tree is.
    rest-tree c.args.table.now c.args.top c.args.greatest (seen_split split) (seen_first c.args.first.now) (seen_split c.in_ok-left.left) (seen_tree tree)
    c.requires (c.in_ok-left.ensures ∙ ap whole c.deref.ensures.value) is)
    c.split_tree.ensures

pub returns-then-is_switch : goal.returns-then-is_switch
returns-then-is_switch c =
    let decided = any_holds (is_among c.args.table.now) (questions_of (seen_first c.args.first.now)) in
    let split = c.args.split.now in
    let left = c.in_ok-left.left in
    let cases = c.take_most-last.new.cases in
    let other = c.take_most-last.result in
    let whole = λ (l : List Stretch). left_split decided c.args.top (record { tests = seen_stretches l; last = split.last }) in
    let of = subst (λ (l : List Stretch). IsSwitchOf decided (seen_stretches l) left.last cases.items other) c.as_slice-tests.ensures.value
    (subst (λ (l : List UnitCase). IsSwitchOf decided (seen_stretches c.as_slice-tests.result.now) left.last l other) c.deref-2.ensures.value
    (c.if-is_switch.ensures refl)) in
    subst (λ tree. IsRestOf c.args.table.now c.args.top c.args.greatest (seen_split split) (seen_first c.args.first.now) tree)
    (sym (seen_tree-switch cases other))
    (rest-switch c.args.table.now c.args.top c.args.greatest (seen_split split) (seen_first c.args.first.now) (seen_split left) cases.items other c.requires
    (c.in_ok-left.ensures ∙ ap whole c.deref.ensures.value) c.if-greatest-ne255.false c.if-top-ne255.false of)

pub returns : goal.returns
returns c =
    let decided = any_holds (is_among c.args.table.now) (questions_of (seen_first c.args.first.now)) in
    let split = c.args.split.now in
    let whole = λ (l : List Stretch). left_split decided c.args.top (record { tests = seen_stretches l; last = split.last }) in
    IfOk-weaker c.split_tree-2.result (λ (tree : TestTree). IsTreeOf (seen_split c.in_ok-left.left) (seen_tree tree))
    (λ (tree : TestTree). IsRestOf c.args.table.now c.args.top c.args.greatest (seen_split split) (seen_first c.args.first.now) (seen_tree tree))
    (λ tree is.
    rest-tree c.args.table.now c.args.top c.args.greatest (seen_split split) (seen_first c.args.first.now) (seen_split c.in_ok-left.left) (seen_tree tree)
    c.requires (c.in_ok-left.ensures ∙ ap whole c.deref.ensures.value) is)
    c.split_tree-2.ensures
