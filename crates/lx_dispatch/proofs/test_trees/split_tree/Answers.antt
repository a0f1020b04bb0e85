use Rattle.std.proofs.Common.{◌≡◌, ◌+◌, ◌*◌, ◌^◌, ◌≤◌, List, suc, arith, length, subst, ◌∙◌}
use Rattle.std.proofs.lemmas.List.{length-map}
use Rattle.std.proofs.lemmas.Result.{IfOk-weaker}
use Rattle.lx_dispatch.specs.TestTrees.{IsTreeOf, IsTreeWithin}
use Rattle.lx_dispatch.specs.Views.{seen_split, seen_stretch, seen_stretches, seen_tree}
use Rattle.lx_dispatch.specs.declared.test_trees.TestTree.{TestTree}
use Rattle.lx_dispatch.specs.declared.unit_splits.Stretch.{Stretch}
use Rattle.lx_dispatch.proofs.SplitTrees.{few_within}
use Rattle.lx_dispatch.proofs.test_trees.split_tree.Goals as goal

pub returns : goal.returns
returns c =
    let split = c.args.split.now in
    let digits = c.digit_count.result in
    let runs : c.len-runs.result ≡ length split.tests.items = c.len-runs.ensures ∙ split.tests.ok.0 in
    let seen = length-map split.tests.items seen_stretch in
    let few : 2 ^ digits ≤ 2 * suc (length (seen_stretches split.tests.items)) + 1 = omega (arith, c.digit_count.ensures.most, runs, seen) in
    IfOk-weaker c.tree_of.result
    (λ (tree : TestTree). IsTreeWithin digits (record { tests = seen_stretches c.deref.result.now; last = split.last }) (seen_tree tree))
    (λ (tree : TestTree). IsTreeOf (seen_split split) (seen_tree tree))
    (λ tree is.
    few_within digits (seen_split split) (seen_tree tree)
    (subst (λ (l : List Stretch). IsTreeWithin digits (record { tests = seen_stretches l; last = split.last }) (seen_tree tree)) c.deref.ensures.value is) few)
    c.tree_of.ensures
