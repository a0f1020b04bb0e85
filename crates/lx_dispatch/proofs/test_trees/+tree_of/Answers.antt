use Rattle.std.proofs.Common.{◌+◌, ◌-◌, None, drop, get_or, length, take, arith, subst, sym}
use Rattle.lx_dispatch.specs.TestTrees.{IsTreeWithin}
use Rattle.lx_dispatch.specs.TransitionClasses.{Split}
use Rattle.lx_dispatch.specs.Views.{seen_stretches, seen_tree}
use Rattle.lx_dispatch.specs.declared.test_trees.TestTree.{TestTree}
use Rattle.lx_dispatch.specs.declared.unit_splits.Stretch.{Stretch}
use Rattle.lx_dispatch.proofs.TreeLoops.{built_fork, built_test, high_asked, left_falls, low_asked}
use Rattle.lx_dispatch.proofs.test_trees.+tree_of.Goals as goal

pub tree_of-requires : goal.tree_of-requires
tree_of-requires t c =
    let tests = c.args.tests.now in
    let first = c.first_place-place in
    let falls = left_falls tests first.result c.args.left c.args.last first.ensures.within c.requires.fit c.requires.order in
    let asked = high_asked tests first.result c.args.left c.args.last first.ensures.within c.requires.fit c.requires.order first.ensures.low first.ensures.high in
    (omega (arith, falls, c.decreases), (asked.0, (asked.1, omega (arith, c.requires.few))))

pub tree_of-requires-2 : goal.tree_of-requires-2
tree_of-requires-2 t c =
    let tests = c.args.tests.now in
    let first = c.first_place-place in
    let falls = left_falls tests first.result c.args.left c.args.last first.ensures.within c.requires.fit c.requires.order in
    let asked = low_asked tests first.result c.args.left c.args.last first.ensures.within c.requires.fit c.requires.order first.ensures.low in
    (omega (arith, falls, c.decreases), (asked.0, (asked.1, omega (arith, c.requires.few))))

pub returns-then-place-eq0 : goal.returns-then-place-eq0
returns-then-place-eq0 t c =
    let tests = c.args.tests.now in
    let place = c.first_place-place.result in
    let split : Split = record { tests = seen_stretches (take (length tests - (place + 1)) (drop (place + 1) tests)); last = c.args.last } in
    built_test tests place c.args.left c.args.last c.first_place-place.ensures.within c.requires.fit c.requires.order c.in_ok-high.high
    (subst (λ (tree : TestTree). IsTreeWithin (c.args.left - 1) split (seen_tree tree)) (sym c.in_ok-high.ensures.ok) c.in_ok-tree_of.ensures)
    c.if-place-eq0.true

pub returns : goal.returns
returns t c =
    let tests = c.args.tests.now in
    let place = c.first_place-place.result in
    let middle : Stretch = get_or tests place (record { greatest = 0; class = None }) in
    let above : Split = record { tests = seen_stretches (take (length tests - (place + 1)) (drop (place + 1) tests)); last = c.args.last } in
    let below : Split = record { tests = seen_stretches (take place tests); last = middle.class } in
    built_fork tests place c.args.left c.args.last c.first_place-place.ensures.within c.requires.fit c.requires.order c.in_ok-low.low c.in_ok-high.high
    (subst (λ (tree : TestTree). IsTreeWithin (c.args.left - 1) below (seen_tree tree)) (sym c.in_ok-low.ensures.ok) c.in_ok-tree_of-2.ensures)
    (subst (λ (tree : TestTree). IsTreeWithin (c.args.left - 1) above (seen_tree tree)) (sym c.in_ok-high.ensures.ok) c.in_ok-tree_of.ensures)
