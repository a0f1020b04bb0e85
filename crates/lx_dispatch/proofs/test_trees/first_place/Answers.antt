use Rattle.std.proofs.Common.{arith, length}
use Rattle.lx_dispatch.proofs.TreeLoops.{half_left, some_left}
use Rattle.lx_dispatch.proofs.test_trees.first_place.Goals as goal

pub chosen_place-requires : goal.chosen_place-requires
chosen_place-requires c =
    let left = c.args.left in
    let halves = half_left left (some_left (length c.args.tests.now) left c.requires.some c.requires.fit) in
    omega (arith, halves, c.requires.fit, c.requires.some, c.pow-most.ensures, c.saturating_sub-low.ensures, c.min-high.ensures)
