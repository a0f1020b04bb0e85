use Rattle.std.proofs.Common.{◌≡◌, ◌∙◌, [], ap, drop, sym}
use Rattle.std.proofs.Math.ListN.{drop_of_length-le}
use Rattle.lx_tnfa.proofs.Liveness.LiveMarks.{all_predecessors, put_all}
use Rattle.lx_tnfa.proofs.live.predecessors.Goals as goal

pub returns-clause-lists : goal.returns-clause-lists
returns-clause-lists c =
    let states = c.args.states.now in
    let none : drop c.loop-number.number states ≡ [] = drop_of_length-le states c.loop-number-test.false in
    all_predecessors c.args.classes.now states c.loop-number.before.items c.in_ok-before.before.items c.in_ok-before.ensures c.loop-number.invariant.count
    (ap (put_all c.args.classes.now c.loop-number.before.items c.loop-number.number) (sym none) ∙ c.loop-number.invariant.all)
