use Rattle.std.proofs.Common.{◌≤◌, arith, length, map}
use Rattle.std.proofs.Math.ListN.{drop_of_length-le}
use Rattle.lx_ccode.specs.Registers.{variable_text}
use Rattle.lx_ccode.proofs.BodyTails.{list_written}
use Rattle.lx_ccode.proofs.bodies.append_list.Goals as goal

pub returns : goal.returns
returns c =
    let others = c.in-Some.others.now in
    let ended : length others ≤ c.loop-number.number-index = omega arith in
    let word = variable_text c.args.names.now c.args.history in
    rw c.in-Some.ensures.cases.0
    (list_written c.args.format.now (word c.in-Some.first.now) (map word others) _ _ _ _ c.in_ok-append_variable.ensures
    (rw (drop_of_length-le others ended) at c.loop-number.invariant) c.in_ok-push.ensures.items)
