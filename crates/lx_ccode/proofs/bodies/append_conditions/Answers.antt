use Rattle.std.proofs.Common.{[], refl}
use Rattle.lx_base.specs.Text.{joined}
use Rattle.lx_ccode.specs.Bodies.{conditions_then}
use Rattle.lx_ccode.proofs.BodyTails.{condition_parts}
use Rattle.lx_ccode.proofs.Tails.{appended_next, joined-nil}
use Rattle.lx_ccode.proofs.bodies.append_conditions.Goals as goal

pub loop-cond-preserved : goal.loop-cond-preserved
loop-cond-preserved c =
    let names = c.args.names.now in
    appended_next (λ cond. joined (condition_parts names cond)) (λ conds. conditions_then names conds [])
    c.args.conds.now c.loop-cond.cond-index c.cond-item.result _ _ _
    (joined-nil (condition_parts names c.cond-item.result)) (λ conds. refl)
    c.loop-cond-test.true c.cond-item.is c.in_ok-append_condition.ensures c.loop-cond.invariant
