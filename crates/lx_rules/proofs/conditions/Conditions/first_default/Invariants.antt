use Rattle.std.proofs.Common.{◌≡◌, drop, map}
use Rattle.lx_rules.specs.Conditions.{earliest, earliest_default, standing_of}
use Rattle.lx_rules.proofs.conditions.Conditions.first_default.Given as goal

abbrev pub invariant-loop-cond : goal.invariant-loop-cond
invariant-loop-cond l =
    earliest (λ cond. (standing_of l.self cond).first_default) l.first (map (λ cond. cond.now) (drop l.cond-index l.conds))
    ≡ earliest_default l.self (map (λ cond. cond.now) l.conds)
