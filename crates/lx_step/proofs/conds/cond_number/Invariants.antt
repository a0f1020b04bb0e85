use Rattle.std.proofs.Common.{◌≡◌, ◌+◌, drop}
use Rattle.lx_step.specs.Conds.{cond_number}
use Rattle.lx_step.proofs.conds.cond_number.Given as goal

abbrev pub invariant-loop-number : goal.invariant-loop-number
invariant-loop-number l = l.number + cond_number (drop l.number l.conds) l.cond ≡ cond_number l.conds l.cond
