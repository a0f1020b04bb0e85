use Rattle.std.proofs.Common.{◌≡◌, ℕ, ◌<◌, true}
use Rattle.lx_regs.specs.Colours.{mark_at}
use Rattle.lx_regs.proofs.colours.least_unmarked.Given as goal

abbrev pub invariant-loop-colour : goal.invariant-loop-colour
invariant-loop-colour l = (other : ℕ) → other < l.colour → mark_at l.marks other ≡ true
