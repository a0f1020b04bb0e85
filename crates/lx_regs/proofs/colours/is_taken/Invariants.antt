use Rattle.std.proofs.Common.{ℕ, ◌<◌, get_or}
use Rattle.lx_regs.specs.Colours.{HasColour}
use Rattle.lx_regs.proofs.colours.is_taken.Given as goal

abbrev pub invariant-loop-other : goal.invariant-loop-other
invariant-loop-other l = (place : ℕ) → place < l.other-index → HasColour l.colours l.colour (get_or l.neighbours place 0) → ⊥
