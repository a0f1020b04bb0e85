use Rattle.std.proofs.Common.{◌≡◌, take}
use Rattle.std.specs.Prelude.{map, slice_index}
use Rattle.lx_regs.proofs.shares.second_colours.Given as goal

abbrev pub invariant-loop-colour : goal.invariant-loop-colour
invariant-loop-colour l = l.colours.items ≡ map (slice_index l.second) (take l.colour-index l.first)
