use Rattle.std.proofs.Common.{take}
use Rattle.std.specs.Prelude.{map, slice_index}
use Rattle.lx_regs.specs.Graphs.{JoinsEach}
use Rattle.lx_regs.proofs.shares.join_colours.Given as goal

abbrev pub invariant-loop-number : goal.invariant-loop-number
invariant-loop-number l = JoinsEach l.fn.merged l.merged l.colour (map (slice_index l.colours) (take l.number-index l.numbers))
