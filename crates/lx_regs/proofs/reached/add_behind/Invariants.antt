use Rattle.std.proofs.Common.{take}
use Rattle.lx_regs.specs.Growth.{Grows, IsDueForSome}
use Rattle.lx_regs.specs.Reached.{IsBehind}
use Rattle.lx_regs.proofs.reached.add_behind.Given as goal

abbrev pub invariant-loop-edge : goal.invariant-loop-edge
invariant-loop-edge l = Grows (IsDueForSome (take l.edge-index l.edges) (IsBehind l.left)) l.initial.found l.found
