use Rattle.std.proofs.Common.{◌≡◌, ◌++◌, drop}
use Rattle.lx_regs.specs.HeldGraphs.{read_each}
use Rattle.lx_regs.proofs.held_graphs.read_each.Given as goal

abbrev pub invariant-loop-held : goal.invariant-loop-held
invariant-loop-held l = l.reads.items ++ read_each l.ops (drop l.held-index l.live) ≡ read_each l.ops l.live
