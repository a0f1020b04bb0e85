use Rattle.std.proofs.Common.{◌≡◌, drop, Some}
use Rattle.lx_auto.specs.declared.automaton.Held.TheVariants.{Reg}
use Rattle.lx_regs.specs.Reads.{read_after}
use Rattle.lx_regs.proofs.reads.read_for_reg.Given as goal

abbrev pub invariant-loop-op : goal.invariant-loop-op
invariant-loop-op l = read_after (drop l.op-index l.ops) l.reg l.read ≡ read_after l.ops l.reg (Some (Reg l.reg))
