use Rattle.std.proofs.Common.{drop}
use Rattle.lx_auto.specs.Automaton.{AreOps}
use Rattle.lx_regs.proofs.translation_test.Counts.allow_all.Given as goal

abbrev pub invariant-loop-op : goal.invariant-loop-op
invariant-loop-op l = AreOps l.self.regs l.self.mregs (drop l.op-index l.ops) → AreOps l.self.regs l.self.mregs l.ops
