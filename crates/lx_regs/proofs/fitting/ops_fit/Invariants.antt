use Rattle.std.proofs.Common.{ℕ, ◌<◌, get_or}
use Rattle.lx_auto.specs.declared.ops.Op.TheVariants.{Here}
use Rattle.lx_auto.specs.Automaton.{IsOp}
use Rattle.lx_regs.proofs.fitting.ops_fit.Given as goal

abbrev pub invariant-loop-op : goal.invariant-loop-op
invariant-loop-op l = (place : ℕ) → place < l.op-index → IsOp l.regs l.mregs (get_or l.ops place (Here 0))
