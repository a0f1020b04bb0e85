use Rattle.std.proofs.Common.{ℕ, ◌<◌, get_or}
use Rattle.lx_auto.specs.declared.automaton.Held.TheVariants.{Reg}
use Rattle.lx_auto.specs.Automaton.{IsHeld}
use Rattle.lx_regs.proofs.fitting.values_fit.Given as goal

abbrev pub invariant-loop-held : goal.invariant-loop-held
invariant-loop-held l = (place : ℕ) → place < l.held-index → IsHeld l.regs l.mregs (get_or l.values place (Reg 0))
