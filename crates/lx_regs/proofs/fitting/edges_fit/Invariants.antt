use Rattle.std.proofs.Common.{ℕ, ◌<◌, get_or}
use Rattle.lx_auto.specs.declared.automaton.Edge.{Edge}
use Rattle.lx_auto.specs.Automaton.{AreOps}
use Rattle.lx_regs.proofs.fitting.edges_fit.Given as goal

abbrev pub invariant-loop-edge : goal.invariant-loop-edge
invariant-loop-edge l = (place : ℕ) (edge : Edge) → place < l.edge-index → AreOps l.regs l.mregs (get_or l.edges place edge).ops
