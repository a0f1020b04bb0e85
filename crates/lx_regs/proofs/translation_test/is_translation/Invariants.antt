use Rattle.std.proofs.Common.{ℕ, ◌<◌}
use Rattle.lx_auto.specs.Automaton.{state_of}
use Rattle.lx_regs.specs.Tested.{KeepsState}
use Rattle.lx_regs.proofs.translation_test.is_translation.Given as goal

abbrev pub invariant-loop-number : goal.invariant-loop-number
invariant-loop-number l =
    (k : ℕ) → k < l.number
    → KeepsState l.table l.given l.answer.regs l.answer.mregs k (state_of l.states k) (state_of l.others k)
