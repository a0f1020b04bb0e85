use Rattle.std.proofs.Common.{◌≡◌, take}
use Rattle.std.specs.Prelude.{map}
use Rattle.lx_regs.specs.SharedNames.{names_of, renamed_state}
use Rattle.lx_regs.proofs.shared_names.SharedNames.renamed_states.Given as goal

abbrev pub invariant-loop-state : goal.invariant-loop-state
invariant-loop-state l = l.answer ≡ map (renamed_state (names_of l.self)) (take l.state-index l.states)
