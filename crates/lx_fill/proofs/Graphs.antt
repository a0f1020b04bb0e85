-- The edges of a well-formed automaton lead to its states.
use Rattle.std.proofs.Common.{ℕ, zero, suc, ◌<◌, List, [], ◌∷◌, length, get_or, map, arith, subst}
use Rattle.std.specs.Prelude.{All, Contains}
use Rattle.lx_auto.specs.declared.automaton.Auto.{Auto}
use Rattle.lx_auto.specs.declared.automaton.Edge.{Edge}
use Rattle.lx_auto.specs.Automaton.{IsAuto, LeadWithin, state_of}
use Rattle.lx_auto.proofs.States.{state_formed}
use Rattle.lx_fill.specs.Checks.{graph_of}

leads_within : (regs mregs count : ℕ) (edges : List Edge) (place d : ℕ) → LeadWithin regs mregs count edges
    → place < length (map (λ (edge : Edge). edge.to) edges) → get_or (map (λ (edge : Edge). edge.to) edges) place d < count
leads_within regs mregs count [] place d lead lt = absurd (omega arith)
leads_within regs mregs count (edge ∷ edges) zero d lead lt = lead.0
leads_within regs mregs count (edge ∷ edges) (suc place) d lead lt = leads_within regs mregs count edges place d lead.2 (omega arith)

pub targets_within : (auto : Auto) (state next : ℕ) → IsAuto auto → Contains (graph_of auto state) next → next < length auto.states
targets_within auto state next is m =
    subst (λ s. s < length auto.states) m.2
    (leads_within auto.regs auto.mregs (length auto.states) (state_of auto.states state).edges m.0 next (state_formed auto state is).lead m.1)

all_within : (regs mregs count : ℕ) (edges : List Edge) → LeadWithin regs mregs count edges → All (λ (edge : Edge). edge.to < count) edges
all_within regs mregs count [] lead place d lt = absurd (omega arith)
all_within regs mregs count (edge ∷ edges) lead zero d lt = lead.0
all_within regs mregs count (edge ∷ edges) lead (suc place) d lt = all_within regs mregs count edges lead.2 place d (omega arith)

pub edges_within : (auto : Auto) (state : ℕ) → IsAuto auto → All (λ (edge : Edge). edge.to < length auto.states) (state_of auto.states state).edges
edges_within auto state is =
    all_within auto.regs auto.mregs (length auto.states) (state_of auto.states state).edges (state_formed auto state is).lead
