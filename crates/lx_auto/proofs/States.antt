-- What holds of each state of a well-formed automaton.
use Rattle.std.proofs.Common.{◌≡◌, ℕ, zero, suc, ◌<◌, List, [], ◌∷◌, length, get_or, Some, Bool, true, false, if◌then◌else◌, subst, arith}
use Rattle.lx_auto.specs.declared.automaton.Auto.{Auto}
use Rattle.lx_auto.specs.declared.automaton.Edge.{Edge}
use Rattle.lx_auto.specs.declared.automaton.State.{State}
use Rattle.lx_auto.specs.Automaton.{AreOps, AreStates, IsAuto, IsState, LeadWithin, edge_on, has_unit, state_of}

pub IsState-state_of : (regs mregs count : ℕ) (states : List State) (number : ℕ) → AreStates regs mregs count states
    → IsState regs mregs count (state_of states number)
IsState-state_of regs mregs count [] number are = record { apart = tt; lead = tt; accept = tt; leave = tt }
IsState-state_of regs mregs count (state ∷ states) zero are = are.0
IsState-state_of regs mregs count (state ∷ states) (suc number) are = IsState-state_of regs mregs count states number are.1

-- the same of an automaton
pub state_formed : (auto : Auto) (number : ℕ) → IsAuto auto → IsState auto.regs auto.mregs (length auto.states) (state_of auto.states number)
state_formed auto number is = IsState-state_of auto.regs auto.mregs (length auto.states) auto.states number is.states

-- a state as code reads it
pub state_of-read : (states : List State) (number : ℕ) (state : State) → number < length states → state ≡ get_or states number state
    → state ≡ state_of states number
state_of-read [] number state within is = absurd (omega arith)
state_of-read (first ∷ states) zero state within is = is
state_of-read (first ∷ states) (suc number) state within is = state_of-read states number state (omega arith) is

-- an edge on a unit leads to a state, by operations on registers that are there
pub edge_on-leads : (regs mregs count : ℕ) (edges : List Edge) (unit : ℕ) (edge : Edge) → LeadWithin regs mregs count edges
    → edge_on edges unit ≡ Some edge → (edge.to < count) × AreOps regs mregs edge.ops
edge_on-leads regs mregs count [] unit edge lead on = absurd (cc on)
edge_on-leads regs mregs count (first ∷ edges) unit edge lead on =
    at (has_unit first unit) on (edge_on-leads regs mregs count edges unit edge lead.2)
  where
    at : (b : Bool) → (if b then Some first else edge_on edges unit) ≡ Some edge
        → (edge_on edges unit ≡ Some edge → (edge.to < count) × AreOps regs mregs edge.ops) → (edge.to < count) × AreOps regs mregs edge.ops
    at true on rest = let same : first ≡ edge = cc on in subst (λ e. (e.to < count) × AreOps regs mregs e.ops) same (lead.0, lead.1)
    at false on rest = rest on
