-- What fits of lists element by element fits of the whole.
use Rattle.std.proofs.Common.{ℕ, suc, ◌<◌, List, [], ◌∷◌, length, get_or, refl, Contains, arith}
use Rattle.lx_auto.specs.declared.automaton.Edge.{Edge}
use Rattle.lx_auto.specs.declared.automaton.Held.{Held}
use Rattle.lx_auto.specs.declared.automaton.Held.TheVariants.{Reg}
use Rattle.lx_auto.specs.declared.automaton.State.{State}
use Rattle.lx_auto.specs.declared.ops.Op.{Op}
use Rattle.lx_auto.specs.declared.ops.Op.TheVariants.{Here}
use Rattle.lx_auto.proofs.SameLists.{Contains-later}
use Rattle.lx_auto.specs.Automaton.{AreHeld, AreOps, AreStates, IsHeld, IsOp, IsState, LeadWithin}

module _ (regs mregs : ℕ) where
  pub ops-fit : (ops : List Op) → ((place : ℕ) → place < length ops → IsOp regs mregs (get_or ops place (Here 0))) → AreOps regs mregs ops
  ops-fit [] each = tt
  ops-fit (op ∷ ops) each = (each 0 (omega arith), ops-fit ops (λ place within. each (suc place) (omega arith)))

  pub values-fit : (values : List Held) → ((place : ℕ) → place < length values → IsHeld regs mregs (get_or values place (Reg 0)))
      → AreHeld regs mregs values
  values-fit [] each = tt
  values-fit (held ∷ values) each = (each 0 (omega arith), values-fit values (λ place within. each (suc place) (omega arith)))

  pub edges-fit : (edges : List Edge) → ((place : ℕ) (edge : Edge) → place < length edges → AreOps regs mregs (get_or edges place edge).ops)
      → (most mmost count : ℕ) → LeadWithin most mmost count edges → LeadWithin regs mregs count edges
  edges-fit [] each most mmost count lead = tt
  edges-fit (edge ∷ edges) each most mmost count lead =
      (lead.0, each 0 edge (omega arith), edges-fit edges (λ place other within. each (suc place) other (omega arith)) most mmost count lead.2)

  -- a state may have as many registers
  abbrev pub StateFits : State → Type 0
  StateFits state = (most mmost count : ℕ) → IsState most mmost count state → IsState regs mregs count state

  pub states-fit : (states : List State) → ((state : State) → Contains states state → StateFits state) → (most mmost count : ℕ)
      → AreStates most mmost count states → AreStates regs mregs count states
  states-fit [] each most mmost count are = tt
  states-fit (state ∷ states) each most mmost count are = (
    each state (0, omega arith, refl) most mmost count are.0,
    states-fit states (λ other has. each other (Contains-later state states other has)) most mmost count are.1,
  )
