-- What a machine's registers are asked for where it stands in an automaton.
use Rattle.std.proofs.Common.{◌≡◌, ℕ, zero, suc, ◌<◌, List, [], ◌∷◌, length, get_or, Some, sym, ap, ◌∙◌, subst, arith}
use Rattle.lx_auto.proofs.States.{edge_on-leads, state_formed}
use Rattle.lx_auto.specs.Automaton.{AreHeld, AreOps, IsAccept, IsAuto, IsHeld, edge_on, state_of}
use Rattle.lx_auto.specs.declared.automaton.Accept.{Accept}
use Rattle.lx_auto.specs.declared.automaton.Auto.{Auto}
use Rattle.lx_auto.specs.declared.automaton.Edge.{Edge}
use Rattle.lx_auto.specs.declared.automaton.Held.{Held}
use Rattle.lx_auto.specs.declared.automaton.State.{State}
use Rattle.lx_auto.specs.declared.ops.Op.{Op}
use Rattle.lx_cover.specs.Machine.{LeadsWithin}
use Rattle.lx_cover.specs.Registers.{HasAll}
use Rattle.lx_cover.specs.declared.registers.Registers.{Registers}

-- what is held at a place
pub held-at : (regs mregs : ℕ) (held : List Held) (place : ℕ) (none : Held) → AreHeld regs mregs held → place < length held
    → IsHeld regs mregs (get_or held place none)
held-at regs mregs [] place none are within = absurd (omega arith)
held-at regs mregs (first ∷ held) zero none are within = are.0
held-at regs mregs (first ∷ held) (suc place) none are within = held-at regs mregs held place none are.1 (omega arith)

module _ (auto : Auto) (registers : Registers) (all : HasAll auto registers) where
  -- the operations of the automaton are on registers that are there
  pub ops-fit : (ops : List Op) → AreOps auto.regs auto.mregs ops
      → AreOps (length registers.values.items) (length registers.histories.items) ops
  ops-fit ops are =
      subst (λ n. AreOps (length registers.values.items) n ops) (sym all.histories)
      (subst (λ n. AreOps n auto.mregs ops) (sym all.values) are)

  held-fit : (held : List Held) → AreHeld auto.regs auto.mregs held
      → AreHeld (length registers.values.items) (length registers.histories.items) held
  held-fit held are =
      subst (λ n. AreHeld (length registers.values.items) n held) (sym all.histories)
      (subst (λ n. AreHeld n auto.mregs held) (sym all.values) are)

  module _ (formed : IsAuto auto) (number : ℕ) (state : State) (is : state ≡ state_of auto.states number) where
    pub leave-fit : AreOps (length registers.values.items) (length registers.histories.items) state.leave
    leave-fit =
        subst (λ (s : State). AreOps (length registers.values.items) (length registers.histories.items) s.leave) (sym is)
        (ops-fit (state_of auto.states number).leave (state_formed auto number formed).leave)

    pub accept-fit : (accept : Accept) → state.accept ≡ Some accept
        → IsAccept (length registers.values.items) (length registers.histories.items) (Some accept)
    accept-fit accept accepted =
        let own : IsAccept auto.regs auto.mregs (Some accept) =
        subst (λ a. IsAccept auto.regs auto.mregs a) (ap (λ (s : State). s.accept) (sym is) ∙ accepted)
        (state_formed auto number formed).accept in
        (ops-fit accept.ops own.0, held-fit accept.values own.1)

-- an edge on a unit leads within the automaton
pub leads-within : (auto : Auto) (state unit : ℕ) (edge : Edge) → IsAuto auto → edge_on (state_of auto.states state).edges unit ≡ Some edge
    → LeadsWithin auto edge
leads-within auto state unit edge formed on =
    let leads = edge_on-leads auto.regs auto.mregs (length auto.states) (state_of auto.states state).edges unit edge
    (state_formed auto state formed).lead on in
    record { target = leads.0; ops = leads.1 }
