-- An automaton by other names is well formed, and keeps the shape of the one that is given.
use Rattle.std.proofs.Common.{◌≡◌, ℕ, ◌+◌, ◌<◌, ◌≤◌, List, [], ◌∷◌, Option, Some, None, refl, length, sym, ap, ◌∙◌, subst}
use Rattle.std.specs.Prelude.{map, option_map}
use Rattle.std.proofs.lemmas.List.{length-map}
use Rattle.std.proofs.lemmas.Simd.{map-map}
use Rattle.lx_auto.specs.declared.automaton.Accept.{Accept}
use Rattle.lx_auto.specs.declared.automaton.Auto.{Auto}
use Rattle.lx_auto.specs.declared.automaton.Edge.{Edge}
use Rattle.lx_auto.specs.declared.automaton.Held.{Held}
use Rattle.lx_auto.specs.declared.automaton.Held.TheVariants.{Reg, MReg}
use Rattle.lx_auto.specs.declared.automaton.State.{State}
use Rattle.lx_auto.specs.declared.ops.Op.{Op}
use Rattle.lx_auto.specs.declared.ops.Op.TheVariants.{Here, Null, Copy, MHere, MNull, MCopy}
use Rattle.lx_auto.specs.Automaton.{AreApartFrom, AreHeld, AreOps, AreStates, IsAccept, IsAuto, IsHeld, IsOp, IsState, LeadWithin, state_of}
use Rattle.lx_auto.specs.Effects.{Names, renamed}
use Rattle.lx_auto.proofs.SameLists.{map-where}
use Rattle.lx_regs.specs.SharedNames.{FitWithin, renamed_accept, renamed_auto, renamed_edge, renamed_op, renamed_ops, renamed_state}
use Rattle.lx_auto.specs.Shapes.{is_history}
use Rattle.lx_auto.proofs.Agreement.{AgreeByNumber, AreAgreed-by_number, AreAgreed-of_numbers}
use Rattle.lx_regs.specs.Shapes.{KeepsShape, shape_of_accept, shape_of_edge}
use Rattle.lx_regs.proofs.Translations.RenamedReads.{accept-renamed_back}
use Rattle.lx_regs.proofs.Translations.RenamedWalks.{state_of-renamed}

module _ (names : Names) (regs mregs named mnamed : ℕ) (fit : FitWithin names regs mregs named mnamed) where
  IsOp-renamed : (op : Op) → IsOp regs mregs op → IsOp named mnamed (renamed_op names op)
  IsOp-renamed (Here target) is = fit.regs_within target is
  IsOp-renamed (Null target) is = fit.regs_within target is
  IsOp-renamed (Copy target source) is = (fit.regs_within target is.0, fit.regs_within source is.1)
  IsOp-renamed (MHere target) is = (fit.others target is.0 is.1, fit.mregs_within target is.1)
  IsOp-renamed (MNull target) is = (fit.others target is.0 is.1, fit.mregs_within target is.1)
  IsOp-renamed (MCopy target source) is =
      ((fit.others target is.0.0 is.0.1, fit.mregs_within target is.0.1), fit.mregs_within source is.1)

  AreOps-renamed : (ops : List Op) → AreOps regs mregs ops → AreOps named mnamed (renamed_ops names ops)
  AreOps-renamed [] are = tt
  AreOps-renamed (op ∷ ops) are = (IsOp-renamed op are.0, AreOps-renamed ops are.1)

  IsHeld-renamed : (held : Held) → IsHeld regs mregs held → IsHeld named mnamed (renamed names held)
  IsHeld-renamed (Reg reg) is = fit.regs_within reg is
  IsHeld-renamed (MReg mreg) is = fit.mregs_within mreg is

  AreHeld-renamed : (values : List Held) → AreHeld regs mregs values → AreHeld named mnamed (map (renamed names) values)
  AreHeld-renamed [] are = tt
  AreHeld-renamed (held ∷ values) are = (IsHeld-renamed held are.0, AreHeld-renamed values are.1)

  IsAccept-renamed : (accept : Option Accept) → IsAccept regs mregs accept → IsAccept named mnamed (option_map (renamed_accept names) accept)
  IsAccept-renamed None is = tt
  IsAccept-renamed (Some accept) is = (AreOps-renamed accept.ops is.0, AreHeld-renamed accept.values is.1)

  AreApartFrom-renamed : (low : ℕ) (edges : List Edge) → AreApartFrom low edges → AreApartFrom low (map (renamed_edge names) edges)
  AreApartFrom-renamed low [] are = tt
  AreApartFrom-renamed low (edge ∷ edges) are = (are.0, are.1, AreApartFrom-renamed (edge.hi + 1) edges are.2)

  LeadWithin-renamed : (count : ℕ) (edges : List Edge) → LeadWithin regs mregs count edges
      → LeadWithin named mnamed count (map (renamed_edge names) edges)
  LeadWithin-renamed count [] lead = tt
  LeadWithin-renamed count (edge ∷ edges) lead = (lead.0, AreOps-renamed edge.ops lead.1, LeadWithin-renamed count edges lead.2)

  IsState-renamed : (count : ℕ) (state : State) → IsState regs mregs count state → IsState named mnamed count (renamed_state names state)
  IsState-renamed count state is = record {
    apart = AreApartFrom-renamed 0 state.edges is.apart;
    lead = LeadWithin-renamed count state.edges is.lead;
    accept = IsAccept-renamed state.accept is.accept;
    leave = AreOps-renamed state.leave is.leave;
  }

  AreStates-renamed : (count : ℕ) (states : List State) → AreStates regs mregs count states
      → AreStates named mnamed count (map (renamed_state names) states)
  AreStates-renamed count [] are = tt
  AreStates-renamed count (state ∷ states) are = (IsState-renamed count state are.0, AreStates-renamed count states are.1)

-- where states name no more than so many registers and m-registers
pub IsAuto-renamed : (auto : Auto) (names : Names) (regs mregs named mnamed : ℕ) → FitWithin names regs mregs named mnamed
    → AreStates regs mregs (length auto.states) auto.states → named ≤ 1073741824 → mnamed ≤ 1073741824 → IsAuto auto
    → IsAuto (renamed_auto names named mnamed auto)
IsAuto-renamed auto names regs mregs named mnamed fit are few mfew is =
    let count : length (map (renamed_state names) auto.states) ≡ length auto.states = length-map auto.states (renamed_state names) in
    record {
      start = subst (λ n. 0 < n) (sym count) is.start;
      few = subst (λ n. n < 4294967295) (sym count) is.few;
      few_regs = few;
      few_mregs = mfew;
      states = subst (λ n. AreStates named mnamed n (map (renamed_state names) auto.states)) (sym count)
          (AreStates-renamed names regs mregs named mnamed fit (length auto.states) auto.states are);
    }

module _ (names : Names) where
  is_history-renamed : (held : Held) → is_history (renamed names held) ≡ is_history held
  is_history-renamed (Reg reg) = refl
  is_history-renamed (MReg mreg) = refl

  histories-renamed : (values : List Held) → map is_history (map (renamed names) values) ≡ map is_history values
  histories-renamed values =
      map-map is_history (renamed names) values
      ∙ map-where (λ held. is_history (renamed names held)) is_history values (λ held has. is_history-renamed held)

  shape_of_accept-renamed : (accept : Option Accept)
      → option_map shape_of_accept (option_map (renamed_accept names) accept) ≡ option_map shape_of_accept accept
  shape_of_accept-renamed None = refl
  shape_of_accept-renamed (Some accept) = ap (λ histories. Some (record { rule = accept.rule; histories = histories })) (histories-renamed accept.values)

pub KeepsShape-renamed : (auto : Auto) (names : Names) (regs mregs : ℕ) → KeepsShape auto (renamed_auto names regs mregs auto)
KeepsShape-renamed auto names regs mregs = record {
  count = length-map auto.states (renamed_state names);
  edges = λ state.
      ap (λ (s : State). map shape_of_edge s.edges) (state_of-renamed names auto.states state)
      ∙ map-map shape_of_edge (renamed_edge names) (state_of auto.states state).edges;
  accepts = λ state.
      ap (λ (s : State). option_map shape_of_accept s.accept) (state_of-renamed names auto.states state)
      ∙ shape_of_accept-renamed names (state_of auto.states state).accept;
  agreed = λ agreed. AreAgreed-of_numbers (map (renamed_state names) auto.states) (agree (AreAgreed-by_number auto.states agreed));
}
  where
    back : (number : ℕ) (ours : Accept) → (state_of (map (renamed_state names) auto.states) number).accept ≡ Some ours
        → (accept : Accept) × ((state_of auto.states number).accept ≡ Some accept) × (renamed_accept names accept ≡ ours)
    back number ours accepts =
        accept-renamed_back names (state_of auto.states number).accept ours
        (ap (λ (s : State). s.accept) (sym (state_of-renamed names auto.states number)) ∙ accepts)

    agree : AgreeByNumber auto.states → AgreeByNumber (map (renamed_state names) auto.states)
    agree agreed number other accept same accepts also rule =
        let theirs = back number accept accepts in
        let others = back other same also in
        let one_rule : theirs.0.rule ≡ others.0.rule =
        ap (λ (a : Accept). a.rule) theirs.2 ∙ rule ∙ sym (ap (λ (a : Accept). a.rule) others.2) in
        sym (ap (λ (a : Accept). a.values) theirs.2)
        ∙ ap (map (renamed names)) (agreed number other theirs.0 others.0 theirs.1 others.1 one_rule)
        ∙ ap (λ (a : Accept). a.values) others.2
