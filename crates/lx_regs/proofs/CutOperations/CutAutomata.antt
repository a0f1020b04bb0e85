-- An automaton without the operations that no walk reads is well formed, keeps its shape, and runs as before.
use Rattle.std.proofs.Common.{◌≡◌, ℕ, zero, suc, ◌+◌, ◌<◌, ◌≤◌, List, [], ◌∷◌, length, Option, Some, None, refl, Contains, sym, ap, ◌∙◌, subst, arith}
use Rattle.std.specs.Prelude.{map, option_map}
use Rattle.lx_auto.specs.declared.automaton.Accept.{Accept}
use Rattle.lx_auto.specs.declared.automaton.Auto.{Auto}
use Rattle.lx_auto.specs.declared.automaton.Edge.{Edge}
use Rattle.lx_auto.specs.declared.automaton.State.{State}
use Rattle.lx_auto.specs.Automaton.{AreApartFrom, AreHeld, AreStates, IsAccept, IsAuto, IsState, LeadWithin, state_of}
use Rattle.lx_auto.specs.Effects.{Names, effect_of, effect_of_both, effect_upon, renamed_effect, same_names}
use Rattle.lx_auto.specs.Live.{AtSomePoint, IsLiveBehind, IsLiveOnLeaving}
use Rattle.lx_auto.specs.Points.{Point, IsReached, state_at, values_left, values_of}
use Rattle.lx_auto.specs.Translations.{AcceptAlike, AllLeadAlike, IsTranslation, LeadAlike}
use Rattle.lx_auto.proofs.Edges.{AreApartFrom-earlier}
use Rattle.lx_auto.proofs.Effects.{renamed-same, renamed_effect-same}
use Rattle.lx_auto.proofs.SameLists.{Contains-later, map-where}
use Rattle.lx_auto.proofs.SameTranslations.{map-renamed_same}
use Rattle.lx_auto.proofs.States.{state_formed}
use Rattle.lx_regs.specs.Dead.{AreEdgesCut, IsAcceptCut, IsAcceptedCut, IsCut, IsEdgeCut, IsStateCut}
use Rattle.lx_auto.specs.Shapes.{is_history}
use Rattle.lx_auto.proofs.Agreement.{AgreeByNumber, AreAgreed-by_number, AreAgreed-of_numbers}
use Rattle.lx_regs.specs.Shapes.{KeepsShape, shape_of_accept, shape_of_edge}
use Rattle.lx_regs.proofs.CutOperations.KeptOps.{AreOps-kept, effect_of-kept, effect_upon-alike}

module _ (given : Auto) (number : ℕ) where
  -- ---- what edges and accepts stand for each other

  pub edge-cut : (edges others : List Edge) → AreEdgesCut given number edges others → (edge : Edge) → Contains edges edge
      → (other : Edge) × Contains others other × IsEdgeCut given number edge other
  edge-cut [] others cut edge (place, within, is) = absurd (omega arith)
  edge-cut (first ∷ edges) [] cut edge has = absurd cut
  edge-cut (first ∷ edges) (second ∷ others) cut edge (zero, within, is) =
      (second, (0, omega arith, refl), subst (λ e. IsEdgeCut given number e second) is cut.0)
  edge-cut (first ∷ edges) (second ∷ others) cut edge (suc place, within, is) =
      let found = edge-cut edges others cut.1 edge (place, omega arith, is) in
      (found.0, Contains-later second others found.0 found.1, found.2)

  pub edge-cut_back : (edges others : List Edge) → AreEdgesCut given number edges others → (other : Edge) → Contains others other
      → (edge : Edge) × Contains edges edge × IsEdgeCut given number edge other
  edge-cut_back edges [] cut other (place, within, is) = absurd (omega arith)
  edge-cut_back [] (second ∷ others) cut other has = absurd cut
  edge-cut_back (first ∷ edges) (second ∷ others) cut other (zero, within, is) =
      (first, (0, omega arith, refl), subst (λ e. IsEdgeCut given number first e) is cut.0)
  edge-cut_back (first ∷ edges) (second ∷ others) cut other (suc place, within, is) =
      let found = edge-cut_back edges others cut.1 other (place, omega arith, is) in
      (found.0, Contains-later first edges found.0 found.1, found.2)

  pub accept-cut_back : (accept other : Option Accept) → IsAcceptCut given number accept other → (ours : Accept) → other ≡ Some ours
      → (theirs : Accept) × (accept ≡ Some theirs) × IsAcceptedCut given number theirs ours
  accept-cut_back None None cut ours is = absurd (cc is)
  accept-cut_back (Some accept) None cut ours is = absurd cut
  accept-cut_back None (Some other) cut ours is = absurd cut
  accept-cut_back (Some accept) (Some other) cut ours is =
      let same : other ≡ ours = cc is in (accept, refl, subst (λ a. IsAcceptedCut given number accept a) same cut)

  values_of-cut : (accept other : Option Accept) → IsAcceptCut given number accept other → values_of other ≡ values_of accept
  values_of-cut None None cut = refl
  values_of-cut (Some accept) None cut = absurd cut
  values_of-cut None (Some other) cut = absurd cut
  values_of-cut (Some accept) (Some other) cut = cut.values

  -- ---- well formed

  AreApartFrom-cut : (low : ℕ) (edges others : List Edge) → AreEdgesCut given number edges others → AreApartFrom low edges
      → AreApartFrom low others
  AreApartFrom-cut low [] [] cut apart = tt
  AreApartFrom-cut low (edge ∷ edges) [] cut apart = absurd cut
  AreApartFrom-cut low [] (other ∷ others) cut apart = absurd cut
  AreApartFrom-cut low (edge ∷ edges) (other ∷ others) cut apart =
      let same_low : other.lo ≡ edge.lo = cut.0.low in
      let same_high : other.hi ≡ edge.hi = cut.0.high in (
        omega arith,
        omega arith,
        AreApartFrom-earlier (edge.hi + 1) (other.hi + 1) others (omega arith) (AreApartFrom-cut (edge.hi + 1) edges others cut.1 apart.2),
      )

  module _ (regs mregs : ℕ) where
    LeadWithin-cut : (count : ℕ) (edges others : List Edge) → AreEdgesCut given number edges others → LeadWithin regs mregs count edges
        → LeadWithin regs mregs count others
    LeadWithin-cut count [] [] cut lead = tt
    LeadWithin-cut count (edge ∷ edges) [] cut lead = absurd cut
    LeadWithin-cut count [] (other ∷ others) cut lead = absurd cut
    LeadWithin-cut count (edge ∷ edges) (other ∷ others) cut lead =
        let same : other.to ≡ edge.to = cut.0.target in (
          omega arith,
          AreOps-kept (λ held. AtSomePoint given number (λ point. IsLiveBehind given point edge held)) regs mregs edge.ops other.ops
              cut.0.ops lead.1,
          LeadWithin-cut count edges others cut.1 lead.2,
        )

    IsAccept-cut : (accept other : Option Accept) → IsAcceptCut given number accept other → IsAccept regs mregs accept
        → IsAccept regs mregs other
    IsAccept-cut None None cut is = tt
    IsAccept-cut (Some accept) None cut is = absurd cut
    IsAccept-cut None (Some other) cut is = absurd cut
    IsAccept-cut (Some accept) (Some other) cut is = (
      AreOps-kept (λ held. AtSomePoint given number (λ point. Contains accept.values held)) regs mregs accept.ops other.ops cut.ops is.0,
      subst (λ values. AreHeld regs mregs values) (sym cut.values) is.1,
    )

    IsState-cut : (count : ℕ) (state other : State) → IsStateCut given number state other → IsState regs mregs count state
        → IsState regs mregs count other
    IsState-cut count state other cut is = record {
      apart = AreApartFrom-cut 0 state.edges other.edges cut.edges is.apart;
      lead = LeadWithin-cut count state.edges other.edges cut.edges is.lead;
      accept = IsAccept-cut state.accept other.accept cut.accept is.accept;
      leave =
          AreOps-kept (λ held. AtSomePoint given number (λ point. IsLiveOnLeaving given point held)) regs mregs state.leave other.leave
          cut.leave is.leave;
    }

  -- ---- the shape

  edges-shape : (edges others : List Edge) → AreEdgesCut given number edges others → map shape_of_edge others ≡ map shape_of_edge edges
  edges-shape [] [] cut = refl
  edges-shape (edge ∷ edges) [] cut = absurd cut
  edges-shape [] (other ∷ others) cut = absurd cut
  edges-shape (edge ∷ edges) (other ∷ others) cut =
      λ i. record { low = cut.0.low i; high = cut.0.high i; target = cut.0.target i } ∷ edges-shape edges others cut.1 i

  accept-shape : (accept other : Option Accept) → IsAcceptCut given number accept other
      → option_map shape_of_accept other ≡ option_map shape_of_accept accept
  accept-shape None None cut = refl
  accept-shape (Some accept) None cut = absurd cut
  accept-shape None (Some other) cut = absurd cut
  accept-shape (Some accept) (Some other) cut = λ i. Some (record { rule = cut.rule i; histories = map is_history (cut.values i) })

-- states that are all formed
pub AreStates-each : (regs mregs count : ℕ) (states : List State) → ((number : ℕ) → IsState regs mregs count (state_of states number))
    → AreStates regs mregs count states
AreStates-each regs mregs count [] each = tt
AreStates-each regs mregs count (state ∷ states) each = (each 0, AreStates-each regs mregs count states (λ number. each (suc number)))

module _ (given answer : Auto) (is : IsCut given answer) where
  pub IsAuto-cut : IsAuto given → IsAuto answer
  IsAuto-cut formed =
      let same : length answer.states ≡ length given.states = is.states.count in
      let same_regs : answer.regs ≡ given.regs = is.regs in
      let same_mregs : answer.mregs ≡ given.mregs = is.mregs in
      let start : 0 < length given.states = formed.start in
      let few : length given.states < 4294967295 = formed.few in
      let few_regs : given.regs ≤ 1073741824 = formed.few_regs in
      let few_mregs : given.mregs ≤ 1073741824 = formed.few_mregs in
      record {
        start = omega arith;
        few = omega arith;
        few_regs = omega arith;
        few_mregs = omega arith;
        states =
            subst (λ count. AreStates answer.regs answer.mregs count answer.states) (sym same)
            (subst (λ mregs. AreStates answer.regs mregs (length given.states) answer.states) (sym same_mregs)
            (subst (λ regs. AreStates regs given.mregs (length given.states) answer.states) (sym same_regs)
            (AreStates-each given.regs given.mregs (length given.states) answer.states (λ number.
            IsState-cut given number given.regs given.mregs (length given.states) (state_of given.states number)
            (state_of answer.states number)
            (is.states.each number) (state_formed given number formed)))));
      }

  AgreeByNumber-cut : AgreeByNumber given.states → AgreeByNumber answer.states
  AgreeByNumber-cut agreed number other accept same accepts also rule =
      let theirs = accept-cut_back given number (state_of given.states number).accept (state_of answer.states number).accept
      (is.states.each number).accept accept accepts in
      let others = accept-cut_back given other (state_of given.states other).accept (state_of answer.states other).accept
      (is.states.each other).accept same also in
      theirs.2.values
      ∙ agreed number other theirs.0 others.0 theirs.1 others.1 (sym theirs.2.rule ∙ rule ∙ others.2.rule)
      ∙ sym others.2.values

  pub KeepsShape-cut : KeepsShape given answer
  KeepsShape-cut = record {
    count = is.states.count;
    edges = λ number.
        edges-shape given number (state_of given.states number).edges (state_of answer.states number).edges (is.states.each number).edges;
    accepts = λ number.
        accept-shape given number (state_of given.states number).accept (state_of answer.states number).accept
        (is.states.each number).accept;
    agreed = λ agreed. AreAgreed-of_numbers answer.states (AgreeByNumber-cut (AreAgreed-by_number given.states agreed));
  }

  -- ---- the translation

  abbrev pub own_names : ℕ → Names
  own_names state = same_names

  module _ (point : Point) (reached : IsReached given point) where
    AcceptAlike-cut : (accept other : Option Accept) → IsAcceptCut given point.state accept other → AcceptAlike same_names accept other
    AcceptAlike-cut None None cut = tt
    AcceptAlike-cut (Some accept) None cut = absurd cut
    AcceptAlike-cut None (Some other) cut = absurd cut
    AcceptAlike-cut (Some accept) (Some other) cut = (
      cut.rule,
      ap (map (effect_of other.ops)) cut.values
          ∙ map-where (effect_of other.ops) (λ value. renamed_effect same_names (effect_of accept.ops value)) accept.values (λ value has.
          effect_of-kept (λ held. AtSomePoint given point.state (λ at. Contains accept.values held)) accept.ops other.ops value cut.ops
          (point.left, reached, has)
          ∙ sym (renamed_effect-same (effect_of accept.ops value))),
    )

    pub LeadAlike-cut : (edge other : Edge) → Contains (state_at given point).edges edge → IsEdgeCut given point.state edge other
        → LeadAlike given answer own_names point edge other
    LeadAlike-cut edge other has cut = record {
      low = cut.low;
      high = cut.high;
      target = cut.target;
      effects = λ held live.
          let leave = (state_at given point).leave in
          let left = (state_at answer point).leave in
          ap (effect_of_both left other.ops) (renamed-same held)
          ∙ ap (effect_upon left)
          (effect_of-kept (λ h. AtSomePoint given point.state (λ at. IsLiveBehind given at edge h)) edge.ops other.ops
          held cut.ops (point.left, reached, live))
          ∙ effect_upon-alike leave left (effect_of edge.ops held) (λ middle reads.
          effect_of-kept (λ h. AtSomePoint given point.state (λ at. IsLiveOnLeaving given at h)) leave left middle
          (is.states.each point.state).leave
          (point.left, reached, (edge, held, has, live, reads)))
          ∙ sym (renamed_effect-same (effect_of_both leave edge.ops held));
    }

    AllLeadAlike-cut : (edges others : List Edge) → ((edge : Edge) → Contains edges edge → Contains (state_at given point).edges edge)
        → AreEdgesCut given point.state edges others → AllLeadAlike given answer own_names point edges others
    AllLeadAlike-cut [] [] within cut = tt
    AllLeadAlike-cut (edge ∷ edges) [] within cut = absurd cut
    AllLeadAlike-cut [] (other ∷ others) within cut = absurd cut
    AllLeadAlike-cut (edge ∷ edges) (other ∷ others) within cut = (
      LeadAlike-cut edge other (within edge (0, omega arith, refl)) cut.0,
      AllLeadAlike-cut edges others (λ e has. within e (Contains-later edge edges e has)) cut.1,
    )

  values_left-cut : (left : Option ℕ) → values_left answer left ≡ values_left given left
  values_left-cut None = refl
  values_left-cut (Some state) =
      values_of-cut given state (state_of given.states state).accept (state_of answer.states state).accept (is.states.each state).accept

  pub translation-cut : IsTranslation given answer own_names
  translation-cut = record {
    accepts = λ point reached.
        AcceptAlike-cut point reached (state_at given point).accept (state_at answer point).accept (is.states.each point.state).accept;
    falls_back = λ point reached none. values_left-cut point.left ∙ sym (map-renamed_same (values_left given point.left));
    edges = λ point reached.
        AllLeadAlike-cut point reached (state_at given point).edges (state_at answer point).edges (λ edge has. has)
        (is.states.each point.state).edges;
    start = refl;
  }
