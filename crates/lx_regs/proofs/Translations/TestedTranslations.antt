-- What passes the test is a translation, well formed, and keeps the shape.
use Rattle.std.proofs.Common.{◌≡◌, ◌⊎◌, ℕ, zero, suc, ◌+◌, ◌*◌, ◌<◌, ◌≤◌, List, [], ◌∷◌, length, Option, Some, None, IsSome, nat_eq, refl, subst, sym, ap, ap₂, ◌∙◌, inl, inr, arith}
use Rattle.std.specs.Prelude.{map, option_map}
use Rattle.std.proofs.Math.ListN.{get_or-eq_default}
use Rattle.std.proofs.lemmas.List.{map-id}
use Rattle.indexmap.specs.IndexMap.{get}
use Rattle.lx_auto.specs.declared.automaton.Accept.{Accept}
use Rattle.lx_auto.specs.declared.automaton.Auto.{Auto}
use Rattle.lx_auto.specs.declared.automaton.Edge.{Edge}
use Rattle.lx_auto.specs.declared.automaton.Held.{Held}
use Rattle.lx_auto.specs.declared.automaton.Held.TheVariants.{Reg, MReg}
use Rattle.lx_auto.specs.declared.automaton.State.{State}
use Rattle.lx_auto.specs.declared.ops.Op.{Op}
use Rattle.lx_auto.specs.Automaton.{AreApartFrom, AreHeld, AreStates, IsAccept, IsAuto, IsState, LeadWithin, state_of}
use Rattle.lx_auto.specs.Effects.{Names, effect_of, renamed, renamed_effect}
use Rattle.lx_auto.specs.Points.{Point, IsReached, state_at, values_left, values_of}
use Rattle.lx_auto.specs.Translations.{AcceptAlike, AllLeadAlike, IsTranslation}
use Rattle.lx_auto.proofs.States.{state_formed}
use Rattle.lx_regs.specs.NameTables.{first_name, fixed_name, fixed_names, names_at}
use Rattle.lx_regs.specs.Pairs.{AllPairs}
use Rattle.lx_auto.specs.Shapes.{is_history}
use Rattle.lx_auto.proofs.Agreement.{AgreeByNumber, AreAgreed-by_number, AreAgreed-of_numbers}
use Rattle.lx_regs.specs.Shapes.{KeepsShape, shape_of_accept, shape_of_edge}
use Rattle.lx_regs.specs.Tested.{IsTested, KeepsAccept, KeepsEdge, KeepsState, KeepsValue}
use Rattle.lx_regs.proofs.Translations.Pairs.{map-pairs}
use Rattle.lx_regs.specs.declared.name_tables.NameTable.{NameTable}

-- ---- names that are the same at each state

pub first_name-fixed : (fixed chosen other : Option ℕ) (number : ℕ) → IsSome fixed
    → first_name fixed chosen number ≡ first_name fixed other number
first_name-fixed (Some name) chosen other number is = refl
first_name-fixed None chosen other number is = absurd (cc is)

renamed-fixed : (table : NameTable) (state : ℕ) (value : Held) → IsSome (fixed_name table value)
    → renamed (names_at table state) value ≡ renamed (fixed_names table) value
renamed-fixed table state (Reg reg) is =
    ap Reg (first_name-fixed (get nat_eq table.fixed_regs reg) (get nat_eq table.regs (state * 4294967296 + reg)) None reg is)
renamed-fixed table state (MReg mreg) is =
    ap MReg (first_name-fixed (get nat_eq table.fixed_mregs mreg) (get nat_eq table.mregs (state * 4294967296 + mreg)) None mreg is)

is_history-renamed : (names : Names) (value : Held) → is_history (renamed names value) ≡ is_history value
is_history-renamed names (Reg reg) = refl
is_history-renamed names (MReg mreg) = refl

module _ (table : NameTable) (regs mregs state : ℕ) where
  -- ---- what is accepted

  -- the values, by the names at any state
  values-kept : (any : ℕ) (ops new_ops : List Op) (values others : List Held)
      → AllPairs (KeepsValue table regs mregs state ops new_ops) values others → others ≡ map (renamed (names_at table any)) values
  values-kept any ops new_ops values others kept =
      sym (map-id others)
      ∙ map-pairs (KeepsValue table regs mregs state ops new_ops) (renamed (names_at table any)) (λ other. other) values others
      (λ value other one. one.name ∙ sym (renamed-fixed table any value one.has_name)) kept

  -- the values, by the names that are the same at each state
  values-fixed : (ops new_ops : List Op) (values others : List Held)
      → AllPairs (KeepsValue table regs mregs state ops new_ops) values others → others ≡ map (renamed (fixed_names table)) values
  values-fixed ops new_ops values others kept =
      sym (map-id others)
      ∙ map-pairs (KeepsValue table regs mregs state ops new_ops) (renamed (fixed_names table)) (λ other. other) values others
      (λ value other one. one.name) kept

  values_of-kept : (any : ℕ) (accept other : Option Accept) → KeepsAccept table regs mregs state accept other
      → values_of other ≡ map (renamed (names_at table any)) (values_of accept)
  values_of-kept any None None kept = refl
  values_of-kept any None (Some other) kept = absurd kept
  values_of-kept any (Some accept) None kept = absurd kept
  values_of-kept any (Some accept) (Some other) kept = values-kept any accept.ops other.ops accept.values other.values kept.values

  AcceptAlike-kept : (accept other : Option Accept) → KeepsAccept table regs mregs state accept other
      → AcceptAlike (names_at table state) accept other
  AcceptAlike-kept None None kept = tt
  AcceptAlike-kept None (Some other) kept = absurd kept
  AcceptAlike-kept (Some accept) None kept = absurd kept
  AcceptAlike-kept (Some accept) (Some other) kept = (
    kept.rule,
    map-pairs (KeepsValue table regs mregs state accept.ops other.ops)
        (λ value. renamed_effect (names_at table state) (effect_of accept.ops value)) (effect_of other.ops) accept.values other.values
        (λ value new one. one.effect) kept.values,
  )

  AreHeld-kept : (ops new_ops : List Op) (values others : List Held)
      → AllPairs (KeepsValue table regs mregs state ops new_ops) values others → AreHeld regs mregs others
  AreHeld-kept ops new_ops [] [] kept = tt
  AreHeld-kept ops new_ops [] (other ∷ others) kept = absurd kept
  AreHeld-kept ops new_ops (value ∷ values) [] kept = absurd kept
  AreHeld-kept ops new_ops (value ∷ values) (other ∷ others) kept = (kept.0.held, AreHeld-kept ops new_ops values others kept.1)

  IsAccept-kept : (accept other : Option Accept) → KeepsAccept table regs mregs state accept other → IsAccept regs mregs other
  IsAccept-kept None None kept = tt
  IsAccept-kept None (Some other) kept = absurd kept
  IsAccept-kept (Some accept) None kept = absurd kept
  IsAccept-kept (Some accept) (Some other) kept = (kept.ops, AreHeld-kept accept.ops other.ops accept.values other.values kept.values)

  shape-accept : (accept other : Option Accept) → KeepsAccept table regs mregs state accept other
      → option_map shape_of_accept other ≡ option_map shape_of_accept accept
  shape-accept None None kept = refl
  shape-accept None (Some other) kept = absurd kept
  shape-accept (Some accept) None kept = absurd kept
  shape-accept (Some accept) (Some other) kept =
      ap₂ (λ rule histories. Some (record { rule = rule; histories = histories })) kept.rule
      (map-pairs (KeepsValue table regs mregs state accept.ops other.ops) is_history is_history accept.values other.values
      (λ value new one. ap is_history one.name ∙ is_history-renamed (fixed_names table) value) kept.values)

  -- where the answer accepts the given automaton does, with values of which the answer's are the names
  abbrev HasSource : Option Accept → Accept → Type 0
  HasSource given accept =
      (source : Accept) × (given ≡ Some source) × (accept.rule ≡ source.rule)
      × (accept.values ≡ map (renamed (fixed_names table)) source.values)

  source-kept : (given : Option Accept) (accept : Accept) → KeepsAccept table regs mregs state given (Some accept) → HasSource given accept
  source-kept None accept kept = absurd kept
  source-kept (Some source) accept kept =
      (source, refl, kept.rule, values-fixed source.ops accept.ops source.values accept.values kept.values)

-- ---- edges

module _ (table : NameTable) (given : Auto) (regs mregs number : ℕ) (leave new_leave : List Op) where
  abbrev AreKept : List Edge → List Edge → Type 0
  AreKept edges others = AllPairs (KeepsEdge table given regs mregs number leave new_leave) edges others

  AreApartFrom-kept : (low : ℕ) (edges others : List Edge) → AreKept edges others → AreApartFrom low edges → AreApartFrom low others
  AreApartFrom-kept low [] [] kept apart = tt
  AreApartFrom-kept low [] (other ∷ others) kept apart = absurd kept
  AreApartFrom-kept low (edge ∷ edges) [] kept apart = absurd kept
  AreApartFrom-kept low (edge ∷ edges) (other ∷ others) kept apart =
      let is_low = kept.0.low in
      let is_high = kept.0.high in (
        subst (λ n. low ≤ n) (sym is_low) apart.0,
        subst (λ n. n ≤ other.hi) (sym is_low) (subst (λ n. edge.lo ≤ n) (sym is_high) apart.1),
        AreApartFrom-kept (other.hi + 1) edges others kept.1 (subst (λ n. AreApartFrom (n + 1) edges) (sym is_high) apart.2),
      )

  LeadWithin-kept : (old_regs old_mregs states : ℕ) (edges others : List Edge) → AreKept edges others
      → LeadWithin old_regs old_mregs states edges → LeadWithin regs mregs states others
  LeadWithin-kept old_regs old_mregs states [] [] kept lead = tt
  LeadWithin-kept old_regs old_mregs states [] (other ∷ others) kept lead = absurd kept
  LeadWithin-kept old_regs old_mregs states (edge ∷ edges) [] kept lead = absurd kept
  LeadWithin-kept old_regs old_mregs states (edge ∷ edges) (other ∷ others) kept lead = (
    subst (λ n. n < states) (sym kept.0.target) lead.0,
    kept.0.ops,
    LeadWithin-kept old_regs old_mregs states edges others kept.1 lead.2,
  )

  shape-edges : (edges others : List Edge) → AreKept edges others → map shape_of_edge others ≡ map shape_of_edge edges
  shape-edges edges others kept =
      map-pairs (KeepsEdge table given regs mregs number leave new_leave) shape_of_edge shape_of_edge edges others
      (λ edge other one i. record { low = one.low i; high = one.high i; target = one.target i }) kept

-- ---- states

AreStates-each : (regs mregs count : ℕ) (states : List State) → ((number : ℕ) → IsState regs mregs count (state_of states number))
    → AreStates regs mregs count states
AreStates-each regs mregs count [] each = tt
AreStates-each regs mregs count (state ∷ states) each = (each 0, AreStates-each regs mregs count states (λ number. each (suc number)))

-- there is no state with a number past the others
abbrev no_state : State
no_state = record { edges = []; accept = None; leave = [] }

state_of-past : (states : List State) (number : ℕ) → length states ≤ number → no_state ≡ state_of states number
state_of-past states number past = sym (get_or-eq_default states no_state past)

module _ (given answer : Auto) (table : NameTable) (tested : IsTested given answer table) where
  abbrev Kept : ℕ → State → State → Type 0
  Kept number state other = KeepsState table given answer.regs answer.mregs number state other

  kept : (number : ℕ) → Kept number (state_of given.states number) (state_of answer.states number)
  kept number = at (lt_or_le number (length given.states))
    where
      lt_or_le : (a b : ℕ) → (a < b) ⊎ (b ≤ a)
      lt_or_le a zero = inr (omega arith)
      lt_or_le zero (suc b) = inl (omega arith)
      lt_or_le (suc a) (suc b) = elim (lt_or_le a b) [ inl x ↦ inl (omega (arith, x)) | inr y ↦ inr (omega (arith, y)) ]

      at : (number < length given.states) ⊎ (length given.states ≤ number)
          → Kept number (state_of given.states number) (state_of answer.states number)
      at (inl within) = tested.states number within
      at (inr past) =
          let past_others : length answer.states ≤ number = subst (λ count. count ≤ number) (sym tested.count) past in
          subst (λ state. Kept number state (state_of answer.states number)) (state_of-past given.states number past)
          (subst (Kept number no_state) (state_of-past answer.states number past_others)
          (record { edges = tt; accept = tt; leave = tt }))

  LeadAlike-kept : (point : Point) (edges others : List Edge) → IsReached given point
      → AreKept table given answer.regs answer.mregs point.state (state_at given point).leave (state_at answer point).leave edges others
      → AllLeadAlike given answer (names_at table) point edges others
  LeadAlike-kept point [] [] reached are = tt
  LeadAlike-kept point [] (other ∷ others) reached are = absurd are
  LeadAlike-kept point (edge ∷ edges) [] reached are = absurd are
  LeadAlike-kept point (edge ∷ edges) (other ∷ others) reached are = (
    record {
      low = are.0.low;
      high = are.0.high;
      target = are.0.target;
      effects = λ held live. are.0.effects held (point.left, reached, live);
    },
    LeadAlike-kept point edges others reached are.1,
  )

  left-kept : (any : ℕ) (left : Option ℕ) → values_left answer left ≡ map (renamed (names_at table any)) (values_left given left)
  left-kept any None = refl
  left-kept any (Some state) =
      values_of-kept table answer.regs answer.mregs state any (state_of given.states state).accept (state_of answer.states state).accept
      (kept state).accept

  pub IsTested-translation : IsTranslation given answer (names_at table)
  IsTested-translation = record {
    accepts = λ point reached.
        AcceptAlike-kept table answer.regs answer.mregs point.state (state_at given point).accept (state_at answer point).accept
        (kept point.state).accept;
    falls_back = λ point reached none. left-kept point.state point.left;
    edges = λ point reached.
        LeadAlike-kept point (state_at given point).edges (state_at answer point).edges reached (kept point.state).edges;
    start = tested.start;
  }

  IsState-kept : IsAuto given → (number : ℕ) → IsState answer.regs answer.mregs (length answer.states) (state_of answer.states number)
  IsState-kept formed number =
      let old = state_formed given number formed in
      let one = kept number in
      let state = state_of given.states number in
      let other = state_of answer.states number in
      record {
        apart =
            AreApartFrom-kept table given answer.regs answer.mregs number state.leave other.leave 0 state.edges other.edges one.edges
            old.apart;
        lead =
            LeadWithin-kept table given answer.regs answer.mregs number state.leave other.leave given.regs given.mregs
            (length answer.states) state.edges other.edges one.edges
            (subst (λ count. LeadWithin given.regs given.mregs count state.edges) (sym tested.count) old.lead);
        accept = IsAccept-kept table answer.regs answer.mregs number state.accept other.accept one.accept;
        leave = one.leave;
      }

  pub IsTested-formed : IsAuto given → IsAuto answer
  IsTested-formed formed = record {
    start = subst (λ count. 0 < count) (sym tested.count) formed.start;
    few = subst (λ count. count < 4294967295) (sym tested.count) formed.few;
    few_regs = tested.few_regs;
    few_mregs = tested.few_mregs;
    states = AreStates-each answer.regs answer.mregs (length answer.states) answer.states (IsState-kept formed);
  }

  agreed-kept : AgreeByNumber given.states → AgreeByNumber answer.states
  agreed-kept agreed number other accept same is is_same rules =
      let source = source-at number accept is in
      let source_same = source-at other same is_same in
      source.3
      ∙ ap (map (renamed (fixed_names table)))
      (agreed number other source.0 source_same.0 source.1 source_same.1 (sym source.2 ∙ rules ∙ source_same.2))
      ∙ sym source_same.3
    where
      source-at : (number : ℕ) (accept : Accept) → (state_of answer.states number).accept ≡ Some accept
          → HasSource table answer.regs answer.mregs number (state_of given.states number).accept accept
      source-at number accept is =
          source-kept table answer.regs answer.mregs number (state_of given.states number).accept accept
          (subst (KeepsAccept table answer.regs answer.mregs number (state_of given.states number).accept) is (kept number).accept)

  pub IsTested-shape : KeepsShape given answer
  IsTested-shape = record {
    count = tested.count;
    edges = λ number.
        shape-edges table given answer.regs answer.mregs number (state_of given.states number).leave (state_of answer.states number).leave
        (state_of given.states number).edges (state_of answer.states number).edges (kept number).edges;
    accepts = λ number.
        shape-accept table answer.regs answer.mregs number (state_of given.states number).accept (state_of answer.states number).accept
        (kept number).accept;
    agreed = λ agreed. AreAgreed-of_numbers answer.states (agreed-kept (AreAgreed-by_number given.states agreed));
  }
