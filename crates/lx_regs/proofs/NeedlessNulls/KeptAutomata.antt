-- An automaton without operations that empty what holds nothing is well formed, keeps its shape, and runs as before.
use Rattle.std.proofs.Common.{◌≡◌, ℕ, suc, ◌+◌, ◌<◌, ◌≤◌, List, [], ◌∷◌, length, Option, Some, None, Bool, true, false, refl, if◌then◌else◌, nat_le, ◌&&◌, sym, ap, ◌∙◌, subst, arith}
use Rattle.std.specs.Prelude.{map, option_map}
use Rattle.lx_auto.specs.declared.automaton.Accept.{Accept}
use Rattle.lx_auto.specs.declared.automaton.Auto.{Auto}
use Rattle.lx_auto.specs.declared.automaton.Edge.{Edge}
use Rattle.lx_auto.specs.declared.automaton.State.{State}
use Rattle.lx_auto.specs.Automaton.{AreApartFrom, AreHeld, AreStates, IsAccept, IsAuto, IsState, LeadWithin, edge_on, has_unit, state_of}
use Rattle.lx_auto.specs.Bank.{Bank, bank_after, read_all}
use Rattle.lx_auto.specs.Run.{Found, Left, Standing, and_then, behind_edge, by_edge, found_at, found_behind, found_by, found_left, left_after, or_else, run, start_with}
use Rattle.lx_auto.specs.SameRun.{FindSame, HasSameRun}
use Rattle.lx_auto.specs.Shapes.{is_history}
use Rattle.lx_auto.proofs.Agreement.{AgreeByNumber, AreAgreed-by_number, AreAgreed-of_numbers}
use Rattle.lx_auto.proofs.Edges.{AreApartFrom-earlier}
use Rattle.lx_auto.proofs.States.{state_formed}
use Rattle.lx_regs.specs.declared.unset_rows.UnsetRows.{UnsetRows}
use Rattle.lx_regs.specs.Pairs.{AllPairs}
use Rattle.lx_regs.specs.Shapes.{KeepsShape, shape_of_accept, shape_of_edge}
use Rattle.lx_regs.specs.Unset.{AreStatesKept, AreUnset, IsAcceptKept, IsAcceptedKept, IsEdgeKept, IsStateKept, row_at}
use Rattle.lx_regs.proofs.CutOperations.CutAutomata.{AreStates-each}
use Rattle.lx_regs.proofs.NeedlessNulls.KeptLists.{AreUnset-behind, bank_after-kept}
use Rattle.lx_regs.proofs.Translations.Pairs.{map-pairs}

-- ---- accepts

accept-kept_back : (row : List Bool) (accept other : Option Accept) → IsAcceptKept row accept other → (ours : Accept) → other ≡ Some ours
    → (theirs : Accept) × (accept ≡ Some theirs) × IsAcceptedKept row theirs ours
accept-kept_back row None None kept ours is = absurd (cc is)
accept-kept_back row (Some accept) None kept ours is = absurd kept
accept-kept_back row None (Some other) kept ours is = absurd kept
accept-kept_back row (Some accept) (Some other) kept ours is =
    let same : other ≡ ours = cc is in (accept, refl, subst (IsAcceptedKept row accept) same kept)

accept-shape : (row : List Bool) (accept other : Option Accept) → IsAcceptKept row accept other
    → option_map shape_of_accept other ≡ option_map shape_of_accept accept
accept-shape row None None kept = refl
accept-shape row (Some accept) None kept = absurd kept
accept-shape row None (Some other) kept = absurd kept
accept-shape row (Some accept) (Some other) kept = λ i. Some (record { rule = kept.rule i; histories = map is_history (kept.values i) })

-- ---- edges and states that are well formed

module _ (rows : UnsetRows) where
  AreApartFrom-kept : (left : List Bool) (low : ℕ) (edges others : List Edge) → AllPairs (IsEdgeKept rows left) edges others
      → AreApartFrom low edges → AreApartFrom low others
  AreApartFrom-kept left low [] [] kept apart = tt
  AreApartFrom-kept left low (edge ∷ edges) [] kept apart = absurd kept
  AreApartFrom-kept left low [] (other ∷ others) kept apart = absurd kept
  AreApartFrom-kept left low (edge ∷ edges) (other ∷ others) kept apart =
      let same_low : other.lo ≡ edge.lo = kept.0.low in
      let same_high : other.hi ≡ edge.hi = kept.0.high in (
        omega arith,
        omega arith,
        AreApartFrom-earlier (edge.hi + 1) (other.hi + 1) others (omega arith)
            (AreApartFrom-kept left (edge.hi + 1) edges others kept.1 apart.2),
      )

  module _ (regs mregs : ℕ) where
    LeadWithin-kept : (left : List Bool) (count : ℕ) (edges others : List Edge) → AllPairs (IsEdgeKept rows left) edges others
        → LeadWithin regs mregs count edges → LeadWithin regs mregs count others
    LeadWithin-kept left count [] [] kept lead = tt
    LeadWithin-kept left count (edge ∷ edges) [] kept lead = absurd kept
    LeadWithin-kept left count [] (other ∷ others) kept lead = absurd kept
    LeadWithin-kept left count (edge ∷ edges) (other ∷ others) kept lead =
        let same : other.to ≡ edge.to = kept.0.target in
        (omega arith, kept.0.ops.within regs mregs lead.1, LeadWithin-kept left count edges others kept.1 lead.2)

    IsAccept-kept : (row : List Bool) (accept other : Option Accept) → IsAcceptKept row accept other → IsAccept regs mregs accept
        → IsAccept regs mregs other
    IsAccept-kept row None None kept is = tt
    IsAccept-kept row (Some accept) None kept is = absurd kept
    IsAccept-kept row None (Some other) kept is = absurd kept
    IsAccept-kept row (Some accept) (Some other) kept is =
        (kept.ops.within regs mregs is.0, subst (AreHeld regs mregs) (sym kept.values) is.1)

    IsState-kept : (count number : ℕ) (state other : State) → IsStateKept rows number state other → IsState regs mregs count state
        → IsState regs mregs count other
    IsState-kept count number state other kept is = record {
      apart = AreApartFrom-kept kept.left 0 state.edges other.edges kept.edges is.apart;
      lead = LeadWithin-kept kept.left count state.edges other.edges kept.edges is.lead;
      accept = IsAccept-kept (row_at rows number) state.accept other.accept kept.accept is.accept;
      leave = kept.leave.within regs mregs is.leave;
    }

-- ---- the automaton

module _ (given : Auto) (others : List State) (rows : UnsetRows) (kept : AreStatesKept rows given.states others) where
  -- the given automaton with the states that are kept
  abbrev pub answer_of : Auto
  answer_of = record { states = others; regs = given.regs; mregs = given.mregs }

  pub IsAuto-kept : IsAuto given → IsAuto answer_of
  IsAuto-kept formed =
      let same : length others ≡ length given.states = kept.count in
      let start : 0 < length given.states = formed.start in
      let few : length given.states < 4294967295 = formed.few in
      record {
        start = omega arith;
        few = omega arith;
        few_regs = formed.few_regs;
        few_mregs = formed.few_mregs;
        states =
            subst (λ count. AreStates given.regs given.mregs count others) (sym same)
            (AreStates-each given.regs given.mregs (length given.states) others (λ number.
            IsState-kept rows given.regs given.mregs (length given.states) number (state_of given.states number) (state_of others number)
            (kept.each number) (state_formed given number formed)));
      }

  AgreeByNumber-kept : AgreeByNumber given.states → AgreeByNumber others
  AgreeByNumber-kept agreed number other accept same accepts also rule =
      let first = accept-kept_back (row_at rows number) (state_of given.states number).accept (state_of others number).accept
      (kept.each number).accept accept accepts in
      let second = accept-kept_back (row_at rows other) (state_of given.states other).accept (state_of others other).accept
      (kept.each other).accept same also in
      first.2.values
      ∙ agreed number other first.0 second.0 first.1 second.1 (sym first.2.rule ∙ rule ∙ second.2.rule)
      ∙ sym second.2.values

  pub KeepsShape-kept : KeepsShape given answer_of
  KeepsShape-kept = record {
    count = kept.count;
    edges = λ number.
        map-pairs (IsEdgeKept rows (kept.each number).left) shape_of_edge shape_of_edge (state_of given.states number).edges
        (state_of others number).edges
        (λ edge other is. λ i. record { low = is.low i; high = is.high i; target = is.target i }) (kept.each number).edges;
    accepts = λ number.
        accept-shape (row_at rows number) (state_of given.states number).accept (state_of others number).accept (kept.each number).accept;
    agreed = λ agreed. AreAgreed-of_numbers others (AgreeByNumber-kept (AreAgreed-by_number given.states agreed));
  }

  -- ---- the run

  -- a fallback to what both runs left reads the same values
  abbrev SameLeft : Option Left → Option Left → Type 0
  SameLeft None None = Unit {0}
  SameLeft None (Some other) = ⊥
  SameLeft (Some left) None = ⊥
  SameLeft (Some left) (Some other) =
      (left.accept.rule ≡ other.accept.rule) × (left.accept.values ≡ other.accept.values) × (left.offset ≡ other.offset)

  found_left-kept : (bank : Bank) (left earlier : Option Left) → SameLeft left earlier → found_left bank left ≡ found_left bank earlier
  found_left-kept bank None None same = refl
  found_left-kept bank None (Some other) same = absurd same
  found_left-kept bank (Some left) None same = absurd same
  found_left-kept bank (Some left) (Some other) same =
      λ i. Some (record { rule = same.0 i; values = read_all bank (same.1 i); offset = same.2 i })

  -- both edges on a unit are kept, or there is none
  abbrev FoundKept : (left : List Bool) → Option Edge → Option Edge → Type 0
  FoundKept left None None = Unit {0}
  FoundKept left None (Some other) = ⊥
  FoundKept left (Some edge) None = ⊥
  FoundKept left (Some edge) (Some other) = IsEdgeKept rows left edge other

  edge_on-kept : (left : List Bool) (edges others : List Edge) (unit : ℕ) → AllPairs (IsEdgeKept rows left) edges others
      → FoundKept left (edge_on edges unit) (edge_on others unit)
  edge_on-kept left [] [] unit are = tt
  edge_on-kept left (edge ∷ edges) [] unit are = absurd are
  edge_on-kept left [] (other ∷ others) unit are = absurd are
  edge_on-kept left (edge ∷ edges) (other ∷ others) unit are =
      subst (λ on. FoundKept left (edge_on (edge ∷ edges) unit) (if on then Some other else edge_on others unit)) (sym same)
      (at (has_unit edge unit) (edge_on-kept left edges others unit are.1))
    where
      same : has_unit other unit ≡ has_unit edge unit
      same = λ i. nat_le (are.0.low i) unit && nat_le unit (are.0.high i)

      at : (on : Bool) → FoundKept left (edge_on edges unit) (edge_on others unit)
          → FoundKept left (if on then Some edge else edge_on edges unit) (if on then Some other else edge_on others unit)
      at true rest = are.0
      at false rest = rest

  abbrev standing_at : (state offset : ℕ) → Bank → Option Left → Standing
  standing_at state offset bank left = record { state = state; offset = offset; bank = bank; left = left }

  -- where the runs stand, with the same registers
  module _ (state offset : ℕ) (bank : Bank) (left earlier : Option Left) (same : SameLeft left earlier)
      (are : AreUnset (row_at rows state) bank) where
    found_by-kept : (accept other : Option Accept) → IsAcceptKept (row_at rows state) accept other
        → found_by other (standing_at state offset bank left) ≡ found_by accept (standing_at state offset bank earlier)
    found_by-kept None None is = refl
    found_by-kept (Some accept) None is = absurd is
    found_by-kept None (Some other) is = absurd is
    found_by-kept (Some accept) (Some other) is =
        let banks = bank_after-kept (row_at rows state) is.behind accept.ops other.ops is.ops offset bank are in
        λ i. Some (record { rule = is.rule i; values = read_all (banks i) (is.values i); offset = offset })

    find_same-kept : FindSame answer_of given (Some (standing_at state offset bank left)) (Some (standing_at state offset bank earlier))
    find_same-kept =
        let here = found_by-kept (state_of given.states state).accept (state_of others state).accept (kept.each state).accept in
        (here, λ i. or_else (here i) (found_left-kept bank left earlier same i))

    left_after-kept : (accept other : Option Accept) → IsAcceptKept (row_at rows state) accept other
        → SameLeft (left_after other (standing_at state offset bank left)) (left_after accept (standing_at state offset bank earlier))
    left_after-kept None None is = same
    left_after-kept (Some accept) None is = absurd is
    left_after-kept None (Some other) is = absurd is
    left_after-kept (Some accept) (Some other) is = (is.rule, is.values, refl)

    unset_left : AreUnset (kept.each state).left (bank_after offset (state_of given.states state).leave bank)
    unset_left =
        AreUnset-behind (row_at rows state) (kept.each state).left (state_of given.states state).leave (state_of others state).leave
        (kept.each state).leave offset bank are

    banks-kept : (edge other : Edge) → IsEdgeKept rows (kept.each state).left edge other
        → bank_after offset other.ops (bank_after offset (state_of others state).leave bank)
        ≡ bank_after offset edge.ops (bank_after offset (state_of given.states state).leave bank)
    banks-kept edge other is =
        ap (bank_after offset other.ops)
        (bank_after-kept (row_at rows state) (kept.each state).left (state_of given.states state).leave (state_of others state).leave
        (kept.each state).leave offset bank are)
        ∙ bank_after-kept (kept.each state).left (row_at rows edge.to) edge.ops other.ops is.ops offset
        (bank_after offset (state_of given.states state).leave bank) unset_left

    unset-behind : (edge other : Edge) → IsEdgeKept rows (kept.each state).left edge other
        → AreUnset (row_at rows edge.to) (bank_after offset edge.ops (bank_after offset (state_of given.states state).leave bank))
    unset-behind edge other is =
        AreUnset-behind (kept.each state).left (row_at rows edge.to) edge.ops other.ops is.ops offset
        (bank_after offset (state_of given.states state).leave bank) unset_left

  run-kept : (word : List ℕ) (state offset : ℕ) (bank : Bank) (left earlier : Option Left) → SameLeft left earlier
      → AreUnset (row_at rows state) bank
      → FindSame answer_of given (run answer_of (standing_at state offset bank left) word)
      (run given (standing_at state offset bank earlier) word)
  run-kept [] state offset bank left earlier same are = find_same-kept state offset bank left earlier same are
  run-kept (unit ∷ word) state offset bank left earlier same are =
      at (edge_on (state_of given.states state).edges unit) (edge_on (state_of others state).edges unit)
      (edge_on-kept (kept.each state).left (state_of given.states state).edges (state_of others state).edges unit (kept.each state).edges)
      (λ next. run-kept word next)
    where
      at : (found other : Option Edge) → FoundKept (kept.each state).left found other
          → ((state offset : ℕ) (bank : Bank) (left earlier : Option Left) → SameLeft left earlier → AreUnset (row_at rows state) bank
          → FindSame answer_of given (run answer_of (standing_at state offset bank left) word)
          (run given (standing_at state offset bank earlier) word))
          → FindSame answer_of given
          (and_then (by_edge (state_of others state) (standing_at state offset bank left) other) (λ next. run answer_of next word))
          (and_then (by_edge (state_of given.states state) (standing_at state offset bank earlier) found) (λ next. run given next word))
      at None None is rest = tt
      at None (Some other) is rest = absurd is
      at (Some edge) None is rest = absurd is
      at (Some edge) (Some other) is rest =
          let ours = behind_edge (state_of others state) (standing_at state offset bank left) other in
          let theirs = behind_edge (state_of given.states state) (standing_at state offset bank earlier) edge in
          let banks = banks-kept state offset bank left earlier same are edge other is in
          let moved : ours ≡ standing_at edge.to (suc offset) theirs.bank ours.left =
          λ i. record { state = is.target i; offset = suc offset; bank = banks i; left = ours.left } in
          subst (λ standing. FindSame answer_of given (run answer_of standing word) (run given theirs word)) (sym moved)
          (rest edge.to (suc offset) theirs.bank ours.left theirs.left
          (left_after-kept state offset bank left earlier same are (state_of given.states state).accept (state_of others state).accept
          (kept.each state).accept)
          (unset-behind state offset bank left earlier same are edge other is))

  pub same_run-kept : HasSameRun answer_of given
  same_run-kept start bank empty =
      (bank, empty, λ nothing. nothing, λ word. run-kept word 0 start bank None None tt (λ reg is. absurd (cc is)))
