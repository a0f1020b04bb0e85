-- What a scanner's trees ask can be written.
use Rattle.std.specs.Prelude.{◌≡◌, ℕ, zero, suc, ◌+◌, ◌-◌, ◌<◌, ◌≤◌, IfSome, List, [], ◌∷◌, length, Option, Some, None, All, Bool, true, false, nat_le, nat_lt, if◌then◌else◌}
use Rattle.std.proofs.Common.{inl, inr, arith, subst}
use Rattle.std.specs.List.{AllByRecursion}
use Rattle.lx_auto.specs.Automaton.{AreApartFrom, AreStates, state_of}
use Rattle.lx_auto.specs.declared.automaton.Edge.{Edge}
use Rattle.lx_auto.specs.declared.automaton.State.{State}
use Rattle.lx_ccode.specs.Validity.{IsShort}
use Rattle.lx_layout.specs.FormedParts.{IsFormed}
use Rattle.lx_layout.specs.Parts.{Part}
use Rattle.lx_layout.specs.SuppliedLayout.{EachState}
use Rattle.lx_layout.specs.Supplies.{Reader, entry, state}
use Rattle.lx_base.specs.declared.settings.Format.{Format}
use Rattle.lx_dispatch.specs.Dispatch.{AreCases, AreTestsOf, IsTable, MayAsk, TestsWithin}
use Rattle.lx_dispatch.specs.TestTrees as trees
use Rattle.lx_dispatch.specs.TestTrees.{Asked, HasEnd, HasWay, TestTree, among, at_most, by_cases, by_question}
use Rattle.lx_dispatch.specs.TransitionClasses.{Split, Stretch, before, edge_split, first_class, same_place, split_of, stretches, class_place, transition_classes}
use Rattle.lx_dispatch.specs.UnitApart.{apart_from, reader_split, stretch_behind, unit_last, unit_then, units_before, with_test}
use Rattle.lx_dispatch.proofs.SplitTrees.{each-tests}
use Rattle.lx_layout.proofs.Elements.{each-All}
use Rattle.lx_layout.proofs.PartLayouts.ReaderBlocks.{EachUnit}

-- ---- the tests of edges

-- each edge has a unit, and they are numbers of 32 bits
abbrev EdgesShort : List Edge → Type 0
EdgesShort edges = AllByRecursion (λ (edge : Edge). (edge.lo ≤ edge.hi) × IsShort edge.hi) edges

edges_short : (greatest low : ℕ) (edges : List Edge) → IsShort greatest → AreApartFrom low edges
    → AllByRecursion (λ (edge : Edge). edge.hi ≤ greatest) edges → EdgesShort edges
edges_short greatest low [] short apart units = tt
edges_short greatest low (edge ∷ edges) short apart units =
    ((apart.1, omega (arith, short, units.0)), edges_short greatest (edge.hi + 1) edges short apart.2 units.1)

abbrev StretchesShort : List Stretch → Type 0
StretchesShort list = AllByRecursion (λ (stretch : Stretch). IsShort stretch.greatest) list

stretches_short : (classes : List Edge) (low : ℕ) (edges : List Edge) → EdgesShort edges → StretchesShort (stretches classes low edges)
stretches_short classes low [] h = tt
stretches_short classes low (edge ∷ edges) h = by (nat_lt low edge.lo) (stretches_short classes (edge.hi + 1) edges h.1)
  where
    by : (t : Bool) → StretchesShort (stretches classes (edge.hi + 1) edges)
        → StretchesShort (if t then record { greatest = edge.lo - 1; class = None } ∷ record {
          greatest = edge.hi;
          class = Some
              (class_place classes edge);
        } ∷ stretches classes (edge.hi + 1) edges
        else record { greatest = edge.hi; class = Some (class_place classes edge) } ∷ stretches classes (edge.hi + 1) edges)
    by true again = (omega (arith, h.0.0, h.0.1), (h.0.1, again))
    by false again = (h.0.1, again)

split_short : (greatest : ℕ) (list : List Stretch) → StretchesShort list → StretchesShort (split_of greatest list).tests
split_short greatest [] h = tt
split_short greatest (stretch ∷ list) h = by (nat_le greatest stretch.greatest) (split_short greatest list h.1)
  where
    join : (t : Bool) → StretchesShort (split_of greatest list).tests
        → StretchesShort (if t then split_of greatest list else record
        { tests = stretch ∷ (split_of greatest list).tests; last = (split_of greatest list).last }).tests
    join true again = again
    join false again = (h.0, again)

    by : (t : Bool) → StretchesShort (split_of greatest list).tests
        → StretchesShort (if t then record { tests = []; last = stretch.class } else before stretch (split_of greatest list)).tests
    by true again = tt
    by false again = join (same_place stretch.class (first_class (split_of greatest list).tests (split_of greatest list).last)) again

-- ---- with the unit at the end

module _ (greatest apart place : ℕ) (short : IsShort apart) where
  before_short : (low : ℕ) (class : Option ℕ) (split : Split) → StretchesShort split.tests
      → StretchesShort (units_before greatest apart place low class split).tests
  before_short low class split h = by (nat_lt low apart)
    where
      by : (t : Bool) → StretchesShort (if t then with_test (record { greatest = apart - 1; class = class }) split else split).tests
      by true = (omega (arith, short), h)
      by false = h

  last_short : (last : Option ℕ) → StretchesShort (unit_last greatest apart place last).tests
  last_short last = by (nat_lt apart greatest)
    where
      by : (t : Bool) → StretchesShort (if t then unit_then greatest apart place [] last else record { tests = []; last = Some place }).tests
      by true = (short, tt)
      by false = tt

  behind_short : (stretch : Stretch) (list : List Stretch) → StretchesShort (stretch ∷ list)
      → StretchesShort (stretch_behind greatest apart place stretch list)
  behind_short stretch list h = by (nat_lt apart stretch.greatest)
    where
      by : (t : Bool) → StretchesShort (if t then stretch ∷ list else list)
      by true = h
      by false = h.1

  apart_short : (low : ℕ) (list : List Stretch) (last : Option ℕ) → StretchesShort list
      → StretchesShort (apart_from greatest apart place low list last).tests
  apart_short low [] last h = before_short low last (unit_last greatest apart place last) (last_short last)
  apart_short low (stretch ∷ list) last h =
      by (nat_le apart stretch.greatest) (apart_short (suc stretch.greatest) list last h.1)
    where
      by : (t : Bool) → StretchesShort (apart_from greatest apart place (suc stretch.greatest) list last).tests
          → StretchesShort (if t then units_before greatest apart place low stretch.class
          (unit_then greatest apart place (stretch_behind greatest apart place stretch list) last)
          else with_test stretch (apart_from greatest apart place (suc stretch.greatest) list last)).tests
      by true again =
          before_short low stretch.class (unit_then greatest apart place (stretch_behind greatest apart place stretch list) last)
          (short, behind_short stretch list h)
      by false again = (h.0, again)

reader_short : (eof : Option ℕ) (greatest : ℕ) (edges : List Edge) → IfSome eof IsShort → EdgesShort edges
    → StretchesShort (reader_split eof greatest edges).tests
reader_short None greatest edges short h =
    split_short greatest (stretches (transition_classes edges) 0 edges) (stretches_short (transition_classes edges) 0 edges h)
reader_short (Some eof) greatest edges short h =
    apart_short greatest eof (length (transition_classes edges)) short 0 (edge_split greatest edges).tests (edge_split greatest edges).last
    (split_short greatest (stretches (transition_classes edges) 0 edges) (stretches_short (transition_classes edges) 0 edges h))

end_short : (list : List Stretch) (unit : ℕ) → StretchesShort list → HasEnd list unit → IsShort unit
end_short [] unit short has = absurd has
end_short (stretch ∷ list) unit short (inl e) = let h = short.0 in omega (arith, e, h)
end_short (stretch ∷ list) unit short (inr has) = end_short list unit short.1 has

-- all that is asked can be written: units, sets, and cases
abbrev pub IsShortAsked : Asked → Type 0
IsShortAsked (by_question (at_most greatest)) = IsShort greatest
IsShortAsked (by_question (trees.is unit)) = IsShort unit
IsShortAsked (by_question (among set)) = IsShort set
IsShortAsked (by_cases units) = AreCases units

asked_short : (table : List ℕ) (greatest : ℕ) (list : List Stretch) → IsTable table → StretchesShort list → (asked : Asked)
    → MayAsk (length table) greatest list asked → IsShortAsked asked
asked_short table greatest list is_table all (by_question (at_most unit)) may = end_short list unit all may
asked_short table greatest list is_table all (by_question (trees.is unit)) may = omega (arith, may)
asked_short table greatest list is_table all (by_question (among set)) may =
    let size = is_table.1 in
    let few = is_table.2 in
    omega (arith, may, size, few)
asked_short table greatest list is_table all (by_cases units) may = may.1

tree_short : (table : List ℕ) (eof : Option ℕ) (greatest : ℕ) (edges : List Edge) (tree : TestTree (Option ℕ)) → IsTable table
    → TestsWithin (length table) greatest (reader_split eof greatest edges) tree → IfSome eof IsShort → EdgesShort edges → EachUnit IsShortAsked tree
tree_short table eof greatest edges tree is_table within short units =
    let split : Split = reader_split eof greatest edges in
    let all = reader_short eof greatest edges short units in
    each-tests (MayAsk (length table) greatest split.tests) IsShortAsked (HasWay split.tests split.last) (λ class. Unit {0})
    (asked_short table greatest split.tests is_table all) (λ class has. tt) tree within

-- ---- all that reads

module _ (format : Format) (table : List ℕ) (is_table : IsTable table) (greatest : ℕ) (eof : Option ℕ) (trees : Reader → TestTree (Option ℕ)) (short : IsShort greatest) (eof_short : IfSome eof IsShort) where
  abbrev AreUnits : List Edge → Type 0
  AreUnits edges = All (λ (edge : Edge). edge.hi ≤ greatest) edges

  states_short : (regs mregs count number : ℕ) (states : List State) → AreStates regs mregs count states
      → AllByRecursion (λ (given : State). AreUnits given.edges) states → EachState (AreTestsOf format table eof greatest) eof greatest trees number states
      → (k : ℕ) → k < length states → EachUnit IsShortAsked (trees (state (number + k)))
  states_short regs mregs count number [] are units picked k lt = absurd (omega (arith, lt))
  states_short regs mregs count number (given ∷ states) are units picked zero lt =
      let e : number ≡ number + 0 = omega arith in
      subst (λ n. EachUnit IsShortAsked (trees (state n))) e
      (tree_short table eof greatest given.edges (trees (state number)) is_table picked.0.within eof_short
      (edges_short greatest 0 given.edges short are.0.apart (each-All (λ (edge : Edge). edge.hi ≤ greatest) given.edges units.0)))
  states_short regs mregs count number (given ∷ states) are units picked (suc k) lt =
      let e : suc number + k ≡ number + suc k = omega arith in
      subst (λ n. EachUnit IsShortAsked (trees (state n))) e
      (states_short regs mregs count (suc number) states are.1 units.1 picked.1 k (omega (arith, lt)))

  first_short : (regs mregs count : ℕ) (states : List State) → AreStates regs mregs count states
      → AllByRecursion (λ (given : State). AreUnits given.edges) states → EdgesShort (state_of states 0).edges
  first_short regs mregs count [] are units = tt
  first_short regs mregs count (given ∷ states) are units =
      edges_short greatest 0 given.edges short are.0.apart (each-All (λ (edge : Edge). edge.hi ≤ greatest) given.edges units.0)

module _ (greatest : ℕ) (part : Part) (short : IsShort greatest) (eof_short : IfSome part.given.demand.eof IsShort) (formed : IsFormed greatest part) where
  pub tests_short : (number : ℕ) → number < length part.given.auto.states → EachUnit IsShortAsked (part.trees (state number))
  tests_short number lt =
      let e : 0 + number ≡ number = omega arith in
      subst (λ n. EachUnit IsShortAsked (part.trees (state n))) e
      (states_short part.given.demand.format part.given.demand.table formed.table greatest part.given.demand.eof part.trees short eof_short part.given.auto.regs part.given.auto.mregs (length part.given.auto.states) 0
      part.given.auto.states formed.auto.states
      (each-All (λ (given : State). All (λ (edge : Edge). edge.hi ≤ greatest) given.edges) part.given.auto.states formed.units)
      formed.chosen.trees.states number lt)

  pub entry_short : EachUnit IsShortAsked (part.trees entry)
  entry_short =
      tree_short part.given.demand.table part.given.demand.eof greatest (state_of part.given.auto.states 0).edges (part.trees entry) formed.table
      formed.chosen.trees.entry.within eof_short
      (first_short part.given.demand.format part.given.demand.table formed.table greatest part.given.demand.eof part.trees short eof_short part.given.auto.regs part.given.auto.mregs (length part.given.auto.states)
      part.given.auto.states formed.auto.states
      (each-All (λ (given : State). All (λ (edge : Edge). edge.hi ≤ greatest) given.edges) part.given.auto.states formed.units))
