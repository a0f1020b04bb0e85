-- In a layout with a supply of units states with an edge stand at different blocks.
use Rattle.std.specs.Prelude.{◌≡◌, ℕ, zero, suc, ◌+◌, ◌<◌, ◌≤◌, Bool, true, false, List, [], ◌∷◌, length, Option, Some, None, IsSome, nat_lt, refl, if◌then◌else◌}
use Rattle.std.proofs.Common.{sym, ap, ◌∙◌, subst, arith}
use Rattle.lx_auto.specs.Automaton.{state_of}
use Rattle.lx_auto.specs.declared.automaton.Auto.{Auto}
use Rattle.lx_auto.specs.declared.automaton.Edge.{Edge}
use Rattle.lx_auto.specs.declared.automaton.State.{State}
use Rattle.lx_layout.specs.Carries.{HasEdge}
use Rattle.lx_layout.specs.Halting.{Halting, is_entered}
use Rattle.lx_layout.specs.SuppliedLayout.{at_end_size, entry_part_size, entry_tests_size, fall_block, place_by, place_of, reader_size, rule_block, size_in, state_size, states_begin}
use Rattle.lx_layout.specs.Supplies.{Reader, Supply, entry}
use Rattle.lx_dispatch.specs.TestTrees.{TestTree}
use Rattle.lx_layout.specs.TreeCodes.{inner_size}
use Rattle.lx_layout.proofs.Carrying.RunStates.{edge_within}
use Rattle.lx_layout.proofs.Supplied.EnteredStates.{behind_entry}
use Rattle.lx_layout.proofs.SuppliedLayouts.EachLayout.{some_class}
use Rattle.lx_layout.proofs.SuppliedLayouts.Places.{begin_in, place_in-begin}
use Rattle.lx_layout.proofs.SuppliedLayouts.WholeLayout.{begin_in-low}

module _ (supply : Supply) (halting : Halting) (end_rule : Option ℕ) (trees : Reader → TestTree (Option ℕ)) (auto : Auto) where
  -- so states with an edge have a block
  pub size_some : (s : ℕ) (given : State) → (given.edges ≡ [] → ⊥) → 0 < state_size supply halting end_rule trees auto s given
  size_some s given some = by given.edges refl
    where
      by : (edges : List Edge) → given.edges ≡ edges → 0 < size_in supply halting end_rule trees auto s given edges
      by [] none = absurd (some none)
      by (edge ∷ edges) e = let one = some_class edge edges in omega (arith, one)

  -- a later state begins behind an earlier one
  begins_behind : (s from : ℕ) (states : List State) (k m : ℕ) → k < m → m < length states
      → begin_in supply halting end_rule trees auto s from states k + state_size supply halting end_rule trees auto (s + k) (state_of states k)
      ≤ begin_in supply halting end_rule trees auto s from states m
  begins_behind s from [] k m lt within = absurd (omega (arith, within))
  begins_behind s from (given ∷ states) k zero lt within = absurd (omega (arith, lt))
  begins_behind s from (given ∷ states) zero (suc m) lt within =
      let low = begin_in-low supply halting end_rule trees auto (suc s) (from + state_size supply halting end_rule trees auto s given) states m in
      let e : s ≡ s + 0 = omega arith in
      subst (λ i. from + state_size supply halting end_rule trees auto i given
      ≤ begin_in supply halting end_rule trees auto (suc s) (from + state_size supply halting end_rule trees auto s given) states m) e low
  begins_behind s from (given ∷ states) (suc k) (suc m) lt within =
      let e : suc s + k ≡ s + suc k = omega arith in
      subst (λ i. begin_in supply halting end_rule trees auto (suc s) (from + state_size supply halting end_rule trees auto s given) states k
      + state_size supply halting end_rule trees auto i (state_of states k)
      ≤ begin_in supply halting end_rule trees auto (suc s) (from + state_size supply halting end_rule trees auto s given) states m) e
      (begins_behind (suc s) (from + state_size supply halting end_rule trees auto s given) states k m (omega (arith, lt)) (omega (arith, within)))

  module _ (begin : ℕ) (some : IsSome end_rule → IsSome supply.eof) where
    abbrev start : ℕ
    start = states_begin supply halting end_rule trees auto begin

    abbrev own : ℕ → ℕ
    own s = begin_in supply halting end_rule trees auto 0 start auto.states s

    abbrev place : ℕ → ℕ
    place = place_of supply halting end_rule trees auto begin

    own_apart : (s t : ℕ) → HasEdge auto s → s < t → t < length auto.states → own s < own t
    own_apart s t edge lt within =
        let e : 0 + s ≡ s = omega arith in
        let behind : own s + state_size supply halting end_rule trees auto s (state_of auto.states s) ≤ own t =
        subst (λ i. own s + state_size supply halting end_rule trees auto i (state_of auto.states s) ≤ own t) e
        (begins_behind 0 start auto.states s t lt within) in
        let size = size_some s (state_of auto.states s) edge in
        omega (arith, behind, size)

    place_is : (s : ℕ) → s < length auto.states → HasEdge auto s → place s ≡ (if is_entered end_rule auto s then own s else begin)
    place_is s lt edge =
        let e : 0 + s ≡ s = omega arith in
        place_in-begin supply halting end_rule trees auto (rule_block supply halting end_rule trees auto begin) (fall_block supply halting end_rule trees auto begin) begin 0 start
        auto.states s lt
        ∙ ap (λ i. place_by supply halting end_rule trees auto (rule_block supply halting end_rule trees auto begin) (fall_block supply halting end_rule trees auto begin) begin i
        (own s) (state_of auto.states s).edges (state_of auto.states s).accept) e
        ∙ by (state_of auto.states s).edges refl
      where
        by : (edges : List Edge) → (state_of auto.states s).edges ≡ edges
            → place_by supply halting end_rule trees auto (rule_block supply halting end_rule trees auto begin) (fall_block supply halting end_rule trees auto begin) begin s (own s)
            edges (state_of auto.states s).accept ≡ (if is_entered end_rule auto s then own s else begin)
        by [] none = absurd (edge none)
        by (first ∷ edges) is = refl

    -- where an entry stands apart, states begin behind it
    entry_some : (rule : ℕ) → end_rule ≡ Some rule → begin < start
    entry_some rule is =
        let size : entry_part_size supply halting end_rule trees auto end_rule ≡ entry_tests_size supply halting end_rule trees auto + at_end_size supply =
        ap (λ o. entry_part_size supply halting end_rule trees auto o) is in
        let one = by supply.eof refl in
        omega (arith, size, one)
      where
        by : (eof : Option ℕ) → supply.eof ≡ eof → 0 < entry_tests_size supply halting end_rule trees auto
        by None none =
            let there : IsSome {T = ℕ} None = subst (λ o. IsSome o) none (some (subst (λ o. IsSome o) (sym is) refl)) in absurd (cc)
        by (Some eof) e =
            let whole : entry_tests_size supply halting end_rule trees auto ≡ suc (inner_size (trees entry)) = ap (λ o. reader_size o 0 (trees entry)) e in
            omega (arith, whole)

    pub entered_place : (s : ℕ) → s < length auto.states → HasEdge auto s → is_entered end_rule auto s ≡ true → place s ≡ own s
    entered_place s lt edge entered = place_is s lt edge ∙ ap (λ t. if t then own s else begin) entered

    apart_below : (s t : ℕ) → HasEdge auto s → HasEdge auto t → s < t → t < length auto.states → place s ≡ place t → ⊥
    apart_below s t edge other lt within same = by (is_entered end_rule auto s) refl (is_entered end_rule auto t) refl
      where
        by : (a : Bool) → is_entered end_rule auto s ≡ a → (b : Bool) → is_entered end_rule auto t ≡ b → ⊥
        by a ea false eb = let behind = behind_entry end_rule auto t eb in let zeroth = behind.zeroth in absurd (omega (arith, zeroth, lt))
        by true ea true eb =
            let first = entered_place s (omega (arith, lt, within)) edge ea in
            let second = entered_place t within other eb in
            let less = own_apart s t edge lt within in
            absurd (omega (arith, first, second, less, same))
        by false ea true eb =
            let behind = behind_entry end_rule auto s ea in
            let first : place s ≡ begin = place_is s (omega (arith, lt, within)) edge ∙ ap (λ t. if t then own s else begin) ea in
            let second = entered_place t within other eb in
            let before = entry_some behind.rule behind.some in
            let low = begin_in-low supply halting end_rule trees auto 0 start auto.states t in
            absurd (omega (arith, first, second, before, low, same))

    pub places_apart : (s t : ℕ) → HasEdge auto s → HasEdge auto t → place s ≡ place t → s ≡ t
    places_apart s t edge other same = by (nat_lt s t) refl (nat_lt t s) refl
      where
        by : (a : Bool) → nat_lt s t ≡ a → (b : Bool) → nat_lt t s ≡ b → s ≡ t
        by true ea b eb = let lt : s < t = grind (arith, ea) in absurd (apart_below s t edge other lt (edge_within auto t other) same)
        by false ea true eb = let lt : t < s = grind (arith, eb) in absurd (apart_below t s other edge lt (edge_within auto s edge) (sym same))
        by false ea false eb =
            let a : t ≤ s = grind (arith, ea) in let b : s ≤ t = grind (arith, eb) in omega (arith, a, b)
