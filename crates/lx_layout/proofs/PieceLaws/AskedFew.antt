-- No more readers ask for a refill than a scanner has blocks.
use Rattle.std.specs.Prelude.{◌≡◌, ℕ, suc, ◌+◌, ◌<◌, ◌≤◌, Bool, true, false, ◌&&◌, List, [], ◌∷◌, length, Option, Some, None, is_some, refl}
use Rattle.std.proofs.Common.{◌∙◌, ap, arith, sym}
use Rattle.lx_auto.specs.Automaton.{state_of}
use Rattle.lx_auto.specs.declared.automaton.Auto.{Auto}
use Rattle.lx_auto.specs.declared.automaton.Edge.{Edge}
use Rattle.lx_auto.specs.declared.automaton.State.{State}
use Rattle.lx_layout.specs.FormedParts.{all_asked}
use Rattle.lx_layout.specs.Halting.{Halting}
use Rattle.lx_layout.specs.Parts.{Demand, Part, asked, asked_below, asks_with, entry_asks, given_asked, one_if, part_codes, parts_blocks, supply_from}
use Rattle.lx_layout.specs.SuppliedLayout.{end_of, entry_part_size, reader_size, size_at_end, state_size, states_begin, supplied_layout}
use Rattle.lx_layout.specs.Endings.{Ending}
use Rattle.lx_layout.specs.Supplies.{Reader, Supply, entry}
use Rattle.lx_dispatch.specs.TestTrees.{TestTree}
use Rattle.lx_layout.proofs.PartLayouts.ClosedParts.{length-parts}
use Rattle.lx_layout.proofs.SuppliedLayouts.ApartPlaces.{size_some}
use Rattle.lx_layout.proofs.SuppliedLayouts.Lengths.{length-layout}

module _ (demand : Demand) (end_rule : Option ℕ) (halting : Halting) (endings : ℕ → Ending) (trees : Reader → TestTree (Option ℕ)) (auto : Auto)
    (first : ℕ) where
  abbrev supply : Supply
  supply = supply_from demand end_rule auto first

  -- some states are those from a number on
  abbrev Are : (s : ℕ) → List State → Type 0
  Are s states = (k : ℕ) → k < length states → state_of auto.states (s + k) ≡ state_of states k

  one_most : (t : Bool) → one_if demand end_rule auto t ≤ 1
  one_most false = omega arith
  one_most true = omega arith

  state_few : (s : ℕ) (given : State)
      → one_if demand end_rule auto (asks_with demand end_rule auto s given.edges) ≤ state_size supply halting end_rule trees auto s given
  state_few s given = by given.edges refl
    where
      by : (edges : List Edge) → given.edges ≡ edges
          → one_if demand end_rule auto (asks_with demand end_rule auto s edges) ≤ state_size supply halting end_rule trees auto s given
      by [] e = omega arith
      by (edge ∷ edges) e =
          let some = size_some supply halting end_rule trees auto s given (λ none. let clash = sym e ∙ none in absurd (cc)) in
          let one = one_most (asks_with demand end_rule auto s (edge ∷ edges)) in
          omega (arith, some, one)

  states_few : (s from : ℕ) (states : List State) → Are s states
      → asked_below demand end_rule auto (s + length states) + from ≤ asked_below demand end_rule auto s + end_of supply halting end_rule trees auto s from states
  states_few s from [] are =
      let e : s + 0 ≡ s = omega arith in
      let same : asked_below demand end_rule auto (s + 0) ≡ asked_below demand end_rule auto s = ap (λ n. asked_below demand end_rule auto n) e in
      omega (arith, same)
  states_few s from (given ∷ states) are =
      let e : s + length (given ∷ states) ≡ suc s + length states = omega arith in
      let same : asked_below demand end_rule auto (s + length (given ∷ states)) ≡ asked_below demand end_rule auto (suc s + length states)
      = ap (λ n. asked_below demand end_rule auto n) e in
      let z : s ≡ s + 0 = omega arith in
      let own : (state_of auto.states s).edges ≡ given.edges
      = ap (λ n. (state_of auto.states n).edges) z ∙ ap (λ (given : State). given.edges) (are 0 (omega arith)) in
      let next : asked_below demand end_rule auto (suc s)
      ≡ asked_below demand end_rule auto s + one_if demand end_rule auto (asks_with demand end_rule auto s given.edges)
      = ap (λ edges. asked_below demand end_rule auto s + one_if demand end_rule auto (asks_with demand end_rule auto s edges)) own in
      let again = states_few (suc s) (from + state_size supply halting end_rule trees auto s given) states
      (λ k lt. let f : suc s + k ≡ s + suc k = omega arith in ap (λ n. state_of auto.states n) f ∙ are (suc k) (omega (arith, lt))) in
      let few = state_few s given in
      omega (arith, same, next, again, few)

  entry_few : one_if demand end_rule auto (entry_asks demand end_rule auto) ≤ entry_part_size supply halting end_rule trees auto end_rule
  entry_few = by end_rule
    where
      unit : (eof : Option ℕ)
          → one_if demand end_rule auto (is_some eof && demand.tries) ≤ reader_size eof 0 (trees entry) + size_at_end eof demand.tries supply.stored
      unit None = omega arith
      unit (Some eof) = let one = one_most demand.tries in omega (arith, one)

      by : (o : Option ℕ)
          → one_if demand end_rule auto (is_some o && (is_some demand.eof && demand.tries)) ≤ entry_part_size supply halting end_rule trees auto o
      by None = omega arith
      by (Some rule) = unit demand.eof

  pub asked_few : (begin : ℕ) → asked demand end_rule auto ≤ length (supplied_layout supply halting endings end_rule trees auto begin)
  asked_few begin =
      let l = length-layout supply halting endings end_rule trees auto begin in
      let few = states_few 0 (states_begin supply halting end_rule trees auto begin) auto.states
      (λ k lt. let e : 0 + k ≡ k = omega arith in ap (λ n. state_of auto.states n) e) in
      let e : 0 + length auto.states ≡ length auto.states = omega arith in
      let same : asked_below demand end_rule auto (0 + length auto.states) ≡ asked demand end_rule auto
      = ap (λ n. asked_below demand end_rule auto n) e in
      let entry = entry_few in
      omega (arith, l, few, same, entry)

pub all_few : (begin first : ℕ) (parts : List Part) → all_asked parts ≤ length (parts_blocks begin first parts)
all_few begin first [] = omega arith
all_few begin first (part ∷ parts) =
    let l = length-parts begin first part parts in
    let own = asked_few part.given.demand part.given.end_rule part.halting part.given.endings part.trees part.given.auto first begin in
    let others = all_few (begin + length (part_codes part begin first)) (first + given_asked part.given) parts in
    omega (arith, l, own, others)
