-- The states of an automaton that a piece carries are as many as its blocks allow, and as its blocks that read a unit ask for.
use Rattle.std.specs.Prelude.{◌≡◌, ◌⊎◌, ℕ, ◌<◌, ◌≤◌, Bool, true, false, List, [], ◌∷◌, length, map, nat_eq, ◌||◌, refl}
use Rattle.std.proofs.Common.{sym, ap, ap₂, ◌∙◌, arith, eqb-true, eq-eqb, true≢false, inl, inr}
use Rattle.std.specs.List.{AllByRecursion, IsDistinct, list_any}
use Rattle.std.proofs.lemmas.Map.Steps.{length-le_from_distinct_below}
use Rattle.lx_auto.specs.declared.automaton.Auto.{Auto}
use Rattle.lx_ccode.specs.declared.piece.Piece.{Piece}
use Rattle.lx_ccode.specs.declared.piece.Stmt.TheVariants.{Peek}
use Rattle.lx_ccode.specs.Scanners.{IsOfScanner, StandsIn}
use Rattle.lx_layout.specs.Carries.{Carries, HasEdge}
use Rattle.lx_layout.specs.Endings.{Ending}

length-places : (place : ℕ → ℕ) (states : List ℕ) → length (map place states) ≡ length states
length-places place [] = refl
length-places place (state ∷ states) = let again = length-places place states in omega (arith, again)

module _ (piece : Piece) (entry : ℕ) (endings : ℕ → Ending) (auto : Auto) (carries : Carries piece entry endings auto) where
  -- a state stands apart from others
  apart_from : (state : ℕ) → HasEdge auto state → (others : List ℕ) → AllByRecursion (HasEdge auto) others
      → AllByRecursion (λ other. nat_eq state other ≡ false) others
      → AllByRecursion (λ block. nat_eq (carries.place state) block ≡ false) (map carries.place others)
  apart_from state has [] edges differ = tt
  apart_from state has (other ∷ others) edges differ =
      (by (nat_eq (carries.place state) (carries.place other)) refl, apart_from state has others edges.1 differ.1)
    where
      by : (t : Bool) → nat_eq (carries.place state) (carries.place other) ≡ t → nat_eq (carries.place state) (carries.place other) ≡ false
      by false e = e
      by true e =
          let same = carries.apart state other has edges.0 (eqb-true (carries.place state) (carries.place other) e) in
          absurd (true≢false (sym (eq-eqb state other same) ∙ differ.0))

  places_apart : (states : List ℕ) → AllByRecursion (HasEdge auto) states → IsDistinct nat_eq states → IsDistinct nat_eq (map carries.place states)
  unfolding IsDistinct
  places_apart [] edges distinct = tt
  places_apart (state ∷ states) edges distinct =
      (apart_from state edges.0 states edges.1 distinct.0, places_apart states edges.1 distinct.1)

  places_within : (states : List ℕ) → AllByRecursion (HasEdge auto) states → (block : ℕ) → list_any (nat_eq block) (map carries.place states) ≡ true
      → block < length piece.blocks
  places_within [] edges block is = absurd cc
  places_within (state ∷ states) edges block is =
      by (nat_eq block (carries.place state)) refl is (places_within states edges.1 block)
    where
      by : (t : Bool) → nat_eq block (carries.place state) ≡ t → t || list_any (nat_eq block) (map carries.place states) ≡ true
          → (list_any (nat_eq block) (map carries.place states) ≡ true → block < length piece.blocks) → block < length piece.blocks
      by true e is later =
          let same = eqb-true block (carries.place state) e in
          let below = carries.blocks state edges.0 in
          omega (arith, same, below)
      by false e is later = later is

  -- different states with an edge are no more than the piece has blocks
  pub states_within : (states : List ℕ) → AllByRecursion (HasEdge auto) states → IsDistinct nat_eq states → length states ≤ length piece.blocks
  states_within states edges distinct =
      let few = length-le_from_distinct_below (map carries.place states) (length piece.blocks) (places_apart states edges distinct)
      (places_within states edges) in
      let same = length-places carries.place states in
      omega (arith, few, same)

  -- a block of the scanner that reads a unit, behind the entry
  abbrev pub Reads : ℕ → Type 0
  Reads block = (block ≡ entry → ⊥) × IsOfScanner piece.blocks entry block × StandsIn piece.blocks block Peek

  -- such blocks are the places of states with an edge
  pub read_states : (blocks : List ℕ) → AllByRecursion Reads blocks
      → (states : List ℕ) × (map carries.place states ≡ blocks) × AllByRecursion (HasEdge auto) states
  read_states [] all = ([], refl, tt)
  read_states (block ∷ blocks) all = by (carries.peeks block all.0.1 all.0.2) (read_states blocks all.1) where
    by : (block ≡ entry) ⊎ ((state : ℕ) × HasEdge auto state × (carries.place state ≡ block))
        → ((states : List ℕ) × (map carries.place states ≡ blocks) × AllByRecursion (HasEdge auto) states)
        → (states : List ℕ) × (map carries.place states ≡ block ∷ blocks) × AllByRecursion (HasEdge auto) states
    by (inl same) others = absurd (all.0.0 same)
    by (inr state) others = (state.0 ∷ others.0, ap₂ (λ b l. b ∷ l) state.2 others.1, (state.1, others.2))

  differ_back : (state : ℕ) (others : List ℕ) → AllByRecursion (λ block. nat_eq (carries.place state) block ≡ false) (map carries.place others)
      → AllByRecursion (λ other. nat_eq state other ≡ false) others
  differ_back state [] differ = tt
  differ_back state (other ∷ others) differ = (by (nat_eq state other) refl, differ_back state others differ.1) where
    by : (t : Bool) → nat_eq state other ≡ t → nat_eq state other ≡ false
    by false e = e
    by true e =
        let same = eqb-true state other e in
        absurd (true≢false (sym (eq-eqb (carries.place state) (carries.place other) (ap carries.place same)) ∙ differ.0))

  pub distinct_back : (states : List ℕ) → IsDistinct nat_eq (map carries.place states) → IsDistinct nat_eq states
  unfolding IsDistinct
  distinct_back [] distinct = tt
  distinct_back (state ∷ states) distinct = (differ_back state states distinct.0, distinct_back states distinct.1)
