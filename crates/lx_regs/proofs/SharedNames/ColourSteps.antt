-- Colours that are given in order, and what holds of them in the end.
use Rattle.std.proofs.Common.{◌≡◌, ℕ, ◌+◌, ◌<◌, ◌≤◌, List, [], ◌∷◌, ◌++◌, length, take, sym, ap, ◌∙◌, subst, arith}
use Rattle.std.proofs.Common.{inl, inr}
use Rattle.std.proofs.Math.ListN.{get_or-append}
use Rattle.std.proofs.Math.Seq.{get_or-append_seam, take-append_seam}
use Rattle.std.proofs.lemmas.Bool.{cases_lt, cases_order}
use Rattle.std.proofs.lemmas.List.{get_or-map, get_or-take, length-append, length-map, length-take-le, take-append-le}
use Rattle.std.specs.Prelude.{◌⊎◌, map, slice_index}
use Rattle.lx_regs.specs.declared.graphs.Graph.{Graph}
use Rattle.lx_regs.specs.Colours.{AreColours, IsFirstFit, IsLeastFree, IsMerged, IsSharing, IsTaken}
use Rattle.lx_regs.specs.Graphs.{AreNeighbours, IsGraph, list_at, size_of}
use Rattle.lx_regs.proofs.SharedNames.Marks.{least-few}

-- what holds of each of some colours and those before it holds with one more
each-pushed : (Holds : List ℕ → ℕ → ℕ → Type 0) (colours : List ℕ) (colour : ℕ)
    → ((number : ℕ) → number < length colours → Holds (take number colours) number (slice_index colours number))
    → Holds colours (length colours) colour → (number : ℕ) → number < length (colours ++ colour ∷ [])
    → Holds (take number (colours ++ colour ∷ [])) number (slice_index (colours ++ colour ∷ []) number)
each-pushed Holds colours colour each here number within = at (cases_lt number (length colours))
  where
    long : length (colours ++ colour ∷ []) ≡ length colours + 1
    long = length-append colours (colour ∷ [])

    earlier : number < length colours → Holds (take number (colours ++ colour ∷ [])) number (slice_index (colours ++ colour ∷ []) number)
    earlier below =
        subst (λ l. Holds l number (slice_index (colours ++ colour ∷ []) number)) (sym (take-append-le number colours (colour ∷ []) (omega arith)))
        (subst (Holds (take number colours) number) (sym (get_or-append colours (colour ∷ []) 0 number below)) (each number below))

    last : length colours ≡ number → Holds (take number (colours ++ colour ∷ [])) number (slice_index (colours ++ colour ∷ []) number)
    last same =
        subst (λ n. Holds (take n (colours ++ colour ∷ [])) n (slice_index (colours ++ colour ∷ []) n)) same
        (subst (λ l. Holds l (length colours) (slice_index (colours ++ colour ∷ []) (length colours))) (sym (take-append_seam colours (colour ∷ [])))
        (subst (Holds colours (length colours)) (sym (get_or-append_seam colours colour [] 0)) here))

    at : (number < length colours) ⊎ (length colours ≤ number)
        → Holds (take number (colours ++ colour ∷ [])) number (slice_index (colours ++ colour ∷ []) number)
    at (inl below) = earlier below
    at (inr above) = last (omega (arith, within, long))

module _ (graph : Graph) where
  pub first_fit-begins : IsFirstFit graph []
  first_fit-begins number within = absurd (omega arith)

  pub first_fit-pushed : (colours : List ℕ) (colour : ℕ) → IsFirstFit graph colours
      → IsLeastFree colours (list_at graph.neighbours.items (length colours)) colour → IsFirstFit graph (colours ++ colour ∷ [])
  first_fit-pushed colours colour fit here =
      each-pushed (λ before number given. IsLeastFree before (list_at graph.neighbours.items number) given) colours colour fit here

  pub colours-begin : AreColours graph []
  colours-begin = record { free = λ number within. absurd (omega arith); few = λ number within. absurd (omega arith) }

  pub colours-pushed : (colours : List ℕ) (colour : ℕ) → AreColours graph colours
      → (IsTaken colours (list_at graph.neighbours.items (length colours)) colour → ⊥) → colour ≤ length colours
      → AreColours graph (colours ++ colour ∷ [])
  colours-pushed colours colour are free few = record {
    free = each-pushed (λ before number given. IsTaken before (list_at graph.neighbours.items number) given → ⊥) colours colour are.free free;
    few = each-pushed (λ before number given. given ≤ number) colours colour are.few few;
  }

  -- least free colours are colours
  pub first_fit-colours : (colours : List ℕ) → IsFirstFit graph colours → AreColours graph colours
  first_fit-colours colours fit = record {
    free = λ number within. (fit number within).free;
    few = λ number within.
        let few = least-few (take number colours) (list_at graph.neighbours.items number) (slice_index colours number) (fit number within) in
        let long = length-take-le number colours (omega arith) in
        omega (arith, few, long);
  }

  module _ (is : IsGraph graph) (colours : List ℕ) (count : length colours ≡ size_of graph) where
    differ-below : AreColours graph colours → (number other : ℕ) → AreNeighbours graph number other → other < number → number < length colours
        → slice_index colours number ≡ slice_index colours other → ⊥
    differ-below are number other near below within same =
        let long = length-take-le number colours (omega arith) in
        are.free number within (other, near, omega (arith, long, below), get_or-take number colours other 0 below ∙ sym same)

    -- neighbours have different colours
    pub colours-differ : AreColours graph colours → (number other : ℕ) → AreNeighbours graph number other
        → slice_index colours number ≡ slice_index colours other → number ≡ other
    colours-differ are number other near same =
        let other_within = is.within number other near in
        let within = is.within other number (is.both_ways number other near) in
        at (cases_order number other) (omega (arith, within, count)) (omega (arith, other_within, count))
      where
        at : (number ≡ other) ⊎ ((number < other) ⊎ (other < number)) → number < length colours → other < length colours → number ≡ other
        at (inl equal) within other_within = equal
        at (inr (inl less)) within other_within =
            absurd (differ-below are other number (is.both_ways number other near) less other_within (sym same))
        at (inr (inr more)) within other_within = absurd (differ-below are number other near more within same)

-- colours, then the least free ones of the graph of these colours
module _ (graph merged : Graph) (is : IsGraph graph) (first second : List ℕ) (count : length first ≡ size_of graph) (are : AreColours graph first)
    (between : IsMerged graph first merged) (count_merged : length second ≡ size_of merged) (fit : IsFirstFit merged second) where
  abbrev pub twice : List ℕ
  twice = map (slice_index second) first

  twice-at : (number : ℕ) → number < size_of graph → slice_index twice number ≡ slice_index second (slice_index first number)
  twice-at number within = get_or-map (slice_index second) first number 0 0 (omega (arith, within, count))

  -- a class is below the bound
  class_within : (number : ℕ) → number < size_of graph → slice_index first number < length second
  class_within number within =
      let few = are.few number (omega (arith, within, count)) in
      omega (arith, few, within, count_merged, between.size)

  few : (number : ℕ) → number < size_of graph → slice_index twice number ≤ number
  few number within =
      let once = are.few number (omega (arith, within, count)) in
      let again = (first_fit-colours merged second fit).few (slice_index first number) (class_within number within) in
      let here = twice-at number within in
      omega (arith, once, again, here)

  differ : (number other : ℕ) → AreNeighbours graph number other → slice_index twice number ≡ slice_index twice other → number ≡ other
  differ number other near same =
      let other_within = is.within number other near in
      let within = is.within other number (is.both_ways number other near) in
      let same_twice : slice_index second (slice_index first number) ≡ slice_index second (slice_index first other) =
      sym (twice-at number within) ∙ same ∙ twice-at other other_within in
      colours-differ graph is first count are number other near
      (colours-differ merged between.formed second count_merged (first_fit-colours merged second fit) (slice_index first number)
      (slice_index first other) (between.has number other near) same_twice)

  tight : (number colour : ℕ) → number < size_of graph → colour < slice_index twice number
      → (member other : ℕ) × AreNeighbours graph member other × (slice_index twice member ≡ slice_index twice number)
      × (slice_index twice other ≡ colour)
  tight number colour within below =
      let class = slice_index first number in
      let less : colour < slice_index second class = omega (arith, below, twice-at number within) in
      at ((fit class (class_within number within)).least colour less)
    where
      found : (lower : ℕ) → slice_index second lower ≡ colour
          → ((member other : ℕ) × AreNeighbours graph member other × (slice_index first member ≡ slice_index first number)
          × (slice_index first other ≡ lower))
          → (member other : ℕ) × AreNeighbours graph member other × (slice_index twice member ≡ slice_index twice number)
          × (slice_index twice other ≡ colour)
      found lower same (member, other, near, of_class, of_lower) =
          let other_within = is.within member other near in
          let member_within = is.within other member (is.both_ways member other near) in (
            member,
            other,
            near,
            twice-at member member_within ∙ ap (slice_index second) of_class ∙ sym (twice-at number within),
            twice-at other other_within ∙ ap (slice_index second) of_lower ∙ same,
          )

      at : IsTaken (take (slice_index first number) second) (list_at merged.neighbours.items (slice_index first number)) colour
          → (member other : ℕ) × AreNeighbours graph member other × (slice_index twice member ≡ slice_index twice number)
          × (slice_index twice other ≡ colour)
      at (lower, near, inside, is_colour) =
          let long = length-take-le (slice_index first number) second (omega (arith, class_within number within)) in
          found lower (sym (get_or-take (slice_index first number) second lower 0 (omega (arith, inside, long))) ∙ is_colour)
          (between.only (slice_index first number) lower near)

  pub twice-sharing : IsSharing graph twice
  twice-sharing = record {
    count = length-map first (slice_index second) ∙ count;
    few = few;
    differ = differ;
    tight = tight;
  }
