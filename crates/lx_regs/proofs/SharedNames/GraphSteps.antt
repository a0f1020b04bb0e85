-- What it does to a graph to make two numbers neighbours.
use Rattle.std.proofs.Common.{◌≡◌, ℕ, ◌<◌, List, [], ◌∷◌, ◌++◌, length, refl, Bool, true, false, not, ◌&&◌, ◌||◌, if◌then◌else◌, nat_eq, Contains, sym, ap, ◌∙◌, subst, arith, eqb-true}
use Rattle.std.proofs.Common.{inl, inr}
use Rattle.std.proofs.lemmas.List.{length-set}
use Rattle.std.proofs.lemmas.List.Elements.{Contains-push_cases}
use Rattle.std.specs.List.{list_any}
use Rattle.std.specs.Prelude.{◌⊎◌}
use Rattle.lx_auto.proofs.SameLists.{Contains-later}
use Rattle.lx_regs.specs.declared.graphs.Graph.{Graph}
use Rattle.lx_regs.specs.JoinedPairs.{IsNoted}
use Rattle.lx_regs.specs.Graphs.{AreNeighbours, IsGraph, IsPair, Joins, list_at, put_at, size_of}
use Rattle.lx_regs.proofs.SharedNames.GraphLists.{put_at-kept, put_at-new, put_at-only}

-- ---- sets of pairs

module _ (first second : ℕ) where
  abbrev is_pair : (ℕ × ℕ) → Bool
  is_pair pair = nat_eq first pair.0 && nat_eq second pair.1

  pub pair-found : (pairs : List (ℕ × ℕ)) → list_any is_pair pairs ≡ true → Contains pairs (first, second)
  pair-found [] any = absurd (cc any)
  pair-found (pair ∷ pairs) any = at (nat_eq first pair.0) (nat_eq second pair.1) refl refl any (pair-found pairs)
    where
      at : (b c : Bool) → nat_eq first pair.0 ≡ b → nat_eq second pair.1 ≡ c → ((b && c) || list_any is_pair pairs) ≡ true
          → (list_any is_pair pairs ≡ true → Contains pairs (first, second)) → Contains (pair ∷ pairs) (first, second)
      at true true one other any later =
          (0, omega arith, λ i. (sym (eqb-true first pair.0 one) i, sym (eqb-true second pair.1 other) i))
      at true false one other any later = Contains-later pair pairs (first, second) (later any)
      at false c one other any later = Contains-later pair pairs (first, second) (later any)

  pub pair-inserted : (pairs new : List (ℕ × ℕ)) → new ≡ (if list_any is_pair pairs then pairs else pairs ++ (first, second) ∷ [])
      → (number other : ℕ) → Contains new (number, other) → Contains pairs (number, other) ⊎ ((number ≡ first) × (other ≡ second))
  pair-inserted pairs new is number other has = at (list_any is_pair pairs) (subst (λ l. Contains l (number, other)) is has)
    where
      pushed : Contains pairs (number, other) ⊎ (◌≡◌ {A = ℕ × ℕ} (first, second) (number, other))
          → Contains pairs (number, other) ⊎ ((number ≡ first) × (other ≡ second))
      pushed (inl there) = inl there
      pushed (inr same) = inr (sym (ap (λ (p : ℕ × ℕ). p.0) same), sym (ap (λ (p : ℕ × ℕ). p.1) same))

      at : (b : Bool) → Contains (if b then pairs else pairs ++ (first, second) ∷ []) (number, other)
          → Contains pairs (number, other) ⊎ ((number ≡ first) × (other ≡ second))
      at true there = inl there
      at false there = pushed (Contains-push_cases pairs (first, second) (number, other) there)

  pub pair-known : (pairs new : List (ℕ × ℕ)) (fresh : Bool) → fresh ≡ not (list_any is_pair pairs) → fresh ≡ false
      → new ≡ (if list_any is_pair pairs then pairs else pairs ++ (first, second) ∷ []) → Contains pairs (first, second) × (new ≡ pairs)
  pair-known pairs new fresh tells none is = at (list_any is_pair pairs) refl (sym tells ∙ none) is
    where
      at : (b : Bool) → list_any is_pair pairs ≡ b → not b ≡ false → new ≡ (if b then pairs else pairs ++ (first, second) ∷ [])
          → Contains pairs (first, second) × (new ≡ pairs)
      at true any fails put = (pair-found pairs any, put)
      at false any fails put = absurd (cc fails)

-- ---- one step

module _ (old new : Graph) (first second : ℕ) (is : IsGraph old) where
  -- they were neighbours
  pub Joins-known : IsNoted old.pairs first second
      → ((number other : ℕ) → IsNoted new.pairs number other → IsNoted old.pairs number other ⊎ ((number ≡ first) × (other ≡ second)))
      → new.neighbours.items ≡ old.neighbours.items → Joins old new first second
  Joins-known has pairs lists = record {
    graph = record {
      both_ways = λ number other near. back other number (is.both_ways number other (forth number other near));
      within = λ number other near. subst (λ l. other < length l) (sym lists) (is.within number other (forth number other near));
      known = λ number other there. back number other (was number other (pairs number other there));
    };
    size = ap length lists;
    joined = back first second (is.known first second has);
    kept = back;
    only = λ number other near. inl (forth number other near);
  }
    where
      was : (number other : ℕ) → IsNoted old.pairs number other ⊎ ((number ≡ first) × (other ≡ second)) → AreNeighbours old number other
      was number other (inl there) = is.known number other there
      was number other (inr same) =
          subst (λ n. AreNeighbours old n other) (sym same.0)
          (subst (λ n. AreNeighbours old first n) (sym same.1) (is.known first second has))

      forth : (number other : ℕ) → AreNeighbours new number other → AreNeighbours old number other
      forth number other near = subst (λ l. Contains (list_at l number) other) lists near

      back : (number other : ℕ) → AreNeighbours old number other → AreNeighbours new number other
      back number other near = subst (λ l. Contains (list_at l number) other) (sym lists) near

  module _ (in_first : first < size_of old) (in_second : second < size_of old)
      (lists : new.neighbours.items ≡ put_at (put_at old.neighbours.items first second) second first)
      (pairs : (number other : ℕ) → IsNoted new.pairs number other
      → IsNoted old.pairs number other ⊎ ((number ≡ first) × (other ≡ second))) where
    once : List (List ℕ)
    once = put_at old.neighbours.items first second

    size_once : length (put_at old.neighbours.items first second) ≡ size_of old
    size_once = length-set old.neighbours.items first (list_at old.neighbours.items first ++ second ∷ [])

    size : size_of new ≡ size_of old
    size =
        ap length lists
        ∙ length-set (put_at old.neighbours.items first second) second
        (list_at (put_at old.neighbours.items first second) second ++ first ∷ [])
        ∙ size_once

    there : (number other : ℕ) → Contains (list_at (put_at (put_at old.neighbours.items first second) second first) number) other
        → AreNeighbours new number other
    there number other has = subst (λ l. Contains (list_at l number) other) (sym lists) has

    kept : (number other : ℕ) → AreNeighbours old number other → AreNeighbours new number other
    kept number other near =
        there number other
        (put_at-kept (put_at old.neighbours.items first second) second first number other
        (put_at-kept old.neighbours.items first second number other near))

    joined : AreNeighbours new first second
    joined =
        there first second
        (put_at-kept (put_at old.neighbours.items first second) second first first second
        (put_at-new old.neighbours.items first second in_first))

    joined_back : AreNeighbours new second first
    joined_back =
        there second first
        (put_at-new (put_at old.neighbours.items first second) second first (subst (λ n. second < n) (sym size_once) in_second))

    only : (number other : ℕ) → AreNeighbours new number other → AreNeighbours old number other ⊎ IsPair first second number other
    only number other near =
        outer
        (put_at-only (put_at old.neighbours.items first second) second first number other
        (subst (λ l. Contains (list_at l number) other) lists near))
      where
        inner : Contains (list_at old.neighbours.items number) other ⊎ ((number ≡ first) × (other ≡ second))
            → AreNeighbours old number other ⊎ IsPair first second number other
        inner (inl has) = inl has
        inner (inr same) = inr (inl same)

        outer : Contains (list_at (put_at old.neighbours.items first second) number) other ⊎ ((number ≡ second) × (other ≡ first))
            → AreNeighbours old number other ⊎ IsPair first second number other
        outer (inl has) = inner (put_at-only old.neighbours.items first second number other has)
        outer (inr same) = inr (inr same)

    at_pair : (number other : ℕ) → IsPair first second number other → AreNeighbours new number other
    at_pair number other (inl same) =
        subst (λ n. AreNeighbours new n other) (sym same.0) (subst (λ n. AreNeighbours new first n) (sym same.1) joined)
    at_pair number other (inr same) =
        subst (λ n. AreNeighbours new n other) (sym same.0) (subst (λ n. AreNeighbours new second n) (sym same.1) joined_back)

    turned : (number other : ℕ) → IsPair first second number other → IsPair first second other number
    turned number other (inl same) = inr (same.1, same.0)
    turned number other (inr same) = inl (same.1, same.0)

    both_ways : (number other : ℕ) → AreNeighbours new number other → AreNeighbours new other number
    both_ways number other near = at (only number other near)
      where
        at : AreNeighbours old number other ⊎ IsPair first second number other → AreNeighbours new other number
        at (inl before) = kept other number (is.both_ways number other before)
        at (inr pair) = at_pair other number (turned number other pair)

    within : (number other : ℕ) → AreNeighbours new number other → other < size_of new
    within number other near = subst (λ n. other < n) (sym size) (at (only number other near))
      where
        at : AreNeighbours old number other ⊎ IsPair first second number other → other < size_of old
        at (inl before) = is.within number other before
        at (inr (inl same)) = subst (λ n. n < size_of old) (sym same.1) in_second
        at (inr (inr same)) = subst (λ n. n < size_of old) (sym same.1) in_first

    known : (number other : ℕ) → IsNoted new.pairs number other → AreNeighbours new number other
    known number other has = at (pairs number other has)
      where
        at : IsNoted old.pairs number other ⊎ ((number ≡ first) × (other ≡ second)) → AreNeighbours new number other
        at (inl before) = kept number other (is.known number other before)
        at (inr same) = at_pair number other (inl same)

    pub Joins-fresh : Joins old new first second
    Joins-fresh = record {
      graph = record { both_ways = both_ways; within = within; known = known };
      size = size;
      joined = joined;
      kept = kept;
      only = only;
    }

-- the other way round
pub Joins-turned : (old new : Graph) (first second : ℕ) → Joins old new first second → Joins old new second first
Joins-turned old new first second joins = record {
  graph = joins.graph;
  size = joins.size;
  joined = joins.graph.both_ways first second joins.joined;
  kept = joins.kept;
  only = λ number other near. at number other (joins.only number other near);
}
  where
    at : (number other : ℕ) → AreNeighbours old number other ⊎ IsPair first second number other
        → AreNeighbours old number other ⊎ IsPair second first number other
    at number other (inl before) = inl before
    at number other (inr (inl same)) = inr (inr same)
    at number other (inr (inr same)) = inr (inl same)
