-- The search for the pairs to which walks come.
use Rattle.std.proofs.Common.{◌≡◌, ℕ, zero, suc, ◌<◌, ◌≤◌, ◌⊎◌, inl, inr, arith, true, List, [], ◌∷◌, length, get_or, Option, Some, None, refl, sym, ap, ◌∙◌, subst, rules, nat_eq, if◌then◌else◌}
use Rattle.std.specs.List.{IsDistinct}
use Rattle.std.specs.Prelude.{◌≢◌, Contains}
use Rattle.std.proofs.lemmas.Bool.{cases_lt, ne_eqb}
use Rattle.std.proofs.lemmas.List.{get_or_past}
use Rattle.std.proofs.lemmas.List.Elements.{Contains-get_or}
use Rattle.lx_auto.specs.declared.automaton.Accept.{Accept}
use Rattle.lx_auto.specs.declared.automaton.Auto.{Auto}
use Rattle.lx_auto.specs.declared.automaton.Edge.{Edge}
use Rattle.lx_auto.specs.Automaton.{IsAuto, LeadWithin, state_of}
use Rattle.lx_auto.specs.Points.{Point, IsReached, begins, goes_on, left_behind, left_by}
use Rattle.lx_auto.proofs.States.{state_formed}
use Rattle.lx_regs.specs.contracts.reached.PairEq.TheImpl.Laws.{laws-law}
use Rattle.lx_regs.specs.contracts.reached.PairPartialEq.TheImpl.{eq-value}
use Rattle.lx_regs.specs.declared.reached.Pair.{Pair}
use Rattle.lx_regs.specs.Growth.{IsSearch, TellsEqual}
use Rattle.lx_regs.specs.LeftGroups.{group_left}
use Rattle.lx_regs.specs.Reached.{ArePairs, IsNextPair, IsPair, left_of}
use Rattle.lx_regs.proofs.LiveRegisters.GrownLists.{length-found, search-ends}
use Rattle.lx_regs.proofs.LiveRegisters.Pairings.{Contains-numbers_below, Contains-pairings, numbers_below, pairings}

same_pair : (pair other : Pair) → eq-value.it pair other ≡ true → pair ≡ other
same_pair pair other e = search rules

pair_same : (pair other : Pair) → pair ≡ other → eq-value.it pair other ≡ true
pair_same pair other e = search rules

pub TellsEqual-pairs : TellsEqual eq-value.it
TellsEqual-pairs = λ pair other. (same_pair pair other, pair_same pair other)

-- ---- where edges lead

leads-within : (regs mregs count : ℕ) (edges : List Edge) → LeadWithin regs mregs count edges → (edge : Edge) → Contains edges edge
    → edge.to < count
leads-within regs mregs count [] lead edge has = absurd (omega (arith, has.1))
leads-within regs mregs count (first ∷ edges) lead edge (zero, within, is) = subst (λ (e : Edge). e.to < count) is lead.0
leads-within regs mregs count (first ∷ edges) lead edge (suc place, within, is) =
    leads-within regs mregs count edges lead.2 edge (place, omega arith, is)

pub edge-within : (auto : Auto) (state : ℕ) (edge : Edge) → IsAuto auto → Contains (state_of auto.states state).edges edge
    → edge.to < length auto.states
edge-within auto state edge is has =
    leads-within auto.regs auto.mregs (length auto.states) (state_of auto.states state).edges (state_formed auto state is).lead edge has

pub reached-within : (auto : Auto) (point : Point) → IsAuto auto → IsReached auto point → point.state < length auto.states
reached-within auto _ is begins = is.start
reached-within auto _ is (goes_on point edge reached has) = edge-within auto point.state edge is has

module _ (auto : Auto) (numbers : List ℕ) where
  abbrev pair_of : ℕ → ℕ → Pair
  pair_of state left = record { state = state; left = left }

  -- each pair that there can be
  abbrev pub all_pairs : List Pair
  all_pairs = pairings pair_of (numbers_below (length auto.states)) (0 ∷ numbers)

  Contains-front : (number : ℕ) → Contains numbers number → Contains (0 ∷ numbers) number
  Contains-front number (place, within, is) = (suc place, omega arith, is)

  pub group_left-listed : (left : Option ℕ) → Contains (0 ∷ numbers) (group_left numbers left)
  group_left-listed None = (0, omega arith, refl)
  group_left-listed (Some state) = at (cases_lt state (length numbers))
    where
      at : (state < length numbers) ⊎ (length numbers ≤ state) → Contains (0 ∷ numbers) (get_or numbers state 0)
      at (inl within) = Contains-front (get_or numbers state 0) (Contains-get_or numbers state 0 within)
      at (inr past) = subst (λ n. Contains (0 ∷ numbers) n) (sym (get_or_past numbers state 0 past)) (0, omega arith, refl)

  pub all_pairs-has : IsAuto auto → (pair : Pair) → IsPair auto numbers pair → Contains all_pairs pair
  all_pairs-has is pair (left, reached, group) =
      Contains-pairings pair_of (numbers_below (length auto.states)) (0 ∷ numbers) pair.state pair.left
      (Contains-numbers_below (length auto.states) pair.state (reached-within auto (record { state = pair.state; left = left }) is reached))
      (subst (λ n. Contains (0 ∷ numbers) n) group (group_left-listed left))

  module _ (none : (state : ℕ) → (state_of auto.states state).accept ≡ None → get_or numbers state 0 ≡ 0)
      (some : (state : ℕ) → get_or numbers state 0 ≡ 0 → (state_of auto.states state).accept ≡ None) where
    -- the group of what was left last, once a state is left too
    pub group_left-behind : (point : Point)
        → group_left numbers (left_behind auto point) ≡ left_of numbers point.state (group_left numbers point.left)
    group_left-behind point = at (state_of auto.states point.state).accept refl
      where
        own : ℕ
        own = get_or numbers point.state 0

        of_none : (n : ℕ) → n ≡ 0 → (if nat_eq n 0 then group_left numbers point.left else n) ≡ group_left numbers point.left
        of_none zero e = refl
        of_none (suc n) e = absurd (omega arith)

        of_some : (n : ℕ) → n ≢ 0 → (if nat_eq n 0 then group_left numbers point.left else n) ≡ n
        of_some n e = ap (λ b. if b then group_left numbers point.left else n) (ne_eqb n 0 e)

        at : (accept : Option Accept) → (state_of auto.states point.state).accept ≡ accept
            → group_left numbers (left_by accept point) ≡ (if nat_eq own 0 then group_left numbers point.left else own)
        at None is = sym (of_none own (none point.state is))
        at (Some accept) is = sym (of_some own (λ e. let both : None ≡ Some accept = sym (some point.state e) ∙ is in cc))

    pub next-pair : (pair next : Pair) → IsPair auto numbers pair → IsNextPair auto numbers pair next → IsPair auto numbers next
    next-pair pair next (left, reached, group) (edge, has, is) =
        let point : Point = record { state = pair.state; left = left } in
        subst (λ n. IsPair auto numbers n) (sym is) (
          left_behind auto point,
          goes_on point edge reached has,
          group_left-behind point ∙ ap (left_of numbers pair.state) group,
        )

    pub pairs-found : (pairs : List Pair) (done : ℕ) → IsSearch (IsPair auto numbers) (IsNextPair auto numbers) pairs done
        → length pairs ≤ done
        → Contains pairs (record { state = 0; left = 0 }) → ArePairs auto numbers pairs
    pairs-found pairs done found all first = record { sound = found.right; complete = complete }
      where
        complete : (point : Point) → IsReached auto point
            → Contains pairs (record { state = point.state; left = group_left numbers point.left })
        complete _ begins = first
        complete _ (goes_on point edge reached has) =
            subst (λ n. Contains pairs (pair_of edge.to n)) (sym (group_left-behind point))
            (search-ends (IsPair auto numbers) (IsNextPair auto numbers) pairs done found all
            (pair_of point.state (group_left numbers point.left))
            (pair_of edge.to (left_of numbers point.state (group_left numbers point.left))) (complete point reached) (edge, has, refl))

pub first-pair : (auto : Auto) (numbers : List ℕ) → IsPair auto numbers (record { state = 0; left = 0 })
first-pair auto numbers = (None, begins, refl)

-- different pairs to which walks come are no more than there can be
pub pairs-bounded : (auto : Auto) (numbers : List ℕ) (pairs : List Pair) → IsAuto auto → IsDistinct eq-value.it pairs
    → ((pair : Pair) → Contains pairs pair → IsPair auto numbers pair) → length pairs ≤ length (all_pairs auto numbers)
pairs-bounded auto numbers pairs is distinct right =
    length-found eq-value.it TellsEqual-pairs pairs (all_pairs auto numbers) laws-law distinct
    (λ pair has. all_pairs-has auto numbers is pair (right pair has))
