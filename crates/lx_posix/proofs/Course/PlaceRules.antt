-- The number of a place tells its rule. So kernels that the code keeps are told apart by what they keep.
use Rattle.std.proofs.Common.{sym, ap, ap₂, ◌∙◌, subst, arith, length}
use Rattle.std.proofs.lemmas.Bool.{ltb-false, ltb-true}
use Rattle.std.proofs.lemmas.List.Elements.{All-head, All-tail}
use Rattle.std.proofs.lemmas.Nat.{mod-mul-add}
use Rattle.std.specs.Prelude.{◌≡◌, ℕ, zero, suc, ◌+◌, ◌-◌, ◌*◌, ◌/◌, ◌<◌, ◌≤◌, List, [], ◌∷◌, map, reverse, Some, Bool, true, false, All, nat_lt, slice_get, slice_index, refl}
use Rattle.lx_base.specs.declared.settings.Enc.{Enc}
use Rattle.lx_regex.specs.Automaton.{automaton}
use Rattle.lx_regex.specs.ClassLimits.{AllClassesFit}
use Rattle.lx_regex.specs.Cut.{last_part, rule_part}
use Rattle.lx_regex.specs.Pattern.{Pattern, terms_of, with_terms}
use Rattle.lx_regex.specs.Script.{Symbol}
use Rattle.lx_regex.specs.Term.{Term, parts}
use Rattle.lx_regex.proofs.KernelCuts.Cuts.{rule_positive}
use Rattle.lx_regex.proofs.KernelCuts.RuleCuts.{cut_within}
use Rattle.lx_tnfa.specs.LeafReadings.{IsNth}
use Rattle.lx_tnfa.specs.Live.{state_of}
use Rattle.lx_tnfa.specs.PlaceNumbers.{is_finished, number_behind, numbers_after, place_number, rest_left, symbols_added}
use Rattle.lx_tnfa.specs.Tnfa.{IsTnfaOf, Tnfa}
use Rattle.lx_tnfa.specs.declared.places.Place.{Place}
use Rattle.lx_tnfa.proofs.Leaves.LeafNumbering.{automaton_numbers}
use Rattle.lx_tnfa.proofs.Leaves.LeafNumbers.{finished_number, unfinished_number}
use Rattle.lx_tdfa.specs.Kernels.{Key, rule_of}
use Rattle.lx_tdfa.specs.Steps.{IsInLeaf}
use Rattle.lx_tdfa.proofs.Rules.RuleStates.{IsPartOf, IsStateOf, pattern_at, rule_of_state, rule_owns}
use Rattle.lx_tdfa.proofs.Rules.StateOrder.{some_parts}
use Rattle.lx_tdfa.proofs.Walks.ClosureSearches.{number_of}
use Rattle.lx_tdfa.proofs.Walks.NumbersApart.{held_length, number_of-apart}
use Rattle.lx_tdfa.proofs.Walks.PlacesRead.{start_is}
use Rattle.lx_tdfa.proofs.WordKernels.RunCuts.{IsRunOf, run_cut, run_in_leaf, run_rule}
use Rattle.lx_posix.specs.Comparing.{Ranked}
use Rattle.lx_posix.specs.KernelLists.{posix_kernel_after, ranks_after}
use Rattle.lx_posix.specs.KeptKernels.{Keeps, places_in, rank_of, rule_among, rule_at}
use Rattle.lx_posix.specs.declared.kept.Kept.{Kept}
use Rattle.lx_posix.proofs.CodeStarts.SmallDepths.{either, rules_parts, states_of_parts}
use Rattle.lx_posix.proofs.Lists.ProgramLists.{ranked_after}
use Rattle.lx_posix.proofs.OneSearch.FoundWays.{ranked_is}
use Rattle.lx_posix.proofs.OneSearch.ProgramSearch.{entry_of_place}

-- ---- states and numbers

-- a state of a rule, counted from the first rule on
rule_among-is : (rules : List Term) (rule : ℕ) (e : Term) (state : ℕ) → slice_get rules rule ≡ Some e
    → 2 * rule_part rules rule ≤ suc (suc state) → suc (suc state) < 2 * (rule_part rules rule + parts e)
    → rule_among rules state ≡ rule
rule_among-is [] rule e state at low high = cc
rule_among-is (x ∷ rules) zero e state at low high =
    let same : x ≡ e = cc in
    let size : parts x ≡ parts e = ap parts same in
    either (nat_lt state (2 * parts x)) (λ n. n ≡ 0) 0 (suc (rule_among rules (state - 2 * parts x))) (λ t. refl)
    (λ f. let h = ltb-false state (2 * parts x) f in absurd (omega arith))
rule_among-is (x ∷ rules) (suc rule) e state at low high =
    let some = rule_positive rules rule in
    either (nat_lt state (2 * parts x)) (λ n. n ≡ suc rule) 0 (suc (rule_among rules (state - 2 * parts x)))
    (λ t. let h = ltb-true state (2 * parts x) t in absurd (omega arith))
    (λ f.
    let h = ltb-false state (2 * parts x) f in
    ap suc (rule_among-is rules rule e (state - 2 * parts x) at (omega arith) (omega arith)))

-- its parts are among those of all rules
rule_below : (rules : List Term) (rule : ℕ) (e : Term) → slice_get rules rule ≡ Some e
    → rule_part rules rule + parts e ≤ 1 + rules_parts rules
rule_below [] rule e at = cc
rule_below (x ∷ rules) zero e at =
    let same : x ≡ e = cc in
    let size : parts x ≡ parts e = ap parts same in
    omega arith
rule_below (x ∷ rules) (suc rule) e at = let h = rule_below rules rule e at in omega arith

module _ (rules : List Term) (rule : ℕ) (e : Term) (at : slice_get rules rule ≡ Some e) where
  state_below : (state : ℕ) → IsStateOf rules rule e state → state < length (automaton rules)
  state_below state is =
      let high = is.1 in
      let all = states_of_parts rules in
      let below = rule_below rules rule e at in
      omega arith

  -- the number of a state of the rule, and one beyond all states that is so many times their count more
  rule_at-turn : (turn state : ℕ) → IsStateOf rules rule e state → rule_at rules (turn * length (automaton rules) + state) ≡ rule
  rule_at-turn turn state is =
      let low = is.0 in
      let high = is.1 in
      let some = rule_positive rules rule in
      ap (λ n. rule_among rules (n - 2)) (mod-mul-add turn (length (automaton rules)) state (state_below state is))
      ∙ rule_among-is rules rule e (state - 2) at (omega arith) (omega arith)

  rule_at-state : (state : ℕ) → IsStateOf rules rule e state → rule_at rules state ≡ rule
  rule_at-state state is =
      let none : 0 * length (automaton rules) + state ≡ state = omega arith in
      subst (λ n. rule_at rules n ≡ rule) none (rule_at-turn 0 state is)

  -- the number of a place in a part of the rule
  pub rule_at-number : (tnfa : Tnfa) → length (automaton rules) ≡ length tnfa.states → (part rest : ℕ) → IsPartOf rules rule e part
      → rule_at rules (place_number tnfa (2 * part) rest) ≡ rule
  rule_at-number tnfa count part rest is = by (is_finished tnfa.classes (state_of tnfa.states (2 * part)) rest) refl
    where
      by : (b : Bool) → is_finished tnfa.classes (state_of tnfa.states (2 * part)) rest ≡ b
          → rule_at rules (place_number tnfa (2 * part) rest) ≡ rule
      by true f =
          let low = is.0 in
          let high = is.1 in
          ap (rule_at rules) (finished_number tnfa (2 * part) rest f) ∙ rule_at-state (2 * part + 1) (omega arith, omega arith)
      by false f =
          let low = is.0 in
          let high = is.1 in
          ap (rule_at rules)
          (unfinished_number tnfa (2 * part) rest f ∙ ap (λ n. suc rest * n + 2 * part) (sym count))
          ∙ rule_at-turn (suc rest) (2 * part) (omega arith, omega arith)

kept_equal : (kept other : Kept) → kept.place ≡ other.place → kept.depth ≡ other.depth → kept.number ≡ other.number → kept ≡ other
kept_equal kept other a b c =
    ap (λ (p : Place). record { place = p; depth = kept.depth; number = kept.number }) a
    ∙ ap₂ (λ d n. record { place = other.place; depth = d; number = n }) b c

-- ---- places of the automaton of a rule list

module _ (enc : Enc) (patterns : List Pattern) (tnfa : Tnfa) (of : IsTnfaOf enc patterns tnfa) where
  count : length (automaton (terms_of patterns)) ≡ length tnfa.states
  count = held_length tnfa.classes (automaton (terms_of patterns)) tnfa.states of.states

  -- the rule of a place in a leaf
  record OwnerOf (place : Place) : Type 0 where
    index : ℕ
    pattern : Pattern
    here : slice_get (with_terms patterns) index ≡ Some pattern
    own : IsPartOf (terms_of patterns) index pattern.term place.part
    number : rule_at (terms_of patterns) (number_of tnfa place) ≡ index

  owner_of : (place : Place) → IsInLeaf tnfa place → OwnerOf place
  owner_of place is =
      let part : 2 * place.part < length tnfa.states = is.0.part in
      let some : 0 < place.part = is.1 in
      let lt : 2 * place.part < length (automaton (terms_of patterns)) = subst (λ n. 2 * place.part < n) (sym count) part in
      let rule = rule_of_state (terms_of patterns) (2 * place.part) (omega arith) lt in
      let found = pattern_at (with_terms patterns) rule.index rule.term rule.at in
      let half : 2 * place.part / 2 ≡ place.part = omega arith in
      let within : IsPartOf (terms_of patterns) rule.index rule.term place.part =
      subst (IsPartOf (terms_of patterns) rule.index rule.term) half rule.within in record {
        index = rule.index;
        pattern = found.0;
        here = found.1;
        own = subst (λ e. IsPartOf (terms_of patterns) rule.index e place.part) (sym found.2) within;
        number = rule_at-number (terms_of patterns) rule.index rule.term rule.at tnfa count place.part place.rest.0 within;
      }

  -- places whose numbers tell one rule have one owner
  pub one_owner : (place other : Place) → IsInLeaf tnfa place → IsInLeaf tnfa other
      → rule_at (terms_of patterns) (number_of tnfa place) ≡ rule_at (terms_of patterns) (number_of tnfa other)
      → slice_index tnfa.owners place.part ≡ slice_index tnfa.owners other.part
  one_owner place other is too same =
      let a = owner_of place is in
      let b = owner_of other too in
      let index : a.index ≡ b.index = sym a.number ∙ same ∙ b.number in
      let both : Some a.pattern ≡ Some b.pattern = sym a.here ∙ ap (slice_get (with_terms patterns)) index ∙ b.here in
      let pattern : a.pattern ≡ b.pattern = cc in
      owned place a ∙ ap (λ (x : Pattern). x.number) pattern ∙ sym (owned other b)
    where
      owned : (place : Place) (owner : OwnerOf place) → slice_index tnfa.owners place.part ≡ owner.pattern.number
      owned place owner =
          ap (λ l. slice_index l place.part) of.owners
          ∙ rule_owns patterns owner.index place.part owner.pattern owner.here owner.own

  -- kernels that keep the same are one
  same_kernels : (kernel other : List Kept) → map (rank_of tnfa (terms_of patterns)) kernel ≡ map (rank_of tnfa (terms_of patterns)) other
      → All (IsInLeaf tnfa) (places_in kernel) → All (IsInLeaf tnfa) (places_in other) → kernel ≡ other
  same_kernels [] [] e are too = refl
  same_kernels [] (y ∷ other) e are too = cc
  same_kernels (x ∷ kernel) [] e are too = cc
  same_kernels (x ∷ kernel) (y ∷ other) e are too =
      let head : rank_of tnfa (terms_of patterns) x ≡ rank_of tnfa (terms_of patterns) y = cc in
      let tail : map (rank_of tnfa (terms_of patterns)) kernel ≡ map (rank_of tnfa (terms_of patterns)) other = cc in
      let place : x.place ≡ y.place =
      number_of-apart enc patterns tnfa of x.place y.place (All-head (IsInLeaf tnfa) x.place (places_in kernel) are)
      (All-head (IsInLeaf tnfa) y.place (places_in other) too) (ap (λ (r : Ranked). r.place) head) in
      ap₂ (λ (k : Kept) ks. k ∷ ks)
      (kept_equal x y place (ap (λ (r : Ranked). r.depth) head) (ap (λ (r : Ranked). r.number) head))
      (same_kernels kernel other tail (All-tail (IsInLeaf tnfa) x.place (places_in kernel) are)
      (All-tail (IsInLeaf tnfa) y.place (places_in other) too))

  pub one_kernel_kept : (kernel other : List Kept) (ranks : List Ranked) → Keeps tnfa (terms_of patterns) false kernel ranks
      → Keeps tnfa (terms_of patterns) false other ranks → kernel ≡ other
  one_kernel_kept kernel other ranks keeps too = same_kernels kernel other (keeps.0 ∙ sym too.0) keeps.1 too.1

-- ---- what is kept after a word

module _ (enc : Enc) (patterns : List Pattern) (tnfa : Tnfa) (of : IsTnfaOf enc patterns tnfa)
    (fits : AllClassesFit enc (terms_of patterns)) where
  run_rule_at : (w : List ℕ) (ks : List Key) (F : List Symbol) (q : ℕ)
      → IsRunOf enc (terms_of patterns) (numbers_after tnfa) (symbols_added tnfa) (number_behind tnfa)
      (automaton_numbers enc patterns tnfa of fits) w ks F q → rule_of ks ≡ rule_at (terms_of patterns) q
  run_rule_at [] [] F q run = absurd run
  run_rule_at [] (k ∷ ks) F q run =
      let start = start_is (terms_of patterns) k.pick q run.2 in
      let some = some_parts start.0 in
      let twice = start.2 in
      ap (λ l. rule_of (k ∷ l)) run.0
      ∙ sym (rule_at-state (terms_of patterns) k.pick start.0 start.1 q (omega arith, omega arith))
  run_rule_at (u ∷ w) ks F q run =
      let H =
      run_in_leaf enc (terms_of patterns) (numbers_after tnfa) (symbols_added tnfa) (number_behind tnfa)
      (automaton_numbers enc patterns tnfa of fits) u w ks F q run in
      let is =
      run_cut enc (terms_of patterns) (numbers_after tnfa) (symbols_added tnfa) (number_behind tnfa)
      (automaton_numbers enc patterns tnfa of fits) u w ks F q run in
      let rule =
      run_rule enc (terms_of patterns) (numbers_after tnfa) (symbols_added tnfa) (number_behind tnfa)
      (automaton_numbers enc patterns tnfa of fits) (u ∷ w) ks F q run in
      let within =
      cut_within enc (terms_of patterns) (rule_of ks) rule.0 rule.1 (record { rule = rule_of ks; front = F }) is.possible.0 refl
      is.after_unit is.possible.1 in
      let place : q ≡ place_number tnfa (2 * last_part 0 F) (rest_left tnfa H.leaf H.tail) =
      H.place ∙ ap (λ leaf. place_number tnfa leaf (rest_left tnfa H.leaf H.tail)) H.part in
      sym
      (ap (rule_at (terms_of patterns)) place
      ∙ rule_at-number (terms_of patterns) (rule_of ks) rule.0 rule.1 tnfa (count enc patterns tnfa of) (last_part 0 F)
      (rest_left tnfa H.leaf H.tail) within)

  -- the rule of a place that is kept is the one that its number tells
  pub ranked-rule : (word : List ℕ) (index : ℕ) (ranked : Ranked) → IsNth (ranks_after tnfa (terms_of patterns) word) index ranked
      → ranked.rule ≡ rule_at (terms_of patterns) ranked.place
  ranked-rule word index ranked at =
      let are = ranked_after enc patterns tnfa of fits word in
      let e =
      entry_of_place enc (terms_of patterns) (numbers_after tnfa) (symbols_added tnfa) (number_behind tnfa)
      (automaton_numbers enc patterns tnfa of fits) (reverse word) (posix_kernel_after tnfa (terms_of patterns) word)
      (ranks_after tnfa (terms_of patterns) word) are index ranked at in
      ap (λ (r : Ranked). r.rule) (sym (ranked_is (ranks_after tnfa (terms_of patterns) word) index ranked at))
      ∙ are.rule index e.0 e.1
      ∙ run_rule_at (reverse word) e.0.keys e.0.front e.0.place (are.run index e.0 e.1)
      ∙ ap (rule_at (terms_of patterns)) (sym e.2)
