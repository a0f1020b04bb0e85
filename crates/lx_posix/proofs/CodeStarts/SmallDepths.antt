-- Depths are less than there are states.
use Rattle.std.proofs.Common.{ap, arith, length}
use Rattle.std.proofs.lemmas.Bool.{ltb-true}
use Rattle.std.proofs.lemmas.List.{length-append}
use Rattle.std.specs.Prelude.{◌≡◌, ℕ, zero, suc, ◌+◌, ◌-◌, ◌*◌, ◌%◌, ◌<◌, ◌≤◌, List, [], ◌∷◌, reverse, Bool, true, false, nat_eq, nat_lt, if◌then◌else◌, refl}
use Rattle.lx_base.specs.declared.settings.Enc.{Enc}
use Rattle.lx_regex.specs.Automaton.{automaton, final, rules_table, table}
use Rattle.lx_regex.specs.ClassLimits.{AllClassesFit}
use Rattle.lx_regex.specs.Cut.{last_part}
use Rattle.lx_regex.specs.Pattern.{Pattern, terms_of}
use Rattle.lx_regex.specs.Script.{Symbol}
use Rattle.lx_regex.specs.Term.{Term, Terms, alt, any_unit, cat, class, cons, copies, empty, group, nil, parts, parts_of_all, repeat, tag}
use Rattle.lx_regex.proofs.PartTables.Rows.{table_length}
use Rattle.lx_tnfa.specs.LeafReadings.{IsNth, NumbersLeaves}
use Rattle.lx_tnfa.specs.PlaceNumbers.{number_behind, numbers_after, symbols_added}
use Rattle.lx_tnfa.specs.Tnfa.{IsTnfaOf, Tnfa}
use Rattle.lx_tnfa.proofs.Leaves.LeafNumbering.{automaton_numbers}
use Rattle.lx_tdfa.specs.Kernels.{Entry, Key}
use Rattle.lx_tdfa.proofs.Rules.StateOrder.{some_parts}
use Rattle.lx_tdfa.proofs.WordKernels.RunCuts.{IsRunOf}
use Rattle.lx_posix.specs.Comparing.{Ranked}
use Rattle.lx_posix.specs.KernelLists.{posix_kernel_after, ranks_after}
use Rattle.lx_posix.specs.LevelPaths.{depth_among, depth_in, depth_of_rules, state_depth}
use Rattle.lx_posix.specs.LevelSearch.{depth_among_places, place_depth}
use Rattle.lx_posix.specs.Walks.{depth}
use Rattle.lx_posix.proofs.Lists.ProgramLists.{ranked_after}
use Rattle.lx_posix.proofs.Lists.RankedCuts.{AreRanked}
use Rattle.lx_posix.proofs.OneSearch.ProgramSearch.{entry_of_place}
use Rattle.lx_posix.proofs.Searches.PlaceDepths.{leaf_depth}

-- of two, of which one is taken by a test
pub either : (b : Bool) (P : ℕ → Type 0) (x y : ℕ) → (b ≡ true → P x) → (b ≡ false → P y) → P (if b then x else y)
either true P x y f g = f refl
either false P x y f g = g refl

-- a state of a copy of a body: there is a copy
some_copy : (n p s : ℕ) → suc (suc s) < 2 * (1 + n * p) → p ≤ n * p
some_copy zero p s lt = absurd (omega arith)
some_copy (suc n) p s lt = omega arith

mutual
  small_in : (e : Term) (d s : ℕ) → s < 2 * parts e → depth_in e d s ≤ d + parts e
  small_in e d zero lt = let some = some_parts e in omega arith
  small_in e d (suc zero) lt = omega arith
  small_in empty d (suc (suc s)) lt = omega arith
  small_in (class ranges) d (suc (suc s)) lt = omega arith
  small_in any_unit d (suc (suc s)) lt = omega arith
  small_in (cat members) d (suc (suc s)) lt = let h = small_among members (suc d) s in omega arith
  small_in (alt members) d (suc (suc s)) lt = let h = small_among members (suc d) s in omega arith
  small_in (repeat body low high) d (suc (suc s)) lt =
      let some = some_parts body in
      let one = some_copy (copies low high) (parts body) s lt in
      let h = small_in body (suc d) (s % (2 * parts body)) (omega arith) in
      omega arith
  small_in (tag number) d (suc (suc s)) lt = omega arith
  small_in (group opening closing body) d (suc (suc s)) lt = let h = small_in body (suc d) s (omega arith) in omega arith

  small_among : (ms : Terms) (d s : ℕ) → depth_among ms d s ≤ d + parts_of_all ms
  small_among nil d s = omega arith
  small_among (cons e ms) d s =
      either (nat_lt s (2 * parts e)) (λ n. n ≤ d + parts_of_all (cons e ms)) (depth_in e d s) (depth_among ms d (s - 2 * parts e))
      (λ t. let h = small_in e d s (ltb-true s (2 * parts e) t) in omega arith)
      (λ f. let h = small_among ms d (s - 2 * parts e) in omega arith)

-- so many parts have all rules together
abbrev pub rules_parts : List Term → ℕ
rules_parts [] = 0
rules_parts (e ∷ rules) = parts e + rules_parts rules

rules_length : (rules : List Term) (p : ℕ) → length (rules_table rules p) ≡ 2 * rules_parts rules
rules_length [] p = refl
rules_length (e ∷ rules) p =
    omega (arith, length-append (table e p final) (rules_table rules (p + parts e)), table_length e p final, rules_length rules (p + parts e))

small_of_rules : (rules : List Term) (s : ℕ) → depth_of_rules rules s ≤ rules_parts rules
small_of_rules [] s = omega arith
small_of_rules (e ∷ rules) s =
    either (nat_lt s (2 * parts e)) (λ n. n ≤ rules_parts (e ∷ rules)) (depth_in e 0 s) (depth_of_rules rules (s - 2 * parts e))
    (λ t. let h = small_in e 0 s (ltb-true s (2 * parts e) t) in omega arith)
    (λ f. let h = small_of_rules rules (s - 2 * parts e) in omega arith)

-- the automaton has two states for each part
pub states_of_parts : (rules : List Term) → length (automaton rules) ≡ 2 * (1 + rules_parts rules)
states_of_parts rules = let n = rules_length rules 1 in omega arith

pub state_depth_small : (rules : List Term) (state : ℕ) → 2 * state_depth rules state ≤ length (automaton rules)
state_depth_small rules zero = let n = states_of_parts rules in omega arith
state_depth_small rules (suc zero) = let n = states_of_parts rules in omega arith
state_depth_small rules (suc (suc state)) =
    let n = states_of_parts rules in
    let h = small_of_rules rules state in
    omega arith

-- the depth of a place is one of these
among_small : (ss : List Ranked) (n : ℕ) → ((i : ℕ) (r : Ranked) → IsNth ss i r → 2 * r.depth ≤ n) → (place : ℕ)
    → 2 * depth_among_places ss place ≤ n
among_small [] n f place = omega arith
among_small (s ∷ ss) n f place =
    either (nat_eq s.place place) (λ d. 2 * d ≤ n) s.depth (depth_among_places ss place) (λ t. f 0 s refl)
    (λ t. among_small ss n (λ i r at. f (suc i) r at) place)

module _ (enc : Enc) (rules : List Term) (next : ℕ → ℕ → List ℕ) (added : ℕ → ℕ → ℕ → List Symbol) (number : ℕ → List Symbol → ℕ)
    (numbers : NumbersLeaves enc rules next added number) where
  small_front : (w : List ℕ) (ks : List Key) (F : List Symbol) (q : ℕ) → IsRunOf enc rules next added number numbers w ks F q
      → 2 * depth 0 F ≤ length (automaton rules)
  small_front [] [] F q r = absurd r
  small_front [] (k ∷ ks) F q r = let e : depth 0 F ≡ 0 = ap (λ l. depth 0 l) r.3 in omega arith
  small_front (u ∷ w) ks F q r =
      let e = leaf_depth enc rules next added number numbers w u ks F q r in
      let h = state_depth_small rules (2 * last_part 0 F) in
      omega arith

  pub kept_depth_small : (w : List ℕ) (es : List Entry) (ss : List Ranked) → AreRanked enc rules next added number numbers w es ss
      → (i : ℕ) (r : Ranked) → IsNth ss i r → 2 * r.depth ≤ length (automaton rules)
  kept_depth_small w es ss are i r at =
      let e = entry_of_place enc rules next added number numbers w es ss are i r at in
      let h = small_front w e.0.keys e.0.front e.0.place (are.run i e.0 e.1) in
      let d = e.3 in
      omega arith

module _ (enc : Enc) (patterns : List Pattern) (tnfa : Tnfa) (of : IsTnfaOf enc patterns tnfa)
    (fits : AllClassesFit enc (terms_of patterns)) (word : List ℕ) where
  pub rank_depth_small : (index : ℕ) (ranked : Ranked) → IsNth (ranks_after tnfa (terms_of patterns) word) index ranked
      → 2 * ranked.depth ≤ length (automaton (terms_of patterns))
  rank_depth_small index ranked at =
      kept_depth_small enc (terms_of patterns) (numbers_after tnfa) (symbols_added tnfa) (number_behind tnfa)
      (automaton_numbers enc patterns tnfa of fits)
      (reverse word) (posix_kernel_after tnfa (terms_of patterns) word) (ranks_after tnfa (terms_of patterns) word)
      (ranked_after enc patterns tnfa of fits word) index ranked at

  pub place_depth_small : (place : ℕ)
      → 2 * place_depth (terms_of patterns) (ranks_after tnfa (terms_of patterns) word) place ≤ length (automaton (terms_of patterns))
  place_depth_small place =
      either (nat_lt place (length (automaton (terms_of patterns)))) (λ d. 2 * d ≤ length (automaton (terms_of patterns)))
      (state_depth (terms_of patterns) place) (depth_among_places (ranks_after tnfa (terms_of patterns) word) place)
      (λ t. state_depth_small (terms_of patterns) place)
      (λ f. among_small (ranks_after tnfa (terms_of patterns) word) (length (automaton (terms_of patterns))) rank_depth_small place)

  -- so as many levels as there are states are enough
  pub place_depth_less : (place : ℕ)
      → place_depth (terms_of patterns) (ranks_after tnfa (terms_of patterns) word) place < length (automaton (terms_of patterns))
  place_depth_less place =
      let h = place_depth_small place in
      let n = states_of_parts (terms_of patterns) in
      omega arith
