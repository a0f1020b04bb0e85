-- A place at which a state stands is behind a finished leaf, or the beginning of a rule.
use Rattle.std.proofs.Common.{sym, ap, ◌∙◌, subst, arith, length}
use Rattle.std.proofs.lemmas.Bool.{ltb-false, ltb-true}
use Rattle.std.proofs.lemmas.List.{length-reverse}
use Rattle.std.proofs.lemmas.Nat.{mod-mul-add}
use Rattle.std.specs.Prelude.{◌≡◌, ℕ, zero, suc, ◌+◌, ◌-◌, ◌*◌, ◌/◌, ◌%◌, ◌<◌, List, [], ◌∷◌, reverse, nat_lt, refl}
use Rattle.lx_base.specs.declared.settings.Enc.{Enc}
use Rattle.lx_regex.specs.Automaton.{automaton}
use Rattle.lx_regex.specs.ClassLimits.{AllClassesFit}
use Rattle.lx_regex.specs.Cut.{last_part, rule_part}
use Rattle.lx_regex.specs.Pattern.{Pattern, terms_of}
use Rattle.lx_regex.specs.Script.{Symbol}
use Rattle.lx_regex.specs.Term.{Term, Terms, alt, any_unit, cat, class, cons, empty, group, nil, parts, parts_of_all, repeat, tag}
use Rattle.lx_regex.specs.Walk.{mark}
use Rattle.lx_regex.proofs.PartTables.Rows.{mark_begins, mark_ends}
use Rattle.lx_tnfa.specs.LeafReadings.{IsNth, NumbersLeaves}
use Rattle.lx_tnfa.specs.PlaceNumbers.{number_behind, numbers_after, symbols_added}
use Rattle.lx_tnfa.specs.Tnfa.{IsTnfaOf, Tnfa}
use Rattle.lx_tnfa.proofs.Leaves.LeafNumbering.{automaton_numbers}
use Rattle.lx_tdfa.specs.Kernels.{Entry, Key}
use Rattle.lx_tdfa.proofs.Rules.StateOrder.{some_parts}
use Rattle.lx_tdfa.proofs.Walks.PlacesRead.{start_is}
use Rattle.lx_tdfa.proofs.WordKernels.RunCuts.{IsRunOf, finished_at_state, run_in_leaf}
use Rattle.lx_posix.specs.Comparing.{Ranked}
use Rattle.lx_posix.specs.KernelLists.{posix_kernel_after, ranks_after}
use Rattle.lx_posix.specs.KeptPlaces.{IsLeafEnd, IsRuleBeginning}
use Rattle.lx_posix.specs.LevelPaths.{depth_among, depth_in, depth_of_rules, state_depth}
use Rattle.lx_posix.specs.LevelSearch.{ArePlaceDepths}
use Rattle.lx_posix.specs.Walks.{depth}
use Rattle.lx_posix.proofs.CodeStarts.SmallDepths.{either, rules_parts, states_of_parts}
use Rattle.lx_posix.proofs.Lists.ProgramLists.{ranked_after}
use Rattle.lx_posix.proofs.Lists.RankedCuts.{AreRanked}
use Rattle.lx_posix.proofs.OneSearch.ProgramSearch.{entry_of_place}
use Rattle.lx_posix.proofs.Searches.PlaceDepths.{leaf_depth}

-- behind a beginning some part is open
even_more : (e : Term) (d k : ℕ) → 0 < depth_in e d (suc (suc (2 * k))) → 0 < depth_in e d (2 * suc k)
even_more e d k h = let z : suc (suc (2 * k)) ≡ 2 * suc k = omega arith in subst (λ n. 0 < depth_in e d n) z h

mutual
  some_in : (e : Term) (d k : ℕ) → k < parts e → 0 < depth_in e d (2 * k)
  some_in e d zero lt = omega arith
  some_in empty d (suc k) lt = absurd (omega arith)
  some_in (class ranges) d (suc k) lt = absurd (omega arith)
  some_in any_unit d (suc k) lt = absurd (omega arith)
  some_in (cat members) d (suc k) lt = even_more (cat members) d k (some_among members (suc d) k (omega arith))
  some_in (alt members) d (suc k) lt = even_more (alt members) d k (some_among members (suc d) k (omega arith))
  some_in (repeat body low high) d (suc k) lt =
      let some = some_parts body in
      let whole : 2 * k ≡ k / parts body * (2 * parts body) + 2 * (k % parts body) = omega arith in
      let left : 2 * k % (2 * parts body) ≡ 2 * (k % parts body) =
      ap (λ x. x % (2 * parts body)) whole ∙ mod-mul-add (k / parts body) (2 * parts body) (2 * (k % parts body)) (omega arith) in
      even_more (repeat body low high) d k
      (subst (λ n. 0 < depth_in body (suc d) n) (sym left) (some_in body (suc d) (k % parts body) (omega arith)))
  some_in (tag number) d (suc k) lt = absurd (omega arith)
  some_in (group opening closing body) d (suc k) lt =
      even_more (group opening closing body) d k (some_in body (suc d) k (omega arith))

  some_among : (ms : Terms) (d k : ℕ) → k < parts_of_all ms → 0 < depth_among ms d (2 * k)
  some_among nil d k lt = absurd (omega arith)
  some_among (cons e ms) d k lt =
      either (nat_lt (2 * k) (2 * parts e)) (λ n. 0 < n) (depth_in e d (2 * k)) (depth_among ms d (2 * k - 2 * parts e))
      (λ t. let h = ltb-true (2 * k) (2 * parts e) t in some_in e d k (omega arith))
      (λ f.
      let h = ltb-false (2 * k) (2 * parts e) f in
      let z : 2 * (k - parts e) ≡ 2 * k - 2 * parts e = omega arith in
      subst (λ n. 0 < depth_among ms d n) z (some_among ms d (k - parts e) (omega arith)))

some_of_rules : (rules : List Term) (k : ℕ) → k < rules_parts rules → 0 < depth_of_rules rules (2 * k)
some_of_rules [] k lt = absurd (omega arith)
some_of_rules (e ∷ rules) k lt =
    either (nat_lt (2 * k) (2 * parts e)) (λ n. 0 < n) (depth_in e 0 (2 * k)) (depth_of_rules rules (2 * k - 2 * parts e))
    (λ t. let h = ltb-true (2 * k) (2 * parts e) t in some_in e 0 k (omega arith))
    (λ f.
    let h = ltb-false (2 * k) (2 * parts e) f in
    let z : 2 * (k - parts e) ≡ 2 * k - 2 * parts e = omega arith in
    subst (λ n. 0 < depth_of_rules rules n) z (some_of_rules rules (k - parts e) (omega arith)))

pub some_at_begin : (rules : List Term) (k : ℕ) → 2 * k < length (automaton rules) → 0 < state_depth rules (2 * k)
some_at_begin rules zero lt = omega arith
some_at_begin rules (suc k) lt =
    let n = states_of_parts rules in
    let z : suc (suc (2 * k)) ≡ 2 * suc k = omega arith in
    subst (λ n. 0 < state_depth rules n) z (some_of_rules rules k (omega arith))

module _ (enc : Enc) (rules : List Term) (next : ℕ → ℕ → List ℕ) (added : ℕ → ℕ → ℕ → List Symbol) (number : ℕ → List Symbol → ℕ)
    (numbers : NumbersLeaves enc rules next added number) where
  abbrev Run : List ℕ → List Key → List Symbol → ℕ → Type 0
  Run w ks F q = IsRunOf enc rules next added number numbers w ks F q

  -- behind a finished leaf
  finished : (u : ℕ) (w : List ℕ) (ks : List Key) (F : List Symbol) (q : ℕ) → Run (u ∷ w) ks F q → q < length (automaton rules)
      → (q ≡ 2 * last_part 0 F + 1) × (0 < depth 0 F)
  finished u w ks F q r lt =
      let H = run_in_leaf enc rules next added number numbers u w ks F q r in
      let z =
      finished_at_state enc rules next added number numbers H.leaf H.tail H.left H.rest H.begun
      (subst (λ n. n < length (automaton rules)) H.place lt) in
      let at : q ≡ 2 * last_part 0 F + 1 = H.place ∙ numbers.full H.leaf H.tail z H.begun ∙ ap (λ n. n + 1) H.part in
      let some = some_at_begin rules (last_part 0 F) (omega arith) in
      (at, subst (λ n. 0 < n) (leaf_depth enc rules next added number numbers w u ks F q r) some)

  module _ (es : List Entry) (ss : List Ranked) (deep : ℕ → ℕ) (depths : ArePlaceDepths (automaton rules) ss deep) where
    pub closed_behind : (u : ℕ) (w : List ℕ) → AreRanked enc rules next added number numbers (u ∷ w) es ss → (i : ℕ) (r : Ranked)
        → IsNth ss i r → r.place < length (automaton rules) → IsLeafEnd r (deep r.place)
    closed_behind u w are i r at lt =
        let e = entry_of_place enc rules next added number numbers (u ∷ w) es ss are i r at in
        let f =
        finished u w e.0.keys e.0.front e.0.place (are.run i e.0 e.1) (subst (λ q. q < length (automaton rules)) e.2 lt) in
        let part = last_part 0 e.0.front in
        let place : r.place ≡ 2 * last_part 0 e.0.front + 1 = e.2 ∙ f.0 in
        let closes : deep r.place ≡ r.depth - 1 =
        (depths i r at).0 lt ∙ ap (λ q. depth r.depth (mark q ∷ [])) place
        ∙ ap (λ s. depth r.depth (s ∷ [])) (mark_ends (last_part 0 e.0.front)) in
        let some = f.1 in
        let same = e.3 in
        record { leaf = last_part 0 e.0.front; place = place; closes = omega arith }

    pub begins_first : AreRanked enc rules next added number numbers [] es ss → (i : ℕ) (r : Ranked)
        → IsNth ss i r → r.place < length (automaton rules) → IsRuleBeginning rules r (deep r.place)
    begins_first are i r at lt =
        let e = entry_of_place enc rules next added number numbers [] es ss are i r at in
        go e.0.keys e.0.front e.0.place (are.run i e.0 e.1) e.2 e.3
      where
        go : (ks : List Key) (F : List Symbol) (q : ℕ) → Run [] ks F q → r.place ≡ q → r.depth ≡ depth 0 F → IsRuleBeginning rules r (deep r.place)
        go [] F q run same d = absurd run
        go (k ∷ ks) F q run same d =
            let s = start_is rules k.pick q run.2 in
            let place : r.place ≡ 2 * rule_part rules k.pick = same ∙ s.2 in
            let none : r.depth ≡ 0 = d ∙ ap (λ l. depth 0 l) run.3 in
            record {
              rule = k.pick;
              term = s.0;
              of_rule = s.1;
              place = place;
              none_open = none;
              one_deep =
                  (depths i r at).0 lt ∙ ap (λ n. depth n (mark r.place ∷ [])) none ∙ ap (λ q. depth 0 (mark q ∷ [])) place
                  ∙ ap (λ s. depth 0 (s ∷ [])) (mark_begins (rule_part rules k.pick));
            }

module _ (enc : Enc) (patterns : List Pattern) (tnfa : Tnfa) (of : IsTnfaOf enc patterns tnfa)
    (fits : AllClassesFit enc (terms_of patterns)) where
  -- After a word that is not empty a place at which a state stands is behind the end of a leaf, which it closes.
  pub place_closes : (word : List ℕ) (deep : ℕ → ℕ) → (word ≡ [] → ⊥)
      → ArePlaceDepths (automaton (terms_of patterns)) (ranks_after tnfa (terms_of patterns) word) deep → (index : ℕ) (ranked : Ranked)
      → IsNth (ranks_after tnfa (terms_of patterns) word) index ranked → ranked.place < length (automaton (terms_of patterns))
      → IsLeafEnd ranked (deep ranked.place)
  place_closes word deep some depths index ranked at lt = go (reverse word) refl
    where
      go : (w : List ℕ) → reverse word ≡ w → IsLeafEnd ranked (deep ranked.place)
      go [] e = absurd (some (no_length word (sym (length-reverse word) ∙ ap length e)))
        where
          no_length : (l : List ℕ) → length l ≡ 0 → l ≡ []
          no_length [] e = refl
          no_length (x ∷ l) e = absurd (omega arith)
      go (u ∷ w) e =
          closed_behind enc (terms_of patterns) (numbers_after tnfa) (symbols_added tnfa) (number_behind tnfa)
          (automaton_numbers enc patterns tnfa of fits) (posix_kernel_after tnfa (terms_of patterns) word)
          (ranks_after tnfa (terms_of patterns) word) deep depths u w
          (subst (λ l. AreRanked enc (terms_of patterns) (numbers_after tnfa) (symbols_added tnfa) (number_behind tnfa)
          (automaton_numbers enc patterns tnfa of fits) l (posix_kernel_after tnfa (terms_of patterns) word)
          (ranks_after tnfa (terms_of patterns) word)) e (ranked_after enc patterns tnfa of fits word)) index ranked at lt

  -- After the empty word each place is the beginning of a rule.
  pub place_begins : (deep : ℕ → ℕ) → ArePlaceDepths (automaton (terms_of patterns)) (ranks_after tnfa (terms_of patterns) []) deep
      → (index : ℕ) (ranked : Ranked)
      → IsNth (ranks_after tnfa (terms_of patterns) []) index ranked → ranked.place < length (automaton (terms_of patterns))
      → IsRuleBeginning (terms_of patterns) ranked (deep ranked.place)
  place_begins deep depths index ranked at lt =
      begins_first enc (terms_of patterns) (numbers_after tnfa) (symbols_added tnfa) (number_behind tnfa)
      (automaton_numbers enc patterns tnfa of fits) (posix_kernel_after tnfa (terms_of patterns) [])
      (ranks_after tnfa (terms_of patterns) []) deep depths (ranked_after enc patterns tnfa of fits []) index ranked at lt
