-- Where the code begins the walks of a kernel is at the places that are kept.
use Rattle.std.proofs.Common.{◌≡◌, ℕ, zero, suc, ◌+◌, ◌-◌, ◌*◌, ◌<◌, ◌≤◌, ◌^◌, arith, Bool, true, false, if◌then◌else◌, List, [], ◌∷◌, length, map, refl, sym, ap, ◌∙◌, subst}
use Rattle.std.proofs.lemmas.List.{length-map}
use Rattle.std.proofs.Math.Nat.{suc-mul}
use Rattle.std.specs.Prelude.{All}
use Rattle.lx_base.specs.declared.settings.Enc.{Enc}
use Rattle.lx_regex.specs.Automaton.{automaton}
use Rattle.lx_regex.specs.ClassLimits.{AllClassesFit}
use Rattle.lx_regex.specs.Pattern.{Pattern, terms_of}
use Rattle.lx_regex.specs.Term.{Term, parts}
use Rattle.lx_tnfa.specs.LeafReadings.{IsNth}
use Rattle.lx_tnfa.specs.PlaceNumbers.{is_finished, place_number}
use Rattle.lx_tnfa.specs.Tnfa.{IsTnfaOf, Tnfa, state_at}
use Rattle.lx_tnfa.proofs.Construction.WholeTable.{held_length}
use Rattle.lx_tnfa.proofs.Searching.SearchBasics.{Each}
use Rattle.lx_tnfa.proofs.Searching.SearchPaths.{Each-from_all}
use Rattle.lx_tdfa.specs.Graph.{rule_starts, starts_behind}
use Rattle.lx_tdfa.specs.Steps.{IsInLeaf}
use Rattle.lx_tdfa.proofs.Rules.StateOrder.{some_parts}
use Rattle.lx_tdfa.proofs.Rules.WithinStates.{rules_begin_within}
use Rattle.lx_tdfa.proofs.Walks.Searches.{automaton_holds}
use Rattle.lx_tdfa.proofs.Walks.StopPlaces.{begins_are}
use Rattle.lx_posix.specs.Beginnings.{AreBeginnings, IsBeginning}
use Rattle.lx_posix.specs.Comparing.{Ranked}
use Rattle.lx_posix.specs.KeptKernels.{IsAfter, places_in, rank_of}
use Rattle.lx_posix.specs.KernelLists.{first_ranks, ranks_after}
use Rattle.lx_posix.specs.LevelSearch.{ArePlaceDepths}
use Rattle.lx_posix.specs.Reaching.{beginning_of, beginnings_of}
use Rattle.lx_posix.specs.declared.kept.Kept.{Kept}
use Rattle.lx_posix.specs.declared.points.Beginning.{Beginning}
use Rattle.lx_posix.specs.declared.points.Point.TheVariants.{State, Within}
use Rattle.lx_posix.proofs.CodeStarts.ClosedPlaces.{place_begins, place_closes}
use Rattle.lx_posix.proofs.CodeStarts.SmallDepths.{rules_parts, states_of_parts}

-- beginnings are of places one by one
are-nth : (tnfa : Tnfa) (deep : ℕ → ℕ) (beginnings : List Beginning) (ranks : List Ranked) → length beginnings ≡ length ranks
    → ((index : ℕ) (beginning : Beginning) (ranked : Ranked) → IsNth beginnings index beginning → IsNth ranks index ranked
    → IsBeginning tnfa deep beginning ranked)
    → AreBeginnings tnfa deep beginnings ranks
are-nth tnfa deep [] [] same each = tt
are-nth tnfa deep [] (ranked ∷ ranks) same each = absurd (omega arith)
are-nth tnfa deep (beginning ∷ beginnings) [] same each = absurd (omega arith)
are-nth tnfa deep (beginning ∷ beginnings) (ranked ∷ ranks) same each = (
  each 0 beginning ranked refl refl,
  are-nth tnfa deep beginnings ranks (omega arith) (λ index b r. each (suc index) b r),
)

-- the first ones
nth-first : (rule : ℕ) (starts : List ℕ) (index : ℕ) (ranked : Ranked) → IsNth (first_ranks rule starts) index ranked
    → IsNth starts index ranked.place × (ranked.depth ≡ 0) × (ranked.number ≡ 0)
nth-first rule [] index ranked nth = absurd nth
nth-first rule (start ∷ starts) zero ranked nth =
    (ap (λ (r : Ranked). r.place) nth, ap (λ (r : Ranked). r.depth) (sym nth), ap (λ (r : Ranked). r.number) (sym nth))
nth-first rule (start ∷ starts) (suc index) ranked nth = nth-first (suc rule) starts index ranked nth

length-first : (rule : ℕ) (starts : List ℕ) → length (first_ranks rule starts) ≡ length starts
length-first rule [] = refl
length-first rule (start ∷ starts) = ap suc (length-first (suc rule) starts)

nth-map : {A B : Type 0} (f : A → B) (xs : List A) (index : ℕ) (y : B) → IsNth (map f xs) index y → (x : A) × IsNth xs index x × (f x ≡ y)
nth-map f [] index y nth = absurd nth
nth-map f (x ∷ xs) zero y nth = (x, refl, nth)
nth-map f (x ∷ xs) (suc index) y nth = nth-map f xs index y nth

nth-one : {A : Type 0} (xs : List A) (index : ℕ) (x y : A) → IsNth xs index x → IsNth xs index y → x ≡ y
nth-one [] index x y one two = absurd one
nth-one (z ∷ xs) zero x y one two = sym one ∙ two
nth-one (z ∷ xs) (suc index) x y one two = nth-one xs index x y one two

each-nth : {A : Type 0} (P : A → Type 0) (xs : List A) (index : ℕ) (x : A) → Each P xs → IsNth xs index x → P x
each-nth P [] index x each nth = absurd nth
each-nth P (y ∷ xs) zero x each nth = subst P nth each.0
each-nth P (y ∷ xs) (suc index) x each nth = each-nth P xs index x each.1 nth

map-nth : {A B : Type 0} (f : A → B) (xs : List A) (index : ℕ) (x : A) → IsNth xs index x → IsNth (map f xs) index (f x)
map-nth f [] index x nth = absurd nth
map-nth f (y ∷ xs) zero x nth = ap f nth
map-nth f (y ∷ xs) (suc index) x nth = map-nth f xs index x nth

-- a rule has some parts
rules-few : (before : ℕ) (rules : List Term) → length (starts_behind before rules) ≤ rules_parts rules
rules-few before [] = omega arith
rules-few before (e ∷ rules) = let rest = rules-few (before + parts e) rules in let some = some_parts e in omega (arith, rest, some)

module _ (enc : Enc) (patterns : List Pattern) (tnfa : Tnfa) (of : IsTnfaOf enc patterns tnfa) (fits : AllClassesFit enc (terms_of patterns))
    (deep : ℕ → ℕ) (word : List ℕ) (placed : ArePlaceDepths (automaton (terms_of patterns)) (ranks_after tnfa (terms_of patterns) word) deep) where
  abbrev rules : List Term
  rules = terms_of patterns

  count : length tnfa.states ≡ length (automaton (terms_of patterns))
  count = held_length tnfa.classes (automaton (terms_of patterns)) tnfa.states of.states

  -- ---- from the rules

  begins : tnfa.begins ≡ rule_starts (terms_of patterns)
  begins = of.begins ∙ begins_are tnfa (terms_of patterns) (automaton_holds enc patterns tnfa of fits) 0 1 (terms_of patterns) refl

  first-beginning : (ranks : List Ranked) → ranks ≡ ranks_after tnfa (terms_of patterns) word → word ≡ [] → ranks ≡ first_ranks 0 (rule_starts (terms_of patterns))
      → (index : ℕ) (beginning : Beginning) (ranked : Ranked)
      → IsNth (map {A = ℕ} {B = Beginning} (λ begin. record { at = State begin; depth = 1; «open» = 0; number = 0 }) tnfa.begins) index beginning
      → IsNth ranks index ranked → IsBeginning tnfa deep beginning ranked
  first-beginning ranks is none first index beginning ranked nth at =
      let from = nth-map {A = ℕ} {B = Beginning} (λ begin. record { at = State begin; depth = 1; «open» = 0; number = 0 }) tnfa.begins index beginning nth in
      let of_rule = nth-first 0 (rule_starts rules) index ranked (subst (λ l. IsNth l index ranked) first at) in
      let here : IsNth (rule_starts rules) index from.0 = subst (λ l. IsNth l index from.0) begins from.1 in
      let same : from.0 ≡ ranked.place = nth-one (rule_starts rules) index from.0 ranked.place here of_rule.0 in
      let within : ranked.place < length (automaton rules) = rules_begin_within rules index ranked.place of_rule.0 in
      let stands =
      place_begins enc patterns tnfa of fits deep
      (subst (λ w. ArePlaceDepths (automaton rules) (ranks_after tnfa rules w) deep) none placed) index ranked
      (subst (λ w. IsNth (ranks_after tnfa rules w) index ranked) none (subst (λ l. IsNth l index ranked) is at)) within in
      subst (λ b. IsBeginning tnfa deep b ranked) from.2
      (record {
        point = omega (arith, same, within, count);
        place = same;
        depth = sym stands.one_deep;
        «open» = sym of_rule.1;
        number = sym of_rule.2;
      })

  -- ---- from places in leaves

  -- at the end of a leaf, or within it
  kept-beginning : (kept : Kept) (index : ℕ) → (word ≡ [] → ⊥) → IsInLeaf tnfa kept.place
      → IsNth (ranks_after tnfa (terms_of patterns) word) index (rank_of tnfa (terms_of patterns) kept)
      → IsBeginning tnfa deep (beginning_of tnfa kept) (rank_of tnfa (terms_of patterns) kept)
  kept-beginning kept index later leaf at = by (is_finished tnfa.classes (state_at tnfa kept.place) kept.place.rest.0) refl
    where
      even : length (automaton rules) ≡ 2 * (1 + rules_parts rules)
      even = states_of_parts rules

      below : 2 * kept.place.part + 1 < length (automaton rules)
      below = let part = leaf.0.part in omega (arith, part, count, even)

      finished : Beginning
      finished = record { at = State (2 * kept.place.part + 1); depth = kept.depth - 1; «open» = kept.depth; number = kept.number }

      within : Beginning
      within = record { at = Within kept.place; depth = kept.depth; «open» = kept.depth; number = kept.number }

      by : (b : Bool) → is_finished tnfa.classes (state_at tnfa kept.place) kept.place.rest.0 ≡ b
          → IsBeginning tnfa deep (if b then finished else within) (rank_of tnfa rules kept)
      by true is =
          let number : place_number tnfa (2 * kept.place.part) kept.place.rest.0 ≡ 2 * kept.place.part + 1 =
          ap (λ b. if b then 2 * kept.place.part + 1 else suc kept.place.rest.0 * length tnfa.states + 2 * kept.place.part) is in
          let end =
          place_closes enc patterns tnfa of fits word deep later placed index (rank_of tnfa rules kept) at
          (omega (arith, number, below)) in
          let closes : deep (place_number tnfa (2 * kept.place.part) kept.place.rest.0) + 1 ≡ kept.depth = end.closes in
          record { point = omega (arith, below, count); place = sym number; depth = omega (arith, closes); «open» = refl; number = refl }
      by false is =
          let number : place_number tnfa (2 * kept.place.part) kept.place.rest.0
          ≡ suc kept.place.rest.0 * length tnfa.states + 2 * kept.place.part =
          ap (λ b. if b then 2 * kept.place.part + 1 else suc kept.place.rest.0 * length tnfa.states + 2 * kept.place.part) is in
          let beyond : length (automaton rules) ≤ place_number tnfa (2 * kept.place.part) kept.place.rest.0 =
          omega (arith, number, count, suc-mul kept.place.rest.0 (length tnfa.states)) in
          record {
            point = leaf.0.part;
            place = sym number;
            depth = sym ((placed index (rank_of tnfa rules kept) at).1 beyond);
            «open» = refl;
            number = refl;
          }

  later-beginning : (kernel : List Kept) → (word ≡ [] → ⊥) → map (rank_of tnfa (terms_of patterns)) kernel ≡ ranks_after tnfa (terms_of patterns) word
      → All (IsInLeaf tnfa) (places_in kernel) → (index : ℕ) (beginning : Beginning) (ranked : Ranked)
      → IsNth (map (beginning_of tnfa) kernel) index beginning → IsNth (ranks_after tnfa (terms_of patterns) word) index ranked
      → IsBeginning tnfa deep beginning ranked
  later-beginning kernel later keeps leaves index beginning ranked nth at =
      let from = nth-map (beginning_of tnfa) kernel index beginning nth in
      let stands : IsNth (ranks_after tnfa rules word) index (rank_of tnfa rules from.0) =
      subst (λ l. IsNth l index (rank_of tnfa rules from.0)) keeps (map-nth (rank_of tnfa rules) kernel index from.0 from.1) in
      let leaf : IsInLeaf tnfa from.0.place =
      each-nth (IsInLeaf tnfa) (places_in kernel) index from.0.place (Each-from_all (IsInLeaf tnfa) (places_in kernel) leaves)
      (map-nth (λ (kept : Kept). kept.place) kernel index from.0 from.1) in
      let same : rank_of tnfa rules from.0 ≡ ranked =
      nth-one (ranks_after tnfa rules word) index (rank_of tnfa rules from.0) ranked stands at in
      subst (λ b. IsBeginning tnfa deep b ranked) from.2
      (subst (λ r. IsBeginning tnfa deep (beginning_of tnfa from.0) r) same (kept-beginning from.0 index later leaf stands))

  pub beginnings-are : (first : Bool) (kernel : List Kept) → IsAfter tnfa (terms_of patterns) first kernel word
      → AreBeginnings tnfa deep (beginnings_of tnfa first kernel) (ranks_after tnfa (terms_of patterns) word)
  beginnings-are true kernel after =
      let first : ranks_after tnfa rules word ≡ first_ranks 0 (rule_starts rules) = after.keeps.1 in
      are-nth tnfa deep _ (ranks_after tnfa rules word)
      (length-map tnfa.begins _ ∙ ap (λ l. length l) begins ∙ sym (length-first 0 (rule_starts rules)) ∙ ap (λ l. length l) (sym first))
      (first-beginning (ranks_after tnfa rules word) refl (after.empty refl) first)
  beginnings-are false kernel after =
      are-nth tnfa deep _ (ranks_after tnfa rules word)
      (length-map kernel (beginning_of tnfa) ∙ sym (length-map kernel (rank_of tnfa rules)) ∙ ap (λ l. length l) after.keeps.0)
      (later-beginning kernel (after.later refl) after.keeps.0 after.keeps.1)

  -- there are few of them
  pub beginnings-few : (first : Bool) (kernel : List Kept) → length tnfa.states < 2 ^ 32 → length kernel ≤ 1048576
      → length (beginnings_of tnfa first kernel) < 2 ^ 32
  beginnings-few true kernel few short =
      let same : length (beginnings_of tnfa true kernel) ≡ length (rule_starts rules) = length-map tnfa.begins _ ∙ ap (λ l. length l) begins in
      let each = rules-few 0 rules in
      let even = states_of_parts rules in
      omega (arith, same, each, even, few, count)
  beginnings-few false kernel few short = let same = length-map kernel (beginning_of tnfa) in omega (arith, same, short)
