-- What is put into a set, where contracts see each member through a view, has a number that it keeps.
use Rattle.std.proofs.Common.{◌≡◌, ℕ, zero, suc, ◌<◌, ◌≤◌, Bool, true, false, List, [], ◌∷◌, ◌++◌, map, Some, slice_get, refl, sym, ap, ◌∙◌, subst, inl, inr, arith, if◌then◌else◌, true≢false}
use Rattle.std.specs.Bool.{Decides}
use Rattle.std.specs.List.{IsDistinct, list_any}
use Rattle.std.specs.Option.{option_map}
use Rattle.std.specs.Prelude.{◌⊎◌}
use Rattle.std.proofs.lemmas.Bool.{cases_lt}
use Rattle.std.proofs.lemmas.List.{map-append}
use Rattle.std.proofs.lemmas.Map.Keys.{apart_from_distinct}
use Rattle.std.proofs.lemmas.Option.{get_or_from_slice_get, slice_get-map, slice_get_within}
use Rattle.indexmap.specs.IndexSet.{insert_key}
use Rattle.lx_min.specs.Numbers.{AreDistinct, Keeps}

Keeps-append : {X : Type 0} (items rest : List X) → Keeps items (items ++ rest)
Keeps-append [] rest = λ place item at. absurd (cc at)
Keeps-append (first ∷ items) rest = by (Keeps-append items rest)
  where
    by : Keeps items (items ++ rest) → Keeps (first ∷ items) (first ∷ (items ++ rest))
    by later zero item at = at
    by later (suc place) item at = later place item at

-- the member that is seen at a place
member-at : {K X : Type 0} (see : K → X) (keys : List K) (place : ℕ) (item : X) → slice_get (map see keys) place ≡ Some item
    → (key : K) × (slice_get keys place ≡ Some key) × (see key ≡ item)
member-at see [] place item at = absurd (cc at)
member-at see (key ∷ keys) zero item at = (key, refl, cc at)
member-at see (key ∷ keys) (suc place) item at = member-at see keys place item at

module _ {K X : Type 0} (see : K → X) (same : K → K → Bool) (tells : (key other : K) → Decides (same key other) (see key ≡ see other)) where
  -- of two places one comes first
  not-before : (keys : List K) (place other : ℕ) (item : X) → IsDistinct same keys → slice_get (map see keys) place ≡ Some item
      → slice_get (map see keys) other ≡ Some item → place < other → ⊥
  not-before keys place other item distinct at also before =
      let first = member-at see keys place item at in
      let second = member-at see keys other item also in
      let within = slice_get_within keys other second.0 second.1 in
      let differ = apart_from_distinct same keys place other first.0 distinct before within in
      let here = get_or_from_slice_get keys place first.0 first.0 first.1 in
      let there = get_or_from_slice_get keys other second.0 first.0 second.1 in
      true≢false (sym ((tells first.0 second.0).1 (first.2 ∙ sym second.2)) ∙ (λ i. same (sym here i) (sym there i)) ∙ differ)

  pub AreDistinct-seen : (keys : List K) → IsDistinct same keys → AreDistinct (map see keys)
  AreDistinct-seen keys distinct = λ place other item at also. by place other item at also (cases_lt place other) (cases_lt other place)
    where
      by : (place other : ℕ) (item : X) → slice_get (map see keys) place ≡ Some item → slice_get (map see keys) other ≡ Some item
          → (place < other) ⊎ (other ≤ place) → (other < place) ⊎ (place ≤ other) → place ≡ other
      by place other item at also (inl before) second = absurd (not-before keys place other item distinct at also before)
      by place other item at also (inr most) (inl behind) = absurd (not-before keys other place item distinct also at behind)
      by place other item at also (inr most) (inr least) = omega (arith, most, least)

  pub Keeps-inserted : (old new : List K) (key : K) → new ≡ insert_key same old key → Keeps (map see old) (map see new)
  Keeps-inserted old new key is = subst (λ keys. Keeps (map see old) (map see keys)) (sym is) (by (list_any (same key) old))
    where
      by : (b : Bool) → Keeps (map see old) (map see (if b then old else old ++ key ∷ []))
      by true = λ place item at. at
      by false = subst (Keeps (map see old)) (sym (map-append see old (key ∷ []))) (Keeps-append (map see old) (see key ∷ []))

  pub seen-stored : (keys : List K) (key : K) (place : ℕ) → (there : K) × (slice_get keys place ≡ Some there) × (same key there ≡ true)
      → slice_get (map see keys) place ≡ Some (see key)
  seen-stored keys key place (there, at, is) =
      slice_get-map see keys place ∙ ap (option_map see) at ∙ ap Some (sym ((tells key there).0 is))
