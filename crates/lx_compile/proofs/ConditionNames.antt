-- The names of conditions in a set.
use Rattle.std.proofs.Common.{◌≡◌, ◌∙◌, ℕ, ◌+◌, ◌<◌, Bool, true, false, List, [], ◌∷◌, ◌++◌, ap, sym, refl, drop, get_or, length, map}
use Rattle.std.specs.Prelude.{◌||◌, if◌then◌else◌}
use Rattle.std.specs.List.{list_any}
use Rattle.std.specs.Str.{bytes_eq}
use Rattle.std.proofs.lemmas.List.{map_push}
use Rattle.indexmap.specs.IndexSet.{insert_key}
use Rattle.lx_ccode.specs.declared.piece.CondCase.{CondCase}
use Rattle.lx_exprs.specs.Checks.{is_among}
use Rattle.lx_compile.specs.Facts.{with_conditions}
use Rattle.lx_compile.proofs.ItemRuns.{drop-item}

-- the names with one that may be new
abbrev pub with_name : List (List ℕ) → List ℕ → List (List ℕ)
with_name seen name = if is_among name seen then seen else seen ++ name ∷ []

module _ {K : Type 0} (items : K → List ℕ) where
  list_any-is_among : (name : List ℕ) (keys : List K) → list_any (λ key. bytes_eq name (items key)) keys ≡ is_among name (map items keys)
  list_any-is_among name [] = refl
  list_any-is_among name (key ∷ keys) = by (bytes_eq name (items key)) (list_any-is_among name keys)
    where
      by : (same : Bool) → list_any (λ key. bytes_eq name (items key)) keys ≡ is_among name (map items keys)
          → (same || list_any (λ key. bytes_eq name (items key)) keys) ≡ (same || is_among name (map items keys))
      by true rest = refl
      by false rest = rest

  pub names-inserted : (key : K) (keys : List K)
      → map items (insert_key (λ one other. bytes_eq (items one) (items other)) keys key) ≡ with_name (map items keys) (items key)
  names-inserted key keys =
      by (list_any (λ other. bytes_eq (items key) (items other)) keys)
      ∙ ap (λ test. if test then map items keys else map items keys ++ items key ∷ []) (list_any-is_among (items key) keys)
    where
      by : (test : Bool) → map items (if test then keys else keys ++ key ∷ [])
          ≡ (if test then map items keys else map items keys ++ items key ∷ [])
      by true = refl
      by false = map_push items keys key

-- the names behind one more case
pub with_conditions-more : (cases : List CondCase) (place : ℕ) (case : CondCase) → place < length cases → case ≡ get_or cases place case
    → (seen new whole : List (List ℕ)) → with_conditions seen (drop place cases) ≡ whole → new ≡ with_name seen case.cond
    → with_conditions new (drop (place + 1) cases) ≡ whole
with_conditions-more cases place case within is seen new whole before inserted =
    ap (λ names. with_conditions names (drop (place + 1) cases)) inserted
    ∙ sym (by (is_among case.cond seen))
    ∙ sym (ap (with_conditions seen) (drop-item cases place case within is))
    ∙ before
  where
    by : (test : Bool)
        → (if test then with_conditions seen (drop (place + 1) cases) else with_conditions (seen ++ case.cond ∷ []) (drop (place + 1) cases))
        ≡ with_conditions (if test then seen else seen ++ case.cond ∷ []) (drop (place + 1) cases)
    by true = refl
    by false = refl
