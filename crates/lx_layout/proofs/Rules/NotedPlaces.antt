-- The places of numbers, once one more is noted.
use Rattle.std.proofs.Common.{◌≡◌, ℕ, Bool, true, false, List, [], ◌∷◌, ◌++◌, Option, Some, None, nat_eq, if◌then◌else◌, refl, sym, ap, ◌∙◌}
use Rattle.std.proofs.lemmas.Bool.{eqb-true}
use Rattle.std.specs.Option.{option_or}
use Rattle.lx_layout.specs.NumberIndexes.{place_among, with_place}
use Rattle.lx_layout.specs.declared.number_index.NotedPlace.{NotedPlace}

either : (same : Bool) (place : ℕ) (long short last : Option ℕ) → long ≡ option_or short last
    → (if same then Some place else long) ≡ option_or (if same then Some place else short) last
either true place long short last is = refl
either false place long short last is = is

place_among-push : (noted : List NotedPlace) (one : NotedPlace) (number : ℕ)
    → place_among (noted ++ one ∷ []) number
    ≡ option_or (place_among noted number) (if nat_eq number one.number then Some one.place else None)
place_among-push [] one number = refl
place_among-push (first ∷ noted) one number = either (nat_eq number first.number) first.place
    (place_among (noted ++ one ∷ []) number) (place_among noted number) (if nat_eq number one.number then Some one.place else None)
    (place_among-push noted one number)

-- by what a number had before: what is noted, and what is held for others
with_place-either : (noted other : Option ℕ) (same : Bool) (place : ℕ) → (same ≡ true → other ≡ None)
    → option_or (option_or noted (if same then Some place else None)) other
    ≡ option_or (option_or noted other) (if same then Some place else None)
with_place-either (Some before) other same place none = refl
with_place-either None other true place none = ap (λ o. option_or o (Some place)) (sym (none refl))
with_place-either None (Some before) false place none = refl
with_place-either None None false place none = refl

with_place-or : (before : Option ℕ) (noted place number : ℕ)
    → option_or before (if nat_eq number noted then Some place else None) ≡ with_place before noted place number
with_place-or (Some before) noted place number = refl
with_place-or None noted place number = refl

pub other-none : (noted other : Option ℕ) → option_or noted other ≡ None → other ≡ None
other-none None other none = none
other-none (Some before) other none = absurd (cc none)

module _ (noted : List NotedPlace) (others : ℕ → Option ℕ) (fresh place : ℕ)
    (none : option_or (place_among noted fresh) (others fresh) ≡ None) where
  none-there : (number : ℕ) → nat_eq number fresh ≡ true → others number ≡ None
  none-there number same = ap others (eqb-true number fresh same) ∙ other-none (place_among noted fresh) (others fresh) none

  -- where it is one of the first ones
  pub noted-first : (number : ℕ)
      → option_or (place_among (noted ++ record { number = fresh; place = place } ∷ []) number) (others number)
      ≡ with_place (option_or (place_among noted number) (others number)) fresh place number
  noted-first number =
      ap (λ (p : Option ℕ). option_or p (others number)) (place_among-push noted (record { number = fresh; place = place }) number)
      ∙ with_place-either (place_among noted number) (others number) (nat_eq number fresh) place (none-there number)
      ∙ with_place-or (option_or (place_among noted number) (others number)) fresh place number

  -- where it is one of the others
  pub noted-other : (number : ℕ)
      → option_or (place_among noted number) (if nat_eq number fresh then Some place else others number)
      ≡ with_place (option_or (place_among noted number) (others number)) fresh place number
  noted-other number = at (place_among noted number) (nat_eq number fresh) (others number) (none-there number)
      ∙ with_place-or (option_or (place_among noted number) (others number)) fresh place number
    where
      at : (before : Option ℕ) (same : Bool) (other : Option ℕ) → (same ≡ true → other ≡ None)
          → option_or before (if same then Some place else other) ≡ option_or (option_or before other) (if same then Some place else None)
      at (Some before) same other none = refl
      at None true other none = ap (λ (o : Option ℕ). option_or o (Some place)) (sym (none refl))
      at None false (Some other) none = refl
      at None false None none = refl

-- one that is noted behind a first place
pub noted-behind : (before other : Option ℕ) (fresh place number : ℕ)
    → option_or before (with_place other fresh place number) ≡ with_place (option_or before other) fresh place number
noted-behind (Some before) other fresh place number = refl
noted-behind None other fresh place number = refl
