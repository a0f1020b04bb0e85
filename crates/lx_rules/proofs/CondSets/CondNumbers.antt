-- The numbers of conditions.
use Rattle.std.proofs.Common.{◌≡◌, ℕ, zero, suc, ◌+◌, ◌<◌, ◌≤◌, Bool, true, false, List, [], ◌∷◌, ◌++◌, map, length, get_or, take, Option, None, Some, refl, sym, ap, ap₂, ◌∙◌, arith, length-append}
use Rattle.std.specs.Prelude.{◌||◌}
use Rattle.std.specs.List.{AllByRecursion}
use Rattle.std.specs.Option.{option_or}
use Rattle.std.specs.Str.{bytes_eq}
use Rattle.std.proofs.lemmas.List.{get_or_append_left, map-append, take_more}
use Rattle.lx_exprs.specs.Checks.{is_among}
use Rattle.lx_rules.specs.declared.conditions.Conds.{Conds}
use Rattle.lx_rules.specs.declared.conditions.Conds.TheVariants as conds
use Rattle.lx_rules.specs.Blocks.{add_conds}
use Rattle.lx_rules.specs.Conditions.{AreNumbers, conds_seen}
use Rattle.lx_rules.proofs.CondSets.CondNames.{add_conds-append, add_conds-front, bytes_eq-sym}

-- names behind others change no name that is there
seen_numbers : (names more : List (List ℕ)) (numbers : List ℕ) → AllByRecursion (λ number. number < length names) numbers
    → map (λ number. get_or (names ++ more) number []) numbers ≡ map (λ number. get_or names number []) numbers
seen_numbers names more [] all = refl
seen_numbers names more (number ∷ numbers) all =
    ap₂ (λ (n : List ℕ) (l : List (List ℕ)). n ∷ l) (get_or_append_left names more [] number all.0) (seen_numbers names more numbers all.1)

pub conds_seen-more : (names more : List (List ℕ)) (listed : Conds) → AreNumbers (length names) listed
    → conds_seen (names ++ more) listed ≡ conds_seen names listed
conds_seen-more names more conds.Every are = refl
conds_seen-more names more (conds.Listed numbers) are = seen_numbers names more numbers.items are

few_numbers : (less more : ℕ) (numbers : List ℕ) → less ≤ more → AllByRecursion (λ number. number < less) numbers
    → AllByRecursion (λ number. number < more) numbers
few_numbers less more [] le all = tt
few_numbers less more (number ∷ numbers) le all = let one = all.0 in (omega (arith, le, one), few_numbers less more numbers le all.1)

pub AreNumbers-more : (less more : ℕ) (listed : Conds) → less ≤ more → AreNumbers less listed → AreNumbers more listed
AreNumbers-more less more conds.Every le are = tt
AreNumbers-more less more (conds.Listed numbers) le are = few_numbers less more numbers.items le are

numbers_snoc : (most : ℕ) (numbers : List ℕ) (number : ℕ) → AllByRecursion (λ n. n < most) numbers → number < most
    → AllByRecursion (λ n. n < most) (numbers ++ number ∷ [])
numbers_snoc most [] number all is = (is, tt)
numbers_snoc most (first ∷ numbers) number all is = (all.0, numbers_snoc most numbers number all.1 is)

-- a name that is among no names is at no place
pub none_at : (name : List ℕ) (names : List (List ℕ)) (place : ℕ) (default : List ℕ) → is_among name names ≡ false → place < length names
    → bytes_eq (get_or names place default) name ≡ false
none_at name [] place default none lt = absurd (omega (arith, lt))
none_at name (other ∷ names) place default none lt =
    at (bytes_eq name other) refl none place lt (λ later next below. none_at name names next default later below)
  where
    at : (test : Bool) → bytes_eq name other ≡ test → (test || is_among name names) ≡ false → (place : ℕ) → place < length (other ∷ names)
        → (is_among name names ≡ false → (next : ℕ) → next < length names → bytes_eq (get_or names next default) name ≡ false)
        → bytes_eq (get_or (other ∷ names) place default) name ≡ false
    at true e found place lt later = absurd (let h : true ≡ false = found in cc)
    at false e found zero lt later = bytes_eq-sym other name ∙ e
    at false e found (suc place) lt later = later found place (omega (arith, lt))

pub option_or-none : {A : Type 0} (one : Option A) → option_or one None ≡ one
option_or-none None = refl
option_or-none (Some item) = refl

module _ (names : List (List ℕ)) (place : ℕ) (name : List ℕ) (lt : place < length names) (name_is : get_or names place [] ≡ name) where
  -- the names up to one more
  pub take_one : take (place + 1) names ≡ take place names ++ name ∷ []
  take_one = take_more names place [] lt ∙ ap (λ n. take place names ++ n ∷ []) name_is

  -- one condition more is appended where it is new
  pub names_one : (first last next : List (List ℕ)) → last ≡ add_conds (take place names) first → next ≡ add_conds (name ∷ []) last
      → next ≡ add_conds (take (place + 1) names) first
  names_one first last next last_is next_is =
      next_is ∙ ap (add_conds (name ∷ [])) last_is ∙ sym (add_conds-append (take place names) (name ∷ []) first)
      ∙ ap (λ l. add_conds l first) (sym take_one)

  -- one number more
  pub numbers_one : (last next : List (List ℕ)) (numbers : List ℕ) (number : ℕ) → next ≡ add_conds (name ∷ []) last
      → AllByRecursion (λ n. n < length last) numbers → map (λ n. get_or last n []) numbers ≡ take place names → get_or next number [] ≡ name
      → map (λ n. get_or next n []) (numbers ++ number ∷ []) ≡ take (place + 1) names
  numbers_one last next numbers number next_is within are is =
      let grows = add_conds-front (name ∷ []) last in
      let next_names = next_is ∙ grows.1 in
      map-append (λ n. get_or next n []) numbers (number ∷ [])
      ∙ ap₂ (λ (l : List (List ℕ)) (n : List ℕ). l ++ n ∷ [])
      (ap (λ (l : List (List ℕ)). map (λ n. get_or l n []) numbers) next_names ∙ seen_numbers last grows.0 numbers within ∙ are) is
      ∙ sym take_one

-- and it is one of so many names
pub within_one : (last next : List (List ℕ)) (name : List ℕ) (numbers : List ℕ) (number : ℕ) → next ≡ add_conds (name ∷ []) last
    → AllByRecursion (λ n. n < length last) numbers → number < length next → AllByRecursion (λ n. n < length next) (numbers ++ number ∷ [])
within_one last next name numbers number next_is within is =
    let grows = add_conds-front (name ∷ []) last in
    let longer = ap (λ (l : List (List ℕ)). length l) (next_is ∙ grows.1) ∙ length-append last grows.0 in
    numbers_snoc (length next) numbers number (few_numbers (length last) (length next) numbers (omega (arith, longer)) within) is
