-- The texts of includes: what stands around a file name, and the folder of a file.
use Rattle.std.proofs.Common.{◌≡◌, ℕ, zero, suc, ◌+◌, ◌<◌, ◌≤◌, ◌==◌, Bool, true, false, ◌||◌, List, [], ◌∷◌, length, take, Some, None, Result, Ok, Err, MatchResult, Bor, refl, ap, arith}
use Rattle.std.specs.List.{list_any}
use Rattle.std.specs.Option.{option_copied}
use Rattle.std.specs.Result.{result_ok}
use Rattle.std.specs.Str.{IsUtf8, IsValidUpTo, is_utf8}
use Rattle.std.proofs.lemmas.Str.{IsUtf8-from_is_utf8, is_utf8-from_IsUtf8}
use Rattle.memchr.specs.Find.{Passes, Nowhere, is_byte}
use Rattle.lx_token.specs.Blanks.{after_blank}
use Rattle.lx_split.specs.IncludeNames.{after_blanks, checked_name, folder_of, is_allowed_name}

-- what is left behind the blanks at the front of the text is what is left behind those of its rest
pub record Skips (text rest : List ℕ) : Type 0 where
  pub steps : ℕ
  pub enough : length rest ≤ steps
  pub same : after_blanks steps rest ≡ after_blanks (length text) text

module _ (text rest : List ℕ) where
  next_at : (steps : ℕ) (next : List ℕ) → after_blank rest ≡ Some next → length next < length rest → length rest ≤ steps →
      after_blanks steps rest ≡ after_blanks (length text) text → Skips text next
  next_at zero next blank less enough same = absurd (omega arith)
  next_at (suc steps) next blank less enough same = record { steps = steps; enough = omega arith; same = rw blank at same }

  pub Skips-next : (next : List ℕ) → after_blank rest ≡ Some next → length next < length rest → Skips text rest → Skips text next
  Skips-next next blank less at = next_at at.steps next blank less at.enough at.same

  end_at : (steps : ℕ) → after_blank rest ≡ None → after_blanks steps rest ≡ after_blanks (length text) text → rest ≡ after_blanks (length text) text
  end_at zero none same = same
  end_at (suc steps) none same = rw none at same

  pub Skips-end : after_blank rest ≡ None → Skips text rest → rest ≡ after_blanks (length text) text
  Skips-end none at = end_at at.steps none at.same

-- the test that a letter is a `/`
abbrev is_slash : ℕ → Bool
is_slash = is_byte 47

-- a name without a `/`
no_slash : (name : List ℕ) → Nowhere (Passes is_slash name) 0 (length name) → list_any is_slash name ≡ false
no_slash [] none = refl
no_slash (letter ∷ name) none =
    at (letter == 47) refl (no_slash name (λ k low less slash. none (suc k) (omega arith) (omega arith) slash))
  where
    at : (b : Bool) → (letter == 47) ≡ b → list_any is_slash name ≡ false → (b || list_any is_slash name) ≡ false
    at true is later = absurd (none 0 (omega arith) (omega arith) is)
    at false is later = later

folder_of-none_in : (name : List ℕ) → list_any is_slash name ≡ false → folder_of name ≡ []
folder_of-none_in [] none = refl
folder_of-none_in (letter ∷ name) none = rw none

pub folder_of-none : (name : List ℕ) → Nowhere (Passes is_slash name) 0 (length name) → folder_of name ≡ []
folder_of-none name none = folder_of-none_in name (no_slash name none)

some_slash : (name : List ℕ) (k : ℕ) → k < length name → Passes is_slash name k → list_any is_slash name ≡ true
some_slash [] k less slash = absurd (omega arith)
some_slash (letter ∷ name) zero less slash = rw slash
some_slash (letter ∷ name) (suc k) less slash = at (letter == 47) (some_slash name k (omega arith) slash)
  where
    at : (b : Bool) → list_any is_slash name ≡ true → (b || list_any is_slash name) ≡ true
    at true later = refl
    at false later = later

-- the folder ends with the last `/`
pub folder_of-last : (name : List ℕ) (k : ℕ) → k < length name → Passes is_slash name k → Nowhere (Passes is_slash name) (k + 1) (length name) →
    folder_of name ≡ take (k + 1) name
folder_of-last [] k less slash none = absurd (omega arith)
folder_of-last (letter ∷ name) zero less slash none =
    let here = some_slash (letter ∷ name) zero less slash in
    let later = folder_of-none name (λ k low less slash. none (suc k) (omega arith) (omega arith) slash) in
    rw here (ap (λ (l : List ℕ). letter ∷ l) later)
folder_of-last (letter ∷ name) (suc k) less slash none =
    let here = some_slash (letter ∷ name) (suc k) less slash in
    let later = folder_of-last name k (omega arith) slash (λ i low less slash. none (suc i) (omega arith) (omega arith) slash) in
    let size : suc k + 1 ≡ suc (k + 1) = omega arith in
    rw (here, size) (ap (λ (l : List ℕ). letter ∷ l) later)

is-not : (quoted : List ℕ) (b : Bool) → is_utf8 quoted ≡ b → (IsUtf8 quoted → ⊥) → is_utf8 quoted ≡ false
is-not quoted true is other = absurd (other (IsUtf8-from_is_utf8 quoted is))
is-not quoted false is other = is

-- bytes that were read as text are a name, if they are an allowed one
pub checked_name-read : {E : Type 0} (quoted : List ℕ) (valid : E → ℕ) (read : Result (Bor (List ℕ)) E) → is_allowed_name quoted ≡ true →
    MatchResult read (λ s. (s.now ≡ quoted) × IsUtf8 quoted) (λ e. (IsUtf8 quoted → ⊥) × IsValidUpTo quoted (valid e)) →
    option_copied (result_ok read) ≡ checked_name quoted
checked_name-read quoted valid (Ok s) allowed (same, utf8) = rw (allowed, is_utf8-from_IsUtf8 quoted utf8) (ap (λ (l : List ℕ). Some l) same)
checked_name-read quoted valid (Err e) allowed (other, up_to) = rw (allowed, is-not quoted (is_utf8 quoted) refl other)
