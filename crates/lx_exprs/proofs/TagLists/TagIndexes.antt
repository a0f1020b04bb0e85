-- An index of names has the names that are among them.
use Rattle.std.proofs.Common.{◌≡◌, Bool, true, false, ℕ, List, [], ◌∷◌, ◌++◌, refl, sym, ap, ◌∙◌}
use Rattle.std.specs.Prelude.{◌||◌, Option, Some, None, Result, Ok, Err, OnOk, is_err, is_some, if◌then◌else◌}
use Rattle.std.specs.Borrow.{Bor}
use Rattle.std.specs.Map.{lookup}
use Rattle.std.specs.Option.{option_copied}
use Rattle.std.specs.Str.{bytes_eq}
use Rattle.std.proofs.lemmas.Slice.Eq.{bytes_eq-Decides}
use Rattle.indexmap.specs.IndexMap.{insert_entry}
use Rattle.lx_exprs.specs.Checks.{is_tag_among}
use Rattle.lx_regex.specs.declared.rules.Tag.{Tag}

pub is_some-copied : {T : Type 0} (found : Option (Bor T)) → is_some found ≡ is_some (option_copied found)
is_some-copied None = refl
is_some-copied (Some x) = refl

-- what holds where a call succeeds, where it did
pub on_ok : {T E P : Type 0} (result : Result T E) → is_err result ≡ false → OnOk result P → P
on_ok (Ok value) is holds = holds
on_ok (Err error) is holds = absurd (cc)

either-none : (test : Bool) → test ≡ (test || false)
either-none true = refl
either-none false = refl

-- one tag more
pub is_tag_among-more : (name : List ℕ) (tag : Tag) (tags : List Tag)
    → is_tag_among name (tags ++ tag ∷ []) ≡ (is_tag_among name tags || bytes_eq name tag.name)
is_tag_among-more name tag [] = sym (either-none (bytes_eq name tag.name))
is_tag_among-more name tag (other ∷ tags) = at (bytes_eq name other.name) (is_tag_among-more name tag tags)
  where
    at : (test : Bool) → is_tag_among name (tags ++ tag ∷ []) ≡ (is_tag_among name tags || bytes_eq name tag.name)
        → (test || is_tag_among name (tags ++ tag ∷ [])) ≡ ((test || is_tag_among name tags) || bytes_eq name tag.name)
    at true later = refl
    at false later = later

abbrev same : {K : Type 0} → (K → List ℕ) → K → K → Bool
same items key other = bytes_eq (items key) (items other)

module _ {K V : Type 0} (items : K → List ℕ) where
  abbrev pub has : List ℕ → List (K × V) → Bool
  has name entries = is_some (lookup (λ key. bytes_eq name (items key)) entries)

  -- one entry more
  pub has-insert : (name : List ℕ) (key : K) (value : V) (entries : List (K × V))
      → has name (insert_entry (same items) entries key value) ≡ (has name entries || bytes_eq name (items key))
  has-insert name key value [] = at (bytes_eq name (items key))
    where
      at : (test : Bool) → is_some (if test then Some value else None) ≡ (false || test)
      at true = refl
      at false = refl
  has-insert name key value (entry ∷ entries) = by (same items key entry.0) refl (has-insert name key value entries)
    where
      here : (test : Bool) → is_some (if test then Some value else lookup (λ key. bytes_eq name (items key)) entries)
          ≡ (is_some (if test then Some entry.1 else lookup (λ key. bytes_eq name (items key)) entries) || test)
      here true = refl
      here false = either-none (has name entries)

      there : (test : Bool) → has name (insert_entry (same items) entries key value) ≡ (has name entries || bytes_eq name (items key))
          → is_some (if test then Some entry.1 else lookup (λ key. bytes_eq name (items key)) (insert_entry (same items) entries key value))
          ≡ (is_some (if test then Some entry.1 else lookup (λ key. bytes_eq name (items key)) entries) || bytes_eq name (items key))
      there true later = refl
      there false later = later

      by : (test : Bool) → same items key entry.0 ≡ test → has name (insert_entry (same items) entries key value) ≡ (has name entries || bytes_eq name (items key))
          → has name (if test then (entry.0, value) ∷ entries else entry ∷ insert_entry (same items) entries key value)
          ≡ (has name (entry ∷ entries) || bytes_eq name (items key))
      by true is later =
          here (bytes_eq name (items entry.0))
          ∙ ap (λ text. has name (entry ∷ entries) || bytes_eq name text) (sym ((bytes_eq-Decides (items key) (items entry.0)).0 is))
      by false is later = there (bytes_eq name (items entry.0)) later

-- a name among those of tags in two parts
pub is_tag_among-append : (name : List ℕ) (front back : List Tag)
    → is_tag_among name (front ++ back) ≡ (is_tag_among name front || is_tag_among name back)
is_tag_among-append name [] back = refl
is_tag_among-append name (other ∷ front) back = at (bytes_eq name other.name) (is_tag_among-append name front back)
  where
    at : (test : Bool) → is_tag_among name (front ++ back) ≡ (is_tag_among name front || is_tag_among name back)
        → (test || is_tag_among name (front ++ back)) ≡ ((test || is_tag_among name front) || is_tag_among name back)
    at true later = refl
    at false later = later

module _ (name : List ℕ) (front back all : List Tag) (parts : front ++ back ≡ all) (first : Bool) (first_is : first ≡ is_tag_among name front) where
  whole-is : is_tag_among name all ≡ (first || is_tag_among name back)
  whole-is = ap (is_tag_among name) (sym parts) ∙ is_tag_among-append name front back ∙ ap (λ test. test || is_tag_among name back) (sym first_is)

  pub among-front : first ≡ true → first ≡ is_tag_among name all
  among-front found = found ∙ sym (whole-is ∙ ap (λ test. test || is_tag_among name back) found)

  pub among-back : first ≡ false → (second : Bool) → second ≡ is_tag_among name back → second ≡ is_tag_among name all
  among-back none second second_is = second_is ∙ sym (whole-is ∙ ap (λ test. test || is_tag_among name back) none)
