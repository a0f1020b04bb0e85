-- Definitions as entries of a map.
use Rattle.std.proofs.Common.{◌≡◌, ℕ, Bool, true, false, List, [], ◌∷◌, ◌++◌, map, Option, None, Some, IfSome, All, refl, arith, ap, ◌∙◌}
use Rattle.std.specs.Prelude.{if◌then◌else◌}
use Rattle.std.specs.Borrow.{Bor}
use Rattle.std.specs.Option.{option_map, option_copied}
use Rattle.std.specs.Str.{bytes_eq}
use Rattle.std.specs.Map.{lookup}
use Rattle.std.proofs.lemmas.List.Elements.{All-cons}
use Rattle.std.proofs.lemmas.Slice.Eq.{bytes_eq-Decides}
use Rattle.lx_exprs.specs.declared.definitions.Kept.{Kept}
use Rattle.lx_exprs.specs.Defined.{Definition, definition_of}
use Rattle.lx_exprs.specs.Seen.{definition_view}

module _ {K : Type 0} (items : K → List ℕ) where
  -- the entries as definitions
  abbrev view : List (K × Kept) → List Definition
  view entries = map (λ entry. definition_view (items entry.0) entry.1) entries

  -- the kept definition of a name is the one in the list
  pub lookup-definition_of : (name : List ℕ) (entries : List (K × Kept))
      → option_map (λ kept. definition_view name kept) (lookup (λ key. bytes_eq name (items key)) entries) ≡ definition_of (view entries) name
  lookup-definition_of name [] = refl
  lookup-definition_of name (entry ∷ entries) = at (bytes_eq name (items entry.0)) refl (lookup-definition_of name entries)
    where
      at : (test : Bool) → bytes_eq name (items entry.0) ≡ test
          → option_map (λ kept. definition_view name kept) (lookup (λ key. bytes_eq name (items key)) entries) ≡ definition_of (view entries) name
          → option_map (λ kept. definition_view name kept) (lookup (λ key. bytes_eq name (items key)) (entry ∷ entries)) ≡ definition_of (view (entry ∷ entries)) name
      at true e later =
          let same : name ≡ items entry.0 = (bytes_eq-Decides name (items entry.0)).0 e in
          rw (e) (ap (λ text. Some (definition_view text entry.1)) same)
      at false e later = rw (e) later

  -- what is not among the definitions has no entry
  pub lookup-None : (name : List ℕ) (entries : List (K × Kept)) → definition_of (view entries) name ≡ None
      → lookup (λ key. bytes_eq name (items key)) entries ≡ None
  lookup-None name entries none = of (lookup (λ key. bytes_eq name (items key)) entries) (lookup-definition_of name entries ∙ none)
    where
      of : (found : Option Kept) → option_map (λ kept. definition_view name kept) found ≡ None → found ≡ None
      of None e = refl
      of (Some kept) e = cc

pub option_map-copied : {T U : Type 0} (f : T → U) (found : Option (Bor T)) → option_map (λ x. f x.now) found ≡ option_map f (option_copied found)
option_map-copied f None = refl
option_map-copied f (Some x) = refl

pub IfSome-copied : {T : Type 0} (P : T → Type 0) (found : Option (Bor T)) → IfSome (option_copied found) P → IfSome found (λ x. P x.now)
IfSome-copied P None holds = tt
IfSome-copied P (Some x) holds = holds

pub All-one : {T : Type 0} (P : T → Type 0) (item : T) → P item → All P (item ∷ [])
All-one P item holds = All-cons P item [] holds (λ k d lt. absurd (omega (arith, lt)))

-- what is defined in front is found there, and what is not, behind
pub definition_of-front : (front back : List Definition) (name : List ℕ) (definition : Definition) → definition_of front name ≡ Some definition
    → definition_of (front ++ back) name ≡ Some definition
definition_of-front [] back name definition found = cc
definition_of-front (first ∷ front) back name definition found =
    at (bytes_eq name first.name) refl found (definition_of-front front back name definition)
  where
    at : (test : Bool) → bytes_eq name first.name ≡ test
        → (if test then Some first else definition_of front name) ≡ Some definition
        → (definition_of front name ≡ Some definition → definition_of (front ++ back) name ≡ Some definition)
        → definition_of ((first ∷ front) ++ back) name ≡ Some definition
    at true e found later = rw (e) found
    at false e found later = rw (e) (later found)

pub definition_of-back : (front back : List Definition) (name : List ℕ) → definition_of front name ≡ None
    → definition_of (front ++ back) name ≡ definition_of back name
definition_of-back [] back name none = refl
definition_of-back (first ∷ front) back name none =
    at (bytes_eq name first.name) refl none (definition_of-back front back name)
  where
    at : (test : Bool) → bytes_eq name first.name ≡ test → (if test then Some first else definition_of front name) ≡ None
        → (definition_of front name ≡ None → definition_of (front ++ back) name ≡ definition_of back name)
        → definition_of ((first ∷ front) ++ back) name ≡ definition_of back name
    at true e none later = cc
    at false e none later = rw (e) (later none)
