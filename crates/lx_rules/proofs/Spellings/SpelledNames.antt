-- The spellings that are set, and what stands in the places of the others.
use Rattle.std.proofs.Common.{◌≡◌, ℕ, zero, suc, ◌<◌, ◌≤◌, ◌⊎◌, inl, inr, List, [], ◌∷◌, ◌++◌, length, drop, get_or, max, set, append_assoc, Option, None, Some, refl, sym, ap, ap₂, ◌∙◌, arith}
use Rattle.std.proofs.Math.Seq.{drop-cons}
use Rattle.std.proofs.lemmas.Bool.{cases_lt}
use Rattle.std.proofs.lemmas.List.{append-nil, drop_all}
use Rattle.lx_base.specs.Names.{Spellings}
use Rattle.std.specs.Option.{option_or}
use Rattle.lx_rules.specs.Environments.{name_at, names_over, spelled, with_name}

-- a name that is not set behind the others changes nothing
pub with_name-pushed : (names : List (Option (List ℕ))) (place : ℕ) (word : List ℕ) → length names ≤ place
    → with_name (names ++ None ∷ []) place word ≡ with_name names place word
with_name-pushed [] zero word short = refl
with_name-pushed [] (suc place) word short = refl
with_name-pushed (name ∷ names) zero word short = absurd (omega (arith, short))
with_name-pushed (name ∷ names) (suc place) word short =
    ap (λ l. name ∷ l) (with_name-pushed names place word (omega (arith, short)))

-- a name that is there is put in its place
pub with_name-set : (names : List (Option (List ℕ))) (place : ℕ) (word : List ℕ) → place < length names
    → set names place (Some word) ≡ with_name names place word
with_name-set [] place word within = absurd (omega (arith, within))
with_name-set (name ∷ names) zero word within = refl
with_name-set (name ∷ names) (suc place) word within = ap (λ l. name ∷ l) (with_name-set names place word (omega (arith, within)))

spelled-nothing : (usual : Spellings) (place : ℕ) → spelled (drop place []) usual ≡ usual
spelled-nothing usual zero = refl
spelled-nothing usual (suc place) = refl

-- the spelling at a place, and those behind it
pub spelled-drop : (names : List (Option (List ℕ))) (usual : Spellings) (place : ℕ) → place < length usual
    → spelled (drop place names) (drop place usual) ≡ name_at names place (get_or usual place []) ∷ spelled (drop (suc place) names) (drop (suc place) usual)
spelled-drop names [] place within = absurd (omega (arith, within))
spelled-drop [] (word ∷ usual) place within =
    spelled-nothing (drop place (word ∷ usual)) place ∙ drop-cons (word ∷ usual) place [] within
    ∙ sym (ap (λ l. get_or (word ∷ usual) place [] ∷ l) (spelled-nothing (drop (suc place) (word ∷ usual)) (suc place)))
spelled-drop (name ∷ names) (word ∷ usual) zero within = refl
spelled-drop (name ∷ names) (word ∷ usual) (suc place) within = spelled-drop names usual place (omega (arith, within))

spelled-none : (names : List (Option (List ℕ))) → spelled names [] ≡ []
spelled-none [] = refl
spelled-none (name ∷ names) = refl

-- one spelling more stands before the others
pub spelled-push : (names : List (Option (List ℕ))) (usual so_far all : Spellings) (place : ℕ) (word : List ℕ) → place < length usual
    → word ≡ name_at names place (get_or usual place []) → so_far ++ spelled (drop place names) (drop place usual) ≡ all
    → (so_far ++ word ∷ []) ++ spelled (drop (suc place) names) (drop (suc place) usual) ≡ all
spelled-push names usual so_far all place word within is known =
    let rest = spelled (drop (suc place) names) (drop (suc place) usual) in
    append_assoc so_far (word ∷ []) rest
    ∙ ap (λ l. so_far ++ l) (ap (λ w. w ∷ rest) is ∙ sym (spelled-drop names usual place within)) ∙ known

-- behind the last one no others stand
pub spelled-behind : (names : List (Option (List ℕ))) (usual so_far all : Spellings) (place : ℕ) → length usual ≤ place
    → so_far ++ spelled (drop place names) (drop place usual) ≡ all → so_far ≡ all
spelled-behind names usual so_far all place past known =
    sym (append-nil so_far)
    ∙ ap (λ l. so_far ++ l) (sym (spelled-none (drop place names)) ∙ ap (spelled (drop place names)) (sym (drop_all place usual past))) ∙ known

-- ---- what is set here, and else there

-- what is less than the greater of two numbers is less than one of them
pub less_max : (place one other : ℕ) → place < max one other → (place < one) ⊎ (place < other)
less_max place one other less = elim (cases_lt place one) [
  | inl here ↦ inl here
  | inr past ↦ elim (cases_lt place other) [
    | inl there ↦ inr there
    | inr past_there ↦ absurd (omega (arith, less, past, past_there))
  ]
]

get_or-nil : (place : ℕ) → get_or {A = Option (List ℕ)} [] place None ≡ None
get_or-nil zero = refl
get_or-nil (suc place) = refl

names_over-nothing : (there : List (Option (List ℕ))) (place : ℕ) → names_over (drop place []) there ≡ there
names_over-nothing there zero = refl
names_over-nothing there (suc place) = refl

names_over-none : (here : List (Option (List ℕ))) (place : ℕ) → names_over here (drop place []) ≡ here
names_over-none [] zero = refl
names_over-none [] (suc place) = refl
names_over-none (name ∷ here) zero = refl
names_over-none (name ∷ here) (suc place) = refl

option_or-none : (name : Option (List ℕ)) → option_or name None ≡ name
option_or-none None = refl
option_or-none (Some name) = refl

-- what is set at a place, and at those behind it
names_over-drop : (here there : List (Option (List ℕ))) (place : ℕ) → (place < length here) ⊎ (place < length there)
    → names_over (drop place here) (drop place there)
    ≡ option_or (get_or here place None) (get_or there place None) ∷ names_over (drop (suc place) here) (drop (suc place) there)
names_over-drop [] there place (inl less) = absurd (omega (arith, less))
names_over-drop [] there place (inr less) =
    names_over-nothing (drop place there) place ∙ drop-cons there place None less
    ∙ ap₂ (λ first rest. first ∷ rest) (sym (ap (λ name. option_or name (get_or there place None)) (get_or-nil place)))
    (sym (names_over-nothing (drop (suc place) there) (suc place)))
names_over-drop (name ∷ here) [] place (inr less) = absurd (omega (arith, less))
names_over-drop (name ∷ here) [] place (inl less) =
    names_over-none (drop place (name ∷ here)) place ∙ drop-cons (name ∷ here) place None less
    ∙ ap₂ (λ first rest. first ∷ rest)
    (sym (ap (λ other. option_or (get_or (name ∷ here) place None) other) (get_or-nil place) ∙ option_or-none (get_or (name ∷ here) place None)))
    (sym (names_over-none (drop (suc place) (name ∷ here)) (suc place)))
names_over-drop (name ∷ here) (other ∷ there) zero less = refl
names_over-drop (name ∷ here) (other ∷ there) (suc place) (inl less) = names_over-drop here there place (inl (omega (arith, less)))
names_over-drop (name ∷ here) (other ∷ there) (suc place) (inr less) = names_over-drop here there place (inr (omega (arith, less)))

-- one more stands before the others
pub names_over-push : (here there so_far all : List (Option (List ℕ))) (place : ℕ) (word : Option (List ℕ)) → (place < length here) ⊎ (place < length there)
    → word ≡ option_or (get_or here place None) (get_or there place None)
    → so_far ++ names_over (drop place here) (drop place there) ≡ all
    → (so_far ++ word ∷ []) ++ names_over (drop (suc place) here) (drop (suc place) there) ≡ all
names_over-push here there so_far all place word less is known =
    let rest = names_over (drop (suc place) here) (drop (suc place) there) in
    append_assoc so_far (word ∷ []) rest
    ∙ ap (λ l. so_far ++ l) (ap (λ w. w ∷ rest) is ∙ sym (names_over-drop here there place less)) ∙ known

-- behind the last one of both no others stand
pub names_over-behind : (here there so_far all : List (Option (List ℕ))) (place : ℕ) → length here ≤ place → length there ≤ place
    → so_far ++ names_over (drop place here) (drop place there) ≡ all → so_far ≡ all
names_over-behind here there so_far all place past past_there known =
    sym (append-nil so_far)
    ∙ ap (λ l. so_far ++ l) (sym (ap₂ names_over (drop_all place here past) (drop_all place there past_there))) ∙ known
