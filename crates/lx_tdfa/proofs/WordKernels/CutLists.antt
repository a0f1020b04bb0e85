-- Cuts of several targets.
use Rattle.std.proofs.Common.{◌≡◌, ℕ, ◌<◌, ◌≤◌, arith, List, [], ◌∷◌, ◌++◌, length, get_or, sym, ap, ap₂, ◌∙◌, Option, Some, IsPermutation, slice_get, subst}
use Rattle.std.proofs.lemmas.List.{map-append}
use Rattle.std.proofs.lemmas.List.Elements.{All-from_recursion, recursion_from_All}
use Rattle.std.proofs.lemmas.List.Sorted.{All-permutation, IsPermutation-sym}
use Rattle.std.proofs.lemmas.Option.{get_or_from_slice_get, slice_get-get_or, slice_get_within}
use Rattle.std.specs.List.Sorted.{IsNonDecreasing}
use Rattle.std.specs.Option.{option_map}
use Rattle.std.specs.Prelude.{◌⊎◌, Contains}
use Rattle.lx_encode.specs.Graph.{NoneBetween, Separates, numbered}
use Rattle.lx_tnfa.specs.Tnfa.{Tnfa, rest_after, state_at}
use Rattle.lx_tnfa.specs.declared.closure.Reach.{Reach}
use Rattle.lx_tnfa.specs.declared.closure.Target.TheVariants.{End, Leaf}
use Rattle.lx_tnfa.specs.declared.places.Place.{Place}
use Rattle.lx_tdfa.specs.Edges.{CutSteps, IsAscending}
use Rattle.lx_tdfa.specs.Steps.{Step, step_on, step_to}

module _ (first second : ℕ) where
  between-append : (cuts others : List ℕ) → NoneBetween first second (cuts ++ others) → NoneBetween first second cuts × NoneBetween first second others
  between-append [] others none = (tt, none)
  between-append (cut ∷ cuts) others none = let later = between-append cuts others none.1 in ((none.0, later.0), later.1)

  between-permutation : (cuts others : List ℕ) → IsPermutation cuts others → NoneBetween first second others → NoneBetween first second cuts
  between-permutation cuts others moved none =
      recursion_from_All (λ cut. (cut ≤ first) ⊎ (second < cut)) cuts
      (All-permutation (λ cut. (cut ≤ first) ⊎ (second < cut)) others cuts (IsPermutation-sym cuts others moved)
      (All-from_recursion (λ cut. (cut ≤ first) ⊎ (second < cut)) others none))

-- between the cuts one target goes on over each unit in the same way
abbrev pub CutStep : Tnfa → Reach → (cuts : List ℕ) → Type 0
CutStep tnfa reach cuts = (first second : ℕ) → first ≤ second → NoneBetween first second cuts → step_on tnfa first reach ≡ step_on tnfa second reach

module _ (tnfa : Tnfa) (reach : Reach) where
  pub step-leaf : (place : Place) (cuts : List ℕ) → reach.to ≡ Leaf place → Separates cuts (rest_after tnfa.classes (state_at tnfa place) place.rest.0)
      → CutStep tnfa reach cuts
  step-leaf place cuts is separate first second le none =
      ap (step_to tnfa first reach) is
      ∙ ap (λ (rest : Option ℕ). option_map (λ (to : Place). record { from = reach.from; events = reach.events; to = to })
      (option_map (λ rest. record { part = place.part; rest = numbered rest }) rest)) (separate first second le none)
      ∙ ap (step_to tnfa second reach) (sym is)

  pub step-end : (rule : ℕ) → reach.to ≡ End rule → CutStep tnfa reach []
  step-end rule is first second le none = ap (step_to tnfa first reach) is ∙ ap (step_to tnfa second reach) (sym is)

  pub steps-push : (reaches : List Reach) (cuts others : List ℕ) → CutSteps tnfa reaches cuts → CutStep tnfa reach others
      → CutSteps tnfa (reaches ++ reach ∷ []) (cuts ++ others)
  steps-push reaches cuts others steps step first second le none =
      let parts = between-append first second cuts others none in
      map-append (step_on tnfa first) reaches (reach ∷ [])
      ∙ ap₂ (λ (before after : List (Option Step)). before ++ after) (steps first second le parts.0)
      (ap (λ (one : Option Step). one ∷ []) (step first second le parts.1))
      ∙ sym (map-append (step_on tnfa second) reaches (reach ∷ []))

pub steps-permutation : (tnfa : Tnfa) (reaches : List Reach) (cuts others : List ℕ) → IsPermutation cuts others → CutSteps tnfa reaches cuts
    → CutSteps tnfa reaches others
steps-permutation tnfa reaches cuts others moved steps first second le none =
    steps first second le (between-permutation first second cuts others moved none)

pub first-append : (cuts others : List ℕ) (cut : ℕ) → slice_get cuts 0 ≡ Some cut → slice_get (cuts ++ others) 0 ≡ Some cut
first-append [] others cut e = absurd (cc e)
first-append (first ∷ cuts) others cut e = e

-- what is gathered of the targets so far
abbrev pub AreGathered : Tnfa → List Reach → (cuts : List ℕ) → Type 0
AreGathered tnfa reaches cuts = CutSteps tnfa reaches cuts × (slice_get cuts 0 ≡ Some 0)

pub gathered-push : (tnfa : Tnfa) (reaches later : List Reach) (reach : Reach) (cuts others all : List ℕ) → reaches ++ reach ∷ [] ≡ later → all ≡ cuts ++ others
    → AreGathered tnfa reaches cuts → CutStep tnfa reach others → AreGathered tnfa later all
gathered-push tnfa reaches later reach cuts others all more is gathered step =
    subst (λ (later : List Reach). AreGathered tnfa later all) more
    (subst (λ (all : List ℕ). AreGathered tnfa (reaches ++ reach ∷ []) all) (sym is)
    (steps-push tnfa reach reaches cuts others gathered.0 step, first-append cuts others 0 gathered.1))

pub ascending-sorted : (cuts : List ℕ) → IsNonDecreasing cuts → IsAscending cuts
ascending-sorted cuts sorted index other cut next le at_index at_other =
    let within : other < length cuts = slice_get_within cuts other next at_other in
    let low : get_or cuts index 0 ≡ cut = get_or_from_slice_get cuts index cut 0 at_index in
    let high : get_or cuts other 0 ≡ next = get_or_from_slice_get cuts other next 0 at_other in
    let ordered : get_or cuts index 0 ≤ get_or cuts other 0 = sorted index other 0 le within in
    omega arith

-- the least of numbers in order that have zero among them
pub zero_is_first : (cuts : List ℕ) → IsNonDecreasing cuts → Contains cuts 0 → slice_get cuts 0 ≡ Some 0
zero_is_first cuts sorted zero =
    let ordered : get_or cuts 0 0 ≤ get_or cuts zero.0 0 = sorted 0 zero.0 0 (omega arith) zero.1 in
    let least : get_or cuts 0 0 ≡ 0 = omega (arith, zero.2) in
    slice_get-get_or cuts 0 0 (omega (arith, zero.1)) ∙ ap Some least

pub Contains-slice_get : (cuts : List ℕ) (index cut : ℕ) → slice_get cuts index ≡ Some cut → Contains cuts cut
Contains-slice_get cuts index cut e = (index, slice_get_within cuts index cut e, get_or_from_slice_get cuts index cut cut e)
