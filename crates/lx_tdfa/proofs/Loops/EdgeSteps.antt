-- One range more in the loop over ranges.
use Rattle.std.proofs.Common.{◌≡◌, ℕ, suc, ◌≤◌, Bool, List, [], ◌∷◌, ◌++◌, Option, Some, None, filter_map, map, if◌then◌else◌, refl, sym, ap, ap₂, ◌∙◌, subst}
use Rattle.std.proofs.lemmas.List.{append-nil, append_assoc}
use Rattle.std.specs.List.{cons_option}
use Rattle.std.specs.Prelude.{slice_get}
use Rattle.lx_encode.specs.Graph.{NoneBetween}
use Rattle.lx_auto.specs.Automaton.{AreApart}
use Rattle.lx_auto.specs.declared.automaton.Edge.{Edge}
use Rattle.lx_tnfa.specs.Tnfa.{Tnfa}
use Rattle.lx_tnfa.specs.declared.closure.Reach.{Reach}
use Rattle.lx_tnfa.specs.declared.places.Place.{Place}
use Rattle.lx_tdfa.specs.Building.{AreListed, Grows}
use Rattle.lx_tdfa.specs.Edges.{AreEdgesBefore, AreSameEdges, CutSteps, GoesOnAlike, IsAscending, IsRangeEmpty, IsRangeEnd}
use Rattle.lx_tdfa.specs.Steps.{Step, first_steps, index_if, indices_from, is_among, next_steps, places_of, step_indices, step_on}
use Rattle.lx_tdfa.specs.Table.{IsEdgeOf, Onward, onward_by}
use Rattle.lx_tdfa.proofs.Loops.EdgeLoops.{edges-apart, edges-behind, edges-empty, edges-more, edges-none}

module _ (tnfa : Tnfa) where
  pub grows-itself : (lists : List (List Place)) → AreListed tnfa lists → Grows tnfa lists lists
  grows-itself lists listed = record { later = []; lists = sym (append-nil lists); listed = listed }

  pub grows-more : (start lists new : List (List Place)) → Grows tnfa start lists → Grows tnfa lists new → Grows tnfa start new
  grows-more start lists new first second = record {
    later = first.later ++ second.later;
    lists = second.lists ∙ ap (λ l. l ++ second.later) first.lists ∙ append_assoc start first.later second.later;
    listed = second.listed;
  }

filter_map-same : {A B : Type 0} (f g : A → Option B) (xs : List A) → map f xs ≡ map g xs → filter_map f xs ≡ filter_map g xs
filter_map-same f g [] e = refl
filter_map-same f g (x ∷ xs) e =
    let here : f x ≡ g x = cc e in
    let later : map f xs ≡ map g xs = cc e in
    ap₂ cons_option here (filter_map-same f g xs later)

indices-alike : (tnfa : Tnfa) (first second : ℕ) (seen : List Place) (index : ℕ) (reaches : List Reach)
    → map (step_on tnfa first) reaches ≡ map (step_on tnfa second) reaches
    → indices_from tnfa first seen index reaches ≡ indices_from tnfa second seen index reaches
indices-alike tnfa first second seen index [] e = refl
indices-alike tnfa first second seen index (reach ∷ reaches) e =
    let here : step_on tnfa first reach ≡ step_on tnfa second reach = cc e in
    let later : map (step_on tnfa first) reaches ≡ map (step_on tnfa second) reaches = cc e in
    ap (λ o. index_if o seen index (λ seen. indices_from tnfa first seen (suc index) reaches)) here
    ∙ by (step_on tnfa second reach) (λ seen. indices-alike tnfa first second seen (suc index) reaches later)
  where
    by : (o : Option Step) → ((seen : List Place) → indices_from tnfa first seen (suc index) reaches ≡ indices_from tnfa second seen (suc index) reaches)
        → index_if o seen index (λ seen. indices_from tnfa first seen (suc index) reaches)
        ≡ index_if o seen index (λ seen. indices_from tnfa second seen (suc index) reaches)
    by None same = same seen
    by (Some step) same =
        ap₂ (λ (skipped taken : List ℕ). if is_among seen step.to then skipped else index ∷ taken) (same seen) (same (step.to ∷ seen))

-- between cuts the steps of targets are the same, by the same targets, and lead to the same places
module _ (tnfa : Tnfa) (reaches : List Reach) (cuts : List ℕ) (separate : CutSteps tnfa reaches cuts) (first second : ℕ) (le : first ≤ second)
    (none : NoneBetween first second cuts) where
  pub next_steps-alike : next_steps tnfa first reaches ≡ next_steps tnfa second reaches
  next_steps-alike =
      ap (λ l. first_steps [] l) (filter_map-same (step_on tnfa first) (step_on tnfa second) reaches (separate first second le none))

  pub step_indices-alike : step_indices tnfa first reaches ≡ step_indices tnfa second reaches
  step_indices-alike = indices-alike tnfa first second [] 0 reaches (separate first second le none)

pub steps-alike : (tnfa : Tnfa) (reaches : List Reach) (cuts : List ℕ) → CutSteps tnfa reaches cuts → GoesOnAlike (onward_by tnfa reaches) cuts
steps-alike tnfa reaches cuts separate first second le none =
    let same = next_steps-alike tnfa reaches cuts separate first second le none in
    (same, ap places_of same)

module _ {K : Type 0} (tnfa : Tnfa) (greatest : ℕ) (first : Bool) (onward : Onward K) (cuts : List ℕ) (separate : GoesOnAlike onward cuts)
    (ascending : IsAscending cuts) (lists : List K) (index next : ℕ) (is_next : next ≡ suc index) (edges : List Edge)
    (are : AreEdgesBefore tnfa greatest lists first onward (slice_get cuts index) edges) where
  -- the edges for the units before the next cut
  abbrev pub AreNext : List K → List Edge → Type 0
  AreNext new after = AreEdgesBefore tnfa greatest new first onward (slice_get cuts next) after

  before_next : (new : List K) (after : List Edge) → AreEdgesBefore tnfa greatest new first onward (slice_get cuts (suc index)) after → AreNext new after
  before_next new after right = subst (λ n. AreEdgesBefore tnfa greatest new first onward (slice_get cuts n) after) (sym is_next) right

  pub empty-next : IsRangeEmpty cuts index greatest → AreNext lists edges
  empty-next empty = before_next lists edges (edges-empty tnfa greatest first onward cuts separate ascending lists index edges are empty)

  module _ (last unit : ℕ) (range : IsRangeEnd cuts index greatest last) (is_cut : unit ≡ range.cut) (new later : List K)
      (grown : new ≡ lists ++ later) where
    more : AreEdgesBefore tnfa greatest new first onward (slice_get cuts index) edges
    more =
        subst (λ l. AreEdgesBefore tnfa greatest l first onward (slice_get cuts index) edges) (sym grown)
        (edges-more tnfa greatest first onward cuts separate ascending lists later (slice_get cuts index) edges are)

    pub none-next : IsEdgeOf tnfa new first (onward.steps unit) (onward.next unit) None → AreNext new edges
    none-next makes =
        before_next new edges
        (edges-none tnfa greatest first onward cuts separate ascending new index last edges more range
        (subst (λ n. IsEdgeOf tnfa new first (onward.steps n) (onward.next n) None) is_cut makes))

    module _ (edge : Edge) (makes : IsEdgeOf tnfa new first (onward.steps unit) (onward.next unit) (Some edge)) (lo : edge.lo ≡ unit)
        (hi : edge.hi ≡ last) where
      pub edge-apart : AreApart (edges ++ edge ∷ [])
      edge-apart = edges-apart tnfa greatest first onward cuts separate ascending new index last edges more range edge (lo ∙ is_cut) hi

      pub edge-next : (after : List Edge) → AreSameEdges (edges ++ edge ∷ []) after → AreNext new after
      edge-next after same =
          before_next new after
          (edges-behind tnfa greatest first onward cuts separate ascending new index last edges more range edge (lo ∙ is_cut) hi after
          (subst (λ n. IsEdgeOf tnfa new first (onward.steps n) (onward.next n) (Some edge)) is_cut makes) same)
