-- No step leads to the start.
use Rattle.std.proofs.Common.{◌≡◌, ℕ, ◌*◌, List, [], ◌∷◌, Some, filter_map, refl, ap, ◌∙◌, arith}
use Rattle.std.specs.Prelude.{slice_index_or}
use Rattle.lx_base.specs.declared.settings.Enc.{Enc}
use Rattle.lx_encode.specs.Graph.{numbered}
use Rattle.lx_regex.specs.Pattern.{Pattern}
use Rattle.lx_tnfa.specs.LeafReadings.{IsNth}
use Rattle.lx_tnfa.specs.Tnfa.{IsTnfaOf, Tnfa, place_after, rest_after, state_at}
use Rattle.lx_tnfa.specs.declared.closure.Reach.{Reach}
use Rattle.lx_tnfa.specs.declared.closure.Target.{Target}
use Rattle.lx_tnfa.specs.declared.closure.Target.TheVariants.{End, Leaf}
use Rattle.lx_tnfa.specs.declared.places.Place.{Place}
use Rattle.lx_tnfa.specs.declared.states.State.{State}
use Rattle.lx_tnfa.specs.declared.states.State.TheVariants.{AnyUnit, Class, Moves}
use Rattle.lx_tnfa.proofs.Construction.HeldStates.{moves_same}
use Rattle.lx_tnfa.proofs.Construction.NthLists.{kept_from, mapped_from}
use Rattle.lx_tdfa.specs.Steps.{Step, first_steps, next_steps, start_place, step_on, step_to}

first_steps-head : (steps others : List Step) (step : Step) → first_steps [] steps ≡ step ∷ others → IsNth steps 0 step
first_steps-head [] others step e = absurd (cc e)
first_steps-head (first ∷ steps) others step e = cc e

step_to-place : (tnfa : Tnfa) (unit : ℕ) (reach : Reach) (target : Target) (step : Step) → step_to tnfa unit reach target ≡ Some step
    → (place : Place) × (place_after tnfa place unit ≡ Some step.to)
step_to-place tnfa unit reach (Leaf place) step e =
    let from = mapped_from (λ (to : Place). record { from = reach.from; events = reach.events; to = to }) (place_after tnfa place unit) step e in
    (place, from.1 ∙ ap (λ (s : Step). Some s.to) from.2)
step_to-place tnfa unit reach (End rule) step e = absurd (cc e)

module _ (enc : Enc) (patterns : List Pattern) (tnfa : Tnfa) (of : IsTnfaOf enc patterns tnfa) where
  start_moves : (state : State) (rest unit next : ℕ) → state ≡ Moves [] → rest_after tnfa.classes state rest unit ≡ Some next → ⊥
  start_moves (Moves ways) rest unit next is e = cc e
  start_moves (Class number) rest unit next is e = cc is
  start_moves AnyUnit rest unit next is e = cc is

  place_after-start : (place : Place) (unit : ℕ) → place_after tnfa place unit ≡ Some start_place → ⊥
  place_after-start place unit e =
      let from = mapped_from (λ (rest : ℕ). record { part = place.part; rest = numbered rest }) (rest_after tnfa.classes (state_at tnfa place) place.rest.0 unit) start_place e in
      let part : place.part ≡ 0 = ap (λ (p : Place). p.part) from.2 in
      let number : 2 * place.part ≡ 0 = omega arith in
      let state : state_at tnfa place ≡ Moves [] = ap (λ n. slice_index_or tnfa.states n (Moves [])) number ∙ moves_same enc patterns tnfa 0 [] of refl in
      start_moves (state_at tnfa place) place.rest.0 unit from.0 state from.1

  pub next_steps-start : (unit : ℕ) (reaches : List Reach) (step : Step) (others : List Step) → next_steps tnfa unit reaches ≡ step ∷ others
      → step.to ≡ start_place → ⊥
  next_steps-start unit reaches step others e start =
      let head = first_steps-head (filter_map (step_on tnfa unit) reaches) others step e in
      let from = kept_from (step_on tnfa unit) reaches 0 step head in
      let place = step_to-place tnfa unit from.x from.x.to step from.is in
      place_after-start place.0 unit (place.1 ∙ ap Some start)
