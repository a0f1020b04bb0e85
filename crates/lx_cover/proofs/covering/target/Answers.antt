use Rattle.std.proofs.Common.{◌≢◌, List, [], ◌∷◌, map, Some, eqb-true, refl, sym, ap, ◌∙◌, subst, rules}
use Rattle.std.proofs.lemmas.List.{nil_from_length}
use Rattle.lx_tdfa.proofs.Loops.ListSets.{put_adds}
use Rattle.lx_tdfa.proofs.Loops.PlaceSets.{TellsEqual-places}
use Rattle.lx_tdfa.specs.Making.{Adds, seen_step}
use Rattle.lx_tdfa.specs.Steps.{places_of}
use Rattle.lx_tdfa.specs.declared.steps.Step as held
use Rattle.lx_cover.proofs.covering.target.Goals as goal

pub returns-then-is_empty : goal.returns-then-is_empty
returns-then-is_empty c =
    let none = nil_from_length c.args.steps.now (eqb-true _ 0 (sym c.is_empty.ensures ∙ c.if-is_empty.true)) in
    (ap (λ l. places_of (map seen_step l)) none, refl)

some-places : (steps : List held.Step) → steps ≢ [] → places_of (map seen_step steps) ≢ []
some-places [] some none = some refl
some-places (step ∷ steps) some none = cc none

pub returns : goal.returns
returns c =
    let some : c.args.steps.now ≢ [] = search (rules, c.is_empty.ensures, c.if-is_empty.false) in
    let list = places_of (map seen_step c.args.steps.now) in
    let told = c.in_ok-number.ensures.told TellsEqual-places in
    let same = c.in_ok-step_places.ensures in (
      some-places c.args.steps.now some,
      told.1 ∙ ap Some same,
      subst (λ l. Adds c.args.kernels.now l c.put.new.self) same
          (put_adds c.args.kernels.now c.put.new.self c.in_ok-step_places.field-0.items _ c.in_ok-number.ensures.lists told.0),
    )
