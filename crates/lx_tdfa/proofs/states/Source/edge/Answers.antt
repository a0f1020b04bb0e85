use Rattle.std.proofs.Common.{◌≢◌, [], List, arith, ap, sym, ◌∙◌, subst, All, rules, refl, ◌<◌, ◌≤◌, length, map}
use Rattle.std.proofs.lemmas.Option.{slice_get_within}
use Rattle.std.proofs.lemmas.Result.{err_from_is_err_and}
use Rattle.lx_tdfa.specs.Making.{seen_step}
use Rattle.lx_tdfa.specs.Registers.{step_ops, widest}
use Rattle.lx_tdfa.specs.Steps.{places_of}
use Rattle.lx_tdfa.specs.declared.steps.Step as held
use Rattle.lx_tdfa.proofs.Loops.EdgesMade.{adds-grows, edge-made, steps-sources, too_many-found}
use Rattle.lx_tdfa.proofs.Loops.PlaceSets.{TellsEqual-places}
use Rattle.lx_tdfa.proofs.states.Source.edge.Goals as goal

pub step_ops-requires-clause-sources : goal.step_ops-requires-clause-sources
step_ops-requires-clause-sources c =
    let of_rules = c.requires.of_rules in
    subst (λ (l : List held.Step). All (λ (step : held.Step). step.reach.now.from < 1048576) l) (sym c.deref-2.ensures.value)
    (steps-sources of_rules.enc of_rules.patterns c.args.self.now.t.now of_rules.of c.args.kernels.now c.requires.listed c.args.reaches.now c.requires.targets.0
    c.args.units.lo c.requires.unit c.in_ok-steps.steps.items c.in_ok-steps.ensures.steps)

pub overflow_cast-result : goal.overflow_cast-result
overflow_cast-result c =
    let within : c.in_ok-to.to < length c.add.new.self = slice_get_within c.add.new.self c.in_ok-to.to _ (c.in_ok-to.ensures TellsEqual-places).1 in
    let few : length c.add.new.self ≤ 4096 = (c.in_ok-to.ensures TellsEqual-places).2.few in
    omega (arith, within, few)

pub returns-in_err-to : goal.returns-in_err-to
returns-in_err-to c =
    let of_rules = c.requires.of_rules in
    let some : c.in_ok-steps.steps.items ≢ [] = search (rules, c.is_empty.ensures, c.if-is_empty.false) in
    let p = err_from_is_err_and c.from_residual-in_err-to.result c.from_residual-in_err-to.ensures.1 in
    rw (p.1, p.2)
    (too_many-found of_rules.enc of_rules.patterns c.args.self.now.t.now of_rules.of c.args.kernels.now c.requires.listed c.args.reaches.now
    c.requires.targets.0 c.args.units.lo c.requires.unit c.in_ok-steps.steps.items c.in_ok-steps.ensures.steps some c.in_ok-step_places.field-0.items
    (c.in_ok-step_places.ensures ∙ ap (λ l. places_of (map seen_step l)) c.deref.ensures.value) c.args.self.now.at c.in_err-to.field-0.0 (c.in_err-to.ensures TellsEqual-places))

pub returns : goal.returns
returns c =
    let of_rules = c.requires.of_rules in
    let some : c.in_ok-steps.steps.items ≢ [] = search (rules, c.is_empty.ensures, c.if-is_empty.false) in
    let lead = c.in_ok-step_places.ensures ∙ ap (λ l. places_of (map seen_step l)) c.deref.ensures.value in (
      adds-grows of_rules.enc of_rules.patterns c.args.self.now.t.now of_rules.of c.args.kernels.now c.requires.listed c.args.reaches.now
          c.requires.targets.0 c.args.units.lo c.requires.unit c.in_ok-steps.steps.items c.in_ok-steps.ensures.steps some c.in_ok-step_places.field-0.items
          lead c.add.new.self (c.in_ok-to.ensures TellsEqual-places).0 (c.in_ok-to.ensures TellsEqual-places).2,
      (
        edge-made of_rules.enc of_rules.patterns c.args.self.now.t.now of_rules.of c.args.kernels.now c.requires.listed c.args.reaches.now
            c.requires.targets.0 c.args.units.lo c.requires.unit c.in_ok-steps.steps.items c.in_ok-steps.ensures.steps c.add.new.self c.args.is_first _
            c.in_ok-step_places.field-0.items some (c.in_ok-to.ensures TellsEqual-places).1 lead
            (c.in_ok-step_ops.ensures
            ∙ ap (λ l. step_ops c.args.self.now.t.now (widest c.args.self.now.t.now.rules) c.args.is_first 0 (map seen_step l)) c.deref-2.ensures.value),
        refl,
        refl,
      ),
    )
