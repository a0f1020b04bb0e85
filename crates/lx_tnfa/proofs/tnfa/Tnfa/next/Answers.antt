use Rattle.std.proofs.Common.{◌≡◌, ◌*◌, ◌<◌, ◌∷◌, [], ◌∙◌, length, ap, sym, subst, arith}
use Rattle.std.proofs.lemmas.Bool.Decides.{nat_tests}
use Rattle.lx_tnfa.specs.Tnfa.{FinishesRest, FinishesPlace, rows_at}
use Rattle.lx_tnfa.proofs.Leaves.PlaceSteps.{class_goes_on, goes_on, numbered_at, rows_are, state_is}
use Rattle.lx_tnfa.proofs.tnfa.Tnfa.next.Goals as goal

pub returns-in_ok-rest-in-Class-clause-none : goal.returns-in_ok-rest-in-Class-clause-none
returns-in_ok-rest-in-Class-clause-none c =
    let tnfa = c.args.self.now in
    let states : tnfa.states ≡ c.self.inside.states.items = sym (ap (λ t. t.states) c.self.view_is) in
    let classes : tnfa.classes ≡ c.self.inside.classes.items = sym (ap (λ t. t.classes) c.self.view_is) in
    let state = state_is tnfa c.args.place.now c.self.inside.states.items c.index.result.now states c.requires.part c.index.ensures ∙ c.in-Class.is in
    let lt : 2 * c.args.place.now.part < length c.self.inside.states.items = subst (λ l. 2 * c.args.place.now.part < length l) states c.requires.part in
    let within = numbered_at _ c.self.inside.states.items (2 * c.args.place.now.part) c.index.result.now c.in-Class.number c.self.invariant.0 lt c.index.ensures c.in-Class.is in
    let rows =
    ap (λ l. rows_at l c.in-Class.number) classes
    ∙ rows_are c.self.inside.classes.items c.in-Class.number c.index-in-Class.result.now within c.index-in-Class.ensures in
    class_goes_on tnfa c.args.place.now c.in-Class.number c.args.unit _ state rows c.in_ok-rest-in-Class.ensures.none.1

pub returns-else-ne-clause-none : goal.returns-else-ne-clause-none
returns-else-ne-clause-none c =
    let tnfa = c.args.self.now in
    let states : tnfa.states ≡ c.self.inside.states.items = sym (ap (λ t. t.states) c.self.view_is) in
    let state = state_is tnfa c.args.place.now c.self.inside.states.items c.index.result.now states c.requires.part c.index.ensures ∙ c.in-AnyUnit.is in
    let one : c.args.place.now.rest.0 ≡ 1 = grind (arith, nat_tests, c.if-ne.false, c.ne.ensures) in
    let fin : FinishesPlace tnfa c.args.place.now (c.args.unit ∷ []) =
    subst (λ s. FinishesRest tnfa.classes s c.args.place.now.rest.0 (c.args.unit ∷ [])) (sym state) (sym one) in
    goes_on (λ units. FinishesPlace tnfa c.args.place.now (c.args.unit ∷ units)) [] fin
