use Rattle.std.proofs.Common.{◌≡◌, ◌-◌, ◌<◌, ◌↔◌, List, IsTrue, length, take, drop, subst, arith, get_or}
use Rattle.std.specs.List.{AllByRecursion}
use Rattle.std.proofs.lemmas.Grind.{common_steps}
use Rattle.lx_ccode.specs.declared.piece.StateCase.{StateCase}
use Rattle.lx_creader.proofs.StateLists.{ascending_refused, drop-before}
use Rattle.lx_creader.proofs.states.are_ascending.Goals as goal

pub returns-then-not-below : goal.returns-then-not-below
returns-then-not-below c =
    let cases = c.args.cases.now in
    let place = c.loop-place.place in
    let none : StateCase = record { state = 0; block = 0 } in
    let whole : take (length cases - place) (drop place cases) ≡ drop place cases = grind (arith, common_steps) in
    ascending_refused cases place (get_or cases (place - 1) none) c.is_below-below.result
    (drop-before cases place none c.loop-place-test.true c.loop-place.invariant.0)
    (subst (λ (l : List StateCase). IsTrue c.is_below-below.result ↔ AllByRecursion (λ (other : StateCase). (get_or cases (place - 1) none).state < other.state) l) whole c.is_below-below.ensures)
    c.if-not-below.true
