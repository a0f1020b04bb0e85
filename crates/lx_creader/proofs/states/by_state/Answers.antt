use Rattle.std.proofs.Common.{◌-◌, ◌∙◌, arith, get_or}
use Rattle.std.specs.Ordering.{nat_cmp}
use Rattle.std.specs.BTreeMap.{get}
use Rattle.lx_ccode.specs.declared.piece.StateCase.{StateCase}
use Rattle.lx_creader.proofs.StateLists.{drop-before, once_goes_on, once_refused}
use Rattle.lx_creader.proofs.states.by_state.Goals as goal

pub loop-place-preserved : goal.loop-place-preserved
loop-place-preserved c =
    let cases = c.args.cases.now in
    let place = c.loop-place.place in
    let none : StateCase = record { state = 0; block = 0 } in
    let next = once_goes_on cases place (get_or cases (place - 1) none) c.in_ok-insert.field-0 (get nat_cmp c.loop-place.map) (get nat_cmp c.insert.new.self)
    (drop-before cases place none c.loop-place-test.true c.loop-place.invariant.0) c.in_ok-insert.ensures.old c.if-is_some.ensures c.loop-place.invariant.1 c.loop-place.invariant.2
    c.in_ok-insert.ensures.updates.0 in
    (omega arith, next.0, next.1)

pub returns-then-is_some : goal.returns-then-is_some
returns-then-is_some c =
    let cases = c.args.cases.now in
    let place = c.loop-place.place in
    let none : StateCase = record { state = 0; block = 0 } in
    once_refused cases place (get_or cases (place - 1) none) c.in_ok-insert.field-0 (drop-before cases place none c.loop-place-test.true c.loop-place.invariant.0)
    (c.in_ok-insert.ensures.old ∙ c.loop-place.invariant.2 (get_or cases (place - 1) none).state) c.if-is_some.ensures
