use Rattle.std.proofs.Common.{◌∙◌, ap, sym}
use Rattle.lx_layout.specs.NumberIndexes.{with_place}
use Rattle.lx_layout.proofs.Rules.EndPlaces.{end_place-next}
use Rattle.lx_layout.proofs.rule_ends.index_of.Goals as goal

pub loop-place-preserved : goal.loop-place-preserved
loop-place-preserved c =
    λ number.
    let end = c.index-ends-place.result in
    let place = c.loop-place.place in
    c.in_ok-note.ensures number ∙ ap (λ o. with_place o end.rule.now.number place number) (c.loop-place.invariant number)
    ∙ sym (end_place-next c.args.ends.now place end number c.loop-place-test.true c.index-ends-place.is)
