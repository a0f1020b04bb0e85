use Rattle.std.proofs.Common.{◌∙◌, sym, true, false}
use Rattle.lx_dispatch.proofs.EqualClasses.{place_next}
use Rattle.lx_dispatch.proofs.classes.place_among.Goals as goal

pub returns-then-eq : goal.returns-then-eq
returns-then-eq c =
    place_next (record { edge = c.args.edge }) c.args.classes.now c.loop-place.place c.index-classes-place.result c.loop-place-test.true c.index-classes-place.is true
    (sym c.if-eq.true ∙ c.eq.ensures) _ c.loop-place.invariant

pub loop-place-preserved : goal.loop-place-preserved
loop-place-preserved c =
    place_next (record { edge = c.args.edge }) c.args.classes.now c.loop-place.place c.index-classes-place.result c.loop-place-test.true c.index-classes-place.is false
    (sym c.if-eq.false ∙ c.eq.ensures) _ c.loop-place.invariant
