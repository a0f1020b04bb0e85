use Rattle.std.proofs.Common.{subst}
use Rattle.lx_min.specs.declared.distances.Scale.{Scale}
use Rattle.lx_min.specs.Distances.{AreDistances}
use Rattle.lx_min.proofs.ToldByDistance.{TellApart-distances}
use Rattle.lx_min.proofs.distances.distances_from.Goals as goal

pub returns-then-are_right-clause-apart : goal.returns-then-are_right-clause-apart
returns-then-are_right-clause-apart c =
    let scale : Scale = record { wide = c.args.wide; step = c.args.step; far = c.saturating_mul.result } in
    TellApart-distances c.args.auto.now c.args.classes.now scale c.in_ok-distances.distances.items c.requires.formed c.requires.some
    c.requires.apart
    (subst (AreDistances c.args.auto.now c.args.classes.now scale) c.as_slice.ensures.value (c.are_right.ensures c.if-are_right.true))
