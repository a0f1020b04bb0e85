use Rattle.std.proofs.Common.{arith, subst}
use Rattle.std.proofs.lemmas.List.{get_or-map, length-map}
use Rattle.lx_tnfa.specs.Tnfa.{IsPlace}
use Rattle.lx_tnfa.specs.declared.places.Place.{Place}
use Rattle.lx_posix.specs.declared.kept.Kept.{Kept}
use Rattle.lx_posix.proofs.beginnings.beginnings.Goals as goal

pub beginning_of-requires-clause-place : goal.beginning_of-requires-clause-place
beginning_of-requires-clause-place c =
    let kernel = c.args.kernel.now in
    let place : Kept → Place = λ kept. kept.place in
    let none : Kept = record { place = record { part = 0; rest = record { 0 = 0 } }; depth = 0; number = 0 } in
    subst (IsPlace c.args.t.now) (get_or-map place kernel c.loop-kept.kept-index none (place none) c.loop-kept-test.true)
    (c.requires.places c.loop-kept.kept-index (place none) (omega (arith, length-map kernel place, c.loop-kept-test.true)))
