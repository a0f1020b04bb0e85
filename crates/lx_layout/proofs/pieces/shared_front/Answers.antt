use Rattle.std.proofs.Common.{◌<◌, arith, length}
use Rattle.lx_layout.specs.PieceViews.{seen_form, seen_sources}
use Rattle.lx_layout.specs.Pieces.{conds_of}
use Rattle.lx_layout.proofs.Fronts.LikeParts.{first-own, own-formed}
use Rattle.lx_layout.proofs.Laying.PartsBehind.{fit_at}
use Rattle.lx_layout.proofs.pieces.shared_front.Goals as goal

pub front_of-requires : goal.front_of-requires
front_of-requires c =
    let form = seen_form c.args.form.now in
    let scanners = c.args.scanners.now in
    let conds = conds_of (seen_sources scanners) in
    let first = c.index-scanners-0.result in
    let at = c.loop-scanner-test.true in
    let within : 0 < length scanners = omega (arith, at) in
    let fit = fit_at form conds scanners 0 first within c.index-scanners-0.is c.requires.fit.each in
    record {
      formed = own-formed form conds first fit c.part_input.result.auto.now c.part_input.ensures.auto
          (first-own scanners first within c.index-scanners-0.is c.requires.like);
    }
