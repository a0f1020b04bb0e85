use Rattle.std.proofs.Common.{refl}
use Rattle.lx_base.specs.Spelling.{greatest_unit}
use Rattle.lx_layout.specs.PieceViews.{seen_form, seen_source, seen_sources}
use Rattle.lx_layout.specs.Pieces.{conds_of, given_of}
use Rattle.lx_layout.proofs.Fronts.LikeParts.{front-at}
use Rattle.lx_layout.proofs.Laying.PartsBehind.{fit_at, laid-more}
use Rattle.lx_layout.proofs.pieces.append_scanners.Goals as goal

pub append_scanner-requires-clause-fit : goal.append_scanner-requires-clause-fit
append_scanner-requires-clause-fit c =
    let form = seen_form c.args.form.now in
    let scanners = c.args.scanners.now in
    let conds = conds_of (seen_sources scanners) in (
      conds,
      fit_at form conds scanners c.loop-scanner.scanner-index c.scanner-item.result c.loop-scanner-test.true c.scanner-item.is c.requires.fit.each,
    )

pub append_scanner-requires-clause-like : goal.append_scanner-requires-clause-like
append_scanner-requires-clause-like c =
    front-at (seen_form c.args.form.now) c.args.sets.now.table.items c.args.front.now c.args.scanners.now c.loop-scanner.scanner-index c.scanner-item.result
    c.loop-scanner-test.true c.scanner-item.is c.requires.like c.requires.there c.requires.front

pub loop-scanner-preserved : goal.loop-scanner-preserved
loop-scanner-preserved c =
    let form = seen_form c.args.form.now in
    let scanners = c.args.scanners.now in
    let scanner = c.scanner-item.result in
    let table = c.args.sets.now.table.items in
    laid-more form (conds_of (seen_sources scanners)) scanners c.loop-scanner.scanner-index scanner c.loop-scanner-test.true c.scanner-item.is table
    form.first_state c.loop-scanner.next c.in_ok-next.next (greatest_unit form.enc) (given_of form table (seen_source scanner)) c.loop-scanner.blocks.items
    c.append_scanner.new.blocks.items refl refl c.loop-scanner.invariant c.in_ok-next.ensures.laid c.in_ok-next.ensures.asked
