use Rattle.std.proofs.Common.{◌∙◌}
use Rattle.lx_layout.specs.PieceViews.{seen_form}
use Rattle.lx_layout.proofs.Jumps.ForgettingSources.{forgetting_laid, laid_forgets}
use Rattle.lx_layout.specs.PieceViews.{seen_sources}
use Rattle.lx_layout.specs.Pieces.{sources_in}
use Rattle.lx_layout.proofs.Jumps.ForgettingSources.{fit_in}
use Rattle.lx_layout.proofs.PieceLaws.TableSets.{sets_within}
use Rattle.lx_layout.proofs.pieces.scanner_blocks.Goals as goal

pub returns-clause-parts : goal.returns-clause-parts
returns-clause-parts c =
    let parts = c.in_ok-append_scanners.ensures in
    forgetting_laid (seen_form c.args.form.now) c.args.sets.now.table.items c.requires.table c.args.scanners.now c.requires.fit c.append_scanners.new.blocks.items c.shrink_to_fit.new.self.items
    (c.shrink_to_fit.ensures.items ∙ c.in_ok-forget_before_jumps.ensures) parts.0 parts.1 parts.2

pub returns-clause-forgets : goal.returns-clause-forgets
returns-clause-forgets c =
    let parts = c.in_ok-append_scanners.ensures in
    laid_forgets (seen_form c.args.form.now) c.args.sets.now.table.items c.requires.table c.args.scanners.now c.requires.fit c.append_scanners.new.blocks.items c.shrink_to_fit.new.self.items
    (c.shrink_to_fit.ensures.items ∙ c.in_ok-forget_before_jumps.ensures) parts.0 parts.1 parts.2

pub returns-clause-sets : goal.returns-clause-sets
returns-clause-sets c =
    let form = seen_form c.args.form.now in
    let scanners = seen_sources c.args.scanners.now in
    let table = c.args.sets.now.table.items in
    let blocks = c.shrink_to_fit.new.self.items in
    let parts = c.in_ok-append_scanners.ensures in
    let laid = forgetting_laid form table c.requires.table c.args.scanners.now c.requires.fit c.append_scanners.new.blocks.items blocks
    (c.shrink_to_fit.ensures.items ∙ c.in_ok-forget_before_jumps.ensures) parts.0 parts.1 parts.2 in
    sets_within form table c.requires.table (sources_in blocks scanners) laid.0 blocks (fit_in blocks form scanners c.requires.fit) laid.1 laid.2
