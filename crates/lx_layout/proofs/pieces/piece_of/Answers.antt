use Rattle.std.proofs.Common.{IfSome, ap, length, rules, subst, sym, ◌∙◌}
use Rattle.std.specs.Prelude.{◌≡◌, ◌≤◌}
use Rattle.lx_base.specs.declared.limits.TheConstants.{STATEMENT_LIMIT}
use Rattle.lx_ccode.specs.Counts.{table_size}
use Rattle.lx_ccode.specs.States.{states_from}
use Rattle.lx_ccode.specs.Statements.{statement_count}
use Rattle.lx_ccode.specs.Validity.{labels}
use Rattle.lx_dispatch.specs.Dispatch.{IsTable}
use Rattle.lx_layout.specs.Forgetting.{JumpsForget}
use Rattle.lx_layout.specs.PieceViews.{seen_form, seen_sources}
use Rattle.lx_layout.specs.Pieces.{ArePartsOf, HasFields, sources_in}
use Rattle.lx_layout.specs.Switches.{cond_cases}
use Rattle.lx_layout.proofs.Jumps.ForgettingSources.{fit_in}
use Rattle.lx_layout.proofs.PieceLaws.ShortHistories.{histories_short, states_none}
use Rattle.lx_layout.proofs.PieceLaws.WholePieces.{is_piece}
use Rattle.lx_layout.proofs.pieces.piece_of.Goals as goal

pub piece_with-requires-clause-short : goal.piece_with-requires-clause-short
piece_with-requires-clause-short c =
    let laid = c.in_ok-laid.ensures.parts in
    let form = seen_form c.args.form in
    let blocks = c.in_ok-laid.laid.blocks.items in
    let scanners = seen_sources c.args.scanners.now in
    histories_short form c.in_ok-laid.laid.table.items c.in_ok-laid.ensures.table (sources_in blocks scanners) laid.0 blocks (fit_in blocks form scanners c.requires.fit) laid.1 laid.2 c.in_ok-laid.ensures.few

pub piece_with-requires-clause-stored : goal.piece_with-requires-clause-stored
piece_with-requires-clause-stored c =
    let laid = c.in_ok-laid.ensures.parts in
    let form = seen_form c.args.form in
    let blocks = c.in_ok-laid.laid.blocks.items in
    let scanners = seen_sources c.args.scanners.now in
    states_none form c.in_ok-laid.laid.table.items c.in_ok-laid.ensures.table (sources_in blocks scanners) laid.0 blocks (fit_in blocks form scanners c.requires.fit) laid.1 laid.2 c.in_ok-laid.ensures.few

pub returns : goal.returns
returns c =
    let form = seen_form c.args.form in
    let laid = c.in_ok-laid.ensures.parts in
    let piece = c.in_ok-piece.piece in
    let told = c.in_ok-piece.ensures in
    let same = sym told.blocks in
    let scanners = seen_sources c.args.scanners.now in
    is_piece form scanners laid.0 piece c.requires.fit
    (subst (λ table. ArePartsOf form table (sources_in piece.blocks scanners) laid.0) (sym told.table)
    (subst (λ blocks. ArePartsOf form c.in_ok-laid.laid.table.items (sources_in blocks scanners) laid.0) same laid.1))
    (subst IsTable (sym told.table) c.in_ok-laid.ensures.table)
    (ap length told.table ∙ c.in_ok-laid.ensures.size ∙ ap table_size same)
    (let h = c.well_formed in search rules)
    (told.blocks ∙ laid.2)
    (subst (λ blocks. statement_count blocks ≤ STATEMENT_LIMIT) same c.in_ok-laid.ensures.few)
    (subst (λ blocks. HasFields form (labels blocks) piece) same told.fields)
    (subst (λ blocks. IfSome piece.states (λ cases. cases ≡ states_from 0 blocks)) same told.states)
    (subst (λ blocks. piece.conds ≡ cond_cases 0 blocks) same told.conds)
    (subst JumpsForget same c.in_ok-laid.ensures.forgets)
