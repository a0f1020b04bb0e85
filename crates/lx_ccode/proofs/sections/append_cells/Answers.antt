use Rattle.std.proofs.Common.{[], get_or}
use Rattle.std.proofs.lemmas.List.{get_or_default}
use Rattle.lx_ccode.specs.Text.{cell_then, cells_then}
use Rattle.lx_ccode.proofs.Tails.{appended_next_at, cell_words, cells_then-cons, joined-nil}
use Rattle.lx_ccode.proofs.sections.append_cells.Goals as goal

pub loop-place-preserved : goal.loop-place-preserved
loop-place-preserved c =
    let table = c.args.table.now in
    let place = c.loop-place.place in
    let byte = get_or table place 0 in
    appended_next_at cell_then (λ place bytes. cells_then place bytes []) table place byte _ _ _ (joined-nil (cell_words place byte))
    (λ bytes. cells_then-cons place byte bytes []) c.loop-place-test.true (get_or_default table place 0 byte c.loop-place-test.true)
    c.in_ok-append_cell.ensures c.loop-place.invariant
