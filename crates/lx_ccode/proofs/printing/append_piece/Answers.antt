use Rattle.std.proofs.Common.{[], ap, Option, ℕ, ◌∙◌}
use Rattle.lx_ccode.specs.Text.{line_behind, opening_then}
use Rattle.lx_ccode.proofs.Tails.{piece_written, scope_wording-piece}
use Rattle.lx_ccode.proofs.printing.append_piece.Goals as goal

pub returns : goal.returns
returns c =
    let place = c.args.place.now in
    let piece = c.args.piece.now in
    let scope = c.of-scope.ensures in
    let wording = scope_wording-piece c.of-scope.result place piece scope.number scope.names scope.ctx scope.custom scope.unit
    (scope.labels ∙ c.as_slice.ensures.value ∙ c.in_ok-labels.ensures) (scope.out ∙ c.file_of.ensures) in
    let line = c.in_ok-line.ensures.1 ∙ ap (λ (l : Option ℕ). line_behind l (opening_then piece [])) c.line_of.ensures in
    piece_written place piece _ _ _ _ _ _ c.in_ok-append_front.ensures c.in_ok-append_line.ensures c.in_ok-line.ensures.0
    (rw (wording, line, c.as_slice-2.ensures) at c.in_ok-append_blocks.ensures) c.in_ok-append_closing.ensures
