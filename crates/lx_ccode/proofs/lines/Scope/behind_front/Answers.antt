use Rattle.lx_ccode.proofs.Behind.{found_as, head_text, head_text-append, head_written, written}
use Rattle.lx_ccode.proofs.lines.Scope.behind_front.Goals as goal

pub returns : goal.returns
returns c =
    let place = c.args.place.now in
    let piece = c.args.piece.now in
    found_as (head_text place piece) c.as_slice.result.now c.args.bytes.now c.behind.result
    (written (head_text place piece) _ _ _ (head_text-append place piece) c.as_slice.ensures.value
    (head_written place piece _ _ _ c.in_ok-append_front.ensures c.in_ok-append_line.ensures) c.clear.ensures.items) c.behind.ensures
