use Rattle.std.proofs.Common.{[]}
use Rattle.lx_ccode.specs.Text.{closing_then}
use Rattle.lx_ccode.proofs.Behind.{found_as, written}
use Rattle.lx_ccode.proofs.Tails.{closing_then-append}
use Rattle.lx_ccode.proofs.lines.Scope.behind_closing.Goals as goal

pub returns : goal.returns
returns c =
    let piece = c.args.piece.now in
    found_as (closing_then piece) c.as_slice.result.now c.args.bytes.now c.behind.result
    (written (closing_then piece) _ _ _ (closing_then-append piece []) c.as_slice.ensures.value c.in_ok-append_closing.ensures c.clear.ensures.items)
    c.behind.ensures
