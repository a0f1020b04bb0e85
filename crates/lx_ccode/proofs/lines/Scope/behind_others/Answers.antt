use Rattle.std.proofs.Common.{[]}
use Rattle.std.proofs.lemmas.Result.{IfOk-weaker}
use Rattle.lx_ccode.specs.Text.{blocks_then, closing_then}
use Rattle.lx_ccode.specs.Wording.{scope_wording}
use Rattle.lx_ccode.proofs.Behind.{found_second}
use Rattle.lx_ccode.proofs.Tails.{blocks_then-append}
use Rattle.lx_ccode.proofs.lines.Scope.behind_others.Goals as goal

pub returns-in-Some : goal.returns-in-Some
returns-in-Some c =
    let piece = c.args.piece.now in
    let wording = scope_wording c.args.self.now in
    let here = rw (c.as_slice.ensures, c.in-Some.is) at c.in_ok-behind_blocks.ensures in
    IfOk-weaker c.behind_closing.result _ _
    (λ found. found_second (blocks_then wording c.args.line 0 piece.blocks) (closing_then piece) c.args.bytes.now c.in-Some.closing.now found
    (blocks_then-append wording c.args.line 0 piece.blocks []) here) c.behind_closing.ensures
