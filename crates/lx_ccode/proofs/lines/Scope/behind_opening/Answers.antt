use Rattle.std.proofs.Common.{List, None, [], ℕ, ◌∙◌}
use Rattle.std.proofs.lemmas.Result.{IfOk-weaker}
use Rattle.lx_ccode.specs.Text.{blocks_then, closing_then, line_behind, opening_then}
use Rattle.lx_ccode.specs.Wording.{scope_wording}
use Rattle.lx_ccode.proofs.Behind.{found_as, found_second, none_first, written}
use Rattle.lx_ccode.proofs.Tails.{opening_then-append}
use Rattle.lx_ccode.proofs.lines.Scope.behind_opening.Goals as goal

pub returns-in-None : goal.returns-in-None
returns-in-None c =
    let piece = c.args.piece.now in
    let wording = scope_wording c.args.self.now in
    none_first (opening_then piece) (λ tail. blocks_then wording (line_behind c.args.line (opening_then piece [])) 0 piece.blocks (closing_then piece tail)) c.args.bytes.now
    (found_as (opening_then piece) c.as_slice.result.now c.args.bytes.now None
    (written (opening_then piece) _ _ _ (opening_then-append piece []) c.as_slice.ensures.value c.in_ok-line.ensures.0 c.clear.ensures.items) c.in-None.ensures)

pub returns-in-Some : goal.returns-in-Some
returns-in-Some c =
    let piece = c.args.piece.now in
    let wording = scope_wording c.args.self.now in
    let others = λ (tail : List ℕ). blocks_then wording (line_behind c.args.line (opening_then piece [])) 0 piece.blocks (closing_then piece tail) in
    let here = c.in-Some.ensures
    ∙ written (opening_then piece) _ _ _ (opening_then-append piece []) c.as_slice.ensures.value c.in_ok-line.ensures.0 c.clear.ensures.items c.in-Some.rest.now in
    IfOk-weaker c.behind_others.result _ _
    (λ found. found_second (opening_then piece) others c.args.bytes.now c.in-Some.rest.now found (opening_then-append piece []) here)
    (rw c.in_ok-line.ensures.1 at c.behind_others.ensures)
