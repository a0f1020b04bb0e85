use Rattle.std.proofs.Common.{List, ℕ}
use Rattle.std.proofs.lemmas.Result.{IfOk-weaker}
use Rattle.lx_ccode.specs.Text.{blocks_line, blocks_then, closing_then, opening_then}
use Rattle.lx_ccode.specs.Wording.{wording_of}
use Rattle.lx_ccode.proofs.Behind.{found_second, head_text, head_text-append, none_first}
use Rattle.lx_ccode.proofs.lines.Scope.behind_piece.Goals as goal

pub returns-in-None : goal.returns-in-None
returns-in-None c =
    let place = c.args.place.now in
    let piece = c.args.piece.now in
    let others = λ (tail : List ℕ). opening_then piece (blocks_then (wording_of place piece) (blocks_line place piece) 0 piece.blocks (closing_then piece tail)) in
    none_first (head_text place piece) others c.args.bytes.now (rw c.in-None.is at c.in_ok-behind_front.ensures)

pub returns-in-Some : goal.returns-in-Some
returns-in-Some c =
    let place = c.args.place.now in
    let piece = c.args.piece.now in
    let others = λ (tail : List ℕ). opening_then piece (blocks_then (wording_of place piece) (blocks_line place piece) 0 piece.blocks (closing_then piece tail)) in
    let here = rw c.in-Some.is at c.in_ok-behind_front.ensures in
    IfOk-weaker c.behind_opening.result _ _
    (λ found. found_second (head_text place piece) others c.args.bytes.now c.in-Some.rest.now found (head_text-append place piece) here)
    (rw (c.requires, c.line_of.ensures) at c.behind_opening.ensures)
