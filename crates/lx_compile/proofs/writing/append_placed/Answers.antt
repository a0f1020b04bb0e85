use Rattle.std.proofs.Common.{◌≡◌, ◌++◌, Option, subst}
use Rattle.std.specs.Prelude.{OnOk}
use Rattle.lx_ccode.specs.Text.{piece_text}
use Rattle.lx_ccode.specs.declared.piece.LineMark.{LineMark}
use Rattle.lx_compile.proofs.writing.append_placed.Goals as goal

pub returns : goal.returns
returns c =
    subst (λ (place : Option LineMark). OnOk c.append_piece.result
    (c.append_piece.new.text.items ≡ c.args.output.now.items ++ piece_text place c.args.piece.now))
    c.in_ok-place.ensures c.append_piece.ensures
