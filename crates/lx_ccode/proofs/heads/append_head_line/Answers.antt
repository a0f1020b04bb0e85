use Rattle.std.proofs.lemmas.Result.{on_ok_weaker}
use Rattle.lx_ccode.proofs.Tails.{head_line_written}
use Rattle.lx_ccode.proofs.heads.append_head_line.Goals as goal

pub returns : goal.returns
returns c =
    on_ok_weaker c.append_number-3.result (head_line_written c.args.kept c.args.head.now _ _ _ _ _ _ _
    (rw (c.format_word.ensures, c.custom_word-custom.ensures) at c.in_ok-append_word.ensures)
    (rw (c.kept_word.ensures, c.encoding_word.ensures) at c.in_ok-append_word-2.ensures) (rw c.mode_word.ensures at c.in_ok-append_word-3.ensures)
    (rw c.from.ensures at c.in_ok-append_number.ensures) (rw c.from-2.ensures at c.in_ok-append_number-2.ensures)) c.append_number-3.ensures
