use Rattle.lx_words.proofs.Simple.{read_rows, not_refused, refusal-stops}
use Rattle.lx_words.proofs.words.read_line.Goals as goal

pub returns-in-Ok : goal.returns-in-Ok
returns-in-Ok c =
    (not_refused _ _ c.in_ok-command.ensures c.in-Ok.ensures.kinds, read_rows _ _ c.in-Ok.line c.in_ok-command.ensures c.in-Ok.ensures.matches)

pub returns-in-Err : goal.returns-in-Err
returns-in-Err c = refusal-stops _ _ c.in-Err.error c.kind.result c.refused.result c.in_ok-command.ensures c.in-Err.ensures.kinds c.kind.ensures c.refused.ensures
