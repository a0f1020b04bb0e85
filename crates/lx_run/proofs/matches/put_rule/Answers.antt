use Rattle.std.proofs.Common.{◌∙◌, [], ap, sym, refl, append-nil}
use Rattle.lx_run.specs.Lines.{stop_line}
use Rattle.lx_run.proofs.MatchLemmas.{stop_behind-stops}
use Rattle.lx_run.proofs.PutTexts.{HasGiven-first, IsPut-first_refused, IsPut-refused}
use Rattle.lx_run.proofs.matches.put_rule.Goals as goal

pub returns-in_err-put_match_line-clause-put : goal.returns-in_err-put_match_line-clause-put
returns-in_err-put_match_line-clause-put g c = IsPut-first_refused _ _ c.from_residual.result refl c.in_err-put_match_line.ensures c.from_residual.ensures.1

pub returns-in_err-put_stop_line-clause-put : goal.returns-in_err-put_stop_line-clause-put
returns-in_err-put_stop_line-clause-put g c =
    let stops = stop_behind-stops c.args.lexer.now c.cursor.result c.start.result c.cursor.ensures c.start.ensures c.if-cursor-start.true
    ∙ ap stop_line (sym c.cursor-then-cursor-start.ensures) ∙ sym (append-nil (stop_line c.cursor-then-cursor-start.result)) in
    IsPut-refused _ _ [] c.from_residual-in_err-put_stop_line.result stops (HasGiven-first _ _ refl c.in_ok-put_match_line.ensures)
    c.in_err-put_stop_line.ensures c.from_residual-in_err-put_stop_line.ensures.1
