use Rattle.std.proofs.Common.{refl}
use Rattle.lx_run.proofs.MatchLemmas.{match_line-splits}
use Rattle.lx_run.proofs.PutTexts.{HasGiven-first, HasGiven-more, IsPut-first_refused, IsPut-last, IsPut-refused}
use Rattle.lx_run.proofs.lines.put_match_line.Goals as goal

pub returns-in_err-put_front : goal.returns-in_err-put_front
returns-in_err-put_front g c =
    let splits = match_line-splits c.args.word.now c.args.rule c.args.lexer.now in
    IsPut-first_refused _ _ c.from_residual.result splits c.in_err-put_front.ensures c.from_residual.ensures.1

pub returns-in_err-put_values : goal.returns-in_err-put_values
returns-in_err-put_values g c =
    let first = HasGiven-first _ _ (match_line-splits c.args.word.now c.args.rule c.args.lexer.now) c.in_ok-put_front.ensures in
    IsPut-refused _ _ _ c.from_residual-in_err-put_values.result refl first c.in_err-put_values.ensures c.from_residual-in_err-put_values.ensures.1

pub returns : goal.returns
returns g c =
    let first = HasGiven-first _ _ (match_line-splits c.args.word.now c.args.rule c.args.lexer.now) c.in_ok-put_front.ensures in
    IsPut-last _ c.put.result (HasGiven-more _ _ _ refl first c.in_ok-put_values.ensures) c.put.ensures
