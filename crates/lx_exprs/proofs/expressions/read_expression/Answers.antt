use Rattle.std.proofs.Common.{List, subst}
use Rattle.std.specs.Prelude.{MatchResult}
use Rattle.std.proofs.lemmas.Result.{MatchResult-weaker}
use Rattle.lx_regex.specs.declared.rules.Tag.{Tag}
use Rattle.lx_exprs.specs.Checks.{StopsAt}
use Rattle.lx_exprs.specs.Expressions.{ChecksBehind, IsReadBehind}
use Rattle.lx_exprs.specs.Seen.{scope_view}
use Rattle.lx_forms.specs.Seen.{lexemes_view}
use Rattle.lx_exprs.proofs.Forms.ExpressionRanges.{read_first}
use Rattle.lx_exprs.proofs.expressions.read_expression.Goals as goal

pub returns-clause-read : goal.returns-clause-read
returns-clause-read c =
    let options = c.args.reader.options.now in
    let lexemes = lexemes_view c.args.lexemes in
    let definitions = scope_view c.args.reader.scope in
    let room = c.args.reader.room in
    let behind = subst
    (λ (seen : List Tag). MatchResult c.read_behind.result (IsReadBehind options lexemes definitions room (record { tags = seen; groups = 0 }) c.args.from c.args.until)
    (StopsAt (ChecksBehind options lexemes definitions seen c.args.from c.args.until)))
    c.new.ensures c.read_behind.ensures.read in
    MatchResult-weaker c.read_behind.result behind
    (λ reading read. read_first options lexemes definitions room c.args.from c.args.until reading read) (λ stopped stops. stops)
