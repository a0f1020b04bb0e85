use Rattle.std.proofs.Common.{◌∙◌, ℕ, List, [], map, ap, sym, subst, None}
use Rattle.std.specs.Borrow.{Bor}
use Rattle.std.proofs.lemmas.Result.{err_from_is_err_and}
use Rattle.std.specs.Option.{unwrap_or}
use Rattle.lx_parse.specs.Expressions.{alt}
use Rattle.lx_parse.specs.Ranges.{HasExpressions, IsPart}
use Rattle.lx_parse.specs.declared.items.Item.TheVariants as item
use Rattle.lx_forms.specs.Lexemes.{sorts_at}
use Rattle.lx_exprs.specs.Checks.{StopsAt}
use Rattle.lx_exprs.specs.Expressions.{ContextChecks, ExpressionChecks, IsRead}
use Rattle.lx_rules.specs.Conditions.{room_under}
use Rattle.lx_rules.specs.Keeping.{IsContextRead, IsHeadRead, IsRuleExpr, StopsHead}
use Rattle.lx_rules.specs.Items.{as_rule}
use Rattle.lx_exprs.specs.Defined.{is_built}
use Rattle.lx_exprs.specs.Seen.{scope_view}
use Rattle.lx_rules.specs.Seen.{known_definitions}
use Rattle.lx_forms.specs.Seen.{lexemes_view}
use Rattle.lx_rules.specs.declared.heads.Head.TheVariants as head
use Rattle.lx_rules.proofs.Rules.HeadSteps.{StopsIn, behind_refused, context_read, head_part, head_refused, plain_read}
use Rattle.lx_rules.proofs.heads.read_plain.Goals as goal

abbrev names_in : List (Bor (List ℕ)) → List (List ℕ)
names_in conds = map (λ cond. cond.now) conds

pub read_expression-requires-clause-part : goal.read_expression-requires-clause-part
read_expression-requires-clause-part c =
    let sorts = sorts_at (lexemes_view c.args.block.lexemes) in
    subst (IsPart sorts alt c.args.head) (sym c.unwrap_or.ensures)
    (head_part (lexemes_view c.args.block.lexemes) c.args.head c.args.slash c.args.until c.requires.star c.requires.dollar c.requires.expressions)

pub returns-in_err-reading-clause-read : goal.returns-in_err-reading-clause-read
returns-in_err-reading-clause-read c = λ state holds.
    let p = err_from_is_err_and c.from_residual.result c.from_residual.ensures.1 in
    let options = c.args.block.options.now in
    let lexemes = lexemes_view c.args.block.lexemes in
    let stopped = c.in_err-reading.field-0.0 in
    let stops = subst (λ last. StopsIn options lexemes c.args.known.now state holds (names_in c.args.conds.now) c.args.head last stopped) c.unwrap_or.ensures
    (subst (λ definitions. StopsAt (ExpressionChecks options lexemes definitions c.args.head c.unwrap_or.result) stopped) c.scope-scope.ensures.seen c.in_err-reading.ensures.read) in
    rw (p.1, p.2)
    (head_refused options lexemes c.args.known.now state holds (names_in c.args.conds.now) c.args.head c.args.slash c.args.until stopped c.requires.star c.requires.dollar c.requires.expressions stops)

pub returns-in_ok-read-in-None-clause-read : goal.returns-in_ok-read-in-None-clause-read
returns-in_ok-read-in-None-clause-read c = λ state holds.
    let options = c.args.block.options.now in
    let lexemes = lexemes_view c.args.block.lexemes in
    let known = c.args.known.now in
    let definitions = known_definitions known in
    let room = room_under known.conds (names_in c.args.conds.now) in
    let last = c.unwrap_or.ensures ∙ ap (λ slash. unwrap_or slash c.args.until) c.in-None.is in
    let read = subst (λ l. IsRead options lexemes definitions c.room.result c.args.head l c.in_ok-reading.reading) last
    (subst (λ definitions. IsRead options lexemes definitions c.room.result c.args.head c.unwrap_or.result c.in_ok-reading.reading) c.scope-scope.ensures.seen c.in_ok-reading.ensures.read) in
    subst (λ slash. IsHeadRead options lexemes state (names_in c.args.conds.now) c.args.head slash c.args.until room (head.Plain c.in_ok-read-in-None.read)) (sym c.in-None.is)
    (plain_read options lexemes known state holds (names_in c.args.conds.now) c.args.head c.args.until room c.in_ok-reading.reading c.requires.star c.requires.dollar
    (subst (λ room. IsRead options lexemes definitions room c.args.head c.args.until c.in_ok-reading.reading) c.room.ensures.room read)
    c.in_ok-read-in-None.read (λ meaning is.
    subst (λ is_group. IsRuleExpr (is_built room meaning) (as_rule is_group meaning) None c.in_ok-read-in-None.read) (c.are_groups.ensures [])
    (c.in_ok-read-in-None.ensures.means room meaning is)))

pub read_context-requires-clause-part : goal.read_context-requires-clause-part
read_context-requires-clause-part c =
    (subst (λ slash. HasExpressions (sorts_at (lexemes_view c.args.block.lexemes)) (item.Rule c.args.head c.args.head slash c.args.until None None))
    c.in-Some.is c.requires.expressions).1

pub returns-in_ok-read-in-Some-clause-read : goal.returns-in_ok-read-in-Some-clause-read
returns-in_ok-read-in-Some-clause-read c = λ state holds.
    let options = c.args.block.options.now in
    let lexemes = lexemes_view c.args.block.lexemes in
    let known = c.args.known.now in
    let conds = names_in c.args.conds.now in
    let room = room_under known.conds conds in
    let last = c.unwrap_or.ensures ∙ ap (λ slash. unwrap_or slash c.args.until) c.in-Some.is in
    let read = subst (λ l. IsRead options lexemes (scope_view c.scope-scope.result) c.room.result c.args.head l c.in_ok-reading.reading) last c.in_ok-reading.ensures.read in
    let given = c.in_ok-read-in-Some.ensures.read c.args.head read in
    let known_so = subst (λ definitions. IsContextRead options lexemes definitions c.room.result c.args.head c.in-Some.slash c.args.until c.in_ok-read-in-Some.read)
    c.scope-scope.ensures.seen given in
    subst (λ slash. IsHeadRead options lexemes state conds c.args.head slash c.args.until room (head.Plain c.in_ok-read-in-Some.read)) (sym c.in-Some.is)
    (context_read options lexemes known state holds conds c.args.head c.in-Some.slash c.args.until room c.in_ok-read-in-Some.read c.requires.star c.requires.dollar
    (subst (λ room. IsContextRead options lexemes (known_definitions known) room c.args.head c.in-Some.slash c.args.until c.in_ok-read-in-Some.read)
    c.room.ensures.room known_so))

pub returns-in_err-read-in-Some-clause-read : goal.returns-in_err-read-in-Some-clause-read
returns-in_err-read-in-Some-clause-read c = λ state holds.
    let p = err_from_is_err_and c.from_residual-in_err-read-in-Some.result c.from_residual-in_err-read-in-Some.ensures.1 in
    let options = c.args.block.options.now in
    let lexemes = lexemes_view c.args.block.lexemes in
    let known = c.args.known.now in
    let conds = names_in c.args.conds.now in
    let stopped = c.in_err-read-in-Some.field-0.0 in
    let last = c.unwrap_or.ensures ∙ ap (λ slash. unwrap_or slash c.args.until) c.in-Some.is in
    let read = subst (λ l. IsRead options lexemes (scope_view c.scope-scope.result) c.room.result c.args.head l c.in_ok-reading.reading) last c.in_ok-reading.ensures.read in
    let stops = subst (λ definitions. StopsAt (ContextChecks options lexemes definitions c.args.head c.in-Some.slash c.args.until) stopped)
    c.scope-scope.ensures.seen (c.in_err-read-in-Some.ensures.read c.args.head read) in
    rw (p.1, p.2)
    (subst (λ slash. StopsHead options lexemes state conds c.args.head slash c.args.until stopped) (sym c.in-Some.is)
    (behind_refused options lexemes known state holds conds c.args.head c.in-Some.slash c.args.until stopped c.requires.star c.requires.dollar stops))

pub returns-in_ok-read-in-Some-clause-bounded : goal.returns-in_ok-read-in-Some-clause-bounded
returns-in_ok-read-in-Some-clause-bounded c =
    let options = c.args.block.options.now in
    let lexemes = lexemes_view c.args.block.lexemes in
    let last = c.unwrap_or.ensures ∙ ap (λ slash. unwrap_or slash c.args.until) c.in-Some.is in
    let read = subst (λ l. IsRead options lexemes (scope_view c.scope-scope.result) c.room.result c.args.head l c.in_ok-reading.reading) last c.in_ok-reading.ensures.read in
    (c.in_ok-read-in-Some.ensures.bounded c.args.head read, c.in_ok-read-in-Some.ensures.kinds c.in_ok-reading.ensures.kinds)

pub returns-in_ok-read-in-None-clause-bounded : goal.returns-in_ok-read-in-None-clause-bounded
returns-in_ok-read-in-None-clause-bounded c =
    (c.in_ok-read-in-None.ensures.bounded c.in_ok-reading.ensures.bounded, c.in_ok-read-in-None.ensures.kinds c.in_ok-reading.ensures.kinds)
