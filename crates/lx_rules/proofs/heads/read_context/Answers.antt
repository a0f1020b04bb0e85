use Rattle.std.proofs.Common.{◌≡◌, ◌∙◌, ◌++◌, ◌∷◌, ◌+◌, suc, arith, false, [], ap, length, refl, sym, subst}
use Rattle.lx_exprs.specs.Defined.{Before, is_built, kept, slash_tag}
use Rattle.lx_exprs.specs.Checks.{StopsAt}
use Rattle.lx_exprs.specs.Expressions.{ChecksBehind, IsReadBehind}
use Rattle.lx_exprs.specs.Seen.{scope_view}
use Rattle.lx_forms.specs.Seen.{lexemes_view}
use Rattle.lx_rules.specs.Items.{trailing}
use Rattle.lx_rules.specs.Keeping.{IsRuleExpr}
use Rattle.lx_rules.proofs.Rules.ContextSteps.{before_is, context_is, context_stops}
use Rattle.std.proofs.lemmas.Result.{err_from_is_err_and}
use Rattle.lx_rules.proofs.Rules.ReadContexts.{first_less}
use Rattle.lx_regex.specs.Kinds.{HasKind, HaveKinds}
use Rattle.lx_regex.proofs.Trees.Kinds.{HasKind-append, HasKind-last, HaveKinds-append}
use Rattle.lx_exprs.specs.Values.{content_kinds}
use Rattle.lx_rules.proofs.heads.read_context.Goals as goal

pub returns-clause-read : goal.returns-clause-read
returns-clause-read c from read =
    let options = c.args.block.options.now in
    let lexemes = lexemes_view c.args.block.lexemes in
    let definitions = scope_view c.args.reader.scope in
    let room = c.args.reader.room in
    let first = c.args.first in
    let seen = c.in_ok-push.ensures ∙ ap (λ tags. tags ++ slash_tag ∷ []) c.behind-seen.ensures in
    let before = before_is options lexemes definitions room from c.args.slash c.args.until first read c.push.new.self first.value.groups seen refl in
    let place : c.args.slash + 1 ≡ suc c.args.slash = omega arith in
    let later =
    subst (λ (before : Before). IsReadBehind options lexemes definitions room before (suc c.args.slash) c.args.until c.in_ok-second.second) before
    (rw (sym place, sym c.requires.same) c.in_ok-second.ensures.read) in
    let number = c.len-number.ensures ∙ ap (λ tags. kept (length tags)) read.stands.tags in
    let made = c.in_ok-read.read in
    context_is options lexemes definitions room from c.args.slash c.args.until first read c.in_ok-second.second later made
    (subst
    (λ is_group. IsRuleExpr (is_built room (trailing is_group read.meaning later.meaning).means) (trailing is_group read.meaning later.meaning).means
    (trailing is_group read.meaning later.meaning).slash made)
    (c.are_groups-is_group.ensures [])
    (c.in_ok-read.ensures.means read.meaning later.meaning read.stands.value read.stands.count number later.stands))

pub returns-in_err-second-clause-read : goal.returns-in_err-second-clause-read
returns-in_err-second-clause-read c from read =
    let p = err_from_is_err_and c.from_residual-in_err-second.result c.from_residual-in_err-second.ensures.1 in
    let options = c.args.block.options.now in
    let lexemes = lexemes_view c.args.block.lexemes in
    let definitions = scope_view c.args.reader.scope in
    let room = c.args.reader.room in
    let first = c.args.first in
    let stopped = c.in_err-second.field-0.0 in
    let seen = c.in_ok-push.ensures ∙ ap (λ tags. tags ++ slash_tag ∷ []) c.behind-seen.ensures in
    let before = before_is options lexemes definitions room from c.args.slash c.args.until first read c.push.new.self first.value.groups seen refl in
    let place : c.args.slash + 1 ≡ suc c.args.slash = omega arith in
    rw (p.1, p.2)
    (context_stops options lexemes definitions room from c.args.slash c.args.until first read stopped
    (subst (λ (before : Before). StopsAt (ChecksBehind options lexemes definitions before.tags (suc c.args.slash) c.args.until) stopped) before
    (rw (sym place, sym c.requires.same) c.in_err-second.ensures.read)))

pub returns-clause-bounded : goal.returns-clause-bounded
returns-clause-bounded c from read =
    let options = c.args.block.options.now in
    let lexemes = lexemes_view c.args.block.lexemes in
    let definitions = scope_view c.args.reader.scope in
    let room = c.args.reader.room in
    let first = c.args.first in
    let seen = c.in_ok-push.ensures ∙ ap (λ tags. tags ++ slash_tag ∷ []) c.behind-seen.ensures in
    let before = before_is options lexemes definitions room from c.args.slash c.args.until first read c.push.new.self first.value.groups seen refl in
    let place : c.args.slash + 1 ≡ suc c.args.slash = omega arith in
    let later =
    subst (λ (before : Before). IsReadBehind options lexemes definitions room before (suc c.args.slash) c.args.until c.in_ok-second.second) before
    (rw (sym place, sym c.requires.same) c.in_ok-second.ensures.read) in
    let number = c.len-number.ensures ∙ ap (λ tags. kept (length tags)) read.stands.tags in
    c.in_ok-read.ensures.bounded c.requires.bounded c.in_ok-second.ensures.bounded
    (first_less c.are_groups-is_group.result room read.meaning later.meaning first.value c.len-number.result c.in_ok-second.second read.stands.value
    read.stands.count number later.stands)

pub returns-clause-kinds : goal.returns-clause-kinds
returns-clause-kinds c kinds =
    let first = c.args.first in
    let front = first.tags ++ slash_tag ∷ [] in
    let later = c.in_ok-second.ensures.read in
    let more = later.meaning.tags in
    let seen : c.push.new.self ≡ front = c.in_ok-push.ensures ∙ ap (λ tags. tags ++ slash_tag ∷ []) c.behind-seen.ensures in
    let all : c.in_ok-second.second.tags ≡ front ++ more = later.stands.tags ∙ ap (λ tags. tags ++ more) seen in
    let held = content_kinds first.value.content in
    c.in_ok-read.ensures.kinds
    (subst (λ tags. HaveKinds tags held) (sym all) (HaveKinds-append front more held (HaveKinds-append first.tags (slash_tag ∷ []) held kinds)))
    c.in_ok-second.ensures.kinds
    (λ few.
    let place : c.len-number.result ≡ length first.tags = omega (arith, few, c.len-number.ensures) in
    subst (λ tags. HasKind tags (c.len-number.result, false)) (sym all)
    (HasKind-append front more (c.len-number.result, false)
    (subst (λ number. HasKind front (number, false)) (sym place) (HasKind-last first.tags slash_tag []))))
