use Rattle.std.proofs.Common.{◌∙◌, ap, sym, subst, arith, refl, length, Ok}
use Rattle.std.proofs.lemmas.Result.{err_from_is_err_and}
use Rattle.lx_base.specs.declared.blocks.BlockKind.TheVariants.{Code}
use Rattle.lx_parse.specs.Ranges.{EachHasExpressions}
use Rattle.lx_parse.specs.Sorts.{sorts_of}
use Rattle.lx_parse.proofs.Reading.{few_spans}
use Rattle.lx_rules.specs.Blocks.{BlockChecks, Resolves, StopsWith, environment_behind}
use Rattle.lx_rules.specs.Conditions.{EachHasConds}
use Rattle.lx_rules.specs.Environments.{Environment}
use Rattle.lx_rules.specs.Finishing.{IsFinished}
use Rattle.lx_rules.specs.Represents.{IsBefore, Represents}
use Rattle.lx_exprs.specs.Checks.{StopsAt}
use Rattle.lx_forms.specs.Lexemes.{lexemes_of, sorts_at}
use Rattle.lx_rules.specs.Items.{Goes, first_state}
use Rattle.lx_rules.specs.FitScanners.{FitsLimits}
use Rattle.lx_rules.specs.Keeping.{StopsGoing}
use Rattle.lx_rules.specs.WellFormed.{IsWellFormed}
use Rattle.lx_rules.proofs.Blocks.ItemRuns.{body-alike, lexemes_few, sorts_of-lexemes, match_so, if_ok_so, stops_behind, stops_opening, stops_within}
use Rattle.lx_rules.proofs.Blocks.OpenedBlocks.{most_before-le}
use Rattle.lx_rules.proofs.CondSets.ListForms.{body_lists}
use Rattle.lx_rules.proofs.Blocks.WellFormedBlocks.{well_formed}
use Rattle.lx_rules.proofs.resolving.resolve.Goals as goal

pub take_items-requires-clause-few : goal.take_items-requires-clause-few
take_items-requires-clause-few c =
    let start = c.requires.tokens in
    let tokens = few_spans (length c.args.body.now) c.args.tokens.now (c.tokens_stand_in_order.ensures.tokens c.args.body.now start.0 c.args.tokens.now start.1).in_order in
    let read = body-alike c.args.kind c.requires.kind c.args.body.now c.args.tokens.now c.args.tree.now.items c.requires.tree in
    let few = lexemes_few c.args.body.now c.args.tokens.now c.args.tree.now.items tokens read in
    let same = ap length c.as_slice-2.ensures in
    let opened = (c.in_ok-opened.ensures c.requires.env.0 c.requires.env.1).1 in
    let before = opened.few in
    let most = most_before-le c.args.kind c.requires.kind in
    omega (arith, few, same, c.requires.size, before, most)

pub take_items-requires-clause-expressions : goal.take_items-requires-clause-expressions
take_items-requires-clause-expressions c =
    let read = body-alike c.args.kind c.requires.kind c.args.body.now c.args.tokens.now c.args.tree.now.items c.requires.tree in
    let each = c.expressions_stand_in_ranges.ensures Code (sorts_of Code c.args.body.now c.args.tokens.now) c.args.tree.now.items read in
    let sorts = sorts_of-lexemes c.args.body.now c.args.tokens.now ∙ ap (λ tokens. sorts_at (lexemes_of c.args.body.now tokens)) (sym c.as_slice.ensures) in
    subst (λ items. EachHasExpressions (sorts_at (lexemes_of c.args.body.now c.as_slice.result.now)) items) (sym c.as_slice-2.ensures)
    (subst (λ s. EachHasExpressions s c.args.tree.now.items) sorts each)

pub take_items-requires-clause-fit : goal.take_items-requires-clause-fit
take_items-requires-clause-fit c = (c.in_ok-opened.ensures c.requires.env.0 c.requires.env.1).1.holds.fit

pub take_items-requires-clause-holds : goal.take_items-requires-clause-holds
take_items-requires-clause-holds c =
    (first_state c.args.kind c.requires.env.0, (c.in_ok-opened.ensures c.requires.env.0 c.requires.env.1).1.holds)

pub finish-requires-clause-few : goal.finish-requires-clause-few
finish-requires-clause-few c =
    let start = c.requires.tokens in
    let tokens = few_spans (length c.args.body.now) c.args.tokens.now (c.tokens_stand_in_order.ensures.tokens c.args.body.now start.0 c.args.tokens.now start.1).in_order in
    let read = body-alike c.args.kind c.requires.kind c.args.body.now c.args.tokens.now c.args.tree.now.items c.requires.tree in
    let few = lexemes_few c.args.body.now c.args.tokens.now c.args.tree.now.items tokens read in
    let same = ap length c.as_slice-2.ensures in
    let opened = (c.in_ok-opened.ensures c.requires.env.0 c.requires.env.1).1 in
    let before = opened.few in
    let all = c.in_ok-known.ensures.few in
    omega (arith, few, same, c.requires.size, before, all)

pub take_items-requires-clause-conds : goal.take_items-requires-clause-conds
take_items-requires-clause-conds c =
    let body = c.args.body.now in
    let start = c.requires.tokens in
    let read = body-alike c.args.kind c.requires.kind body c.args.tokens.now c.args.tree.now.items c.requires.tree in
    let lists = body_lists body start.0 c.args.tokens.now c.args.tree.now.items start.1 read in
    subst (λ items. EachHasConds (lexemes_of body c.as_slice.result.now) items) (sym c.as_slice-2.ensures)
    (subst (λ tokens. EachHasConds (lexemes_of body tokens) c.args.tree.now.items) (sym c.as_slice.ensures) lists.0)

pub finish-requires-clause-holds : goal.finish-requires-clause-holds
finish-requires-clause-holds c =
    let opened = (c.in_ok-opened.ensures c.requires.env.0 c.requires.env.1).1 in
    let goes = c.in_ok-known.ensures.goes (first_state c.args.kind c.requires.env.0) opened.holds in (goes.0, goes.2)

pub returns-in_err-opened-clause-resolves : goal.returns-in_err-opened-clause-resolves
returns-in_err-opened-clause-resolves c = λ environment represents.
    let p = err_from_is_err_and c.from_residual.result c.from_residual.ensures.1 in
    rw (p.1, p.2)
    (stops_opening c.args.options.now c.args.kind c.args.at environment (lexemes_of c.args.body.now c.args.tokens.now) c.args.tree.now.items
    c.in_err-opened.field-0.0 (c.in_err-opened.ensures environment represents))

pub returns-in_err-known-clause-resolves : goal.returns-in_err-known-clause-resolves
returns-in_err-known-clause-resolves c = λ environment represents.
    let options = c.args.options.now in
    let p = err_from_is_err_and c.from_residual-in_err-known.result c.from_residual-in_err-known.ensures.1 in
    let opened = c.in_ok-opened.ensures environment represents in
    let first = first_state c.args.kind environment in
    let stops : StopsGoing options (lexemes_of c.args.body.now c.args.tokens.now) first c.args.tree.now.items c.in_err-known.field-0.0 =
    subst (λ tokens. StopsGoing options (lexemes_of c.args.body.now tokens) first c.args.tree.now.items c.in_err-known.field-0.0) c.as_slice.ensures
    (subst (λ l. StopsGoing options (lexemes_of c.args.body.now c.as_slice.result.now) first l c.in_err-known.field-0.0) c.as_slice-2.ensures
    (c.in_err-known.ensures.goes first opened.1.holds)) in
    rw (p.1, p.2)
    (stops_within options c.args.kind c.args.at environment (lexemes_of c.args.body.now c.args.tokens.now) c.args.tree.now.items c.in_err-known.field-0.0 opened.0 stops)

pub returns-clause-fit : goal.returns-clause-fit
returns-clause-fit c =
    let options = c.args.options.now in
    let environment = c.requires.env.0 in
    let opened = (c.in_ok-opened.ensures environment c.requires.env.1).1 in
    let goes = c.in_ok-known.ensures.goes (first_state c.args.kind environment) opened.holds in
    let before = c.in_ok-known.ensures.before in
    let is_before = subst (λ before. IsBefore c.args.kind environment before c.in_ok-known.known.is_use) (sym before.0)
    (subst (λ is_use. IsBefore c.args.kind environment c.in_ok-opened.opened.before is_use) (sym before.1) opened.before) in
    if_ok_so (IsFinished options c.args.kind c.args.at environment goes.0) (λ answer. FitsLimits answer.1) (StopsAt (BlockChecks options.custom options.format c.args.kind c.args.at goes.0)) c.finish.result
    (c.finish.ensures goes.0 environment goes.2 is_before) (λ answer is. is.3)

pub returns-clause-well_formed : goal.returns-clause-well_formed
returns-clause-well_formed c = λ other environment represents stands.
    let options = c.args.options.now in
    let kind = c.args.kind in
    let body = c.args.body.now in
    let tokens = c.args.tokens.now in
    let lexemes = lexemes_of body tokens in
    let items = c.args.tree.now.items in
    let start = c.requires.tokens in
    let opened = c.in_ok-opened.ensures environment represents in
    let first = first_state kind environment in
    let goes = c.in_ok-known.ensures.goes first opened.1.holds in
    let before = c.in_ok-known.ensures.before in
    let is_before = subst (λ before. IsBefore kind environment before c.in_ok-known.known.is_use) (sym before.0)
    (subst (λ is_use. IsBefore kind environment c.in_ok-opened.opened.before is_use) (sym before.1) opened.1.before) in
    let gone : Goes options lexemes first items (Ok goes.0) =
    subst (λ tokens. Goes options (lexemes_of body tokens) first items (Ok goes.0)) c.as_slice.ensures
    (subst (λ l. Goes options (lexemes_of body c.as_slice.result.now) first l (Ok goes.0)) c.as_slice-2.ensures goes.1) in
    if_ok_so (IsFinished options kind c.args.at environment goes.0) (λ answer. IsWellFormed options answer.1)
    (StopsAt (BlockChecks options.custom options.format kind c.args.at goes.0)) c.finish.result (c.finish.ensures goes.0 environment goes.2 is_before)
    (λ answer is.
    well_formed options kind c.args.at start.0 environment (environment_behind kind environment goes.0) body tokens items answer.1 c.requires.kind other stands
    c.requires.size start.1 c.requires.tree
    (record { opening = opened.0; state = goes.0; goes = gone; checked = is.0; after_is = refl; ends = is.2 }) is.3)

pub returns-clause-resolves : goal.returns-clause-resolves
returns-clause-resolves c = λ environment represents.
    let options = c.args.options.now in
    let kind = c.args.kind in
    let lexemes = lexemes_of c.args.body.now c.args.tokens.now in
    let items = c.args.tree.now.items in
    let opened = c.in_ok-opened.ensures environment represents in
    let first = first_state kind environment in
    let goes = c.in_ok-known.ensures.goes first opened.1.holds in
    let before = c.in_ok-known.ensures.before in
    let is_before = subst (λ before. IsBefore kind environment before c.in_ok-known.known.is_use) (sym before.0)
    (subst (λ is_use. IsBefore kind environment c.in_ok-opened.opened.before is_use) (sym before.1) opened.1.before) in
    let gone : Goes options lexemes first items (Ok goes.0) =
    subst (λ tokens. Goes options (lexemes_of c.args.body.now tokens) first items (Ok goes.0)) c.as_slice.ensures
    (subst (λ l. Goes options (lexemes_of c.args.body.now c.as_slice.result.now) first l (Ok goes.0)) c.as_slice-2.ensures goes.1) in
    match_so (IsFinished options kind c.args.at environment goes.0)
    (λ answer. (after : Environment) × Represents answer.0 after × Resolves options kind c.args.at environment lexemes items after answer.1)
    (StopsAt (BlockChecks options.custom options.format kind c.args.at goes.0)) (StopsWith options kind c.args.at environment lexemes items) c.finish.result
    (c.finish.ensures goes.0 environment goes.2 is_before)
    (λ answer is. (
      environment_behind kind environment goes.0,
      is.1,
      record { opening = opened.0; state = goes.0; goes = gone; checked = is.0; after_is = refl; ends = is.2 },
    ))
    (λ stopped stops. stops_behind options kind c.args.at environment lexemes items goes.0 stopped opened.0 gone stops)
