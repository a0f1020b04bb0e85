use Rattle.std.proofs.Common.{◌∙◌, sym}
use Rattle.lx_ccode.specs.Statements.{all_statements}
use Rattle.lx_step.proofs.TagLists.{has_name-blocks, has_name-last, has_name-statements, names_it-offset, names_it-history}
use Rattle.lx_step.proofs.tags.is_named.Goals as goal

pub returns-then-one_gives : goal.returns-then-one_gives
returns-then-one_gives c =
    has_name-statements c.args.blocks.now c.args.statements.now c.args.name.now (names_it-offset c.args.name.now c.args.statements.now (sym c.one_gives.ensures ∙ c.if-one_gives.true))

pub returns-then-one_gives-2 : goal.returns-then-one_gives-2
returns-then-one_gives-2 c =
    has_name-statements c.args.blocks.now c.args.statements.now c.args.name.now (names_it-history c.args.name.now c.args.statements.now (sym c.one_gives-2.ensures ∙ c.if-one_gives-2.true))

pub returns-then-any_gives : goal.returns-then-any_gives
returns-then-any_gives c =
    has_name-blocks c.args.blocks.now c.args.statements.now c.args.name.now (names_it-offset c.args.name.now (all_statements c.args.blocks.now) (sym c.any_gives.ensures ∙ c.if-any_gives.true))

pub returns : goal.returns
returns c =
    has_name-last c.args.blocks.now c.args.statements.now c.args.name.now _ (sym c.one_gives.ensures ∙ c.if-one_gives.false) (sym c.one_gives-2.ensures ∙ c.if-one_gives-2.false)
    (sym c.any_gives.ensures ∙ c.if-any_gives.false) c.any_gives-2.ensures
