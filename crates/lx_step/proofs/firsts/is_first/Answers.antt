use Rattle.std.proofs.Common.{◌∙◌, ◌==◌, ap, get_or, refl, sym}
use Rattle.lx_step.specs.Firsts.{no_first, noted}
use Rattle.lx_step.proofs.FirstNotes.{is_first-none, is_first-tag, is_first-unknown, is_first-untagged, number_is, stands_as}
use Rattle.lx_step.proofs.firsts.is_first.Goals as goal

pub returns-in_default : goal.returns-in_default
returns-in_default c = is_first-none c.args.blocks.now c.args.places.now c.args.index c.statement_at.result c.statement_at.ensures c.in_default.is

pub returns-in_default-statement : goal.returns-in_default-statement
returns-in_default-statement c =
    is_first-untagged c.args.blocks.now c.args.places.now c.args.index c.in-Some.statement.now (stands_as c.statement_at.result c.in-Some.statement _ _ c.statement_at.ensures c.in-Some.is refl) c.in_default-statement.not-Tag

pub returns-in_default-number_of : goal.returns-in_default-number_of
returns-in_default-number_of c =
    is_first-unknown c.args.blocks.now c.args.places.now c.args.index c.in-Tag.name c.in-Tag.is_history c.in-Tag.field-2
    (stands_as c.statement_at.result c.in-Some.statement _ _ c.statement_at.ensures c.in-Some.is c.in-Tag.is)
    (number_is c.args.blocks.now c.args.tags.now c.in-Tag.name _ c.number_of.result _ c.requires.tags c.as_slice.ensures c.number_of.ensures.number c.in_default-number_of.is)

pub returns-then-is_history : goal.returns-then-is_history
returns-then-is_history c =
    ap (λ history. noted history (get_or c.args.firsts.now c.in-Some-number_of.number no_first) == c.args.index) (sym c.if-is_history.true)
    ∙ is_first-tag c.args.blocks.now c.args.places.now c.args.index c.args.tags.now c.args.firsts.now c.in-Tag.name c.in-Tag.is_history c.in-Tag.field-2 c.in-Some-number_of.number c.requires.tags c.requires.firsts c.requires.within
    (stands_as c.statement_at.result c.in-Some.statement _ _ c.statement_at.ensures c.in-Some.is c.in-Tag.is)
    (number_is c.args.blocks.now c.args.tags.now c.in-Tag.name _ c.number_of.result _ c.requires.tags c.as_slice.ensures c.number_of.ensures.number c.in-Some-number_of.is)

pub returns-else-is_history : goal.returns-else-is_history
returns-else-is_history c =
    ap (λ history. noted history (get_or c.args.firsts.now c.in-Some-number_of.number no_first) == c.args.index) (sym c.if-is_history.false)
    ∙ is_first-tag c.args.blocks.now c.args.places.now c.args.index c.args.tags.now c.args.firsts.now c.in-Tag.name c.in-Tag.is_history c.in-Tag.field-2 c.in-Some-number_of.number c.requires.tags c.requires.firsts c.requires.within
    (stands_as c.statement_at.result c.in-Some.statement _ _ c.statement_at.ensures c.in-Some.is c.in-Tag.is)
    (number_is c.args.blocks.now c.args.tags.now c.in-Tag.name _ c.number_of.result _ c.requires.tags c.as_slice.ensures c.number_of.ensures.number c.in-Some-number_of.is)
