use Rattle.lx_step.proofs.FirstNotes.{AreFirstsFrom-history, AreFirstsFrom-offset, AreFirstsFrom-unknown, number_is, stands_as}
use Rattle.lx_step.proofs.firsts.note.Goals as goal

pub returns-in_default-number_of-clause-noted : goal.returns-in_default-number_of-clause-noted
returns-in_default-number_of-clause-noted c = λ places before.
    AreFirstsFrom-unknown c.args.blocks.now c.args.index c.args.place places c.args.firsts.now.items c.args.tags.now c.in-Tag.name c.in-Tag.is_history c.in-Tag.field-2 c.requires.tags
    (stands_as c.statement_at.result c.in-Some.statement _ _ c.statement_at.ensures c.in-Some.is c.in-Tag.is)
    (number_is c.args.blocks.now c.args.tags.now c.in-Tag.name _ c.number_of.result _ c.requires.tags c.as_slice.ensures c.number_of.ensures.number c.in_default-number_of.is) before

pub returns-then-is_history-clause-noted : goal.returns-then-is_history-clause-noted
returns-then-is_history-clause-noted c = λ places before.
    AreFirstsFrom-history c.args.blocks.now c.args.index c.args.place places c.args.firsts.now.items c.in-Tag.name c.in-Tag.is_history c.in-Tag.field-2 c.in-Some-number_of.number c.index_mut-first.result.now
    (stands_as c.statement_at.result c.in-Some.statement _ _ c.statement_at.ensures c.in-Some.is c.in-Tag.is)
    (number_is c.args.blocks.now c.args.tags.now c.in-Tag.name _ c.number_of.result _ c.requires.tags c.as_slice.ensures c.number_of.ensures.number c.in-Some-number_of.is) c.args.tags.now c.requires.tags c.index_mut-first.ensures.value before c.if-is_history.true

pub returns-else-is_history-clause-noted : goal.returns-else-is_history-clause-noted
returns-else-is_history-clause-noted c = λ places before.
    AreFirstsFrom-offset c.args.blocks.now c.args.index c.args.place places c.args.firsts.now.items c.in-Tag.name c.in-Tag.is_history c.in-Tag.field-2 c.in-Some-number_of.number c.index_mut-first.result.now
    (stands_as c.statement_at.result c.in-Some.statement _ _ c.statement_at.ensures c.in-Some.is c.in-Tag.is)
    (number_is c.args.blocks.now c.args.tags.now c.in-Tag.name _ c.number_of.result _ c.requires.tags c.as_slice.ensures c.number_of.ensures.number c.in-Some-number_of.is) c.args.tags.now c.requires.tags c.index_mut-first.ensures.value before c.if-is_history.false
