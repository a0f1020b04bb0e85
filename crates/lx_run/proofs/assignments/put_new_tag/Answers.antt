use Rattle.std.proofs.Common.{◌∙◌, ap, get_or, refl, rules, sym}
use Rattle.lx_step.specs.Firsts.{no_place}
use Rattle.lx_step.proofs.FirstNotes.{stands_as}
use Rattle.lx_run.specs.Values.{statement_at}
use Rattle.lx_run.proofs.NewTags.{new_tag_text-first, new_tag_text-given}
use Rattle.lx_run.proofs.assignments.put_new_tag.Goals as goal

pub returns-then-not-is_first : goal.returns-then-not-is_first
returns-then-not-is_first g c =
    let stands = ap (λ places. statement_at c.args.piece.now (get_or places c.args.at no_place)) (sym c.assigned.ensures)
    ∙ stands_as c.statement_at.result c.in-Some.statement _ _ c.statement_at.ensures c.in-Some.is refl in
    rw (new_tag_text-given c.args.piece.now c.args.lexer.now c.args.lexer.now.assigned c.args.at c.in-Some.statement.now c.requires.piece stands c.is_first.result c.is_first.ensures c.if-not-is_first.true)
    (search rules)

pub returns : goal.returns
returns g c =
    let stands = ap (λ places. statement_at c.args.piece.now (get_or places c.args.at no_place)) (sym c.assigned.ensures)
    ∙ stands_as c.statement_at.result c.in-Some.statement _ _ c.statement_at.ensures c.in-Some.is refl in
    rw (new_tag_text-first c.args.piece.now c.args.lexer.now c.args.lexer.now.assigned c.args.at c.in-Some.statement.now c.requires.piece stands c.is_first.result c.is_first.ensures c.if-not-is_first.false)
    c.put_tag.ensures
