use Rattle.std.proofs.Common.{◌<◌, length, subst}
use Rattle.lx_step.specs.Firsts.{no_place}
use Rattle.lx_run.proofs.Appending.{tags_text-at}
use Rattle.lx_run.proofs.PutTexts.{HasGiven-more, IsPut-refused}
use Rattle.lx_run.proofs.assignments.put_tags.Goals as goal

pub returns-in_err-put_new_tag : goal.returns-in_err-put_new_tag
returns-in_err-put_new_tag g c =
    let next = tags_text-at c.args.lexer.now c.args.piece.now c.args.lexer.now.assigned c.loop-at.at no_place (subst (λ places. c.loop-at.at < length places) c.assigned-places.ensures c.loop-at-test.true) in
    IsPut-refused _ _ _ c.from_residual.result next c.loop-at.invariant c.in_err-put_new_tag.ensures c.from_residual.ensures.1

pub loop-at-preserved : goal.loop-at-preserved
loop-at-preserved g c =
    let next = tags_text-at c.args.lexer.now c.args.piece.now c.args.lexer.now.assigned c.loop-at.at no_place (subst (λ places. c.loop-at.at < length places) c.assigned-places.ensures c.loop-at-test.true) in
    HasGiven-more _ _ _ next c.loop-at.invariant c.in_ok-put_new_tag.ensures
