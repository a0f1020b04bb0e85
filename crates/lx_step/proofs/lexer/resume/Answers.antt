use Rattle.std.proofs.Common.{ap, refl, subst, sym, List}
use Rattle.lx_ccode.specs.declared.piece.CodeBlock.{CodeBlock}
use Rattle.lx_step.specs.Firsts.{AreFirsts}
use Rattle.lx_step.specs.Left.{IsReturnOf}
use Rattle.lx_step.specs.Numbers.{IsNumberingOf}
use Rattle.lx_step.specs.Saved.{Kept}
use Rattle.lx_step.specs.Tags.{AreTags}
use Rattle.lx_step.proofs.SavedLexers.{IsLexerOf-resumed}
use Rattle.lx_step.proofs.lexer.resume.Goals as goal

pub list-requires : goal.list-requires
list-requires c = c.clear.ensures.none c.as_slice-blocks.result.now

pub invariant_of-result : goal.invariant_of-result
invariant_of-result c =
    let kept = c.args.saved in
    let is = c.saved.view_is in
    IsLexerOf-resumed _ c.saved.inside.start c.saved.inside.steps c.saved.inside.conds c.saved.inside.assignments _ _ c.saved.inside.scanner c.renew.new.self c.saved.inside.slots _ c.saved.inside.assigned.keys _ _ _ kept
    c.requires.valid c.statements.ensures refl c.saved.invariant c.requires.fits (ap (λ (one : Kept). one.counts) (sym is)) (ap (λ (one : Kept). one.assigned) (sym is)) (ap (λ (one : Kept). one.left) (sym is))
    (subst (λ (blocks : List CodeBlock). IsNumberingOf blocks c.renew.new.self) c.as_slice-blocks.ensures c.renew.ensures)
    (subst (λ (blocks : List CodeBlock). AreTags blocks c.list.new.self) c.as_slice-blocks.ensures (rw c.unwrap.ensures at c.list.ensures.tags))
    (subst (λ (blocks : List CodeBlock). AreFirsts blocks c.saved.inside.assigned.keys c.note_firsts.new.firsts.items) c.as_slice-blocks.ensures
    (subst (λ places. AreFirsts c.as_slice-blocks.result.now places c.note_firsts.new.firsts.items) c.as_slice.ensures.keys c.note_firsts.ensures))
    (subst (λ (blocks : List CodeBlock). IsReturnOf blocks c.return_of-known.result) c.as_slice-blocks.ensures c.return_of-known.ensures)
