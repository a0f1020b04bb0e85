use Rattle.std.proofs.Common.{◌≡◌, ◌∙◌, ◌∷◌, [], ap, arith, length, sym}
use Rattle.lx_regex.specs.Kinds.{kinds_of}
use Rattle.lx_regex.proofs.Trees.Kinds.{kinds_of-mtag, kinds_of-stag}
use Rattle.lx_exprs.proofs.Contents.KindContents.{kinds-last}
use Rattle.lx_exprs.proofs.leaves.tag_content.Goals as goal
use Rattle.lx_exprs.proofs.leaves.tag_content.Goals.{else-many, then-many}

pub returns-clause-kinds : goal.returns-clause-kinds
returns-clause-kinds c before named number many =
    let place : c.args.number ≡ length before = omega (arith, number, c.if-number-ge-TAG_LIMIT.false) in
    kinds-last before named c.args.number (kinds_of c.if-many.result) place
    (elim c.if-many.branch [
      | then-many w ↦
          ap kinds_of w.result-is ∙ kinds_of-mtag c.args.number ∙ ap (λ kind. (c.args.number, kind) ∷ []) (sym (many ∙ w.if-many.true))
      | else-many w ↦
          ap kinds_of w.result-is ∙ kinds_of-stag c.args.number ∙ ap (λ kind. (c.args.number, kind) ∷ []) (sym (many ∙ w.if-many.false))
    ])
