use Rattle.std.proofs.Common.{◌≡◌, ◌∙◌, sym, ap, Some, None}
use Rattle.lx_creader.proofs.StateLists.{label_of-at, label_of-beyond}
use Rattle.lx_creader.proofs.conds.is_start.Goals as goal

pub returns-then-block-blocks : goal.returns-then-block-blocks
returns-then-block-blocks c =
    let none = label_of-beyond c.args.blocks.now c.args.case.now.block c.if-block-blocks.true in
    (λ e. absurd (cc), λ some. let clash : None ≡ Some c.args.case.now.cond = sym none ∙ some in absurd (cc))

pub returns-in-None : goal.returns-in-None
returns-in-None c =
    let none = label_of-at c.args.blocks.now c.args.case.now.block c.index-blocks-block.result c.if-block-blocks.false ∙ c.in-None.is in
    (λ e. absurd (cc), λ some. let clash : None ≡ Some c.args.case.now.cond = sym none ∙ some in absurd (cc))

pub returns-in-Some : goal.returns-in-Some
returns-in-Some c =
    let is = label_of-at c.args.blocks.now c.args.case.now.block c.index-blocks-block.result c.if-block-blocks.false ∙ c.in-Some.is in (
      λ e. is ∙ ap Some (sym c.as_slice.ensures ∙ c.equal_words.ensures.decides.0 e ∙ c.as_slice-in-Some.ensures),
      λ some.
          let same : Some c.in-Some.cond ≡ Some c.args.case.now.cond = sym is ∙ some in
          let word : c.in-Some.cond ≡ c.args.case.now.cond = cc same in
          c.equal_words.ensures.decides.1 (c.as_slice.ensures ∙ word ∙ sym c.as_slice-in-Some.ensures),
    )
