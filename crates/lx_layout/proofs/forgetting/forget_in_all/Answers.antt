use Rattle.std.proofs.Common.{◌∙◌, ◌<◌, List, ap, length, set, subst, sym}
use Rattle.std.proofs.lemmas.List.Edits.{map_over_more}
use Rattle.lx_ccode.specs.declared.piece.CodeBlock.{CodeBlock}
use Rattle.lx_layout.specs.Forgetting.{forgetting_block}
use Rattle.lx_layout.proofs.forgetting.forget_in_all.Goals as goal

pub loop-block-preserved : goal.loop-block-preserved
loop-block-preserved c =
    let blocks = c.args.blocks.now.items in
    let items = c.loop-block.block-items in
    let place = c.loop-block.block-index in
    let block = c.block-item.result in
    ap (set items place) (c.in_ok-forget_in.ensures ∙ ap forgetting_block (sym c.block-item.is))
    ∙ map_over_more forgetting_block blocks items place block
    (subst (λ (l : List CodeBlock). place < length l) c.deref_mut-block-items.ensures.value c.loop-block-test.true) c.loop-block.invariant
    c.block-item.is
