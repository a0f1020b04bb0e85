use Rattle.std.proofs.Common.{◌∙◌, ap}
use Rattle.lx_ccode.specs.Labels.{all_targets, marked}
use Rattle.lx_ccode.specs.Statements.{all_statements}
use Rattle.lx_ccode.specs.declared.piece.CodeBlock.{CodeBlock}
use Rattle.lx_ccode.proofs.LabelMarks.{all_targets-append, marked_next}
use Rattle.lx_ccode.proofs.labels.mark_jumps.Goals as goal

pub loop-block-preserved : goal.loop-block-preserved
loop-block-preserved c =
    marked_next (λ (block : CodeBlock). all_targets block.stmts) (λ blocks. all_targets (all_statements blocks)) c.args.blocks.now c.loop-block.block-index c.block-item.result _ _ _
    (λ block blocks. all_targets-append block.stmts (all_statements blocks)) c.loop-block-test.true c.block-item.is
    (c.mark_statements.ensures ∙ ap (λ statements. marked c.loop-block.labels.items (all_targets statements)) c.as_slice.ensures) c.loop-block.invariant
