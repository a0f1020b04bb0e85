use Rattle.std.proofs.Common.{◌∙◌, [], ap, map}
use Rattle.lx_ccode.specs.Labels.{marked}
use Rattle.lx_ccode.specs.States.{states_from, states_in}
use Rattle.lx_ccode.specs.declared.piece.CodeBlock.{CodeBlock}
use Rattle.lx_ccode.proofs.LabelMarks.{marked_next_at, states_from-cons}
use Rattle.lx_ccode.proofs.labels.mark_returns.Goals as goal

pub loop-place-preserved : goal.loop-place-preserved
loop-place-preserved c =
    let place = c.loop-place.place in
    marked_next_at (λ place (block : CodeBlock). map (λ case. case.block) (states_in place block.stmts [])) (λ place blocks. map (λ case. case.block) (states_from place blocks))
    c.args.blocks.now place c.index-blocks-place.result _ _ _
    (states_from-cons place) c.loop-place-test.true c.index-blocks-place.is
    (c.mark_states.ensures ∙ ap (λ statements. marked c.loop-place.labels.items (map (λ case. case.block) (states_in place statements []))) c.as_slice.ensures) c.loop-place.invariant
