use Rattle.lx_ccode.specs.Wording.{scope_wording}
use Rattle.lx_ccode.proofs.Tails.{blocks_written}
use Rattle.lx_ccode.proofs.lines.Scope.append_blocks.Goals as goal

pub loop-place-preserved : goal.loop-place-preserved
loop-place-preserved c =
    let h = c.in_ok-line in
    blocks_written (scope_wording c.args.self.now) c.loop-place.line c.in_ok-line.line c.loop-place.place c.args.blocks.now c.index-blocks-place.result _ _ _ c.loop-place-test.true
    c.index-blocks-place.is c.in_ok-line.ensures.0 c.in_ok-line.ensures.1 c.loop-place.invariant
