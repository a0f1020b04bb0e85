use Rattle.std.proofs.Common.{arith}
use Rattle.lx_step.proofs.FirstNotes.{AreFirstsFrom-next}
use Rattle.lx_step.proofs.firsts.note_firsts.Goals as goal

pub loop-index-preserved : goal.loop-index-preserved
loop-index-preserved c = record {
  within = omega (arith, c.loop-index.invariant.within);
  noted =
      AreFirstsFrom-next c.args.blocks.now c.args.places.now c.loop-index.index c.loop-index.firsts.items c.note.new.firsts.items c.loop-index-test.true c.loop-index.invariant.within c.note.ensures.noted
      c.loop-index.invariant.noted;
}
