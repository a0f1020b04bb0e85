use Rattle.std.proofs.Common.{◌≤◌, drop, length}
use Rattle.lx_step.specs.Firsts.{AreFirstsFrom}
use Rattle.lx_step.proofs.firsts.note_firsts.Given as goal

abbrev pub invariant-loop-index : goal.invariant-loop-index
invariant-loop-index l = record {
  within : l.index ≤ length l.places;
  noted : AreFirstsFrom l.blocks l.index (drop l.index l.places) l.firsts.items;
}

abbrev pub decreases-loop-index : goal.decreases-loop-index
decreases-loop-index l = l.index
