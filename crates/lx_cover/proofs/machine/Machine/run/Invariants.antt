use Rattle.std.proofs.Common.{◌≡◌, drop}
use Rattle.lx_auto.specs.Run.{at_start}
use Rattle.lx_cover.specs.Machine.{IsMachineOf, last_standing, standing_of}
use Rattle.lx_cover.proofs.machine.Machine.run.Given as goal

abbrev pub invariant-loop-unit : goal.invariant-loop-unit
invariant-loop-unit l = record {
  is_of : IsMachineOf l.auto' l.machine;
  offset : l.machine.offset ≡ l.unit-index;
  goes_on : last_standing l.auto' (standing_of l.auto' l.machine) (drop l.unit-index l.word) ≡ last_standing l.auto' (at_start 0) l.word;
}
