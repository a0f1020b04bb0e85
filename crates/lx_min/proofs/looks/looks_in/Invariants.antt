use Rattle.std.proofs.Common.{take}
use Rattle.std.specs.List.{AllZip}
use Rattle.lx_min.specs.Numbers.{AreDistinct, IsLook}
use Rattle.lx_min.proofs.looks.looks_in.Given as goal

abbrev pub invariant-loop-state : goal.invariant-loop-state
invariant-loop-state l = record {
  looks : AllZip (IsLook l.numbers.lists l.numbers.accepts) (take l.state-index l.states) l.looks.items;
  lists : AreDistinct l.numbers.lists;
  accepts : AreDistinct l.numbers.accepts;
}
