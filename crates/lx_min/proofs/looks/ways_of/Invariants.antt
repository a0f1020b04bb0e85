use Rattle.std.proofs.Common.{take}
use Rattle.std.specs.List.{AllZip}
use Rattle.lx_min.specs.Numbers.{AreDistinct, IsListNumber, IsWay, Keeps}
use Rattle.lx_min.proofs.looks.ways_of.Given as goal

abbrev pub invariant-loop-edge : goal.invariant-loop-edge
invariant-loop-edge l = record {
  ways : AllZip (IsWay l.lists l.fn.state.leave) (take l.edge-index l.edges) l.ways.items;
  leave : IsListNumber l.lists l.fn.state.leave l.leave;
  keeps : Keeps l.fn.lists l.lists;
  distinct : AreDistinct l.lists;
}
