use Rattle.std.proofs.Common.{take}
use Rattle.lx_regs.specs.Growth.{Grows, IsDueForSome}
use Rattle.lx_regs.specs.Items.{IsLeft}
use Rattle.lx_regs.specs.LeftGroups.{lists_of}
use Rattle.lx_regs.proofs.items.add_all_left.Given as goal

abbrev pub invariant-loop-pair : goal.invariant-loop-pair
invariant-loop-pair l =
    Grows (IsDueForSome (take l.pair-index l.pairs) (IsLeft l.groups.numbers.items (lists_of l.groups.lists.keys))) l.initial.found l.found
