use Rattle.std.proofs.Common.{◌-◌, length}
use Rattle.lx_regs.specs.Growth.{IsSearch}
use Rattle.lx_regs.specs.Items.{IsBegun, IsItem, IsPrior}
use Rattle.lx_regs.specs.LeftGroups.{lists_of}
use Rattle.lx_regs.proofs.LiveRegisters.ItemSearch.{all_items}
use Rattle.lx_regs.proofs.items.live_items.Given as goal

abbrev pub invariant-loop-done : goal.invariant-loop-done
invariant-loop-done l = record {
  search : IsSearch (IsItem l.auto' l.groups.numbers.items) (IsPrior l.auto' l.groups.numbers.items l.pairs) l.found l.done;
  begun : IsBegun l.auto' l.groups.numbers.items (lists_of l.groups.lists.keys) l.pairs l.found;
}

abbrev pub decreases-loop-done : goal.decreases-loop-done
decreases-loop-done l = length (all_items l.auto' l.groups.numbers.items) - l.done
