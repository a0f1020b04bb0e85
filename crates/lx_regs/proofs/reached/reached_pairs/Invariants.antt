use Rattle.std.proofs.Common.{◌-◌, length, Contains}
use Rattle.lx_regs.specs.Growth.{IsSearch}
use Rattle.lx_regs.specs.Reached.{IsNextPair, IsPair}
use Rattle.lx_regs.proofs.LiveRegisters.PairSearch.{all_pairs}
use Rattle.lx_regs.proofs.reached.reached_pairs.Given as goal

abbrev pub invariant-loop-done : goal.invariant-loop-done
invariant-loop-done l = record {
  search : IsSearch (IsPair l.auto' l.numbers) (IsNextPair l.auto' l.numbers) l.found l.done;
  first : Contains l.found (record { state = 0; left = 0 });
}

abbrev pub decreases-loop-done : goal.decreases-loop-done
decreases-loop-done l = length (all_pairs l.auto' l.numbers) - l.done
