use Rattle.std.proofs.Common.{◌-◌, length}
use Rattle.lx_auto.specs.MetStates.{ArePassed, HasMet, IsSearch}
use Rattle.lx_auto.proofs.walks.met_states.Given as goal

abbrev pub invariant-loop-state : goal.invariant-loop-state
invariant-loop-state l = record {
  search : IsSearch l.auto' l.search;
  start : HasMet l.search 0;
  passed : ArePassed l.auto' l.search l.place;
}

abbrev pub decreases-loop-state : goal.decreases-loop-state
decreases-loop-state l = length l.auto'.states - l.place
