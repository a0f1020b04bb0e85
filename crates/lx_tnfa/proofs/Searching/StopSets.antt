-- Stops in sets.
use Rattle.std.proofs.Common.{◌≡◌, true, rules}
use Rattle.lx_tnfa.specs.contracts.closure.StopPartialEq.TheImpl.{eq-value}
use Rattle.lx_tnfa.specs.declared.closure.Stop.{Stop}
use Rattle.lx_tnfa.specs.Equality.{TellsEqual}

-- equal stops are those that the program takes for equal
same_stop : (stop other : Stop) → eq-value.it stop other ≡ true → stop ≡ other
same_stop stop other e = search rules

stop_same : (stop other : Stop) → stop ≡ other → eq-value.it stop other ≡ true
stop_same stop other e = search rules

pub TellsEqual-stops : TellsEqual eq-value.it
TellsEqual-stops = record { equal = same_stop; itself = stop_same }
