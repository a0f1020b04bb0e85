-- A call that does several checks stops where one of them finds a fault.
use Rattle.std.proofs.Common.{inl, inr, None, refl}
use Rattle.lx_base.specs.declared.faults.Stop.{Stop}
use Rattle.lx_base.specs.declared.faults.Stop.TheVariants as stop
use Rattle.lx_exprs.specs.Checks.{Check, StopsAt, Then}

module _ (First Second : Check) where
  pub stops_first : (stopped : Stop) → StopsAt First stopped → StopsAt (Then First Second) stopped
  stops_first stop.Memory stops = tt
  stops_first (stop.Fault fault) stops = inr (fault, stops, refl)

  -- the first check finds nothing
  pub stops_second : (stopped : Stop) → First None → StopsAt Second stopped → StopsAt (Then First Second) stopped
  stops_second stop.Memory free stops = tt
  stops_second (stop.Fault fault) free stops = inl (free, stops)
