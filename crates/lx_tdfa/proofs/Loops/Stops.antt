-- Reasons for which determinization stops.
use Rattle.lx_base.specs.declared.faults.Stop.{Stop}
use Rattle.lx_base.specs.declared.faults.Stop.TheVariants as stop
use Rattle.lx_base.specs.declared.places.Pos.{Pos}
use Rattle.lx_tdfa.specs.Making.{StopsBy}

-- what stops by one reason stops by each reason that follows from it
pub StopsBy-wider : {A B : Type 0} (at : Pos) (stopped : Stop) → (A → B) → StopsBy at A stopped → StopsBy at B stopped
StopsBy-wider at stop.Memory wider stops = tt
StopsBy-wider at (stop.Fault fault) wider stops = (stops.0, wider stops.1)
