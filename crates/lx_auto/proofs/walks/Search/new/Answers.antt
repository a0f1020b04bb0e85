use Rattle.std.proofs.Common.{None}
use Rattle.lx_auto.specs.Points.{begins}
use Rattle.lx_auto.proofs.walks.Search.new.Goals as goal

pub meet-requires-clause-met : goal.meet-requires-clause-met
meet-requires-clause-met c = (None, begins)
