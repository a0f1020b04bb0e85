use Rattle.std.proofs.Common.{length}
use Rattle.lx_tnfa.proofs.stops.empty.Given as goal

abbrev pub decreases-loop : goal.decreases-loop
decreases-loop l = length l.others.keys
