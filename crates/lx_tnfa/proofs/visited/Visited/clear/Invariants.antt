use Rattle.std.proofs.Common.{length}
use Rattle.lx_tnfa.proofs.visited.Visited.clear.Given as goal

abbrev pub decreases-loop : goal.decreases-loop
decreases-loop g l = length l.self-inside.items.keys
