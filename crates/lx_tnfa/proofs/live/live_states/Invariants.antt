use Rattle.std.proofs.Common.{◌+◌, count_by, length, not}
use Rattle.lx_tnfa.proofs.Liveness.LiveMarks.{IsSpreading}
use Rattle.lx_tnfa.proofs.live.live_states.Given as goal

abbrev pub invariant-loop-number : goal.invariant-loop-number
invariant-loop-number l = IsSpreading l.classes l.states l.before.items l.live.items l.waiting.items

abbrev pub decreases-loop-number : goal.decreases-loop-number
decreases-loop-number l = count_by not l.live.items + length l.waiting.items
