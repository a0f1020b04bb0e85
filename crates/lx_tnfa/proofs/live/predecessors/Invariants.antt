use Rattle.std.proofs.Common.{◌≡◌, drop, length}
use Rattle.lx_tnfa.proofs.Liveness.LiveMarks.{put_all}
use Rattle.lx_tnfa.proofs.live.predecessors.Given as goal

abbrev pub invariant-loop-number : goal.invariant-loop-number
invariant-loop-number l = record {
  count : length l.before.items ≡ length l.states;
  all : put_all l.classes l.before.items l.number (drop l.number l.states) ≡ put_all l.classes l.initial.before.items 0 l.states;
}
