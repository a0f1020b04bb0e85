use Rattle.std.proofs.Common.{length, ◌≤◌}
use Rattle.lx_files.proofs.PutLemmas.{HasPut}
use Rattle.lx_files.proofs.puts.put_all.Given as goal

abbrev pub invariant-loop-rest : goal.invariant-loop-rest
invariant-loop-rest g l =
    record {
      put : HasPut (g.O.Sink.given l.initial.out) (g.O.Sink.given l.out) (g.O.Sink.faults l.initial.out) (g.O.Sink.faults l.out) l.bytes l.rest;
      rises : g.O.Sink.wants l.initial.out ≤ g.O.Sink.wants l.out;
    }

abbrev pub decreases-loop-rest : goal.decreases-loop-rest
decreases-loop-rest g l = length l.rest
