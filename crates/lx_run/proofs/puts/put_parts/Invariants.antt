use Rattle.std.proofs.Common.{[], map, drop}
use Rattle.lx_base.specs.Text.{joined}
use Rattle.lx_run.proofs.PutTexts.{HasGiven}
use Rattle.lx_run.proofs.puts.put_parts.Given as goal

abbrev pub invariant-loop-part : goal.invariant-loop-part
invariant-loop-part g l =
    HasGiven (g.O.Sink.given l.initial.out) (g.O.Sink.given l.out) (g.O.Sink.faults l.initial.out) (g.O.Sink.faults l.out) (g.O.Sink.wants l.initial.out) (g.O.Sink.wants l.out)
    (joined (map (λ part. part.now) l.parts) []) (joined (map (λ part. part.now) (drop l.part-index l.parts)) [])
