use Rattle.std.proofs.Common.{◌≤◌, arith}
use Rattle.lx_compile.specs.Warnings.{warning_lines}
use Rattle.lx_top.specs.Outside.{sink_view}
use Rattle.lx_top.proofs.ReportLemmas.{TellsLines-failed, TellsLines-out_of_memory}
use Rattle.lx_top.proofs.warnings.tell_warnings.Goals as goal

pub returns-in-Err-Failed : goal.returns-in-Err-Failed
returns-in-Err-Failed g c =
    let risen : g.E.Sink.faults c.args.err.now ≤ g.E.Sink.faults c.put_lines.new.err = omega arith in
    let more : g.E.Sink.wants c.args.err.now ≤ g.E.Sink.wants c.put_lines.new.err = omega arith in
    TellsLines-failed (warning_lines c.args.names.now c.args.warnings.now) _ (sink_view (g.E.Sink.given c.put_lines.new.err) (g.E.Sink.faults c.put_lines.new.err) (g.E.Sink.wants c.put_lines.new.err)) _
    c.tell_failure.result c.tell_failure.ensures.same c.in-Err-Failed.ensures.some (rw c.in-Err-Failed.field-0-is at c.in-Err-Failed.ensures.refuses) risen more
    c.tell_failure.ensures.never_falls c.in-Err-Failed.ensures.front c.tell_failure.ensures.told

pub returns-in-Err-Memory : goal.returns-in-Err-Memory
returns-in-Err-Memory g c =
    let risen : g.E.Sink.faults c.args.err.now ≤ g.E.Sink.faults c.put_lines.new.err = omega arith in
    let more : g.E.Sink.wants c.args.err.now ≤ g.E.Sink.wants c.put_lines.new.err = omega arith in
    TellsLines-out_of_memory (warning_lines c.args.names.now c.args.warnings.now) _ (sink_view (g.E.Sink.given c.put_lines.new.err) (g.E.Sink.faults c.put_lines.new.err) (g.E.Sink.wants c.put_lines.new.err)) _
    c.tell_failure-in-Err-Memory.result c.tell_failure-in-Err-Memory.ensures.same c.in-Err-Memory.ensures.some risen more c.in-Err-Memory.ensures.front
    c.tell_failure-in-Err-Memory.ensures.told
