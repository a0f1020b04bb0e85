use Rattle.std.proofs.Common.{◌≤◌, drop}
use Rattle.lx_files.proofs.PutLemmas.{HasPut}
use Rattle.lx_compile.specs.Warnings.{warning_lines}
use Rattle.lx_top.proofs.warnings.put_lines.Given as goal

abbrev pub invariant-loop-warning : goal.invariant-loop-warning
invariant-loop-warning g l =
    HasPut (g.E.Sink.given l.initial.err) (g.E.Sink.given l.err) (g.E.Sink.faults l.initial.err) (g.E.Sink.faults l.err) (warning_lines l.names l.warnings)
    (warning_lines l.names (drop l.warning-index l.warnings))
    × (g.E.Sink.wants l.initial.err ≤ g.E.Sink.wants l.err)
