use Rattle.std.proofs.Common.{◌≡◌, ◌≤◌, ◌+◌, ◌-◌, ◌/◌, suc, Bool, length}
use Rattle.lx_step.specs.Feeds.{feed_of}
use Rattle.lx_window.specs.MemorySource.{ahead_of}
use Rattle.lx_run.proofs.WindowRuns.{HasRun}
use Rattle.lx_run.specs.Readings.{Reading}
use Rattle.lx_run.specs.Texts.{Between, run_from}
use Rattle.lx_run.specs.Windows.{IsBetween, IsEarly}
use Rattle.lx_run.proofs.windows.run_matches.Given as goal

abbrev pub invariant-loop-input : goal.invariant-loop-input
invariant-loop-input g l = record {
  source_unit : l.src.unit ≡ l.piece.unit;
  never_falls : g.O.Sink.faults l.initial.out ≤ g.O.Sink.faults l.out;
  wants_never_fall : g.O.Sink.wants l.initial.out ≤ g.O.Sink.wants l.out;
  runs : (reading : Reading) (leaves : Bool) (between : Between)
      → IsBetween l.piece reading leaves between l.initial.lexer (feed_of (ahead_of l.initial.src) l.initial.w) → IsEarly reading
      → HasRun l.piece reading leaves l.input.units (run_from reading l.input.units (suc (length reading.stream - between.start)) between)
      (g.O.Sink.given l.initial.out) (g.O.Sink.given l.out) (g.O.Sink.faults l.initial.out) (g.O.Sink.faults l.out) l.lexer
      (feed_of (ahead_of l.src) l.w);
}

-- how many units stand behind the start
abbrev pub decreases-loop-input : goal.decreases-loop-input
decreases-loop-input g l = length l.src.bytes / l.src.unit + (l.w.limit - l.w.start)
