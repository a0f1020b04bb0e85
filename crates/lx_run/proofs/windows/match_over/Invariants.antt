use Rattle.std.proofs.Common.{◌≡◌, ◌+◌, ◌/◌, Bool, length, if◌then◌else◌}
use Rattle.std.specs.Prelude.{IfSome}
use Rattle.lx_step.specs.Feeds.{feed_of}
use Rattle.lx_window.specs.MemorySource.{ahead_of}
use Rattle.lx_run.specs.Readings.{Reading}
use Rattle.lx_run.specs.Texts.{Between}
use Rattle.lx_run.specs.Windows.{IsBetween}
use Rattle.lx_run.proofs.WindowMatches.{IsUnderWay}
use Rattle.lx_run.proofs.windows.match_over.Given as goal

abbrev pub invariant-loop-w : goal.invariant-loop-w
invariant-loop-w l = record {
  piece_is : l.lexer.piece ≡ l.piece;
  source_unit : l.src.unit ≡ l.initial.src.unit;
  start_is : IfSome l.lexer.left (λ left. l.w.start ≡ l.lexer.start);
  way :
      (reading : Reading) (leaves : Bool) (between : Between) → IsBetween l.piece reading leaves between l.fn.lexer (feed_of (ahead_of l.initial.src) l.initial.w)
      → IsUnderWay l.piece reading leaves between l.lexer (feed_of (ahead_of l.src) l.w);
}

abbrev pub decreases-loop-w : goal.decreases-loop-w
decreases-loop-w l = length l.src.bytes / l.src.unit + (if l.src.leaves_next then 1 else 0)
