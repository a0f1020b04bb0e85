use Rattle.std.proofs.Common.{◌≡◌, ℕ, Bool}
use Rattle.lx_step.specs.Feeds.{feed_of}
use Rattle.lx_window.specs.MemorySource.{ahead_of}
use Rattle.lx_window.specs.Windows.{IsFormed}
use Rattle.lx_run.proofs.Filling.{IsFilling, refills_left}
use Rattle.lx_run.specs.Readings.{Reading}
use Rattle.lx_run.specs.Windows.{IsAt}
use Rattle.lx_run.proofs.windows.fill.Given as goal

abbrev pub invariant-loop-w : goal.invariant-loop-w
invariant-loop-w l = record {
  formed : IsFormed l.w;
  unit : l.w.unit ≡ l.src.unit;
  source_unit : l.src.unit ≡ l.initial.src.unit;
  fills : (reading : Reading) (unit : ℕ) (leaves : Bool) → IsAt reading unit leaves leaves 0 0 (feed_of (ahead_of l.initial.src)
      l.initial.w) → IsFilling reading unit leaves l.w l.src;
}

abbrev pub decreases-loop-w : goal.decreases-loop-w
decreases-loop-w l = refills_left l.src
