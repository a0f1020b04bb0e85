use Rattle.std.proofs.Common.{◌≡◌, ℕ, ◌++◌, drop, length}
use Rattle.lx_posix.specs.Courses.{marks_on}
use Rattle.lx_posix.specs.Finding.{IsWay}
use Rattle.lx_posix.specs.Reaching.{events_on}
use Rattle.lx_posix.proofs.courses.go_on.Given as goal

abbrev pub invariant-loop-index : goal.invariant-loop-index
invariant-loop-index l = record {
  marked : l.marks.items ++ marks_on l.t l.at (length l.events.items) (drop l.index-index l.way)
      ≡ l.fn.marks.items ++ marks_on l.t l.state (length l.fn.events.items) l.way;
  listed : l.events.items ++ events_on l.t l.at (drop l.index-index l.way) ≡ l.fn.events.items ++ events_on l.t l.state l.way;
  way : (to : ℕ) × IsWay l.t l.at (drop l.index-index l.way) to;
}
