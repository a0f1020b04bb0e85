use Rattle.std.proofs.Common.{◌≡◌, ◌++◌, drop}
use Rattle.lx_posix.specs.Courses.{IsCourse}
use Rattle.lx_posix.specs.Reaching.{origins_of, reaches_of}
use Rattle.lx_posix.proofs.reaches.reaches_of.Given as goal

abbrev pub invariant-loop-index : goal.invariant-loop-index
invariant-loop-index l = record {
  reaches : l.reaches.items ++ reaches_of l.t l.is_first l.beginnings (drop l.index l.founds)
      ≡ reaches_of l.t l.is_first l.beginnings l.founds;
  origins : l.origins.items ++ origins_of l.t l.is_first l.beginnings l.index (drop l.index l.founds)
      ≡ origins_of l.t l.is_first l.beginnings 0 l.founds;
  course : IsCourse l.t l.last.state l.last.moves.now l.marks.items l.events.items;
}
