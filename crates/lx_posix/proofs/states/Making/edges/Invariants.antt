use Rattle.std.specs.Prelude.{None, slice_get}
use Rattle.lx_tdfa.specs.Building.{greatest_of}
use Rattle.lx_tdfa.specs.Edges.{AreEdgesBefore}
use Rattle.lx_posix.specs.Closures.{onward_of}
use Rattle.lx_posix.specs.Determining.{Grows}
use Rattle.lx_posix.proofs.states.Making.edges.Given as goal

abbrev pub invariant-loop-index : goal.invariant-loop-index
invariant-loop-index l =
    Grows l.self.source.t.now l.initial.kernels l.kernels
    × AreEdgesBefore l.self.source.t.now (greatest_of l.self.source.t.now) l.kernels l.is_first (onward_of l.self.source.t.now l.closure None)
    (slice_get l.cuts.items l.index) l.edges.items
