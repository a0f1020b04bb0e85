use Rattle.std.specs.Prelude.{slice_get}
use Rattle.lx_tdfa.specs.Building.{Grows, greatest_of}
use Rattle.lx_tdfa.specs.Edges.{AreEdgesBefore}
use Rattle.lx_tdfa.specs.Table.{onward_by}
use Rattle.lx_tdfa.proofs.states.Source.edges.Given as goal

abbrev pub invariant-loop-index : goal.invariant-loop-index
invariant-loop-index l =
    Grows l.self.t.now l.initial.kernels l.kernels
    × AreEdgesBefore l.self.t.now (greatest_of l.self.t.now) l.kernels l.is_first (onward_by l.self.t.now l.reaches) (slice_get l.cuts.items l.index) l.edges.items
