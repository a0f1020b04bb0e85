use Rattle.std.proofs.Common.{◌≡◌, take}
use Rattle.std.specs.Prelude.{map}
use Rattle.lx_regs.specs.SharedNames.{names_of, renamed_edge}
use Rattle.lx_regs.proofs.shared_names.SharedNames.renamed_edges.Given as goal

abbrev pub invariant-loop-edge : goal.invariant-loop-edge
invariant-loop-edge l = l.answer ≡ map (renamed_edge (names_of l.self)) (take l.edge-index l.edges)
