use Rattle.std.proofs.Common.{ℕ, ◌+◌, ◌<◌, length, sym, subst}
use Rattle.std.specs.Prelude.{slice_index}
use Rattle.lx_encode.specs.Runs.{target_of}
use Rattle.lx_encode.specs.Table.{row_of}
use Rattle.lx_encode.specs.Graph.{Separates}
use Rattle.lx_encode.proofs.RunLists.{IsRow-sorted}
use Rattle.lx_encode.proofs.Cuts.{cuts_increase, cuts_separate}
use Rattle.lx_encode.proofs.graph.UnitGraph.cuts.Goals as goal

pub returns-clause-sorted : goal.returns-clause-sorted
returns-clause-sorted c =
    let row = row_of c.self.inside.table c.args.residual.0 in
    subst (λ l. (k : ℕ) → k + 1 < length l → slice_index l k < slice_index l (k + 1)) (sym c.cuts.ensures.cuts)
    (cuts_increase row (IsRow-sorted row c.cuts.ensures.row))

pub returns-clause-separating : goal.returns-clause-separating
returns-clause-separating c =
    let row = row_of c.self.inside.table c.args.residual.0 in
    subst (λ g. Separates c.cuts.result.now (target_of (row_of g.rows c.args.residual.0))) c.self.view_is
    (subst (λ l. Separates l (target_of row)) (sym c.cuts.ensures.cuts)
    (cuts_separate row (IsRow-sorted row c.cuts.ensures.row)))
