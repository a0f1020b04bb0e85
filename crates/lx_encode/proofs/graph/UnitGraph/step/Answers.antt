use Rattle.std.proofs.Common.{◌≡◌, ◌<◌, Some, length, sym, ◌∙◌, ap, subst}
use Rattle.lx_encode.specs.Runs.{AreSorted, target_of}
use Rattle.lx_encode.specs.Table.{IsTable, row_of}
use Rattle.lx_encode.proofs.RunLists.{IsRow-sorted}
use Rattle.lx_encode.proofs.Residuals.{step_within, step_lives}
use Rattle.lx_encode.proofs.graph.UnitGraph.step.Goals as goal
use Rattle.lx_encode.proofs.graph.UnitGraph.step.Goals.{In-Some}

pub target_at-requires : goal.target_at-requires
target_at-requires c =
    let row = row_of c.self.inside.table c.args.residual.0 in
    subst AreSorted (sym c.row.ensures.row) (IsRow-sorted row (c.row.ensures.table.row c.args.residual.0 (subst (λ g. c.args.residual.0 < length g.rows) (sym c.self.view_is) c.requires)))

table_of : (c : In-Some) → IsTable c.args.self.now.rows
table_of c = subst (λ g. IsTable g.rows) c.self.view_is c.row.ensures.table

step_is : (c : In-Some) → target_of (row_of c.args.self.now.rows c.args.residual.0) c.args.unit ≡ Some c.in-Some.next
step_is c =
    subst (λ g. target_of (row_of g.rows c.args.residual.0) c.args.unit ≡ Some c.in-Some.next) c.self.view_is
    (ap (λ l. target_of l c.args.unit) (sym c.row.ensures.row) ∙ sym c.target_at.ensures ∙ c.in-Some.is)

pub returns-in-Some-clause-within : goal.returns-in-Some-clause-within
returns-in-Some-clause-within c = step_within c.args.self.now.rows (table_of c) c.args.residual.0 c.requires c.args.unit c.in-Some.next (step_is c)

pub returns-in-Some-clause-none : goal.returns-in-Some-clause-none
returns-in-Some-clause-none c = (
  λ clash. cc,
  λ none. absurd (let some = step_lives c.args.self.now.rows (table_of c) c.args.residual.0 c.requires c.args.unit c.in-Some.next (step_is c) in none some.0 some.1),
)
