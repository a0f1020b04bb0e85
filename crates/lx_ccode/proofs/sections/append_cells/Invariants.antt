use Rattle.std.proofs.Common.{◌≡◌, ◌++◌, [], drop}
use Rattle.lx_ccode.specs.Text.{cells_then}
use Rattle.lx_ccode.proofs.sections.append_cells.Given as goal

abbrev pub invariant-loop-place : goal.invariant-loop-place
invariant-loop-place l = l.text.items ++ cells_then l.place (drop l.place l.table) [] ≡ l.initial.text.items ++ cells_then 0 l.table []
