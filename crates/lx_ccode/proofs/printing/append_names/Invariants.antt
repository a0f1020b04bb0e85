use Rattle.std.proofs.Common.{◌≡◌, ◌++◌, [], drop}
use Rattle.lx_ccode.specs.Text.{names_then}
use Rattle.lx_ccode.proofs.printing.append_names.Given as goal

abbrev pub invariant-loop-place : goal.invariant-loop-place
invariant-loop-place l = l.text.items ++ names_then (drop l.place l.names) [] ≡ l.initial.text.items ++ names_then l.names []
