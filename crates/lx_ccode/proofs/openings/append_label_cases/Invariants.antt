use Rattle.std.proofs.Common.{◌≡◌, ◌++◌, [], drop}
use Rattle.lx_ccode.specs.Text.{label_cases_then}
use Rattle.lx_ccode.proofs.openings.append_label_cases.Given as goal

abbrev pub invariant-loop-case : goal.invariant-loop-case
invariant-loop-case l = l.text.items ++ label_cases_then l.names (drop l.case-index l.cases) [] ≡ l.initial.text.items ++ label_cases_then l.names l.cases []
