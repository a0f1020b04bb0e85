use Rattle.std.proofs.Common.{◌≡◌, ◌++◌, [], drop}
use Rattle.lx_ccode.specs.Text.{switch_cases_then}
use Rattle.lx_ccode.proofs.lines.Scope.append_switch_cases.Given as goal

abbrev pub invariant-loop-case : goal.invariant-loop-case
invariant-loop-case l =
    l.text.items ++ switch_cases_then l.self.number (drop l.case-index l.cases) [] ≡ l.initial.text.items ++ switch_cases_then l.self.number l.cases []
