use Rattle.std.proofs.Common.{◌≡◌, ◌++◌, [], drop}
use Rattle.lx_ccode.specs.Text.{cond_cases_then}
use Rattle.lx_ccode.proofs.lines.Scope.append_cond_cases.Given as goal

abbrev pub invariant-loop-case : goal.invariant-loop-case
invariant-loop-case l =
    l.text.items ++ cond_cases_then l.self.number l.self.names.now (drop l.case-index l.cases) []
    ≡ l.initial.text.items ++ cond_cases_then l.self.number l.self.names.now l.cases []
