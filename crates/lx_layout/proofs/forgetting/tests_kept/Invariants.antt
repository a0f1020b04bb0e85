use Rattle.std.proofs.Common.{◌≡◌, drop}
use Rattle.std.specs.List.{list_any}
use Rattle.lx_layout.specs.Forgetting.{tests_kept}
use Rattle.lx_layout.proofs.forgetting.tests_kept.Given as goal

abbrev pub invariant-loop-stmt : goal.invariant-loop-stmt
invariant-loop-stmt l = list_any tests_kept (drop l.stmt-index l.stmts) ≡ list_any tests_kept l.stmts
