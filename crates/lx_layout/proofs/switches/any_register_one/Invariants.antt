use Rattle.std.proofs.Common.{◌≡◌, drop}
use Rattle.std.specs.List.{list_any}
use Rattle.lx_ccode.specs.Statements.{has_register_one}
use Rattle.lx_layout.proofs.switches.any_register_one.Given as goal

abbrev pub invariant-loop-stmt : goal.invariant-loop-stmt
invariant-loop-stmt l = list_any has_register_one (drop l.stmt-index l.stmts) ≡ list_any has_register_one l.stmts
