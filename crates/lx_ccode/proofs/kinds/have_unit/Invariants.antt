use Rattle.std.proofs.Common.{◌≡◌, drop}
use Rattle.std.specs.List.{list_any}
use Rattle.lx_ccode.specs.Statements.{all_statements, has_unit}
use Rattle.lx_ccode.proofs.kinds.have_unit.Given as goal

abbrev pub invariant-loop-block : goal.invariant-loop-block
invariant-loop-block l = list_any has_unit (all_statements (drop l.block-index l.blocks)) ≡ list_any has_unit (all_statements l.blocks)
