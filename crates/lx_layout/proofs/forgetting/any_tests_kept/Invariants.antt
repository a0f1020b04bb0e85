use Rattle.std.proofs.Common.{◌≡◌, drop}
use Rattle.std.specs.List.{list_any}
use Rattle.lx_ccode.specs.Statements.{all_statements}
use Rattle.lx_layout.specs.Forgetting.{tests_kept}
use Rattle.lx_layout.proofs.forgetting.any_tests_kept.Given as goal

abbrev pub invariant-loop-block : goal.invariant-loop-block
invariant-loop-block l = list_any tests_kept (all_statements (drop l.block-index l.blocks)) ≡ list_any tests_kept (all_statements l.blocks)
