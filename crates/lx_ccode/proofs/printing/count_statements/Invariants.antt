use Rattle.std.proofs.Common.{◌≡◌, ◌+◌, ◌≤◌, drop}
use Rattle.lx_base.specs.declared.limits.TheConstants.{STATEMENT_LIMIT}
use Rattle.lx_ccode.specs.Statements.{statement_count}
use Rattle.lx_ccode.proofs.printing.count_statements.Given as goal

abbrev pub invariant-loop-block : goal.invariant-loop-block
invariant-loop-block l = (l.count + statement_count (drop l.block-index l.blocks) ≡ statement_count l.blocks) × (l.count ≤ STATEMENT_LIMIT)
