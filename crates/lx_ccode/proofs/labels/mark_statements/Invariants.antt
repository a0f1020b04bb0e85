use Rattle.std.proofs.Common.{◌≡◌, drop}
use Rattle.lx_ccode.specs.Labels.{all_targets, marked}
use Rattle.lx_ccode.proofs.labels.mark_statements.Given as goal

abbrev pub invariant-loop-statement : goal.invariant-loop-statement
invariant-loop-statement l =
    marked l.labels.items (all_targets (drop l.statement-index l.statements)) ≡ marked l.initial.labels.items (all_targets l.statements)
