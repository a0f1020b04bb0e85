use Rattle.std.proofs.Common.{◌≡◌, drop}
use Rattle.std.specs.List.{list_any}
use Rattle.lx_step.specs.Tags.{gives}
use Rattle.lx_step.proofs.tags.one_gives.Given as goal

abbrev pub invariant-loop-statement : goal.invariant-loop-statement
invariant-loop-statement l = list_any (gives l.history l.name) (drop l.statement-index l.statements) ≡ list_any (gives l.history l.name) l.statements
