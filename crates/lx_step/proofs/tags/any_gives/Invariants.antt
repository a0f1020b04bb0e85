use Rattle.std.proofs.Common.{◌≡◌, drop}
use Rattle.std.specs.List.{list_any}
use Rattle.lx_ccode.specs.Statements.{all_statements}
use Rattle.lx_step.specs.Tags.{gives}
use Rattle.lx_step.proofs.tags.any_gives.Given as goal

abbrev pub invariant-loop-block : goal.invariant-loop-block
invariant-loop-block l =
    list_any (gives l.history l.name) (all_statements (drop l.block-index l.blocks)) ≡ list_any (gives l.history l.name) (all_statements l.blocks)
