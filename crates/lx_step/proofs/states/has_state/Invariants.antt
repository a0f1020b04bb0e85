use Rattle.std.proofs.Common.{◌≡◌, drop}
use Rattle.std.specs.List.{list_any}
use Rattle.lx_ccode.specs.States.{stores}
use Rattle.lx_ccode.specs.Statements.{all_statements}
use Rattle.lx_step.proofs.states.has_state.Given as goal

abbrev pub invariant-loop-block : goal.invariant-loop-block
invariant-loop-block l = list_any (stores l.state) (all_statements (drop l.block-index l.blocks)) ≡ list_any (stores l.state) (all_statements l.blocks)
