use Rattle.std.proofs.Common.{◌≡◌, drop}
use Rattle.std.specs.List.{list_any}
use Rattle.lx_ccode.specs.States.{stores}
use Rattle.lx_step.proofs.states.one_stores.Given as goal

abbrev pub invariant-loop-statement : goal.invariant-loop-statement
invariant-loop-statement l = list_any (stores l.state) (drop l.statement-index l.statements) ≡ list_any (stores l.state) l.statements
