use Rattle.std.proofs.Common.{◌≡◌, drop, false}
use Rattle.lx_ccode.specs.Validity.{tries_after_state}
use Rattle.lx_creader.proofs.rules.tries_after_state.Given as goal

abbrev pub invariant-loop-statement : goal.invariant-loop-statement
invariant-loop-statement l =
    tries_after_state l.after_state (drop l.statement-index l.statements) ≡ tries_after_state false l.statements
