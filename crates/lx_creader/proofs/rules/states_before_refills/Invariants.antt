use Rattle.std.proofs.Common.{◌≡◌, drop, false}
use Rattle.lx_ccode.specs.Validity.{states_before_refills}
use Rattle.lx_creader.proofs.rules.states_before_refills.Given as goal

abbrev pub invariant-loop-statement : goal.invariant-loop-statement
invariant-loop-statement l =
    states_before_refills l.after_state (drop l.statement-index l.statements) ≡ states_before_refills false l.statements
