use Rattle.std.proofs.Common.{◌≡◌, drop}
use Rattle.lx_ccode.specs.Validity.{refills_after_states}
use Rattle.lx_creader.proofs.rules.refills_after_states.Given as goal

abbrev pub invariant-loop-place : goal.invariant-loop-place
invariant-loop-place l =
    refills_after_states (drop l.place l.statements) ≡ refills_after_states l.statements
