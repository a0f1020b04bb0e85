use Rattle.std.proofs.Common.{◌≡◌, length}
use Rattle.tdfa_samples.proofs.tests.terms.unnamed.Given as goal

abbrev pub invariant-loop : goal.invariant-loop
invariant-loop l = length l.list ≡ l.counter
