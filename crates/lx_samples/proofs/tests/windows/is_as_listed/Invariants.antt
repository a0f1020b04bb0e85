use Rattle.std.proofs.Common.{◌≡◌}
use Rattle.lx_samples.proofs.tests.windows.is_as_listed.Given as goal

abbrev pub invariant-loop : goal.invariant-loop
invariant-loop l = l.source.unit ≡ l.window.unit
