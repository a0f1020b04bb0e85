use Rattle.std.proofs.Common.{◌≡◌}
use Rattle.code_samples.proofs.tests.windows.fill.Given as goal

abbrev pub invariant-loop : goal.invariant-loop
invariant-loop l = record {
  unit : l.w.unit ≡ l.initial.w.unit;
  source_unit : l.src.unit ≡ l.initial.src.unit;
  start : l.w.start ≡ l.initial.w.start;
}
