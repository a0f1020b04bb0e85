use Rattle.std.proofs.Common.{◌≡◌}
use Rattle.std.specs.Prelude.{None}
use Rattle.code_samples.proofs.tests.windows.end_by_rules.Given as goal

abbrev pub invariant-loop : goal.invariant-loop
invariant-loop l = record {
  unit : l.w.unit ≡ 1;
  piece : l.lexer.piece ≡ l.initial.lexer.piece;
  over : l.lexer.left ≡ None;
}
