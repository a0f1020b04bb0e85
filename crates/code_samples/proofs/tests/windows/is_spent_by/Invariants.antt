use Rattle.std.proofs.Common.{◌≡◌}
use Rattle.std.specs.Prelude.{IfSome}
use Rattle.code_samples.proofs.tests.windows.is_spent_by.Given as goal

abbrev pub invariant-loop : goal.invariant-loop
invariant-loop l = record {
  unit : l.w.unit ≡ 1;
  piece : l.lexer.piece.unit ≡ 1;
  start : IfSome l.lexer.left (λ left. l.w.start ≡ l.lexer.start);
}
