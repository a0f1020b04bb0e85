use Rattle.std.proofs.Common.{◌≡◌}
use Rattle.std.specs.Prelude.{IfSome}
use Rattle.code_samples.proofs.tests.windows.is_read_in_parts.Given as goal

abbrev pub invariant-loop-number : goal.invariant-loop-number
invariant-loop-number l = record {
  piece_is : l.lexer.piece ≡ l.piece;
  start_is : IfSome l.lexer.left (λ left. l.at ≡ l.lexer.start);
}
