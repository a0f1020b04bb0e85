use Rattle.std.proofs.Common.{◌-◌, ◌≡◌, None}
use Rattle.code_samples.proofs.tests.stepper.count_matches.Given as goal

abbrev pub invariant-loop-matches : goal.invariant-loop-matches
invariant-loop-matches l = (l.lexer.left ≡ None) × (l.w.unit ≡ l.lexer.piece.unit) × (l.src.unit ≡ l.lexer.piece.unit)

abbrev pub decreases-loop-matches : goal.decreases-loop-matches
decreases-loop-matches l = l.most - l.matches
