use Rattle.std.proofs.Common.{arith, lit≤, refl, sym}
use Rattle.std.proofs.lemmas.Bool.{false≢true}
use Rattle.lx_ccode.proofs.examples.schedules_of_examples.Goals as goal

pub returns : goal.returns
returns c = record {
  whole = record { from_start = lit≤ tt; within = lit≤ tt; whole = λ e. refl; answers = tt };
  not_whole = λ legal. (let first = legal.whole (refl, refl) in absurd (omega (arith, first)));
  passed = λ legal. (let first = legal.whole (refl, refl) in absurd (omega (arith, first)));
  asked = λ legal. (let first = legal.whole (refl, refl) in absurd (omega (arith, first)));
  nothing_read = record { from_start = lit≤ tt; within = lit≤ tt; whole = λ unasked. absurd (false≢true unasked.0); answers = tt };
  left_and_closed = record {
    from_start = lit≤ tt;
    within = lit≤ tt;
    whole = λ unasked. absurd (false≢true (sym unasked.1));
    answers = (refl, refl, lit≤ tt, ((refl, lit≤ tt, lit≤ tt, lit≤ tt), tt), ((refl, lit≤ tt, lit≤ tt, lit≤ tt), (refl, refl, lit≤ tt, (refl, tt), (refl, tt))));
  };
  dropped_two = record {
    from_start = lit≤ tt;
    within = lit≤ tt;
    whole = λ unasked. absurd (false≢true (sym unasked.1));
    answers = ((refl, lit≤ tt, lit≤ tt, lit≤ tt), tt);
  };
  dropped_too_many = λ legal. (let within = legal.answers.0.1 in absurd (omega (arith, within)));
  more_after_no_more = λ legal. absurd (false≢true (sym legal.answers.1.0));
  too_early = λ legal. (let whole = legal.answers.0 in absurd (omega (arith, whole)));
}
