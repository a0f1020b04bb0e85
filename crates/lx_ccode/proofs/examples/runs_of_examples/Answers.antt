use Rattle.std.proofs.Common.{refl}
use Rattle.lx_ccode.specs.Runs.{run_of}
use Rattle.lx_ccode.proofs.examples.runs_of_examples.Goals as goal

pub returns : goal.returns
unfolding run_of
returns c = record {
  rule = refl;
  fallback = refl;
  no_match = refl;
  past_the_end = refl;
  endless = refl;
  one_by_one = refl;
  comes_back = refl;
  refill = refl;
  no_more_units = refl;
  no_answer = refl;
  checks = refl;
  too_few = refl;
}
