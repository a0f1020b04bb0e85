use Rattle.std.proofs.Common.{refl}
use Rattle.lx_ccode.specs.Runs.{run_of}
use Rattle.lx_ccode.proofs.examples.runs_of_format_three.Goals as goal

pub returns : goal.returns
unfolding run_of
returns c = record {
  is = λ custom. refl;
  sets = λ custom. refl;
  case = λ custom. refl;
  default = λ custom. refl;
  zero = λ custom. refl;
  wide = λ custom. refl;
  past_a_byte = λ custom. refl;
  no_other = λ custom. refl;
  conditions = refl;
  other_condition = refl;
}
