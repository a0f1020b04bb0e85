use Rattle.std.proofs.Common.{refl}
use Rattle.lx_ccode.specs.Runs.{run_of}
use Rattle.lx_ccode.proofs.examples.runs_with_heads.Goals as goal

pub returns : goal.returns
unfolding run_of
returns c = record { rule = λ custom. refl; refill = λ custom. refl; checks = λ custom. refl }
