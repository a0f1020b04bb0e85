use Rattle.lx_compile.proofs.QuietOutputs.{IsGiven-quiet}
use Rattle.lx_compile.proofs.laws.warnings_change_nothing_given.Goals as goal

pub returns : goal.returns
returns c = IsGiven-quiet
