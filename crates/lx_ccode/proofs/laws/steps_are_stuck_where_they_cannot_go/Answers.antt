use Rattle.lx_ccode.proofs.StuckSteps.{IsStuck-step}
use Rattle.lx_ccode.proofs.laws.steps_are_stuck_where_they_cannot_go.Goals as goal

pub returns : goal.returns
returns c = λ piece stream statement rest machine answers within. IsStuck-step piece stream rest machine answers within statement
