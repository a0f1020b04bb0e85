use Rattle.lx_step.proofs.Reaching.{code_from-reached}
use Rattle.lx_step.proofs.laws.places_follow_the_machine.Goals as goal

pub returns : goal.returns
returns c = code_from-reached
