use Rattle.lx_auto.proofs.Kept.{StaysWithin-itself, StaysWithin-through}
use Rattle.lx_auto.proofs.laws.staying_within_goes_through.Goals as goal

pub returns-clause-itself : goal.returns-clause-itself
returns-clause-itself c = StaysWithin-itself

pub returns-clause-through : goal.returns-clause-through
returns-clause-through c = StaysWithin-through
