use Rattle.lx_tnfa.proofs.Searching.ClosureUnique.{closure_same}
use Rattle.lx_tnfa.proofs.laws.closures_are_unique.Goals as goal

pub returns : goal.returns
returns c = closure_same
