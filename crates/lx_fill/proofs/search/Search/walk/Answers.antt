use Rattle.lx_fill.proofs.Graphs.{targets_within}
use Rattle.lx_fill.proofs.search.Search.walk.Goals as goal

pub open-requires-in-Some-advance-clause-within : goal.open-requires-in-Some-advance-clause-within
open-requires-in-Some-advance-clause-within c = targets_within c.args.auto.now c.in-Some.state c.in-Some-advance.next c.requires.formed c.in-Some-advance.ensures.next.0
