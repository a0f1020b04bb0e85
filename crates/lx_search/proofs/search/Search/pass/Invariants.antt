use Rattle.lx_search.proofs.EdgeSteps.{IsPassing}
use Rattle.lx_search.proofs.search.Search.pass.Given as goal

abbrev pub invariant-loop-edge : goal.invariant-loop-edge
invariant-loop-edge l = IsPassing l.scope l.auto' l.self l.place l.state l.edge-index
