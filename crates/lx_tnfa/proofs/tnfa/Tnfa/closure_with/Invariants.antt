use Rattle.lx_tnfa.proofs.Searching.SearchTrail.{SearchSoFar, search_left}
use Rattle.lx_tnfa.proofs.tnfa.Tnfa.closure_with.Given as goal

abbrev pub invariant-loop-at : goal.invariant-loop-at
invariant-loop-at l = SearchSoFar l.self l.places l.visited l.trail.items l.waiting.items l.reaches

abbrev pub decreases-loop-at : goal.decreases-loop-at
decreases-loop-at l = search_left l.self l.visited l.trail.items l.waiting.items
