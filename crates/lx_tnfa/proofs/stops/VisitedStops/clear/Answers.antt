use Rattle.lx_tnfa.proofs.Searching.NotedStops.{none_noted}
use Rattle.lx_tnfa.proofs.stops.VisitedStops.clear.Goals as goal

pub invariant_of-self : goal.invariant_of-self
invariant_of-self c =
    none_noted c.clear.new.self.items c.next_turn-self-inside.new.marks.items c.next_turn-self-inside.result c.empty.new.others.keys c.clear.ensures.items c.empty.ensures
    (c.next_turn-self-inside.ensures c.self.invariant.none_later)
