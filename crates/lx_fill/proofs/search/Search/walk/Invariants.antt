use Rattle.std.proofs.Common.{◌+◌, ◌-◌, length}
use Rattle.lx_fill.specs.Search.{HasMet, IsSearch, KeepsMet}
use Rattle.lx_fill.proofs.search.Search.walk.Given as goal

abbrev pub invariant-loop-state : goal.invariant-loop-state
invariant-loop-state l = record {
  search : IsSearch l.auto' l.self;
  met : KeepsMet l.fn.self l.self;
  root : HasMet l.self l.root;
}

abbrev pub decreases-loop-state : goal.decreases-loop-state
decreases-loop-state l =
    (length l.auto'.states + length l.auto'.states) - (length l.self.order.items + length l.self.order.items + length l.self.path.items)
