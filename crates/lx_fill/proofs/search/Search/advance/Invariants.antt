use Rattle.std.proofs.Common.{◌≡◌, get_or}
use Rattle.lx_fill.specs.Search.{IsSearch}
use Rattle.lx_fill.proofs.search.Search.advance.Given as goal

abbrev pub invariant-loop-place : goal.invariant-loop-place
invariant-loop-place l = record {
  search : IsSearch l.auto' l.self;
  passed : get_or l.self.passed.items l.state 0 ≡ l.place;
  colours : l.self.colours.items ≡ l.fn.self.colours.items;
  path : l.self.path.items ≡ l.fn.self.path.items;
  order : l.self.order.items ≡ l.fn.self.order.items;
}
