use Rattle.std.proofs.Common.{◌≡◌, ℕ, ◌<◌, []}
use Rattle.lx_fill.specs.Search.{HasMet, IsSearch}
use Rattle.lx_fill.proofs.search.searched.Given as goal

abbrev pub invariant-loop-root : goal.invariant-loop-root
invariant-loop-root l = record {
  search : IsSearch l.auto' l.search;
  empty : l.search.path.items ≡ [];
  met : (state : ℕ) → state < l.root → HasMet l.search state;
}
