use Rattle.std.proofs.Common.{◌≡◌, ◌++◌, drop, map, None}
use Rattle.std.specs.Prelude.{reverse}
use Rattle.lx_tnfa.specs.Closure.{leaf_step}
use Rattle.lx_tnfa.specs.Search.{entry_to}
use Rattle.lx_tnfa.proofs.search.push_starts.Given as goal

abbrev pub invariant-loop-index : goal.invariant-loop-index
invariant-loop-index l =
    l.waiting.items ≡ l.fn.waiting.items ++ reverse (map (λ start. entry_to l.branch None (leaf_step l.part start).to) (drop l.index l.starts))
