use Rattle.std.proofs.Common.{◌≡◌, ◌++◌, drop, map, None}
use Rattle.std.specs.Prelude.{reverse}
use Rattle.lx_tnfa.specs.Search.{entry_to}
use Rattle.lx_tnfa.specs.declared.closure.Stop.TheVariants.{AtState}
use Rattle.lx_tnfa.proofs.search.push_begins.Given as goal

abbrev pub invariant-loop-index : goal.invariant-loop-index
invariant-loop-index l =
    l.waiting.items ≡ l.fn.waiting.items ++ reverse (map (λ begin. entry_to l.branch None (AtState begin)) (drop l.index l.begins))
