use Rattle.std.proofs.Common.{◌≡◌, ◌++◌, drop, map}
use Rattle.std.specs.Prelude.{reverse}
use Rattle.lx_tnfa.specs.Closure.{waiting_from}
use Rattle.lx_tnfa.specs.Search.{first_entry}
use Rattle.lx_tnfa.proofs.tnfa.Tnfa.push_beginnings.Given as goal

abbrev pub invariant-loop-index : goal.invariant-loop-index
invariant-loop-index l =
    l.waiting.items ≡ l.fn.waiting.items ++ reverse (map first_entry (waiting_from l.self l.index (drop l.index l.places)))
