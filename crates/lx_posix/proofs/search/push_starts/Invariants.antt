use Rattle.std.proofs.Common.{◌≡◌, ◌++◌, drop}
use Rattle.std.specs.Prelude.{reverse}
use Rattle.lx_posix.specs.Finding.{start_entries}
use Rattle.lx_posix.proofs.search.push_starts.Given as goal

abbrev pub invariant-loop-index : goal.invariant-loop-index
invariant-loop-index l = l.waiting.items ≡ l.fn.waiting.items ++ reverse (start_entries l.beginnings (drop l.index l.starts))
