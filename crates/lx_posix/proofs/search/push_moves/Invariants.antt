use Rattle.std.proofs.Common.{◌≡◌, ◌++◌, drop}
use Rattle.std.specs.Prelude.{reverse}
use Rattle.lx_posix.specs.Finding.{move_entries}
use Rattle.lx_posix.proofs.search.push_moves.Given as goal

abbrev pub invariant-loop-index : goal.invariant-loop-index
invariant-loop-index l =
    l.waiting.items ≡ l.fn.waiting.items ++ reverse (move_entries l.before l.walked l.index (drop l.index l.ways))
