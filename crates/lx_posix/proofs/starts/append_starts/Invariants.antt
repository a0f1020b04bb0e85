use Rattle.std.proofs.Common.{◌≡◌, ◌++◌, drop}
use Rattle.lx_posix.specs.Sweeps.{starts_at}
use Rattle.lx_posix.proofs.starts.append_starts.Given as goal

abbrev pub invariant-loop-place : goal.invariant-loop-place
invariant-loop-place l =
    l.found.items ++ starts_at l.level (drop l.place-index l.places) ≡ l.fn.found.items ++ starts_at l.level l.places
