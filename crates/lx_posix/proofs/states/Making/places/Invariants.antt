use Rattle.std.proofs.Common.{◌≡◌, ◌++◌, drop}
use Rattle.lx_posix.specs.KeptKernels.{places_in}
use Rattle.lx_posix.proofs.states.Making.places.Given as goal

abbrev pub invariant-loop-kept : goal.invariant-loop-kept
invariant-loop-kept l = l.places.items ++ places_in (drop l.kept-index l.kernel) ≡ places_in l.kernel
