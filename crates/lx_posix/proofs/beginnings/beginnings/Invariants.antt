use Rattle.std.proofs.Common.{◌≡◌, ◌++◌, drop, map}
use Rattle.lx_posix.specs.Reaching.{beginning_of}
use Rattle.lx_posix.proofs.beginnings.beginnings.Given as goal

abbrev pub invariant-loop-kept : goal.invariant-loop-kept
invariant-loop-kept l = l.beginnings.items ++ map (beginning_of l.t) (drop l.kept-index l.kernel) ≡ map (beginning_of l.t) l.kernel
