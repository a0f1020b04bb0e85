use Rattle.std.proofs.Common.{◌≡◌, ◌++◌, drop}
use Rattle.lx_compile.specs.Covering.{cover_of}
use Rattle.lx_compile.proofs.covered.cover_of.Given as goal

abbrev pub invariant-loop-one : goal.invariant-loop-one
invariant-loop-one l = l.text.items ++ cover_of (drop l.one-index l.made) ≡ cover_of l.made
