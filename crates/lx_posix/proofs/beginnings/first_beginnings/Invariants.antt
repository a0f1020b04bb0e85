use Rattle.std.proofs.Common.{◌≡◌, ◌++◌, drop, map}
use Rattle.lx_posix.specs.Reaching.{first_begin}
use Rattle.lx_posix.proofs.beginnings.first_beginnings.Given as goal

abbrev pub invariant-loop-begin : goal.invariant-loop-begin
invariant-loop-begin l = l.beginnings.items ++ map first_begin (drop l.begin-index l.t.begins) ≡ map first_begin l.t.begins
