use Rattle.std.proofs.Common.{◌≡◌, ◌++◌, drop}
use Rattle.lx_ccode.specs.Reading.{conds_from}
use Rattle.lx_creader.proofs.blocks.conds_from.Given as goal

abbrev pub invariant-loop-place : goal.invariant-loop-place
invariant-loop-place l = l.conds.items ++ conds_from l.place (drop l.place l.blocks) ≡ conds_from 0 l.blocks
