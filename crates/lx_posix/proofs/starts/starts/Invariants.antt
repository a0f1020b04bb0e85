use Rattle.std.proofs.Common.{◌^◌, ◌<◌}
use Rattle.lx_posix.proofs.CodeStarts.SweptStarts.{IsSweptOn}
use Rattle.lx_posix.proofs.starts.starts.Given as goal

abbrev pub invariant-loop-index : goal.invariant-loop-index
invariant-loop-index l = record {
  swept : IsSweptOn l.beginnings l.index l.used l.found.items l.levels.items;
  small : l.used < 2 ^ 32;
}
