use Rattle.std.proofs.Common.{◌≡◌, ◌++◌, length, map}
use Rattle.std.specs.Vec.Iter.{into_iter_items, into_iter_len}
use Rattle.lx_compile.specs.Warnings.{placed}
use Rattle.lx_compile.proofs.warned.append_warnings.Given as goal

abbrev pub invariant-loop-warning : goal.invariant-loop-warning
invariant-loop-warning l = record {
  all : l.all ++ map (placed l.at l.acts l.scanner.cond) (into_iter_items l.warning-iterator)
      ≡ l.initial.all ++ map (placed l.at l.acts l.scanner.cond) (into_iter_items l.initial.warning-iterator);
  count : into_iter_len l.warning-iterator ≡ length (into_iter_items l.warning-iterator);
}
