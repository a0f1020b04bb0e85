use Rattle.std.proofs.Common.{◌≡◌, ◌++◌, length}
use Rattle.std.specs.Vec.Iter.{into_iter_items, into_iter_len}
use Rattle.lx_compile.proofs.warned.append_all.Given as goal

abbrev pub invariant-loop-one : goal.invariant-loop-one
invariant-loop-one l = record {
  all : l.all ++ into_iter_items l.one-iterator ≡ l.initial.all ++ into_iter_items l.initial.one-iterator;
  count : into_iter_len l.one-iterator ≡ length (into_iter_items l.one-iterator);
}
