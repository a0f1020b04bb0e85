use Rattle.std.proofs.Common.{◌≡◌, length}
use Rattle.std.specs.Vec.Iter.{into_iter_items, into_iter_len}
use Rattle.lx_compile.proofs.TakenLists.{AreTaken}
use Rattle.lx_compile.proofs.automata.taken_apart.Given as goal

abbrev pub invariant-loop-item : goal.invariant-loop-item
invariant-loop-item l = record {
  taken : AreTaken l.fn.autos (into_iter_items l.item-iterator) l.first l.lists;
  count : into_iter_len l.item-iterator ≡ length (into_iter_items l.item-iterator);
}
