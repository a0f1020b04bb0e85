use Rattle.std.proofs.Common.{◌≡◌, ℕ, false, length, slice_index_or}
use Rattle.lx_layout.proofs.halting.none_marked.Given as goal

abbrev pub invariant-loop-number : goal.invariant-loop-number
invariant-loop-number l =
    record {
      long : length l.marks.items ≡ l._number;
      none : (number : ℕ) → slice_index_or l.marks.items number false ≡ false;
    }
