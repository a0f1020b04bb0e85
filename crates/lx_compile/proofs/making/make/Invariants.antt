use Rattle.std.proofs.Common.{◌≡◌, ◌+◌, ◌≤◌, length}
use Rattle.std.specs.Prelude.{All, IfSome}
use Rattle.std.specs.Vec.Iter.{into_iter_items, into_iter_len}
use Rattle.lx_compile.specs.Emittable.{IsMakeable}
use Rattle.lx_compile.specs.Making.{seen_frame}
use Rattle.lx_compile.specs.Models.{IsKept}
use Rattle.lx_compile.proofs.ScanningRuns.{HasNoneBefore}
use Rattle.lx_compile.proofs.MadeRuns.{HasMade}
use Rattle.lx_compile.proofs.making.make.Given as goal

abbrev pub invariant-loop-part : goal.invariant-loop-part
invariant-loop-part l = record {
  made : HasMade (seen_frame l.frame) l.fn.parts (into_iter_items l.part-iterator) l.numbers.piece l.numbers.state l.all;
  none : HasNoneBefore l.frame.options.now l.fn.parts (into_iter_items l.part-iterator);
  kept : IfSome l.kept (IsKept l.frame.options.now);
  makeable : All (IsMakeable l.frame.options.now) (into_iter_items l.part-iterator);
  small : l.numbers.piece + length (into_iter_items l.part-iterator) ≤ 1 + length l.fn.parts;
  count : into_iter_len l.part-iterator ≡ length (into_iter_items l.part-iterator);
}
