use Rattle.std.proofs.Common.{◌≡◌, length}
use Rattle.std.specs.Vec.Iter.{into_iter_items, into_iter_len}
use Rattle.lx_rules.specs.Environments.{Environment}
use Rattle.lx_rules.specs.Represents.{Represents}
use Rattle.lx_compile.proofs.WalkRuns.{IsWalked}
use Rattle.lx_compile.proofs.walk.append_parts.Given as goal

abbrev pub invariant-loop-piece : goal.invariant-loop-piece
invariant-loop-piece l = record {
  walked :
      (environment : Environment) × Represents l.env environment
      × IsWalked l.options l.fn.pieces (into_iter_items l.piece-iterator) environment l.parts;
  count : into_iter_len l.piece-iterator ≡ length (into_iter_items l.piece-iterator);
}
