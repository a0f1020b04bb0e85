use Rattle.std.proofs.Common.{◌≡◌, drop}
use Rattle.lx_compile.specs.Facts.{conditions_behind, conditions_of}
use Rattle.lx_compile.specs.Making.{seen_conditions, seen_pieces}
use Rattle.lx_compile.proofs.facts.conditions_of.Given as goal

abbrev pub invariant-loop-piece : goal.invariant-loop-piece
invariant-loop-piece l =
    conditions_behind (seen_conditions l.conds) (seen_pieces (drop l.piece-index l.pieces)) ≡ conditions_of (seen_pieces l.pieces)
