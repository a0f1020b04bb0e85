use Rattle.std.proofs.Common.{◌+◌, ◌≤◌, length}
use Rattle.lx_token.specs.Braces.{AreKnown}
use Rattle.lx_split.proofs.Walking.{HasCut}
use Rattle.lx_split.proofs.pieces.cut.Given as goal

abbrev pub invariant-loop-pieces : goal.invariant-loop-pieces
invariant-loop-pieces l = record {
  cut : HasCut l.opts l.file l.bytes l.pieces l.at l.rest;
  known : AreKnown l.unclosed l.rest;
  line : l.at.line + length l.rest ≤ 1 + length l.bytes;
  col : l.at.col + length l.rest ≤ 1 + length l.bytes;
}

abbrev pub decreases-loop-pieces : goal.decreases-loop-pieces
decreases-loop-pieces l = length l.rest
