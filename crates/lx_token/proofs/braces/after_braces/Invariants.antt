use Rattle.std.proofs.Common.{◌+◌, ◌≤◌, length}
use Rattle.lx_token.proofs.Nesting.{Reaches}
use Rattle.lx_token.specs.Braces.{AreKnown}
use Rattle.lx_token.proofs.braces.after_braces.Given as goal

abbrev pub invariant-loop-letter : goal.invariant-loop-letter
invariant-loop-letter l = record {
  reaches : Reaches l.text l.rest l.depth;
  fits : l.depth + length l.rest ≤ length l.text;
  known : AreKnown l.unclosed l.rest;
}

abbrev pub decreases-loop-letter : goal.decreases-loop-letter
decreases-loop-letter l = length l.rest
