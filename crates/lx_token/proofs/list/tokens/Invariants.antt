use Rattle.std.proofs.Common.{◌+◌, ◌≤◌, length}
use Rattle.lx_token.proofs.Passing.{HasPassed}
use Rattle.lx_token.proofs.list.tokens.Given as goal

abbrev pub invariant-loop-rest : goal.invariant-loop-rest
invariant-loop-rest l = record {
  passed : HasPassed l.body l.fn.at l.found l.place l.rest;
  size : length l.rest ≤ length l.body;
  line : l.place.line + length l.rest ≤ l.fn.at.line + length l.body;
  col : l.place.col + length l.rest ≤ l.fn.at.col + length l.body;
}

abbrev pub decreases-loop-rest : goal.decreases-loop-rest
decreases-loop-rest l = length l.rest
