use Rattle.std.proofs.Common.{◌≤◌, length}
use Rattle.lx_token.specs.Braces.{AreKnown}
use Rattle.lx_split.proofs.Passing.{Passes}
use Rattle.lx_split.proofs.bodies.after_body.Given as goal

abbrev pub invariant-loop-rest : goal.invariant-loop-rest
invariant-loop-rest l = record {
  passes : Passes l.kind l.text l.rest;
  size : length l.rest ≤ length l.text;
  known : AreKnown l.unclosed l.rest;
}

abbrev pub decreases-loop-rest : goal.decreases-loop-rest
decreases-loop-rest l = length l.rest
