use Rattle.std.proofs.Common.{◌≤◌, length, drop}
use Rattle.lx_parse.specs.Automaton.{depth_of}
use Rattle.lx_parse.proofs.Reading.{AreSpans, HasRead}
use Rattle.lx_parse.proofs.parsing.parse.Given as goal

abbrev pub invariant-loop-place : goal.invariant-loop-place
invariant-loop-place l = record {
  read : HasRead l.kind l.body l.tokens l.place l.items l.state;
  depth : depth_of l.state ≤ l.place;
  spans : AreSpans (length l.body) (drop l.place l.tokens);
  few : length l.tokens ≤ 16777216;
}
