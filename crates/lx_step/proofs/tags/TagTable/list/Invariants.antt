use Rattle.std.proofs.Common.{◌≤◌, take, vec_capacity}
use Rattle.lx_ccode.specs.Statements.{all_statements}
use Rattle.lx_step.specs.Tags.{AreTagsOf}
use Rattle.lx_step.proofs.tags.TagTable.list.Given as goal

abbrev pub invariant-loop-place : goal.invariant-loop-place
invariant-loop-place l = record {
  tags : AreTagsOf l.blocks (all_statements (take l.place l.blocks)) l.self;
  room : vec_capacity l.initial.self.tags ≤ vec_capacity l.self.tags;
}
