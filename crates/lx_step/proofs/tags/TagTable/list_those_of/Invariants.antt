use Rattle.std.proofs.Common.{◌≤◌, List, ◌++◌, take, vec_capacity}
use Rattle.lx_ccode.specs.declared.piece.Stmt.{Stmt}
use Rattle.lx_step.specs.Tags.{AreTagsOf}
use Rattle.lx_step.proofs.tags.TagTable.list_those_of.Given as goal

abbrev pub invariant-loop-place : goal.invariant-loop-place
invariant-loop-place l = record {
  tags : (before : List Stmt) → AreTagsOf l.blocks before l.initial.self → AreTagsOf l.blocks (before ++ take l.place l.statements) l.self;
  room : vec_capacity l.initial.self.tags ≤ vec_capacity l.self.tags;
}
