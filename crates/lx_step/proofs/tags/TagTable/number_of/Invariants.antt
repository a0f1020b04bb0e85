use Rattle.std.proofs.Common.{length, map}
use Rattle.lx_step.specs.Tags.{told_name}
use Rattle.lx_step.proofs.TagTables.{IsSought, room}
use Rattle.lx_step.proofs.tags.TagTable.number_of.Given as goal

abbrev pub invariant-loop-at : goal.invariant-loop-at
invariant-loop-at l = IsSought (length l.self.latest.items) (map (told_name l.blocks) l.self.tags.items) l.name l.at

abbrev pub decreases-loop-at : goal.decreases-loop-at
decreases-loop-at l = room l.at
