use Rattle.std.proofs.Common.{◌+◌, length}
use Rattle.lx_split.specs.Walks.{open_files, waiting}
use Rattle.lx_split.proofs.Walks.{WalksOn}
use Rattle.lx_split.proofs.walk.Walk.next_include.Given as goal

abbrev pub invariant-loop-file : goal.invariant-loop-file
invariant-loop-file l = WalksOn l.initial.self l.self

abbrev pub decreases-loop-file : goal.decreases-loop-file
decreases-loop-file l = waiting (open_files l.self) + waiting (open_files l.self) + length l.self.stack.items
