use Rattle.std.proofs.Common.{drop}
use Rattle.lx_regs.specs.Pairs.{AllPairs}
use Rattle.lx_regs.specs.Tested.{KeepsEdge}
use Rattle.lx_regs.proofs.translation_test.Test.keeps_each_edge.Given as goal

abbrev pub invariant-loop-index : goal.invariant-loop-index
invariant-loop-index l =
    AllPairs (KeepsEdge l.self.table.now l.self.given.now l.self.counts.regs l.self.counts.mregs l.number l.leaves.given.now
    l.leaves.answer.now) (drop l.index l.edges) (drop l.index l.others)
    → AllPairs (KeepsEdge l.self.table.now l.self.given.now l.self.counts.regs l.self.counts.mregs l.number l.leaves.given.now
    l.leaves.answer.now) l.edges l.others
