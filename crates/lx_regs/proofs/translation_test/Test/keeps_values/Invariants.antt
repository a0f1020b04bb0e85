use Rattle.std.proofs.Common.{drop}
use Rattle.lx_regs.specs.Pairs.{AllPairs}
use Rattle.lx_regs.specs.Tested.{KeepsValue}
use Rattle.lx_regs.proofs.translation_test.Test.keeps_values.Given as goal

abbrev pub invariant-loop-index : goal.invariant-loop-index
invariant-loop-index l =
    AllPairs (KeepsValue l.self.table.now l.self.counts.regs l.self.counts.mregs l.state l.effects l.new) (drop l.index l.values)
    (drop l.index l.others)
    → AllPairs (KeepsValue l.self.table.now l.self.counts.regs l.self.counts.mregs l.state l.effects l.new) l.values l.others
