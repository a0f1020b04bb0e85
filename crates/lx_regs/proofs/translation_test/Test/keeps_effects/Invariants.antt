use Rattle.std.proofs.Common.{All, take}
use Rattle.lx_regs.specs.Tested.{KeepsEffect}
use Rattle.lx_regs.proofs.translation_test.Test.keeps_effects.Given as goal

abbrev pub invariant-loop-held : goal.invariant-loop-held
invariant-loop-held l =
    All (KeepsEffect l.self.table.now l.state l.to l.lists.first.now l.lists.second.now l.new.first.now l.new.second.now)
    (take l.held-index l.registers)
