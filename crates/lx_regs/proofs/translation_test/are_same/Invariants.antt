use Rattle.std.proofs.Common.{◌≡◌, take}
use Rattle.lx_regs.proofs.translation_test.are_same.Given as goal

abbrev pub invariant-loop-index : goal.invariant-loop-index
invariant-loop-index l = take l.index l.marks ≡ take l.index l.others
