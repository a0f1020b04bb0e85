use Rattle.std.proofs.Common.{◌≡◌, map, take}
use Rattle.lx_regs.specs.Keys.{held_of}
use Rattle.lx_regs.proofs.left_groups.keys_of.Given as goal

abbrev pub invariant-loop-held : goal.invariant-loop-held
invariant-loop-held l = map held_of l.keys.items ≡ take l.held-index l.values
