use Rattle.std.proofs.Common.{◌≡◌, map, take}
use Rattle.lx_cover.specs.Registers.{bank_of, history_given}
use Rattle.lx_cover.proofs.registers.Registers.histories_given.Given as goal

abbrev pub invariant-loop-op : goal.invariant-loop-op
invariant-loop-op l = l.given.items ≡ map (history_given (bank_of l.self)) (take l.op-index l.ops)
