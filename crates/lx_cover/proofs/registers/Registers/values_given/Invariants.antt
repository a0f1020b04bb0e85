use Rattle.std.proofs.Common.{◌≡◌, map, take}
use Rattle.lx_cover.specs.Registers.{bank_of, value_given}
use Rattle.lx_cover.proofs.registers.Registers.values_given.Given as goal

abbrev pub invariant-loop-op : goal.invariant-loop-op
invariant-loop-op l = l.given.items ≡ map (value_given (bank_of l.self) l.offset) (take l.op-index l.ops)
