use Rattle.std.proofs.Common.{◌≡◌, map, take}
use Rattle.lx_auto.specs.Bank.{read_all}
use Rattle.lx_cover.specs.Matches.{value_of}
use Rattle.lx_cover.specs.Registers.{bank_of}
use Rattle.lx_tdfa.specs.Promise.{tag_value}
use Rattle.lx_cover.proofs.registers.Registers.values.Given as goal

abbrev pub invariant-loop-place : goal.invariant-loop-place
invariant-loop-place l = map value_of l.values ≡ map tag_value (read_all (bank_of l.self) (take l.place-index l.held))
