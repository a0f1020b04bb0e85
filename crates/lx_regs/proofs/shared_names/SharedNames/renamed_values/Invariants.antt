use Rattle.std.proofs.Common.{◌≡◌, take}
use Rattle.std.specs.Prelude.{map}
use Rattle.lx_auto.specs.Effects.{renamed}
use Rattle.lx_regs.specs.SharedNames.{names_of}
use Rattle.lx_regs.proofs.shared_names.SharedNames.renamed_values.Given as goal

abbrev pub invariant-loop-held : goal.invariant-loop-held
invariant-loop-held l = l.answer ≡ map (renamed (names_of l.self)) (take l.held-index l.values)
