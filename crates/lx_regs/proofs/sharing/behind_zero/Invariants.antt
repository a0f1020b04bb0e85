use Rattle.std.proofs.Common.{◌≡◌, ◌+◌, ◌∷◌, take}
use Rattle.std.specs.Prelude.{map}
use Rattle.lx_regs.proofs.sharing.behind_zero.Given as goal

abbrev pub invariant-loop-colour : goal.invariant-loop-colour
invariant-loop-colour l = l.names.items ≡ 0 ∷ map (λ colour. colour + 1) (take l.colour-index l.colours)
