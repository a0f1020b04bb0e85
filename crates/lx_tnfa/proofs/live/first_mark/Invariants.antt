use Rattle.std.proofs.Common.{◌≡◌, ◌∷◌, false, true}
use Rattle.std.specs.Prelude.{replicate}
use Rattle.lx_tnfa.proofs.live.first_mark.Given as goal

abbrev pub invariant-loop : goal.invariant-loop
invariant-loop l = l.marks.items ≡ true ∷ replicate l.counter false
