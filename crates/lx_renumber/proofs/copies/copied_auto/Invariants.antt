use Rattle.std.proofs.Common.{◌≡◌, map, take}
use Rattle.lx_renumber.specs.Renumbered.{renumbered_state}
use Rattle.lx_renumber.proofs.copies.copied_auto.Given as goal

abbrev pub invariant-loop-state : goal.invariant-loop-state
invariant-loop-state l = l.copies.items ≡ map (renumbered_state l.by) (take l.state-index l.auto'.states)
