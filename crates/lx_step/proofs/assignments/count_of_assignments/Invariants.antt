use Rattle.std.proofs.Common.{◌≡◌, ◌+◌, drop, length}
use Rattle.lx_step.specs.Places.{places_from}
use Rattle.lx_step.proofs.assignments.count_of_assignments.Given as goal

abbrev pub invariant-loop-block : goal.invariant-loop-block
invariant-loop-block l = l.count + length (places_from l.block-index (drop l.block-index l.blocks)) ≡ length (places_from 0 l.blocks)
