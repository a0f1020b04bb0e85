use Rattle.std.proofs.Common.{◌≡◌, ◌≤◌, length}
use Rattle.lx_split.specs.Bodies.{after_file_name}
use Rattle.lx_split.proofs.bodies.after_file_name.Given as goal

abbrev pub invariant-loop-letter : goal.invariant-loop-letter
invariant-loop-letter l = (after_file_name l.rest ≡ after_file_name l.text) × (length l.rest ≤ length l.text)

abbrev pub decreases-loop-letter : goal.decreases-loop-letter
decreases-loop-letter l = length l.rest
