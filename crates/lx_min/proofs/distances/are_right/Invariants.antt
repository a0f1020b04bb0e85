use Rattle.std.proofs.Common.{◌≡◌, ℕ, ◌<◌}
use Rattle.lx_auto.specs.Automaton.{state_of}
use Rattle.lx_min.specs.Distances.{distance_of}
use Rattle.lx_min.specs.Joined.{class_in}
use Rattle.lx_min.proofs.distances.are_right.Given as goal

abbrev pub invariant-loop-number : goal.invariant-loop-number
invariant-loop-number l =
    (state : ℕ) → state < l.number
    → class_in l.distances state
    ≡ distance_of l.distances l.scale (class_in l.classes state) (state_of l.auto'.states state).edges
