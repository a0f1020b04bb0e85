use Rattle.std.proofs.Common.{◌≡◌, ◌≤◌, ◌-◌, length}
use Rattle.lx_tdfa.specs.Building.{AreStatesOf, Grows}
use Rattle.lx_tdfa.proofs.automata.states.Given as goal

abbrev pub invariant-loop-number : goal.invariant-loop-number
invariant-loop-number l =
    Grows l.source.t.now l.initial.kernels l.kernels × (length l.states ≡ l.number) × (l.number ≤ length l.kernels)
    × AreStatesOf l.source.t.now l.kernels l.states

abbrev pub decreases-loop-number : goal.decreases-loop-number
decreases-loop-number l = 4097 - l.number
