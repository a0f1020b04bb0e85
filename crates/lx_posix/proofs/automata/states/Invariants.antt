use Rattle.std.proofs.Common.{◌≡◌, ◌≤◌, ◌-◌, length}
use Rattle.lx_posix.specs.Determining.{AreStatesOf, Grows}
use Rattle.lx_posix.proofs.automata.states.Given as goal

abbrev pub invariant-loop-number : goal.invariant-loop-number
invariant-loop-number l =
    Grows l.making.source.t.now l.initial.kernels l.kernels × (length l.states ≡ l.number) × (l.number ≤ length l.kernels)
    × AreStatesOf l.making.source.t.now l.kernels l.states

abbrev pub decreases-loop-number : goal.decreases-loop-number
decreases-loop-number l = 4097 - l.number
