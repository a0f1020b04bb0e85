use Rattle.lx_warn.specs.Stops.{HaveNoGap}
use Rattle.lx_warn.proofs.dead_words.first_gap.Given as goal

abbrev pub invariant-loop-place : goal.invariant-loop-place
invariant-loop-place l = HaveNoGap l.enc l.auto' l.found l.place
