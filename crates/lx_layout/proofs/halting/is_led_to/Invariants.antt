use Rattle.std.proofs.Common.{◌≡◌, drop}
use Rattle.lx_layout.specs.Halting.{is_led_to}
use Rattle.lx_layout.proofs.halting.is_led_to.Given as goal

abbrev pub invariant-loop-state : goal.invariant-loop-state
invariant-loop-state l = is_led_to (drop l.state-index l.states) l.number ≡ is_led_to l.states l.number
