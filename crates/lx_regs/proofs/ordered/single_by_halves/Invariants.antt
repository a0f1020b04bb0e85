use Rattle.std.proofs.Common.{◌≡◌, ◌-◌, ◌≤◌, length, take, drop}
use Rattle.lx_auto.specs.Effects.{Effect, effect_after, held_by}
use Rattle.lx_regs.proofs.ordered.single_by_halves.Given as goal

abbrev pub invariant-loop-low : goal.invariant-loop-low
invariant-loop-low l = record {
  ordered : l.low ≤ l.high;
  within : l.high ≤ length l.ops;
  not_before : effect_after (take l.low l.ops) l.reg (held_by l.reg) ≡ held_by l.reg;
  not_behind : (effect : Effect) → effect_after (drop l.high l.ops) l.reg effect ≡ effect;
}

abbrev pub decreases-loop-low : goal.decreases-loop-low
decreases-loop-low l = l.high - l.low
