use Rattle.std.proofs.Common.{◌≡◌, ℕ, drop}
use Rattle.lx_auto.specs.Effects.{effect_after, held_by}
use Rattle.lx_regs.specs.EffectIndexes.{effect_in}
use Rattle.lx_regs.proofs.effects.singles_of.Given as goal

abbrev pub invariant-loop-op : goal.invariant-loop-op
invariant-loop-op l =
    (reg : ℕ) → effect_after (drop l.op-index l.ops) reg (effect_in l.index reg) ≡ effect_after l.ops reg (held_by reg)
