use Rattle.std.proofs.Common.{◌≡◌, ℕ, drop}
use Rattle.lx_auto.specs.Effects.{origin_after}
use Rattle.lx_regs.specs.EffectIndexes.{origin_in}
use Rattle.lx_regs.proofs.effects.origins_of.Given as goal

abbrev pub invariant-loop-op : goal.invariant-loop-op
invariant-loop-op l = (mreg : ℕ) → origin_after (drop l.op-index l.ops) mreg (origin_in l.index mreg) ≡ origin_after l.ops mreg mreg
