use Rattle.std.proofs.Common.{◌≡◌, drop}
use Rattle.lx_auto.specs.Effects.{effect_after, held_by}
use Rattle.lx_regs.specs.EffectIndexes.{single_effect}
use Rattle.lx_regs.proofs.effects.single_of.Given as goal

abbrev pub invariant-loop-op : goal.invariant-loop-op
invariant-loop-op l = effect_after (drop l.op-index l.ops) l.reg (single_effect l.single) ≡ effect_after l.ops l.reg (held_by l.reg)
