use Rattle.std.proofs.Common.{◌≡◌, ℕ, ◌++◌, drop}
use Rattle.lx_auto.specs.Effects.{marks_by}
use Rattle.lx_regs.specs.EffectIndexes.{marks_in}
use Rattle.lx_regs.proofs.effects.marks_of.Given as goal

abbrev pub invariant-loop-op : goal.invariant-loop-op
invariant-loop-op l = (mreg : ℕ) → marks_in l.index mreg ++ marks_by (drop l.op-index l.ops) mreg ≡ marks_by l.ops mreg
