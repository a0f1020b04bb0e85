use Rattle.std.proofs.Common.{◌≡◌, drop}
use Rattle.lx_auto.specs.Effects.{origin_after}
use Rattle.lx_regs.proofs.effects.origin_of.Given as goal

abbrev pub invariant-loop-op : goal.invariant-loop-op
invariant-loop-op l = origin_after (drop l.op-index l.ops) l.mreg l.origin ≡ origin_after l.ops l.mreg l.mreg
