use Rattle.std.proofs.Common.{◌≡◌, drop}
use Rattle.lx_auto.specs.declared.automaton.Held.TheVariants.{Reg}
use Rattle.lx_auto.specs.Effects.{Effect, effect_after, effect_of}
use Rattle.lx_min.specs.Canonical.{op_with}
use Rattle.lx_min.proofs.canonical.op_on.Given as goal

abbrev pub invariant-loop-op : goal.invariant-loop-op
invariant-loop-op l =
    (effect : Effect) × (l.last ≡ op_with l.reg effect) × (effect_after (drop l.op-index l.ops) l.reg effect ≡ effect_of l.ops (Reg l.reg))
