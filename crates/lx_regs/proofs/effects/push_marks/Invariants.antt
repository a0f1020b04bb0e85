use Rattle.std.proofs.Common.{◌≡◌, ◌++◌, drop}
use Rattle.lx_auto.specs.Effects.{marks_by}
use Rattle.lx_regs.proofs.effects.push_marks.Given as goal

abbrev pub invariant-loop-op : goal.invariant-loop-op
invariant-loop-op l = l.marks ++ marks_by (drop l.op-index l.ops) l.mreg ≡ l.initial.marks ++ marks_by l.ops l.mreg
