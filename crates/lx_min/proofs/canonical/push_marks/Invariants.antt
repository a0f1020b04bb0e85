use Rattle.std.proofs.Common.{◌≡◌, ◌++◌, drop}
use Rattle.std.specs.Prelude.{map}
use Rattle.lx_auto.specs.Effects.{marks_by}
use Rattle.lx_min.specs.Canonical.{marking}
use Rattle.lx_min.proofs.canonical.push_marks.Given as goal

abbrev pub invariant-loop-op : goal.invariant-loop-op
invariant-loop-op l =
    l.list.items ++ map (marking l.mreg) (marks_by (drop l.op-index l.ops) l.mreg)
    ≡ l.initial.list.items ++ map (marking l.mreg) (marks_by l.ops l.mreg)
