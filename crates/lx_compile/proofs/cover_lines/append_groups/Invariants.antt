use Rattle.std.proofs.Common.{◌≡◌, ◌++◌, length, map}
use Rattle.lx_cover.specs.Matches.{value_of}
use Rattle.lx_compile.specs.Covering.{groups_text}
use Rattle.lx_compile.proofs.cover_lines.append_groups.Given as goal

abbrev pub invariant-loop-from : goal.invariant-loop-from
invariant-loop-from l = l.text.items ++ groups_text (map value_of l.left) ≡ l.initial.text.items ++ groups_text (map value_of l.values)

abbrev pub decreases-loop-from : goal.decreases-loop-from
decreases-loop-from l = length l.left
