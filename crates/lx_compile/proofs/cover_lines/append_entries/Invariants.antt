use Rattle.std.proofs.Common.{◌≡◌, ◌++◌, drop}
use Rattle.lx_run.specs.Values.{entries_text}
use Rattle.lx_compile.proofs.cover_lines.append_entries.Given as goal

abbrev pub invariant-loop-entry : goal.invariant-loop-entry
invariant-loop-entry l = l.text.items ++ entries_text (drop l.entry-index l.entries) ≡ l.initial.text.items ++ entries_text l.entries
