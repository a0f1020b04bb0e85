use Rattle.std.proofs.Common.{◌≡◌, ◌≤◌, ◌++◌, drop, length, map}
use Rattle.lx_cover.specs.Matches.{value_of}
use Rattle.lx_layout.specs.Rules.{names_of}
use Rattle.lx_compile.specs.Covering.{tags_text}
use Rattle.lx_compile.proofs.cover_lines.append_tags.Given as goal

abbrev pub invariant-loop-number : goal.invariant-loop-number
invariant-loop-number l = record {
  within : l.number ≤ length l.values;
  put : l.text.items ++ tags_text l.slash l.number (names_of (drop l.number l.tags)) (map value_of (drop l.number l.values))
      ≡ l.initial.text.items ++ tags_text l.slash 0 (names_of l.tags) (map value_of l.values);
}
