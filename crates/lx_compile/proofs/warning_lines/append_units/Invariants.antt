use Rattle.std.proofs.Common.{◌≡◌, ◌++◌, drop}
use Rattle.lx_compile.specs.Warnings.{units_text}
use Rattle.lx_compile.proofs.warning_lines.append_units.Given as goal

abbrev pub invariant-loop-unit : goal.invariant-loop-unit
invariant-loop-unit l = l.text.items ++ units_text (drop l.unit-index l.word) ≡ l.initial.text.items ++ units_text l.word
