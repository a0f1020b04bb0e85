use Rattle.std.proofs.Common.{drop}
use Rattle.lx_compile.proofs.LineRuns.{HaveLines}
use Rattle.lx_compile.proofs.covered.append_lines.Given as goal

abbrev pub invariant-loop-word : goal.invariant-loop-word
invariant-loop-word l =
    HaveLines l.matching.options.now l.matching.acts.now l.matching.scanner.now l.words (drop l.word-index l.words) l.initial.text.items l.text.items
