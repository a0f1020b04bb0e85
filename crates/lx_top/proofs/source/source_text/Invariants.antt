use Rattle.lx_top.proofs.SourceLemmas.{HasRules}
use Rattle.lx_top.proofs.source.source_text.Given as goal

abbrev pub invariant-loop-number : goal.invariant-loop-number
invariant-loop-number l = HasRules l.rules l.number-counter l.text.items
