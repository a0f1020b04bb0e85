use Rattle.lx_top.proofs.SourceLemmas.{HasWords}
use Rattle.lx_top.proofs.source.words_of.Given as goal

abbrev pub invariant-loop-number : goal.invariant-loop-number
invariant-loop-number l = HasWords l.rules l.number-counter l.text.items
