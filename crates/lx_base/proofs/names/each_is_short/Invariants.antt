use Rattle.std.proofs.Common.{◌↔◌, drop}
use Rattle.lx_base.specs.Names.{EachIsShort}
use Rattle.lx_base.proofs.names.each_is_short.Given as goal

abbrev pub invariant-loop-word : goal.invariant-loop-word
invariant-loop-word l = EachIsShort (drop l.word-index l.words) ↔ EachIsShort l.words
