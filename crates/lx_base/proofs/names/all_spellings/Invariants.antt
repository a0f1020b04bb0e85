use Rattle.std.proofs.Common.{◌↔◌, drop, map}
use Rattle.std.specs.List.{AllByRecursion}
use Rattle.lx_base.specs.Letters.{IsSpelling}
use Rattle.lx_base.proofs.names.all_spellings.Given as goal

abbrev pub invariant-loop-word : goal.invariant-loop-word
invariant-loop-word l = AllByRecursion IsSpelling (map (λ word. word.now) (drop l.word-index l.words)) ↔ AllByRecursion IsSpelling (map (λ word. word.now) l.words)
