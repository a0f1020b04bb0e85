use Rattle.std.proofs.Common.{◌↔◌, drop, map}
use Rattle.std.specs.List.{AllByRecursion}
use Rattle.lx_base.specs.Letters.{IsIdentifier}
use Rattle.lx_base.proofs.names.all_identifiers.Given as goal

abbrev pub invariant-loop-word : goal.invariant-loop-word
invariant-loop-word l = AllByRecursion IsIdentifier (map (λ word. word.now) (drop l.word-index l.words)) ↔ AllByRecursion IsIdentifier (map (λ word. word.now) l.words)
