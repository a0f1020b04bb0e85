use Rattle.std.proofs.Common.{◌↔◌, drop, map}
use Rattle.lx_base.specs.Names.{EachIsFree}
use Rattle.lx_base.proofs.names.all_free.Given as goal

abbrev pub invariant-loop-word : goal.invariant-loop-word
invariant-loop-word l = EachIsFree (map (λ word. word.now) (drop l.word-index l.words)) ↔ EachIsFree (map (λ word. word.now) l.words)
