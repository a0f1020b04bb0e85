use Rattle.std.proofs.Common.{◌≡◌, map, drop}
use Rattle.lx_exprs.specs.Checks.{is_among}
use Rattle.lx_rules.proofs.words.is_among.Given as goal

abbrev pub invariant-loop-word : goal.invariant-loop-word
invariant-loop-word l = is_among l.text (map (λ word. word.now) l.words) ≡ is_among l.text (map (λ word. word.now) (drop l.word-index l.words))
