use Rattle.std.proofs.Common.{◌≡◌, ◌≤◌, ◌-◌, suc, drop, map, max, take}
use Rattle.lx_forms.specs.Seen.{lexemes_view}
use Rattle.lx_rules.specs.Lists.{words_of}
use Rattle.lx_rules.proofs.lists.listed_words.Given as goal

abbrev pub invariant-loop-place : goal.invariant-loop-place
invariant-loop-place l = record {
  within : l.place ≤ max (suc l.first) l.place-end;
  words : map (λ word. word.now) l.words.items ≡ words_of (take (l.place - suc l.first) (drop (suc l.first) (lexemes_view l.lexemes)));
}
