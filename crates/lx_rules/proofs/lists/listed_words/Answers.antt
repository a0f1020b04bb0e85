use Rattle.std.proofs.Common.{◌≡◌, ◌≤◌, ◌+◌, ◌-◌, ◌∙◌, ◌++◌, ◌∷◌, ℕ, List, [], suc, Bor, ap, arith, drop, map, sym, take}
use Rattle.std.proofs.lemmas.List.{map-append}
use Rattle.lx_forms.specs.Seen.{lexeme_view, lexemes_view}
use Rattle.lx_rules.specs.Lists.{is_comma, words_of}
use Rattle.lx_rules.proofs.CondSets.ListWords.{comma_passed, word_taken}
use Rattle.lx_rules.proofs.lists.listed_words.Goals as goal

pub loop-place-preserved-then-is_comma : goal.loop-place-preserved-then-is_comma
loop-place-preserved-then-is_comma c =
    let from : suc c.args.first ≤ c.loop-place.place = omega arith in
    record {
      within = omega (arith, c.loop-place-test.true);
      words =
          c.loop-place.invariant.words
          ∙ sym (comma_passed (lexemes_view c.args.lexemes) c.args.first c.loop-place.place (lexeme_view c.at-word.result) from c.at-word.ensures
          (ap is_comma (sym c.sort.ensures) ∙ sym c.is_comma.ensures ∙ c.if-is_comma.true));
    }

pub loop-place-preserved : goal.loop-place-preserved
loop-place-preserved c =
    let from : suc c.args.first ≤ c.loop-place.place = omega arith in
    let word = c.at-word.result.text in
    record {
      within = omega (arith, c.loop-place-test.true);
      words =
          ap (map (λ (word : Bor (List ℕ)). word.now)) c.in_ok-push.ensures.items
          ∙ map-append (λ (word : Bor (List ℕ)). word.now) c.loop-place.words.items (word ∷ []) ∙ ap (λ l. l ++ word.now ∷ []) c.loop-place.invariant.words
          ∙ sym (word_taken (lexemes_view c.args.lexemes) c.args.first c.loop-place.place (lexeme_view c.at-word.result) from c.at-word.ensures
          (ap is_comma (sym c.sort.ensures) ∙ sym c.is_comma.ensures ∙ c.if-is_comma.false));
    }

pub returns : goal.returns
returns c =
    let count : c.loop-place.place - suc c.args.first ≡ c.args.head - (c.args.first + 2) = omega (arith, c.loop-place.invariant.within, c.loop-place-test.false, c.saturating_sub-place-end.ensures) in
    c.loop-place.invariant.words ∙ ap (λ n. words_of (take n (drop (suc c.args.first) (lexemes_view c.args.lexemes)))) count
