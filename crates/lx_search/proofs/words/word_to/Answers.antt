use Rattle.std.proofs.Common.{◌<◌, [], ◌∷◌, ◌++◌, length, reverse, sym, ap, ◌∙◌, arith, append_assoc, append-nil}
use Rattle.std.proofs.lemmas.List.{reverse-append}
use Rattle.lx_search.specs.Found.{found_at, trace_of}
use Rattle.lx_tdfa.proofs.LeastWords.SearchedWords.{word_at-parent}
use Rattle.lx_tdfa.specs.Searches.{word_at}
use Rattle.lx_search.proofs.words.word_to.Goals as goal

pub loop-at-init : goal.loop-at-init
loop-at-init c = record {
  within = c.requires.within;
  word =
      sym (append-nil (word_at (trace_of c.args.found.now) c.args.place))
      ∙ ap (λ l. word_at (trace_of c.args.found.now) c.args.place ++ reverse l) (sym c.new-units.ensures.items);
}

pub loop-at-preserved : goal.loop-at-preserved
loop-at-preserved c =
    let found = c.args.found.now in
    let traced = c.requires.traced.1 in
    let at = c.loop-at.at in
    let last = found_at found at in
    let units = c.loop-at.units.items in
    let within : at < length found = c.loop-at.invariant.within in
    let back : last.parent < at = traced.parents at c.loop-at-test.true within in
    record {
      within = omega arith;
      word =
          c.loop-at.invariant.word
          ∙ ap (λ w. w ++ reverse units) (word_at-parent c.requires.traced.0 (trace_of found) traced at c.loop-at-test.true within)
          ∙ append_assoc (word_at (trace_of found) last.parent) (last.unit ∷ []) (reverse units)
          ∙ ap (λ w. word_at (trace_of found) last.parent ++ w) (sym (reverse-append units (last.unit ∷ [])))
          ∙ ap (λ w. word_at (trace_of found) last.parent ++ reverse w) (sym c.in_ok-push.ensures.items);
    }
