use Rattle.std.proofs.Common.{◌∙◌, ◌++◌, List, None, ap, refl, sym, subst}
use Rattle.std.proofs.lemmas.Result.{on_ok_weaker}
use Rattle.lx_cover.specs.Matches.{Tells}
use Rattle.lx_cover.specs.declared.values.TagValue.{TagValue}
use Rattle.lx_gen.specs.Generated.{endings_by}
use Rattle.lx_compile.specs.Covering.{match_text, word_line, word_text}
use Rattle.lx_compile.specs.Options.{policy_of}
use Rattle.lx_compile.proofs.LineRuns.{word_line-parts}
use Rattle.lx_compile.proofs.covered.append_line.Goals as goal

pub returns : goal.returns
returns c =
    let matching = c.args.matching.now in
    let acts = matching.acts.now in
    let found = c.in_ok-found.ensures.matches (policy_of matching.options.now) c.requires.automaton.0 in
    let outcome = found.0 in
    let tells = subst (λ (values : List TagValue). Tells acts outcome c.in_ok-found.found values) (sym c.as_slice-2.ensures) found.2 in
    let endings = endings_by None acts matching.scanner.now.set.rules in
    let put = c.in_ok-append_match.ensures acts outcome tells ∙ ap (λ ends. c.append_parts.new.text.items ++ match_text ends outcome) c.requires.endings in
    let word = c.in_ok-append_word.ensures ∙ ap (λ w. c.args.text.now.items ++ word_text w) c.as_slice.ensures in
    on_ok_weaker c.append_parts-2.result
    (λ last. (
      word_line endings c.args.word.now outcome,
      (outcome, found.1, refl),
      word_line-parts endings c.args.word.now outcome _ _ _ _ _ word c.in_ok-append_parts.ensures put last,
    )) c.append_parts-2.ensures
