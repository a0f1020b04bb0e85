use Rattle.std.proofs.Common.{◌≡◌, [], map, Some, None, sym, ap, ◌∙◌, subst}
use Rattle.std.proofs.lemmas.Result.{IfOk-weaker}
use Rattle.lx_regex.specs.Match.{IsMatch, Outcome, matched}
use Rattle.lx_regex.specs.Pattern.{patterns_of}
use Rattle.lx_cover.proofs.WordMatches.{end-match, outcome-match}
use Rattle.lx_cover.specs.Cursors.{end_at}
use Rattle.lx_cover.specs.Matches.{Tells, value_of}
use Rattle.lx_cover.specs.Outcomes.{outcome_on}
use Rattle.lx_cover.proofs.matches.match_word.Goals as goal

pub returns-in-Some-clause-matches : goal.returns-in-Some-clause-matches
returns-in-Some-clause-matches c policy is =
    let rules = c.args.s.now.set.rules in
    let word = c.args.word.now in
    let number = c.in-Some.number in
    let at_end : end_at rules word ≡ Some number =
    (λ i. end_at (sym c.as_slice-rules.ensures i) (sym c.as_slice.ensures i)) ∙ sym c.in-Some.ensures in (
      matched number 0 [],
      end-match policy c.args.enc rules word number at_end,
      (c.told.ensures, ap (map value_of) c.new.ensures),
    )

pub returns-in-None-clause-matches : goal.returns-in-None-clause-matches
returns-in-None-clause-matches c policy is =
    let rules = c.args.s.now.set.rules in
    let word = c.args.word.now in
    let auto = c.args.a.now in
    let acts = c.args.acts.now in
    let not_end : end_at rules word ≡ None =
    (λ i. end_at (sym c.as_slice-rules.ensures i) (sym c.as_slice.ensures i)) ∙ sym c.in-None.ensures in
    IfOk-weaker c.match_run.result
    (λ answer. Tells acts (outcome_on c.as_slice-rules.result.now auto c.as_slice-in-None.result.now) answer c.match_run.new.values)
    (λ answer.
    (outcome : Outcome) × IsMatch policy c.args.enc (patterns_of rules) word 0 outcome × Tells acts outcome answer c.match_run.new.values)
    (λ answer tells. (
      outcome_on rules auto word,
      outcome-match policy c.args.enc rules auto is c.requires.within.limits word c.requires.units not_end,
      subst (λ l. Tells acts (outcome_on l auto word) answer c.match_run.new.values) c.as_slice-rules.ensures
          (subst (λ l. Tells acts (outcome_on c.as_slice-rules.result.now auto l) answer c.match_run.new.values)
          c.as_slice-in-None.ensures tells),
    ))
    c.match_run.ensures.told
