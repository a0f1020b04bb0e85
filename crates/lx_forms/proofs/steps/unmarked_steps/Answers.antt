use Rattle.std.proofs.Common.{◌≡◌, ◌∙◌, ◌+◌, ◌-◌, ap, drop, sym, take}
use Rattle.lx_forms.specs.Lexemes.{Lexeme, nth_lexeme, sort_at}
use Rattle.lx_forms.specs.Seen.{lexemes_view}
use Rattle.lx_forms.specs.StepRuns.{behind_token, behind_tokens}
use Rattle.lx_forms.specs.StepViews.{progress_view}
use Rattle.lx_forms.proofs.PlainForms.{lexemes_next}
use Rattle.lx_forms.proofs.steps.unmarked_steps.Goals as goal

pub loop-place-preserved : goal.loop-place-preserved
loop-place-preserved c =
    let texts = lexemes_view c.args.lexemes in
    let place = c.loop-place.place in
    let before = progress_view texts c.loop-place.progress in
    let rest = take (c.args.until - (place + 1)) (drop (place + 1) texts) in
    let sort : c.sort.result ≡ sort_at (nth_lexeme texts place) = c.sort.ensures ∙ ap (λ (l : Lexeme). sort_at l) c.at.ensures in
    ap (behind_tokens rest) (c.in_ok-read.ensures texts ∙ ap (λ s. behind_token s (nth_lexeme texts place) before) sort)
    ∙ ap (λ l. behind_tokens l before) (sym (lexemes_next texts place c.args.until c.loop-place-test.true c.requires.within))
    ∙ c.loop-place.invariant
