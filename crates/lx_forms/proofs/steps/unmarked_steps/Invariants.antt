use Rattle.std.proofs.Common.{◌≡◌, ◌-◌, [], drop, take}
use Rattle.lx_forms.specs.Lexemes.{nth_lexeme}
use Rattle.lx_forms.specs.Seen.{lexemes_view}
use Rattle.lx_forms.specs.StepRuns.{behind_tokens, first_level}
use Rattle.lx_forms.specs.StepViews.{progress_view}
use Rattle.lx_forms.proofs.steps.unmarked_steps.Given as goal

abbrev pub invariant-loop-place : goal.invariant-loop-place
invariant-loop-place l =
    let texts = lexemes_view l.lexemes in
    behind_tokens (take (l.until - l.place) (drop l.place texts)) (progress_view texts l.progress)
    ≡ behind_tokens (take (l.until - l.from) (drop l.from texts)) (record { steps = []; level = first_level (nth_lexeme texts 0); outer = [] })
