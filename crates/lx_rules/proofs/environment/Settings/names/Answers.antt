use Rattle.std.proofs.Common.{◌≡◌, ◌∙◌, ◌<◌, ◌≤◌, ◌++◌, ℕ, suc, List, [], Option, add-one, ap, ap₂, subst, drop, get_or, length}
use Rattle.lx_base.specs.Names.{Spellings, spelling_at, usual_names}
use Rattle.lx_rules.specs.Environments.{name_at, spelled}
use Rattle.lx_rules.proofs.Spellings.SpelledNames.{spelled-behind, spelled-push}
use Rattle.lx_rules.proofs.environment.Settings.names.Goals as goal

pub loop-place-preserved : goal.loop-place-preserved
loop-place-preserved c =
    let names = c.args.self.now.names.items in
    let place = c.loop-place.place in
    let usual : c.usual-usual.result ≡ usual_names = c.usual-usual.ensures in
    let count : c.len-place-end.result ≡ length usual_names = c.len-place-end.ensures ∙ ap (λ (l : Spellings). length l) usual in
    let within = subst (λ n. place < n) count c.loop-place-test.true in
    let here : c.spelling.result.now ≡ get_or usual_names place [] = c.spelling.ensures ∙ ap (λ (l : Spellings). spelling_at place l) usual in
    let word = c.in_ok-copy_of.ensures ∙ c.name_at-word.ensures
    ∙ ap₂ (λ (l : List (Option (List ℕ))) (w : List ℕ). name_at l place w) c.deref.ensures.value here in
    rw (add-one place)
    (ap (λ (l : Spellings). l ++ spelled (drop (suc place) names) (drop (suc place) usual_names)) c.in_ok-push.ensures.items
    ∙ spelled-push names usual_names c.loop-place.words.items (spelled names usual_names) place c.in_ok-copy_of.field-0 within word c.loop-place.invariant)

pub returns : goal.returns
returns c =
    let count : c.len-place-end.result ≡ length usual_names = c.len-place-end.ensures ∙ ap (λ (l : Spellings). length l) c.usual-usual.ensures in
    let all = spelled-behind c.args.self.now.names.items usual_names c.loop-place.words.items _ c.loop-place.place
    (subst (λ n. n ≤ c.loop-place.place) count c.loop-place-test.false) c.loop-place.invariant in
    c.of.ensures ∙ all
