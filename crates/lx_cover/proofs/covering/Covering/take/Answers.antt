use Rattle.std.proofs.Common.{[], ◌∷◌, ◌++◌, length, map, refl, ap, ◌∙◌, subst, arith}
use Rattle.std.proofs.lemmas.Bool.Decides.{when_false, when_true}
use Rattle.std.proofs.lemmas.List.{length_push}
use Rattle.std.proofs.lemmas.Result.{err_from_is_err_and}
use Rattle.lx_tdfa.specs.Making.{seen_step}
use Rattle.lx_tdfa.specs.Steps.{next_steps, places_of}
use Rattle.lx_cover.proofs.CoverTakes.{take-stops, taken-kept, taken-pushed}
use Rattle.lx_cover.specs.Progress.{IsOver, IsTarget}
use Rattle.lx_cover.proofs.covering.Covering.take.Goals as goal

pub push-requires : goal.push-requires
push-requires c = record { sum = c.requires.counted.sum; within = c.requires.counted.within }

pub note-requires : goal.note-requires
note-requires c =
    let total = ap length c.in_ok-push.ensures.words.0 in
    let more = length_push c.args.self.now.words c.in_ok-word_on.field-0 in
    omega (arith, total, more)

pub returns-then-not-begins_run : goal.returns-then-not-begins_run
returns-then-not-begins_run c =
    let t = c.args.t.now in
    let old = c.args.self.now in
    let reaches = c.args.reaches.now in
    let target : IsTarget old.kernels (places_of (next_steps t c.args.unit reaches)) c.target.new.kernels c.in_ok-to.to =
    subst (λ l. IsTarget old.kernels (places_of l) c.target.new.kernels c.in_ok-to.to)
    (ap (λ l. map seen_step l) c.deref.ensures.value ∙ c.in_ok-steps.ensures.steps) c.in_ok-to.ensures in
    taken-kept t c.requires.built old reaches c.args.front.now c.requires.kernel c.args.unit c.requires.unit c.requires.come c.args.last c.requires.led
    c.target.new.kernels c.in_ok-to.to target _ refl refl refl refl c.requires.counted (when_false _ _ c.if-not-begins_run.true c.begins_run.ensures)

pub returns-in_err-push : goal.returns-in_err-push
returns-in_err-push c =
    let t = c.args.t.now in
    let old = c.args.self.now in
    let reaches = c.args.reaches.now in
    let target : IsTarget old.kernels (places_of (next_steps t c.args.unit reaches)) c.target.new.kernels c.in_ok-to.to =
    subst (λ l. IsTarget old.kernels (places_of l) c.target.new.kernels c.in_ok-to.to)
    (ap (λ l. map seen_step l) c.deref.ensures.value ∙ c.in_ok-steps.ensures.steps) c.in_ok-to.ensures in
    let p = err_from_is_err_and c.from_residual-in_err-push.result c.from_residual-in_err-push.ensures.1 in
    rw (p.1, p.2)
    (take-stops t c.requires.built old reaches c.args.front.now c.requires.kernel c.args.unit c.requires.unit c.requires.come c.args.last c.requires.led
    c.target.new.kernels c.in_ok-to.to target (when_true _ _ c.if-not-begins_run.false c.begins_run.ensures) c.in_err-push.field-0.0
    (subst (λ w. IsOver old.words w c.in_err-push.field-0.0) c.in_ok-word_on.ensures c.in_err-push.ensures.words))

pub returns : goal.returns
returns c =
    let t = c.args.t.now in
    let old = c.args.self.now in
    let reaches = c.args.reaches.now in
    let target : IsTarget old.kernels (places_of (next_steps t c.args.unit reaches)) c.target.new.kernels c.in_ok-to.to =
    subst (λ l. IsTarget old.kernels (places_of l) c.target.new.kernels c.in_ok-to.to)
    (ap (λ l. map seen_step l) c.deref.ensures.value ∙ c.in_ok-steps.ensures.steps) c.in_ok-to.ensures in
    taken-pushed t c.requires.built old reaches c.args.front.now c.requires.kernel c.args.unit c.requires.unit c.requires.come c.args.last
    c.requires.led c.target.new.kernels c.in_ok-to.to target c.push.new.self c.note.new.self c.len-known.result c.len-known.ensures
    c.in_ok-push.ensures.kernels c.in_ok-push.ensures.firsts (c.in_ok-push.ensures.words.0 ∙ ap (λ w. old.words ++ w ∷ []) c.in_ok-word_on.ensures)
    c.requires.counted c.in_ok-push.ensures.words.1 c.in_ok-note.ensures (when_true _ _ c.if-not-begins_run.false c.begins_run.ensures)
