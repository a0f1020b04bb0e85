use Rattle.std.proofs.Common.{◌∙◌, sym}
use Rattle.lx_creader.proofs.CondLabels.{begins_with-both, begins_with-other, begins_with-within}
use Rattle.lx_creader.proofs.labels.begin_with.Goals as goal

pub returns-then-front-word : goal.returns-then-front-word
returns-then-front-word c =
    c.begins_with.ensures.value ∙ sym (begins_with-within c.args.front.now c.args.word.now c.args.behind.now c.if-front-word.true)

pub returns-then-begins_with : goal.returns-then-begins_with
returns-then-begins_with c =
    c.begins_with-then-begins_with.ensures.value
    ∙ sym (begins_with-both c.args.front.now c.args.word.now c.args.behind.now c.if-front-word.false
    (sym c.begins_with-else-front-word.ensures.value ∙ c.if-begins_with.true))

pub returns-else-begins_with : goal.returns-else-begins_with
returns-else-begins_with c =
    c.if-begins_with.false ∙ sym (begins_with-other c.args.front.now c.args.word.now c.args.behind.now c.if-front-word.false
    (sym c.begins_with-else-front-word.ensures.value ∙ c.if-begins_with.false))
