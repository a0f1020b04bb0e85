use Rattle.std.proofs.Common.{◌∙◌, ◌+◌, ap, sym, length, arith, if◌then◌else◌, Bool}
use Rattle.lx_step.specs.Tags.{tag_names}
use Rattle.lx_step.proofs.TagLists.{counted-next}
use Rattle.lx_step.proofs.tags.count_of_new.Goals as goal
use Rattle.lx_step.proofs.tags.count_of_new.Goals.{then-is_new, else-is_new}

pub loop-place-preserved : goal.loop-place-preserved
loop-place-preserved c =
    let next = counted-next c.args.statements.now (tag_names c.args.blocks.now) c.loop-place.place c.loop-place.count c.index-statements-place.result c.is_new.result
    c.loop-place-test.true c.index-statements-place.is c.is_new.ensures c.loop-place.invariant.counted in
    let few = c.loop-place.invariant.few in
    elim c.if-is_new.branch [
      | then-is_new w ↦ record { counted = ap (λ n. n + length (tag_names c.args.blocks.now)) (w.count-is ∙ ap (λ (test : Bool). if test then c.loop-place.count + 1 else c.loop-place.count) (sym w.if-is_new.true)) ∙ next; few = omega (arith, few, w.count-is) }
      | else-is_new w ↦ record { counted = ap (λ n. n + length (tag_names c.args.blocks.now)) (w.count-is ∙ ap (λ (test : Bool). if test then c.loop-place.count + 1 else c.loop-place.count) (sym w.if-is_new.false)) ∙ next; few = omega (arith, few, w.count-is) }
    ]
