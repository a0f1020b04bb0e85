use Rattle.std.proofs.Common.{◌≡◌, ◌+◌, ◌∙◌, drop, get_or, refl, sym, ap}
use Rattle.std.proofs.lemmas.List.{drop_more}
use Rattle.lx_auto.specs.declared.ops.Op.TheVariants.{Here}
use Rattle.lx_auto.specs.Effects.{effect_after, effect_behind, held_by}
use Rattle.lx_min.proofs.CanonicalSteps.{effect_behind-unset, op_with-effect_behind}
use Rattle.lx_min.proofs.canonical.op_on.Goals as goal
use Rattle.lx_min.proofs.canonical.op_on.Goals.{then-sets, else-sets}

pub loop-op-init : goal.loop-op-init
loop-op-init c = (held_by c.args.reg, refl, refl)

pub loop-op-preserved : goal.loop-op-preserved
loop-op-preserved c =
    let ops = c.args.ops.now in
    let reg = c.args.reg in
    let index = c.loop-op.op-index in
    let op = get_or ops index (Here 0) in
    let effect = c.loop-op.invariant.0 in
    let more : effect_after (drop (index + 1) ops) reg (effect_behind op reg effect) ≡ effect_after ops reg (held_by reg) =
    ap (λ l. effect_after l reg effect) (sym (drop_more ops index (Here 0) c.loop-op-test.true)) ∙ c.loop-op.invariant.2 in
    elim c.if-sets.branch [
      | then-sets w ↦ (
        effect_behind op reg effect,
        w.last-is ∙ op_with-effect_behind reg effect op (sym c.sets.ensures ∙ w.if-sets.true),
        more,
      )
      | else-sets w ↦
          let same = effect_behind-unset reg effect op (sym c.sets.ensures ∙ w.if-sets.false) in
          (effect, w.last-is ∙ c.loop-op.invariant.1, ap (effect_after (drop (index + 1) ops) reg) (sym same) ∙ more)
    ]
