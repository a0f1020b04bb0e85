use Rattle.std.proofs.Common.{◌≡◌, ◌+◌, [], ◌∷◌, ◌++◌, ◌∙◌, append-nil, length, drop, get_or, true, false, sym, ap, subst, arith}
use Rattle.std.proofs.Math.Seq.{drop-length}
use Rattle.std.proofs.lemmas.List.{drop_more}
use Rattle.lx_auto.specs.declared.ops.Op.TheVariants.{Here}
use Rattle.lx_regs.specs.Dead.{KeepsWanted, ends}
use Rattle.lx_regs.specs.HeldSets.{Has}
use Rattle.lx_regs.proofs.CutOperations.OnceWritten.{KeepsOn, on-goes, on-stays}
use Rattle.lx_regs.proofs.kept_lists.kept_in_order.Goals.{then-serves+in_ok-push, else-serves}
use Rattle.lx_regs.proofs.kept_lists.kept_in_order.Goals as goal

pub loop-op-preserved : goal.loop-op-preserved
loop-op-preserved c =
    let ops = c.args.ops.now in
    let wanted = c.args.wanted.now in
    let place = c.loop-op.op-index in
    let op = get_or ops place (Here 0) in
    let later = drop (place + 1) ops in
    let more : drop place ops ≡ op ∷ later = drop_more ops place (Here 0) c.loop-op-test.true in
    let known : KeepsOn wanted ops c.loop-op.kept (op ∷ later) = subst (KeepsOn wanted ops c.loop-op.kept) more c.loop-op.invariant in
    elim c.if-serves.branch [
      | then-serves+in_ok-push w ↦
          let same : c.if-serves.kept ≡ c.loop-op.kept ++ op ∷ [] = w.kept-is ∙ w.in_ok-push.ensures.pushed in
          subst (λ kept. KeepsOn wanted ops kept later) (sym same) (on-stays wanted ops c.loop-op.kept op later known (sym c.serves.ensures ∙ w.if-serves.true))
      | else-serves w ↦
          let same : c.if-serves.kept ≡ c.loop-op.kept = w.kept-is in
          subst (λ kept. KeepsOn wanted ops kept later) (sym same) (on-goes wanted ops c.loop-op.kept op later known (sym c.serves.ensures ∙ w.if-serves.false))
    ]

pub returns : goal.returns
returns c =
    let ops = c.args.ops.now in
    let wanted = c.args.wanted.now in
    let at : c.loop-op.op-index ≡ length ops = omega arith in
    let none : drop c.loop-op.op-index ops ≡ [] = ap (λ k. drop k ops) at ∙ drop-length ops in
    subst (KeepsWanted (Has wanted) ops) (append-nil c.loop-op.kept)
    (c.loop-op.invariant.keeps [] (subst (λ l. KeepsWanted (Has wanted) l []) (sym none) ends))
