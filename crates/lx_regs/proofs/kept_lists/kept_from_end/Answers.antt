use Rattle.std.proofs.Common.{◌≡◌, ◌+◌, ◌-◌, ◌<◌, [], ◌∷◌, ◌∙◌, length, drop, get_or, reverse, sym, ap, subst, arith}
use Rattle.std.proofs.Math.Seq.{drop-length}
use Rattle.std.proofs.lemmas.List.{drop_more}
use Rattle.std.specs.List.{list_any}
use Rattle.lx_auto.specs.declared.ops.Op.TheVariants.{Here}
use Rattle.lx_regs.specs.Dead.{KeepsWanted, ends}
use Rattle.lx_regs.specs.HeldSets.{Has}
use Rattle.lx_regs.specs.KeptLists.{AreWritten, overwrites}
use Rattle.lx_regs.proofs.kept_lists.kept_from_end.Goals as goal

pub loop-place-init : goal.loop-place-init
loop-place-init c =
    let none = drop-length c.args.ops.now in
    record {
      within = omega arith;
      written = λ held. c.new-written.ensures held ∙ ap (list_any (overwrites held)) (sym none);
      kept =
          subst (λ ops. KeepsWanted (Has c.args.wanted.now) ops (reverse c.new-kept.result.items)) (sym none)
          (subst (λ items. KeepsWanted (Has c.args.wanted.now) [] (reverse items)) (sym c.new-kept.ensures.items) ends);
    }

pub loop-place-preserved : goal.loop-place-preserved
loop-place-preserved c =
    let ops = c.args.ops.now in
    let place = c.loop-place.place in
    let op = get_or ops (place - 1) (Here 0) in
    let some : 0 < place = c.loop-place-test.true in
    let before : place - 1 < length ops = omega (arith, c.loop-place.invariant.within) in
    let next : place - 1 + 1 ≡ place = omega arith in
    let more : drop (place - 1) ops ≡ op ∷ drop place ops = drop_more ops (place - 1) (Here 0) before ∙ ap (λ k. op ∷ drop k ops) next in
    record {
      within = omega arith;
      written = subst (λ l. AreWritten c.keep_op.new.written l) (sym more)
          (c.in_ok-keep_op.ensures.written (drop place ops) c.loop-place.invariant.written);
      kept =
          subst (λ l. KeepsWanted (Has c.args.wanted.now) l (reverse c.keep_op.new.kept.items)) (sym more)
          (c.in_ok-keep_op.ensures.kept (drop place ops) c.loop-place.invariant.written c.loop-place.invariant.kept);
    }
