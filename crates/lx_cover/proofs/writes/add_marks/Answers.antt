use Rattle.std.proofs.Common.{◌<◌, [], length, get_or, sym, ◌∙◌, subst}
use Rattle.lx_auto.specs.Automaton.{IsOp}
use Rattle.lx_auto.specs.declared.ops.Op.TheVariants.{Here}
use Rattle.lx_cover.proofs.OpSteps.{history_added-step, op-at}
use Rattle.lx_cover.proofs.writes.add_marks.Goals as goal

pub add_mark-requires : goal.add_mark-requires
add_mark-requires c =
    let ops = c.args.ops.now in
    let place = c.loop-op.op-index in
    let regs = c.requires.0 in
    let within : place < length ops = c.loop-op-test.true in (
      regs,
      subst (λ n. IsOp regs n (get_or ops place (Here 0))) (sym c.loop-op.invariant.count)
          (op-at regs (length c.args.histories.now.items) ops place (Here 0) c.requires.1 within),
    )

pub loop-op-preserved : goal.loop-op-preserved
loop-op-preserved c = record {
  count = c.in_ok-add_mark.ensures.count ∙ c.loop-op.invariant.count;
  added = λ mreg.
      history_added-step c.args.ops.now c.loop-op.op-index (Here 0) c.loop-op-test.true c.args.offset mreg
      (get_or c.loop-op.histories.items mreg []) (get_or c.add_mark.new.histories.items mreg []) (c.in_ok-add_mark.ensures.added mreg)
      ∙ c.loop-op.invariant.added mreg;
}
