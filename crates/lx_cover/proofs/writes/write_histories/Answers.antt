use Rattle.std.proofs.Common.{◌≡◌, ◌≢◌, ◌<◌, ◌≤◌, [], length, get_or, get_or-set_other, sym, ap, ◌∙◌, subst, arith}
use Rattle.std.proofs.Math.ListN.{length-set}
use Rattle.std.proofs.lemmas.List.{get_or_read}
use Rattle.lx_auto.specs.Automaton.{IsOp}
use Rattle.lx_auto.specs.declared.ops.Op.TheVariants.{Here}
use Rattle.lx_cover.proofs.OpSteps.{history_copied-step, map-at, op-at}
use Rattle.lx_cover.specs.Registers.{history_given}
use Rattle.lx_cover.proofs.writes.write_histories.Goals as goal

pub write_history-requires : goal.write_history-requires
write_history-requires c =
    let ops = c.args.ops.now in
    let place = c.loop-place.place in
    let regs = c.requires.ops.0 in
    let within : place < length ops = c.loop-place-test.true in (
      regs,
      subst (λ n. IsOp regs n (get_or ops place (Here 0))) (sym c.loop-place.invariant.count)
          (op-at regs (length c.args.histories.now.items) ops place (Here 0) c.requires.ops.1 within),
    )

pub loop-place-preserved : goal.loop-place-preserved
loop-place-preserved c =
    let ops = c.args.ops.now in
    let place = c.loop-place.place in
    let given = c.loop-place.given.items in
    let within : place < length ops = c.loop-place-test.true in
    let inside : place < length given =
    subst (λ n. place < n) (sym (c.loop-place.invariant.long ∙ c.requires.given)) within in
    let read : c.replace-history.result ≡ get_or c.args.given.items place [] =
    c.replace-history.ensures.value ∙ get_or_read given place c.index_mut.result.now inside c.index_mut.ensures.value []
    ∙ c.loop-place.invariant.left place (omega arith) in
    record {
      count = c.write_history.ensures.count ∙ c.loop-place.invariant.count;
      long = length-set given place c.replace-history.new.dest ∙ c.loop-place.invariant.long;
      left = λ later behind.
          let other : later ≢ place = omega arith in
          let less : place ≤ later = omega arith in
          rw get_or-set_other (c.loop-place.invariant.left later less);
      written = λ bank mreg same.
          let copied : c.replace-history.result ≡ history_given bank (get_or ops place (Here 0)) =
          read ∙ ap (λ l. get_or l place []) same ∙ map-at (history_given bank) ops place (Here 0) [] within in
          history_copied-step ops place (Here 0) within bank mreg (get_or c.loop-place.histories.items mreg [])
          (get_or c.write_history.new.histories.items mreg []) (c.write_history.ensures.written bank mreg copied)
          ∙ c.loop-place.invariant.written bank mreg same;
    }
