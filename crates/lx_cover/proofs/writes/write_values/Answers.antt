use Rattle.std.proofs.Common.{◌≡◌, ◌<◌, length, get_or, None, sym, ap, ◌∙◌, subst}
use Rattle.lx_auto.specs.Automaton.{IsOp}
use Rattle.lx_auto.specs.declared.ops.Op.TheVariants.{Here}
use Rattle.lx_cover.proofs.OpSteps.{map-at, op-at, value_after-step}
use Rattle.lx_cover.specs.Registers.{value_given}
use Rattle.lx_cover.proofs.writes.write_values.Goals as goal

pub write_value-requires : goal.write_value-requires
write_value-requires c =
    let ops = c.args.ops.now in
    let place = c.loop-place.place in
    let mregs = c.requires.ops.0 in
    let within : place < length ops = c.loop-place-test.true in (
      mregs,
      subst (λ n. IsOp n mregs (get_or ops place (Here 0))) (sym c.loop-place.invariant.count)
          (op-at (length c.args.values.now.items) mregs ops place (Here 0) c.requires.ops.1 within),
    )

pub loop-place-preserved : goal.loop-place-preserved
loop-place-preserved c =
    let ops = c.args.ops.now in
    let place = c.loop-place.place in
    let within : place < length ops = c.loop-place-test.true in
    record {
      count = c.write_value.ensures.count ∙ c.loop-place.invariant.count;
      written = λ bank offset reg same.
          let given : get_or c.args.given.now place None ≡ value_given bank offset (get_or ops place (Here 0)) =
          ap (λ l. get_or l place None) same ∙ map-at (value_given bank offset) ops place (Here 0) None within in
          value_after-step ops place (Here 0) within bank offset reg (get_or c.loop-place.values.items reg None)
          (get_or c.write_value.new.values.items reg None) (c.write_value.ensures.written bank offset reg given)
          ∙ c.loop-place.invariant.written bank offset reg same;
    }
