use Rattle.std.proofs.Common.{◌≡◌, ◌+◌, ◌-◌, ◌/◌, ◌<◌, length, drop, sym, ap, ◌∙◌, subst, arith}
use Rattle.lx_auto.specs.Effects.{effect_after, held_by}
use Rattle.lx_auto.specs.declared.ops.Op.TheVariants.{Here}
use Rattle.lx_regs.proofs.Translations.OrderedOps.{effect_after-cut, unwritten-from, unwritten-through, written-at}
use Rattle.lx_regs.proofs.ordered.single_by_halves.Goals as goal

pub loop-low-preserved-then-reg-number : goal.loop-low-preserved-then-reg-number
loop-low-preserved-then-reg-number c =
    let known = c.loop-low.invariant in
    let within : c.loop-low.low + (c.loop-low.high - c.loop-low.low) / 2 < length c.args.ops.now = omega arith in
    record {
      ordered = omega arith;
      within = omega arith;
      not_before = known.not_before;
      not_behind = unwritten-from c.args.ops.now (c.loop-low.low + (c.loop-low.high - c.loop-low.low) / 2) (Here 0) within c.requires c.args.reg
          (omega (arith, c.if-reg-number.true, c.number_of-number.ensures));
    }

pub loop-low-preserved : goal.loop-low-preserved
loop-low-preserved c =
    let known = c.loop-low.invariant in
    let within : c.loop-low.low + (c.loop-low.high - c.loop-low.low) / 2 < length c.args.ops.now = omega arith in
    record {
      ordered = omega arith;
      within = known.within;
      not_before = unwritten-through c.args.ops.now (c.loop-low.low + (c.loop-low.high - c.loop-low.low) / 2) (Here 0) within c.requires c.args.reg
          (omega (arith, c.if-number-reg.true, c.number_of-number.ensures));
      not_behind = known.not_behind;
    }

pub returns-else-number-reg : goal.returns-else-number-reg
returns-else-number-reg c =
    let known = c.loop-low.invariant in
    let within : c.loop-low.low + (c.loop-low.high - c.loop-low.low) / 2 < length c.args.ops.now = omega arith in
    c.single_behind.ensures
    ∙ sym (written-at c.args.ops.now (c.loop-low.low + (c.loop-low.high - c.loop-low.low) / 2) (Here 0) within c.requires c.args.reg
    (omega (arith, c.if-reg-number.false, c.if-number-reg.false, c.number_of-number.ensures)))

pub returns : goal.returns
returns c =
    let known = c.loop-low.invariant in
    let ops = c.args.ops.now in
    let reg = c.args.reg in
    let met : c.loop-low.high ≡ c.loop-low.low = omega arith in
    let behind = subst (λ place. effect_after (drop place ops) reg (held_by reg) ≡ held_by reg) met (known.not_behind (held_by reg)) in
    sym (effect_after-cut ops c.loop-low.low reg (held_by reg) ∙ ap (effect_after (drop c.loop-low.low ops) reg) known.not_before ∙ behind)
