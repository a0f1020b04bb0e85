use Rattle.std.proofs.Common.{◌≡◌, ◌∙◌, ◌+◌, ◌<◌, arith, suc, ap, length}
use Rattle.lx_layout.specs.LaidParts.{asked_at}
use Rattle.lx_layout.proofs.Laying.Planned.{states_length}
use Rattle.lx_layout.proofs.Laying.StateBlocks.{states-more}
use Rattle.lx_layout.proofs.part_states.append_states.Goals as goal

pub loop-number-preserved : goal.loop-number-preserved
loop-number-preserved c =
    let plans = c.args.places.now.ends.plans in
    let number = c.loop-number.number in
    let long = states_length plans c.requires.ends.plans in
    let there = plans.states.ok.0 in
    let within : number < length plans.input.auto.now.states = omega (arith, long, there, c.loop-number-test.true, c.len-number-end.ensures) in
    let more : suc number ≡ number + 1 = omega arith in
    record {
      asked = c.in_ok-asked-2.ensures ∙ ap (asked_at plans) more;
      put = states-more plans number c.loop-number.from c.loop-number.asked c.in_ok-from-2.from within c.loop-number.blocks.items
          c.append_state.new.blocks.items c.append_state.new.blocks.items c.in_ok-append_state.ensures
          (c.in_ok-from-2.ensures ∙ ap (λ n. c.loop-number.from + n) c.in_ok-state_size.ensures) _ c.loop-number.invariant.put;
    }

pub returns-clause-asked : goal.returns-clause-asked
returns-clause-asked c =
    let plans = c.args.places.now.ends.plans in
    let long = states_length plans c.requires.ends.plans in
    let there = plans.states.ok.0 in
    let end : c.loop-number.number ≡ length plans.input.auto.now.states =
    omega (arith, long, there, c.loop-number-test.false, c.len-number-end.ensures, c.loop-number.auto.number-end) in
    c.loop-number.invariant.asked ∙ ap (asked_at plans) end
