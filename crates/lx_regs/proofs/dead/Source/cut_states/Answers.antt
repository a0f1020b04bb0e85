use Rattle.std.proofs.Common.{◌≡◌, ◌≤◌, [], ◌∷◌, ◌++◌, length, ap, arith}
use Rattle.std.proofs.lemmas.List.{length_push}
use Rattle.lx_regs.proofs.CutOperations.CutSteps.{states-all, states-more}
use Rattle.lx_regs.proofs.dead.Source.cut_states.Goals as goal

pub loop-number-preserved : goal.loop-number-preserved
loop-number-preserved c =
    let auto = c.args.self.now.auto.now in
    let states = c.loop-number.states in
    let number = c.loop-number.number in
    let other = c.in_ok-cut_state.field-0 in
    let pushed = c.in_ok-push.ensures.pushed in
    let more = length_push states other in
    let long : length c.push.new.self ≡ length (states ++ other ∷ []) = ap length pushed in
    let count : length states ≡ number = c.loop-number.invariant.count in
    record {
      count = omega arith;
      states =
          states-more auto states number other count c.loop-number.invariant.states c.in_ok-cut_state.ensures c.push.new.self pushed;
    }

pub returns : goal.returns
returns c =
    let auto = c.args.self.now.auto.now in
    let number = c.loop-number.number in
    let long : length c.as_slice-number-end.result.now ≡ length auto.states = ap length c.as_slice-number-end.ensures in
    let below : number ≤ length c.as_slice-number-end.result.now = c.loop-number.auto.number-end in
    let past : length c.as_slice-number-end.result.now ≤ number = c.loop-number-test.false in
    states-all auto c.loop-number.states number c.loop-number.invariant.count (omega arith) c.loop-number.invariant.states
