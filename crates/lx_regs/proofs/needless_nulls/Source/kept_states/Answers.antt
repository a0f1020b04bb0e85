use Rattle.std.proofs.Common.{◌≡◌, ◌≤◌, length, ap, arith}
use Rattle.lx_regs.proofs.NeedlessNulls.KeptStates.{states-all}
use Rattle.lx_regs.proofs.needless_nulls.Source.kept_states.Goals as goal

pub returns : goal.returns
returns c =
    let rows = c.args.self.now.rows.now in
    let given = c.args.self.now.auto.now.states in
    let number = c.loop-number.number in
    let long : length c.as_slice-number-end.result.now ≡ length given = ap length c.as_slice-number-end.ensures in
    let below : number ≤ length c.as_slice-number-end.result.now = c.loop-number.auto.number-end in
    let past : length c.as_slice-number-end.result.now ≤ number = c.loop-number-test.false in
    (rows, states-all rows given c.loop-number.states number c.loop-number.invariant.count (omega arith) c.loop-number.invariant.states)
