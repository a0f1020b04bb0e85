use Rattle.std.proofs.Common.{◌+◌, drop}
use Rattle.lx_ccode.specs.Statements.{all_statements, is_need, is_state, is_try}
use Rattle.lx_run.proofs.Appending.{all_statements-drop, list_any-behind, most_needed-behind}
use Rattle.lx_run.proofs.asks.asks_of.Goals as goal

pub loop-block-preserved : goal.loop-block-preserved
loop-block-preserved c =
    let front = c.as_slice.result.now in
    let back = all_statements (drop (c.loop-block.block-index + 1) c.args.blocks.now) in
    let splits = all_statements-drop c.args.blocks.now c.loop-block.block-index c.block-item.result c.as_slice.result.now c.loop-block-test.true c.block-item.is c.as_slice.ensures in
    record {
      need = list_any-behind is_need _ _ _ front back _ splits c.asks_behind-asks.ensures.need c.loop-block.invariant.need;
      most = most_needed-behind _ _ _ front back _ splits c.asks_behind-asks.ensures.most c.loop-block.invariant.most;
      tries = list_any-behind is_try _ _ _ front back _ splits c.asks_behind-asks.ensures.tries c.loop-block.invariant.tries;
      states = list_any-behind is_state _ _ _ front back _ splits c.asks_behind-asks.ensures.states c.loop-block.invariant.states;
    }
