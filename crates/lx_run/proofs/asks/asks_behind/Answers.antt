use Rattle.std.proofs.Common.{◌∙◌, ◌∷◌, ◌+◌, [], drop}
use Rattle.lx_ccode.specs.Statements.{is_need, is_state, is_try}
use Rattle.lx_run.proofs.Appending.{drop-item, list_any-behind, list_any-one, most_needed-behind}
use Rattle.lx_run.proofs.asks.asks_behind.Goals as goal

pub loop-statement-preserved : goal.loop-statement-preserved
loop-statement-preserved c =
    let statements = c.args.statements.now in
    let statement = c.statement-item.result in
    let front = statement ∷ [] in
    let back = drop (c.loop-statement.statement-index + 1) statements in
    let splits = drop-item statements c.loop-statement.statement-index statement c.loop-statement-test.true c.statement-item.is in
    record {
      need = list_any-behind is_need _ _ _ front back _ splits (c.asks_and-asks.ensures.need ∙ list_any-one is_need _ statement) c.loop-statement.invariant.need;
      most = most_needed-behind _ _ _ front back _ splits c.asks_and-asks.ensures.most c.loop-statement.invariant.most;
      tries = list_any-behind is_try _ _ _ front back _ splits (c.asks_and-asks.ensures.tries ∙ list_any-one is_try _ statement) c.loop-statement.invariant.tries;
      states = list_any-behind is_state _ _ _ front back _ splits (c.asks_and-asks.ensures.states ∙ list_any-one is_state _ statement) c.loop-statement.invariant.states;
    }
