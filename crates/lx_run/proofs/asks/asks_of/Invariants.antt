use Rattle.std.proofs.Common.{◌≡◌, ◌||◌, drop, max}
use Rattle.std.specs.List.{list_any}
use Rattle.lx_ccode.specs.Statements.{all_statements, is_need, is_state, is_try}
use Rattle.lx_run.specs.Streams.{most_needed}
use Rattle.lx_run.proofs.asks.asks_of.Given as goal

abbrev pub invariant-loop-block : goal.invariant-loop-block
invariant-loop-block l = record {
  need : (l.asks.need || list_any is_need (all_statements (drop l.block-index l.blocks))) ≡ list_any is_need (all_statements l.blocks);
  most : max l.asks.most (most_needed (all_statements (drop l.block-index l.blocks))) ≡ most_needed (all_statements l.blocks);
  tries : (l.asks.tries || list_any is_try (all_statements (drop l.block-index l.blocks))) ≡ list_any is_try (all_statements l.blocks);
  states : (l.asks.states || list_any is_state (all_statements (drop l.block-index l.blocks))) ≡ list_any is_state (all_statements l.blocks);
}
