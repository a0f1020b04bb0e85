use Rattle.std.proofs.Common.{◌≡◌, ◌||◌, drop, max}
use Rattle.std.specs.List.{list_any}
use Rattle.lx_ccode.specs.Statements.{is_need, is_state, is_try}
use Rattle.lx_run.specs.Streams.{most_needed}
use Rattle.lx_run.proofs.asks.asks_behind.Given as goal

abbrev pub invariant-loop-statement : goal.invariant-loop-statement
invariant-loop-statement l = record {
  need : (l.asks.need || list_any is_need (drop l.statement-index l.statements)) ≡ (l.initial.asks.need || list_any is_need l.statements);
  most : max l.asks.most (most_needed (drop l.statement-index l.statements)) ≡ max l.initial.asks.most (most_needed l.statements);
  tries : (l.asks.tries || list_any is_try (drop l.statement-index l.statements)) ≡ (l.initial.asks.tries || list_any is_try l.statements);
  states : (l.asks.states || list_any is_state (drop l.statement-index l.statements)) ≡ (l.initial.asks.states || list_any is_state l.statements);
}
