use Rattle.std.proofs.Common.{◌≡◌, drop}
use Rattle.std.specs.List.{list_any}
use Rattle.std.specs.Prelude.{◌||◌}
use Rattle.lx_ccode.specs.Counts.{is_peek}
use Rattle.lx_ccode.specs.Statements.{has_register_one, is_need, is_of_three, is_state, is_switch, is_try, names_table}
use Rattle.lx_creader.proofs.rules.kinds_of.Given as goal

abbrev pub invariant-loop-statement : goal.invariant-loop-statement
invariant-loop-statement l =
    ((l.kinds.peek || list_any is_peek (drop l.statement-index l.statements)) ≡ (l.fn.before.peek || list_any is_peek l.statements))
    × ((l.kinds.state || list_any is_state (drop l.statement-index l.statements)) ≡ (l.fn.before.state || list_any is_state l.statements))
    × ((l.kinds.need || list_any is_need (drop l.statement-index l.statements)) ≡ (l.fn.before.need || list_any is_need l.statements))
    × ((l.kinds.try_refill || list_any is_try (drop l.statement-index l.statements)) ≡ (l.fn.before.try_refill || list_any is_try l.statements))
    × ((l.kinds.register_one || list_any has_register_one (drop l.statement-index l.statements)) ≡ (l.fn.before.register_one || list_any has_register_one l.statements))
    × ((l.kinds.of_three || list_any is_of_three (drop l.statement-index l.statements)) ≡ (l.fn.before.of_three || list_any is_of_three l.statements))
    × ((l.kinds.switch || list_any is_switch (drop l.statement-index l.statements)) ≡ (l.fn.before.switch || list_any is_switch l.statements))
    × ((l.kinds.table_tag || list_any names_table (drop l.statement-index l.statements)) ≡ (l.fn.before.table_tag || list_any names_table l.statements))
