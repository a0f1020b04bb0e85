use Rattle.std.proofs.Common.{◌≡◌, drop}
use Rattle.std.specs.List.{list_any}
use Rattle.std.specs.Prelude.{◌||◌}
use Rattle.lx_ccode.specs.Counts.{is_peek}
use Rattle.lx_ccode.specs.Statements.{all_statements, has_register_one, is_need, is_of_three, is_state, is_switch, is_try, names_table}
use Rattle.lx_creader.proofs.rules.kinds_in.Given as goal

abbrev pub invariant-loop-block : goal.invariant-loop-block
invariant-loop-block l =
    ((l.kinds.peek || list_any is_peek (all_statements (drop l.block-index l.blocks))) ≡ list_any is_peek (all_statements l.blocks))
    × ((l.kinds.state || list_any is_state (all_statements (drop l.block-index l.blocks))) ≡ list_any is_state (all_statements l.blocks))
    × ((l.kinds.need || list_any is_need (all_statements (drop l.block-index l.blocks))) ≡ list_any is_need (all_statements l.blocks))
    × ((l.kinds.try_refill || list_any is_try (all_statements (drop l.block-index l.blocks))) ≡ list_any is_try (all_statements l.blocks))
    × ((l.kinds.register_one || list_any has_register_one (all_statements (drop l.block-index l.blocks))) ≡ list_any has_register_one (all_statements l.blocks))
    × ((l.kinds.of_three || list_any is_of_three (all_statements (drop l.block-index l.blocks))) ≡ list_any is_of_three (all_statements l.blocks))
    × ((l.kinds.switch || list_any is_switch (all_statements (drop l.block-index l.blocks))) ≡ list_any is_switch (all_statements l.blocks))
    × ((l.kinds.table_tag || list_any names_table (all_statements (drop l.block-index l.blocks))) ≡ list_any names_table (all_statements l.blocks))
