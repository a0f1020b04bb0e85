use Rattle.std.proofs.Common.{◌≡◌, ◌↔◌, drop, false, true}
use Rattle.std.specs.List.{AllByRecursion}
use Rattle.lx_ccode.specs.Validity.{states_before_refills}
use Rattle.lx_creader.proofs.rules.blocks_store_states.Given as goal

abbrev pub invariant-loop-block : goal.invariant-loop-block
invariant-loop-block l =
    AllByRecursion (λ block. states_before_refills false block.stmts ≡ true) (drop l.block-index l.blocks) ↔ AllByRecursion (λ block. states_before_refills false block.stmts ≡ true) l.blocks
