use Rattle.std.proofs.Common.{◌↔◌, drop}
use Rattle.std.specs.List.{AllByRecursion}
use Rattle.lx_creader.specs.ValidParts.{IsValidBlock}
use Rattle.lx_creader.proofs.rules.Rules.are_valid_blocks.Given as goal

abbrev pub invariant-loop-block : goal.invariant-loop-block
invariant-loop-block l =
    AllByRecursion (IsValidBlock l.self.names.now l.self.conds.now l.self.blocks) (drop l.block-index l.blocks) ↔ AllByRecursion (IsValidBlock l.self.names.now l.self.conds.now l.self.blocks) l.blocks
