use Rattle.std.proofs.Common.{◌≡◌, drop, ℕ}
use Rattle.std.specs.List.{list_any}
use Rattle.lx_ccode.specs.Labels.{block_front, is_like_block}
use Rattle.lx_ccode.specs.Validity.{labels}
use Rattle.lx_creader.proofs.labels.any_is_like_block.Given as goal

abbrev pub invariant-loop-block : goal.invariant-loop-block
invariant-loop-block l =
    (number : ℕ) → l.front ≡ block_front number
    → list_any (is_like_block number l.names) (labels (drop l.block-index l.blocks)) ≡ list_any (is_like_block number l.names) (labels l.blocks)
