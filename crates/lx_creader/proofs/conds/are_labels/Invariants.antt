use Rattle.std.proofs.Common.{◌≡◌, ◌↔◌, drop, map, ◌≤◌, length}
use Rattle.lx_ccode.specs.Validity.{labels}
use Rattle.lx_creader.proofs.conds.are_labels.Given as goal

abbrev pub invariant-loop-block : goal.invariant-loop-block
invariant-loop-block l =
    (l.place ≤ length l.conds) × ((map (λ case. case.cond) (drop l.place l.conds) ≡ labels (drop l.block-index l.blocks)) ↔ (map (λ case. case.cond) l.conds ≡ labels l.blocks))
