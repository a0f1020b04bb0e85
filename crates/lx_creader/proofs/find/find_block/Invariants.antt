use Rattle.std.proofs.Common.{ℕ, ◌<◌, ◌≤◌, ◌-◌, drop, length}
use Rattle.lx_creader.specs.Marks.{BeginsBlock}
use Rattle.lx_creader.proofs.find.find_block.Given as goal

abbrev pub invariant-loop-found : goal.invariant-loop-found
invariant-loop-found l = (l.offset ≤ length l.bytes) × ((place : ℕ) → place < l.offset → BeginsBlock l.block (drop place l.bytes) → ⊥)

abbrev pub decreases-loop-found : goal.decreases-loop-found
decreases-loop-found l = length l.bytes - l.offset
