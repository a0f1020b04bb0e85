use Rattle.std.proofs.Common.{◌≡◌, ◌≤◌, ℕ, length, drop}
use Rattle.std.specs.Ordering.{nat_cmp}
use Rattle.lx_ccode.specs.States.{block_of}
use Rattle.lx_ccode.specs.Validity.{AreOnce}
use Rattle.std.specs.BTreeMap.{get}
use Rattle.lx_creader.proofs.states.by_state.Given as goal

abbrev pub invariant-loop-place : goal.invariant-loop-place
invariant-loop-place l =
    (l.place ≤ length l.cases) × AreOnce (drop l.place l.cases) × ((state : ℕ) → get nat_cmp l.map state ≡ block_of (drop l.place l.cases) state)

abbrev pub decreases-loop-place : goal.decreases-loop-place
decreases-loop-place l = l.place
