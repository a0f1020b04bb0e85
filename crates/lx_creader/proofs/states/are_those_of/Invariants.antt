use Rattle.std.proofs.Common.{◌≡◌, ◌↔◌, drop, ℕ}
use Rattle.std.specs.Ordering.{nat_cmp}
use Rattle.std.specs.BTreeMap.{get}
use Rattle.lx_ccode.specs.States.{block_of}
use Rattle.lx_creader.proofs.states.are_those_of.Given as goal

abbrev pub invariant-loop-case : goal.invariant-loop-case
invariant-loop-case l =
    ((state : ℕ) → block_of (drop l.case-index l.cases) state ≡ get nat_cmp l.map state) ↔ ((state : ℕ) → block_of l.cases state ≡ get nat_cmp l.fn.map state)
