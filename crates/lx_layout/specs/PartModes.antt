-- How the scanners of a piece ask for refills.
use Rattle.std.specs.Prelude.{◌≡◌, ◌↔◌, ℕ, true, false, List, [], None, IsSome, slice_index}
use Rattle.lx_auto.specs.Automaton.{state_of}
use Rattle.lx_layout.specs.Parts.{Part, checked}

-- none asks for units before it reads them: one stands at the end of the input, or no check is for any
abbrev pub CountsNothing : Part → Type 0
CountsNothing part = part.given.demand.eof ≡ None → (number : ℕ) → part.given.demand.check number ≡ 0

-- none asks for a refill at the end of its input
abbrev pub TriesNothing : Part → Type 0
TriesNothing part = IsSome part.given.demand.eof → part.given.demand.tries ≡ false

-- units are counted by a list of checks, which has one for the start just where that has an edge
pub record Counts (part : Part) : Type 0 where
  pub eof : part.given.demand.eof ≡ None
  pub checks : List ℕ
  pub check : (number : ℕ) → part.given.demand.check number ≡ checked checks number
  pub start : slice_index checks 0 ≡ 0 ↔ (state_of part.given.auto.states 0).edges ≡ []

-- a refill is tried where the unit was read that stands at the end
pub record Tries (part : Part) : Type 0 where
  pub eof : IsSome part.given.demand.eof
  pub tries : part.given.demand.tries ≡ true
