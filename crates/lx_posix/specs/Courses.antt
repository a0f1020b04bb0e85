-- The tag events on one way after another, from marks of where the one before it stood.
use Rattle.std.specs.Prelude.{◌≡◌, ℕ, suc, ◌+◌, List, [], ◌∷◌, length, nat_eq, if◌then◌else◌}
use Rattle.lx_tnfa.specs.Tnfa.{Tnfa}
use Rattle.lx_tnfa.specs.declared.states.Event.{Event}
use Rattle.lx_posix.specs.Reaching.{events_on, move_of}
use Rattle.lx_posix.specs.declared.courses.Mark.{Mark}
use Rattle.lx_posix.specs.declared.points.Point.{Point}
use Rattle.lx_posix.specs.declared.points.Point.TheVariants.{State, Within}

-- how many moves two ways have in common before they part
abbrev pub shared : (way other : List ℕ) → ℕ
shared [] other = 0
shared (index ∷ way) [] = 0
shared (index ∷ way) (second ∷ other) = if nat_eq index second then suc (shared way other) else 0

-- where a way stands before each of its moves and behind the last one, if it begins at this state, behind so many tag events
abbrev pub marks_on : Tnfa → (state count : ℕ) → (way : List ℕ) → List Mark
marks_on tnfa state count [] = record { state = state; count = count } ∷ []
marks_on tnfa state count (index ∷ way) =
    record { state = state; count = count }
    ∷ marks_on tnfa (move_of tnfa state index).to (count + length (move_of tnfa state index).events) way

-- the marks and the tag events of a way from a state
pub record IsCourse (tnfa : Tnfa) (state : ℕ) (way : List ℕ) (marks : List Mark) (events : List Event) : Type 0 where
  pub marked : marks ≡ marks_on tnfa state 0 way
  pub listed : events ≡ events_on tnfa state way

-- the moves of a way from a point; within a leaf none is made
abbrev pub moves_on : Point → (way : List ℕ) → List ℕ
moves_on (State state) way = way
moves_on (Within place) way = []
