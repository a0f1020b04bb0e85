-- Which stops are noted as visited in the present turn of a search.
use Rattle.std.specs.Prelude.{◌≡◌, ℕ, zero, suc, ◌+◌, ◌*◌, ◌<◌, ◌≤◌, ◌⊎◌, List, Option, Some, None, Contains, slice_index_or}
use Rattle.lx_tnfa.specs.declared.closure.Stop.{Stop}
use Rattle.lx_tnfa.specs.declared.closure.Stop.TheVariants.{AtState, AtTarget}
use Rattle.lx_tnfa.specs.declared.closure.Target.TheVariants.{Leaf, End}

-- the number of a place in a leaf, if its residual is 0 or 1
abbrev pub leaf_mark : (part rest : ℕ) → Option ℕ
leaf_mark part zero = Some (4 * part + 1)
leaf_mark part (suc zero) = Some (4 * part + 3)
leaf_mark part (suc (suc rest)) = None

-- the number of a stop, if it has one
abbrev pub mark_place : Stop → Option ℕ
mark_place (AtState number) = Some (2 * number)
mark_place (AtTarget (Leaf place)) = leaf_mark place.part place.rest.0
mark_place (AtTarget (End rule)) = None

-- the turn that is noted at a place, and 0 where none is
abbrev pub turn_at : List ℕ → (place : ℕ) → ℕ
turn_at marks place = slice_index_or marks place 0

-- the turn is noted at the place of a stop's number, or the stop is among those without one
abbrev pub IsNotedAt : (marks : List ℕ) (turn : ℕ) (others : List Stop) (stop : Stop) → Option ℕ → Type 0
IsNotedAt marks turn others stop (Some place) = turn_at marks place ≡ turn
IsNotedAt marks turn others stop None = Contains others stop

abbrev pub IsNoted : (marks : List ℕ) (turn : ℕ) (others : List Stop) (stop : Stop) → Type 0
IsNoted marks turn others stop = IsNotedAt marks turn others stop (mark_place stop)

-- exactly these stops are noted, in a turn that no mark is past
pub record AreNoted (stops : List Stop) (marks : List ℕ) (turn : ℕ) (others : List Stop) : Type 0 where
  pub begun : 0 < turn
  pub none_later : (place : ℕ) → turn_at marks place ≤ turn
  pub noted : (stop : Stop) → Contains stops stop → IsNoted marks turn others stop
  pub only : (stop : Stop) → IsNoted marks turn others stop → Contains stops stop

-- what is noted once a stop is noted, beside what was noted before
pub record NotesOnly (stop : Stop) (marks next : List ℕ) (turn : ℕ) (others more : List Stop) : Type 0 where
  pub none_later : ((place : ℕ) → turn_at marks place ≤ turn) → (place : ℕ) → turn_at next place ≤ turn
  pub itself : IsNoted next turn more stop
  pub kept : (other : Stop) → IsNoted marks turn others other → IsNoted next turn more other
  pub only : (other : Stop) → IsNoted next turn more other → IsNoted marks turn others other ⊎ (stop ≡ other)
