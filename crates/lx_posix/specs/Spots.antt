-- Where the moves of a way lead, and how many parts are open there.
use Rattle.std.specs.Prelude.{◌≡◌, ℕ, List, [], ◌∷◌, Option, None, Some}
use Rattle.lx_tnfa.specs.Tnfa.{Tnfa}
use Rattle.lx_posix.specs.Finding.{beginning_at}
use Rattle.lx_posix.specs.WayNumbers.{depth_behind, next_state, state_number}
use Rattle.lx_posix.specs.declared.points.Beginning.{Beginning}
use Rattle.lx_posix.specs.declared.search.Found.{Found}
use Rattle.lx_posix.specs.declared.spots.Spot.{Spot}

-- before each move of a way and behind the last one, if it begins at this state, where so many parts are open
abbrev pub spots_on : Tnfa → (state depth : ℕ) → (way : List ℕ) → List Spot
spots_on tnfa state depth [] = record { state = state; depth = depth } ∷ []
spots_on tnfa state depth (index ∷ way) =
    record { state = state; depth = depth }
    ∷ spots_on tnfa (next_state tnfa state index) (depth_behind depth (next_state tnfa state index)) way

-- on the way to what is found
abbrev pub spots_to : Tnfa → List Beginning → Found → List Spot
spots_to tnfa beginnings found =
    spots_on tnfa (state_number (beginning_at beginnings found.from).at) (beginning_at beginnings found.from).depth found.way

-- they are those on the way to what was found before, if there is such
abbrev pub AreSpotsIfSome : Tnfa → List Beginning → Option Found → List Spot → Type 0
AreSpotsIfSome tnfa beginnings None spots = Unit {0}
AreSpotsIfSome tnfa beginnings (Some found) spots = spots ≡ spots_to tnfa beginnings found
