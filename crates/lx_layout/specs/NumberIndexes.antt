-- Places in a list by numbers, as a map holds them.
use Rattle.std.specs.Prelude.{ℕ, suc, List, [], ◌∷◌, Option, Some, None, nat_eq, option_map, if◌then◌else◌}
use Rattle.std.specs.Option.{option_or}
use Rattle.indexmap.specs.IndexMap.{get}
use Rattle.lx_layout.specs.declared.number_index.NotedPlace.{NotedPlace}
use Rattle.lx_layout.specs.declared.number_index.NumberIndex.{NumberIndex}

-- the place of a number among some that have one
abbrev pub place_among : List NotedPlace → (number : ℕ) → Option ℕ
place_among [] number = None
place_among (one ∷ noted) number = if nat_eq number one.number then Some one.place else place_among noted number

-- the place of a number, if it is the one that has one
abbrev pub place_in : Option NotedPlace → (number : ℕ) → Option ℕ
place_in None number = None
place_in (Some one) number = if nat_eq number one.number then Some one.place else None

-- the place of a number
abbrev pub noted_place : NumberIndex → (number : ℕ) → Option ℕ
noted_place index number =
    option_or (place_in index.first number) (option_or (place_among index.few.items number) (get nat_eq index.others number))

-- the place of a number once a place has been noted for one; a place that it had before stays
abbrev pub with_place : (before : Option ℕ) → (noted place number : ℕ) → Option ℕ
with_place (Some before) noted place number = Some before
with_place None noted place number = if nat_eq number noted then Some place else None

-- the place of the first item that has a number
abbrev pub first_place : {A : Type 0} → (number_of : A → ℕ) → List A → (number : ℕ) → Option ℕ
first_place number_of [] number = None
first_place number_of (item ∷ items) number =
    if nat_eq number (number_of item) then Some 0 else option_map suc (first_place number_of items number)
