-- Lists of which some items are the first one.
use Rattle.std.specs.Prelude.{List, [], ◌∷◌, map, Option, Some, None, unwrap_or}

-- the items, which begin with one that is something
abbrev pub seen_items : {T : Type 0} → List (Option T) → List T
seen_items [] = []
seen_items (Some first ∷ items) = first ∷ map (λ item. unwrap_or item first) items
seen_items (None ∷ items) = []

-- the first item, if there is one, is something
abbrev pub BeginsSome : {T : Type 0} → List (Option T) → Type 0
BeginsSome [] = Unit {0}
BeginsSome (Some first ∷ items) = Unit {0}
BeginsSome (None ∷ items) = ⊥
