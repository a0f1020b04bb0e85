-- The places that items name are those of tokens.
use Rattle.std.specs.Prelude.{ℕ, ◌<◌, List, IfSome}
use Rattle.std.specs.List.{AllByRecursion}
use Rattle.lx_parse.specs.declared.items.Item.{Item}
use Rattle.lx_parse.specs.declared.items.Item.TheVariants.{Define, Configure, Rule, Text}

-- the places that an item names are those of some of so many tokens, and before a target stands another token
abbrev pub HasPlaces : (size : ℕ) → Item → Type 0
HasPlaces size (Define name from until) = (name < size) × (from < size) × (until < size)
HasPlaces size (Configure name value) = (name < size) × (value < size)
HasPlaces size (Rule first head slash until goes code) =
    (first < size) × (head < size) × IfSome slash (λ place. place < size) × (until < size)
    × IfSome goes (λ place. (0 < place) × (place < size)) × IfSome code (λ place. place < size)
HasPlaces size (Text value) = value < size

-- those that each of the items names are
abbrev pub EachHasPlaces : (size : ℕ) → List Item → Type 0
EachHasPlaces size items = AllByRecursion (HasPlaces size) items
