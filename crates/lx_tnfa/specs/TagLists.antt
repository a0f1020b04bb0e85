-- Lists of tags from which some are taken.
use Rattle.std.specs.Prelude.{ℕ, List, [], ◌∷◌, nat_eq, if◌then◌else◌}

-- the list without a tag, where it stands first
abbrev pub remove_tag : (number : ℕ) → List ℕ → List ℕ
remove_tag number [] = []
remove_tag number (other ∷ others) = if nat_eq other number then others else other ∷ remove_tag number others

-- the list without some tags
abbrev pub remove_tags : List ℕ → List ℕ → List ℕ
remove_tags [] list = list
remove_tags (number ∷ numbers) list = remove_tags numbers (remove_tag number list)
