-- What the rules of a scanner name.
use Rattle.std.specs.Prelude.{ℕ, List, map}
use Rattle.lx_regex.specs.declared.rules.Tag.{Tag}

-- the names of tags, in the order of their numbers
abbrev pub names_of : List Tag → List (List ℕ)
names_of tags = map (λ (tag : Tag). tag.name) tags
