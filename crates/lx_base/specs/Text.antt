-- Texts made of parts.
use Rattle.std.specs.Prelude.{ℕ, List, [], ◌∷◌, ◌++◌}

-- the parts one behind another, and then the tail
abbrev pub joined : List (List ℕ) → List ℕ → List ℕ
joined [] tail = tail
joined (part ∷ parts) tail = part ++ joined parts tail
