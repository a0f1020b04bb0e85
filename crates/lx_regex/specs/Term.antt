-- Expressions as terms, and how many parts one has.
use Rattle.std.specs.Prelude.{ℕ, ◌+◌, ◌*◌, ◌≤◌, ◌⊎◌, max, List, [], ◌∷◌, Option, Some, None}

-- an expression; a class is given by its ranges of code points, a tag by its number, a group by the tags at its two ends
mutual
  pub data Term : Type 0 where
    empty : Term
    class : (ranges : List (ℕ × ℕ)) → Term
    any_unit : Term
    cat : (members : Terms) → Term
    alt : (members : Terms) → Term
    repeat : (body : Term) (low : ℕ) (high : Option ℕ) → Term
    tag : (number : ℕ) → Term
    group : (opening closing : ℕ) (body : Term) → Term

  pub data Terms : Type 0 where
    nil : Terms
    cons : Term → Terms → Terms

-- one of the ranges has the code point; both ends of a range belong to it
abbrev pub IsInRanges : List (ℕ × ℕ) → ℕ → Type 0
IsInRanges [] point = ⊥
IsInRanges (range ∷ ranges) point = ((range.0 ≤ point) × (point ≤ range.1)) ⊎ IsInRanges ranges point

-- the number is within a bound, if there is one
abbrev pub IsAtMost : ℕ → Option ℕ → Type 0
IsAtMost number None = Unit {0}
IsAtMost number (Some high) = number ≤ high

-- how many copies of its body a repetition has: its bound, or without one the greater of its minimum and 1
abbrev pub copies : (low : ℕ) → (high : Option ℕ) → ℕ
copies low (Some high) = high
copies low None = max low 1

-- how many parts a term has: itself and all that stands in it, each copy of a body apart
abbrev mutual
  pub parts : Term → ℕ
  parts empty = 1
  parts (class ranges) = 1
  parts any_unit = 1
  parts (cat members) = 1 + parts_of_all members
  parts (alt members) = 1 + parts_of_all members
  parts (repeat body low high) = 1 + copies low high * parts body
  parts (tag number) = 1
  parts (group opening closing body) = 1 + parts body

  pub parts_of_all : Terms → ℕ
  parts_of_all nil = 0
  parts_of_all (cons member members) = parts member + parts_of_all members
