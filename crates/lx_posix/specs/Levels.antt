-- The order of walks from one place as the order of the choices of a search that goes over states and levels.
use Rattle.std.specs.Prelude.{ℕ, zero, suc, ◌-◌, List, [], ◌∷◌}
use Rattle.lx_posix.specs.Parting.{Event, digit, down, keep, read, up}

-- so many times 0 before some choices
abbrev pub raised : (count : ℕ) → List ℕ → List ℕ
raised zero choices = choices
raised (suc count) choices = 0 ∷ raised count choices

-- The lowest depth on a walk from here, at this depth, until the unit: the level of the walk here.
abbrev pub level_of : (depth : ℕ) → (walk : List Event) → ℕ
level_of depth walk = keep 1 depth depth walk

-- The choices of a search that goes a walk. At each point it stands at a level, and it goes to no point that is less deep. At each
-- point it raises the level by one, which is its first choice, 0, or it goes on, by a digit or without one. So it raises the level
-- to that of the rest of the walk, and then goes on. Its level here is given.
abbrev pub levelled : (depth level : ℕ) → List Event → List ℕ
levelled depth level [] = []
levelled depth level (down ∷ walk) =
    raised (level_of depth (down ∷ walk) - level) (1 ∷ levelled (suc depth) (level_of depth (down ∷ walk)) walk)
levelled depth level (up ∷ walk) =
    raised (level_of depth (up ∷ walk) - level) (1 ∷ levelled (depth - 1) (level_of depth (up ∷ walk)) walk)
levelled depth level (digit choice ∷ walk) =
    raised (level_of depth (digit choice ∷ walk) - level)
    (suc choice ∷ levelled depth (level_of depth (digit choice ∷ walk)) walk)
levelled depth level (read ∷ walk) = raised (depth - level) []
