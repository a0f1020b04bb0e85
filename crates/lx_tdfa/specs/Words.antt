-- The order of words: a shorter one first, and words of one length as in a dictionary.
use Rattle.std.specs.Prelude.{◌≡◌, ℕ, ◌<◌, ◌⊎◌, List, length}
use Rattle.lx_regex.specs.Dictionary.{IsBefore}

-- the first word comes before the second
abbrev pub ComesBefore : List ℕ → List ℕ → Type 0
ComesBefore word other = (length word < length other) ⊎ ((length word ≡ length other) × IsBefore word other)

-- it does, or it is the same word
abbrev pub IsNoLater : List ℕ → List ℕ → Type 0
IsNoLater word other = ComesBefore word other ⊎ (word ≡ other)
