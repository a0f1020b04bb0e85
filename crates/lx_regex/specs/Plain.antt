-- Plain scripts: between two units nothing goes round.
use Rattle.std.specs.Prelude.{◌≡◌, ℕ, ◌+◌, ◌*◌, List, [], ◌∷◌, ◌++◌, Option, Some, None}
use Rattle.lx_regex.specs.Script.{Symbol, begins, ends, reads, sets, unsets, picks, units}

-- the state of the automaton at which a symbol stands: 2 p at the beginning of part p, and 2 p + 1 at its end
abbrev pub mark_of : Symbol → Option ℕ
mark_of (begins part) = Some (2 * part)
mark_of (ends part) = Some (2 * part + 1)
mark_of (reads number) = None
mark_of (sets number) = None
mark_of (unsets number) = None
mark_of (picks choice) = None

-- no part begins twice, and none ends twice, without a unit between
abbrev pub IsPlain : List Symbol → Type 0
IsPlain script =
    (before between after : List Symbol) (symbol : Symbol) (state : ℕ) → mark_of symbol ≡ Some state → units between ≡ []
    → script ≡ before ++ symbol ∷ (between ++ symbol ∷ after) → ⊥
