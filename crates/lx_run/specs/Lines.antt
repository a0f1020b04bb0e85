-- The lines of a run.
use Rattle.std.specs.Prelude.{ℕ, List, [], ◌∷◌, codes}
use Rattle.std.specs.Fmt.{decimal}
use Rattle.lx_base.specs.Text.{joined}
use Rattle.lx_step.specs.Held.{Held}
use Rattle.lx_run.specs.Values.{values_text}

-- a match that ended by a rule, and what it gave
abbrev pub match_line : (word : List ℕ) → (rule : ℕ) → Held → List ℕ
match_line word rule held =
    joined (word ∷ decimal rule ∷ codes " " ∷ decimal held.start ∷ codes " " ∷ decimal held.cursor ∷ values_text held ∷ codes "\n" ∷ []) []

-- how a run ends: a word, the start of a match, and its cursor
abbrev pub end_line : (word : List ℕ) → (start cursor : ℕ) → List ℕ
end_line word start cursor = joined (word ∷ decimal start ∷ codes " " ∷ decimal cursor ∷ codes "\n" ∷ []) []

-- a run ends where a match took nothing
abbrev pub stop_line : (cursor : ℕ) → List ℕ
stop_line cursor = joined (codes "stop " ∷ decimal cursor ∷ codes "\n" ∷ []) []
