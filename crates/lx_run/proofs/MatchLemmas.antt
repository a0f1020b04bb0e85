-- The lines of a match that a lexer made.
use Rattle.std.proofs.Common.{◌≡◌, ◌∙◌, sym, ap, ℕ, List, [], ◌∷◌, ◌++◌, append_assoc, append-nil}
use Rattle.std.specs.Prelude.{codes, if◌then◌else◌}
use Rattle.std.specs.Fmt.{decimal}
use Rattle.std.proofs.lemmas.Bool.{eq-eqb}
use Rattle.lx_base.specs.Text.{joined}
use Rattle.lx_step.specs.Held.{Held}
use Rattle.lx_run.specs.Lines.{match_line, stop_line}
use Rattle.lx_run.specs.Texts.{stop_behind}
use Rattle.lx_run.specs.Values.{values_text}

-- the line of a match: its front, the values, and the end
pub match_line-splits : (word : List ℕ) (rule : ℕ) (held : Held)
    → match_line word rule held
    ≡ joined (word ∷ decimal rule ∷ codes " " ∷ decimal held.start ∷ codes " " ∷ decimal held.cursor ∷ []) [] ++ (values_text held ++ codes "\n")
match_line-splits word rule held = simp (append_assoc, append-nil)

-- the run stops behind a match that took nothing
pub stop_behind-stops : (held : Held) (cursor start : ℕ) → cursor ≡ held.cursor → start ≡ held.start → cursor ≡ start → stop_behind held ≡ stop_line held.cursor
stop_behind-stops held cursor start cursor_is start_is same =
    ap (λ test. if test then stop_line held.cursor else []) (eq-eqb held.cursor held.start (sym cursor_is ∙ same ∙ start_is))
