-- The tags that statements give values, each told once.
use Rattle.std.specs.Prelude.{ℕ, List, [], Option, Some, None, if◌then◌else◌}
use Rattle.std.specs.List.{list_any}
use Rattle.lx_ccode.specs.declared.piece.Stmt.{Stmt}
use Rattle.lx_step.specs.Held.{Held}
use Rattle.lx_run.specs.Values.{gives_same, tag_text}

-- what a statement gave a tag, where none before it gave the tag a value of the same sort
abbrev pub new_tag_text : Held → (before : List Stmt) → Option Stmt → List ℕ
new_tag_text held before None = []
new_tag_text held before (Some statement) = if list_any (gives_same statement) before then [] else tag_text held statement
