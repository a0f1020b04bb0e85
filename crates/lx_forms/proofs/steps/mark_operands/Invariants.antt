use Rattle.std.proofs.Common.{◌≡◌, List, [], ◌∷◌, ◌++◌, drop, false, map, take}
use Rattle.std.specs.Prelude.{reverse}
use Rattle.lx_forms.specs.Lexemes.{Lexeme}
use Rattle.lx_forms.specs.StepRuns.{marked_steps}
use Rattle.lx_forms.specs.StepViews.{step_view}
use Rattle.lx_forms.proofs.steps.mark_operands.Given as goal

abbrev pub invariant-loop-index : goal.invariant-loop-index
invariant-loop-index l =
    (lexemes : List Lexeme)
    → marked_steps l.are_groups (map (step_view lexemes) (take l.index l.steps)) (reverse l.marks.items) ++ map (step_view lexemes) (drop l.index l.steps)
    ≡ marked_steps l.are_groups (map (step_view lexemes) l.initial.steps) (false ∷ [])
