-- How the steps of an expression are found. From left to right each token puts out what is done, with no operand marked, and what
-- is done only behind other tokens is owed. Then, from right to left, each step tells of what it takes whether that is an operand.
use Rattle.std.specs.Prelude.{Bool, true, false, not, ◌&&◌, List, [], ◌∷◌, ◌++◌, drop, Option, None, Some}
use Rattle.lx_parse.specs.declared.sorts.Sort.{Sort}
use Rattle.lx_parse.specs.declared.sorts.Sort.TheVariants.{Bar, Backslash, Open, Close, Star, Plus, Question, Bounds}
use Rattle.lx_forms.specs.Lexemes.{Lexeme, sort_at}
use Rattle.lx_forms.specs.Steps.{Step, reads, opens, closes, repeats, joins, subtracts, chooses}

-- What is read behind a parenthesis that is open, or in no parenthesis. `has_part` says whether a part of a sequence is read, and
-- `owes_join` whether it is the second part or a later one; a difference owes its step by its sign.
pub record Level : Type 0 where
  pub opening : Lexeme
  pub has_part : Bool
  pub owes_join : Bool
  pub sign : Option Lexeme
  pub owes_choice : Bool

-- the level behind a parenthesis
abbrev pub first_level : (opening : Lexeme) → Level
first_level opening = record { opening = opening; has_part = false; owes_join = false; sign = None; owes_choice = false }

-- the steps so far, the innermost level, and those around it, from the inside
pub record Progress : Type 0 where
  pub steps : List Step
  pub level : Level
  pub outer : List Level

-- a step where it is owed
abbrev pub owed : Bool → Step → List Step
owed true step = step ∷ []
owed false step = []

abbrev pub owed_difference : Option Lexeme → List Step
owed_difference None = []
owed_difference (Some sign) = subtracts false sign ∷ []

-- with more steps
abbrev pub behind_steps : List Step → Progress → Progress
behind_steps steps progress = record progress { steps = progress.steps ++ steps }

-- at the front of one part more of a sequence
abbrev pub before_part : Progress → Progress
before_part progress = record {
  steps = progress.steps ++ owed progress.level.owes_join joins;
  level = record progress.level { has_part = true; owes_join = progress.level.has_part };
  outer = progress.outer;
}

-- behind a sequence, behind a difference, and behind alternatives
abbrev pub behind_sequence : Progress → Progress
behind_sequence progress = record {
  steps = progress.steps ++ owed progress.level.owes_join joins;
  level = record progress.level { has_part = false; owes_join = false };
  outer = progress.outer;
}

abbrev pub behind_difference : Progress → Progress
behind_difference progress = record {
  steps = progress.steps ++ owed progress.level.owes_join joins ++ owed_difference progress.level.sign;
  level = record progress.level { has_part = false; owes_join = false; sign = None };
  outer = progress.outer;
}

abbrev pub behind_alternatives : Progress → Progress
behind_alternatives progress = record {
  steps = progress.steps ++ owed progress.level.owes_join joins ++ owed_difference progress.level.sign ++ owed progress.level.owes_choice chooses;
  level = first_level progress.level.opening;
  outer = progress.outer;
}

-- in a parenthesis
abbrev pub inside : (opening : Lexeme) → Progress → Progress
inside opening progress = record {
  steps = progress.steps ++ opens opening ∷ [];
  level = first_level opening;
  outer = progress.level ∷ progress.outer;
}

-- in the next outer level, where there is one
abbrev pub outside : Progress → Progress
outside progress = by progress.outer
  where
    by : List Level → Progress
    by [] = progress
    by (level ∷ outer) = record { steps = progress.steps; level = level; outer = outer }

-- with a difference, or alternatives, of which the left side is read
abbrev pub behind_backslash : (sign : Lexeme) → Progress → Progress
behind_backslash sign progress = let left = behind_difference progress in record left { level = record left.level { sign = Some sign } }

abbrev pub behind_bar : Progress → Progress
behind_bar progress = let left = behind_alternatives progress in record left { level = record left.level { owes_choice = true } }

-- behind a token of this sort, and behind any tokens
abbrev pub behind_token : Sort → Lexeme → Progress → Progress
behind_token Open lexeme progress = inside lexeme (before_part progress)
behind_token Close lexeme progress = outside (behind_steps (closes progress.level.opening ∷ []) (behind_alternatives progress))
behind_token Backslash lexeme progress = behind_backslash lexeme progress
behind_token Bar lexeme progress = behind_bar progress
behind_token Star lexeme progress = behind_steps (repeats lexeme ∷ []) progress
behind_token Plus lexeme progress = behind_steps (repeats lexeme ∷ []) progress
behind_token Question lexeme progress = behind_steps (repeats lexeme ∷ []) progress
behind_token Bounds lexeme progress = behind_steps (repeats lexeme ∷ []) progress
behind_token sort lexeme progress = behind_steps (reads false lexeme ∷ []) (before_part progress)

abbrev pub behind_tokens : List Lexeme → Progress → Progress
behind_tokens [] progress = progress
behind_tokens (lexeme ∷ text) progress = behind_tokens text (behind_token (sort_at lexeme) lexeme progress)

-- the steps of a text with no operand marked, where `opening` stands for the parenthesis that there is not
abbrev pub unmarked_steps : (opening : Lexeme) → List Lexeme → List Step
unmarked_steps opening text = (behind_alternatives (behind_tokens text (record { steps = []; level = first_level opening; outer = [] }))).steps

-- the first of the marks of what is still to be taken
abbrev pub first_mark : List Bool → Bool
first_mark [] = false
first_mark (mark ∷ marks) = mark

-- a step with its mark, where it has one
abbrev pub marked : Bool → Step → Step
marked mark (reads is_operand lexeme) = reads mark lexeme
marked mark (subtracts is_operand sign) = subtracts mark sign
marked mark step = step

module _ (are_groups : Bool) where
  -- The marks that are left before a step, where those behind it are these: its own is taken, and of each thing that it takes there
  -- is one more. What stands in parentheses has their mark, unless they are a group.
  abbrev pub marks_before : Step → List Bool → List Bool
  marks_before (reads is_operand lexeme) marks = drop 1 marks
  marks_before (opens opening) marks = marks
  marks_before (closes opening) marks = (first_mark marks && not are_groups) ∷ drop 1 marks
  marks_before (repeats sign) marks = false ∷ drop 1 marks
  marks_before joins marks = false ∷ (false ∷ drop 1 marks)
  marks_before (subtracts is_operand sign) marks = true ∷ (true ∷ drop 1 marks)
  marks_before chooses marks = first_mark marks ∷ (first_mark marks ∷ drop 1 marks)

  -- the marks that are left before steps, and the steps with their marks
  abbrev pub marks_at : List Step → List Bool → List Bool
  marks_at [] marks = marks
  marks_at (step ∷ steps) marks = marks_before step (marks_at steps marks)

  abbrev pub marked_steps : List Step → List Bool → List Step
  marked_steps [] marks = []
  marked_steps (step ∷ steps) marks = marked (first_mark (marks_at steps marks)) step ∷ marked_steps steps marks
