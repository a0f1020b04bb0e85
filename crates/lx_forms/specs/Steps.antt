-- The steps in which an expression is read: what stands in a form comes before the form.
use Rattle.std.specs.Prelude.{Bool, true, false, not, ◌&&◌, List, [], ◌∷◌, ◌++◌}
use Rattle.lx_forms.specs.Forms.{Form, leaf, group, repeated, sequence, difference, alternative}
use Rattle.lx_forms.specs.Lexemes.{Lexeme}

-- A leaf is read; a parenthesis is opened, and what stands in it is closed; what was read last is repeated; or the last two
-- are put together: one behind the other, one without the other, or one beside the other.
pub data Step : Type 0 where
  reads : (is_operand : Bool) (lexeme : Lexeme) → Step
  opens : (opening : Lexeme) → Step
  closes : (opening : Lexeme) → Step
  repeats : (sign : Lexeme) → Step
  joins : Step
  subtracts : (is_operand : Bool) (sign : Lexeme) → Step
  chooses : Step

-- The steps of a form, which is an operand of a difference or not. What stands in parentheses around an operand is one too, unless
-- parentheses are groups.
abbrev pub steps_of : (are_groups is_operand : Bool) → Form → List Step
steps_of are_groups is_operand (leaf lexeme) = reads is_operand lexeme ∷ []
steps_of are_groups is_operand (group opening inner) =
    opens opening ∷ (steps_of are_groups (is_operand && not are_groups) inner ++ closes opening ∷ [])
steps_of are_groups is_operand (repeated inner sign) = steps_of are_groups false inner ++ repeats sign ∷ []
steps_of are_groups is_operand (sequence front back) =
    steps_of are_groups false front ++ (steps_of are_groups false back ++ joins ∷ [])
steps_of are_groups is_operand (difference left sign right) =
    steps_of are_groups true left ++ (steps_of are_groups true right ++ subtracts is_operand sign ∷ [])
steps_of are_groups is_operand (alternative left sign right) =
    steps_of are_groups is_operand left ++ (steps_of are_groups is_operand right ++ chooses ∷ [])
