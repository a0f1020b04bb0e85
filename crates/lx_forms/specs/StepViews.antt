-- What the definitions see of the steps of an expression.
use Rattle.std.specs.Prelude.{Bool, List, map, reverse}
use Rattle.std.specs.Option.{option_map}
use Rattle.lx_forms.specs.declared.steps.StepSort.{StepSort}
use Rattle.lx_forms.specs.declared.steps.StepSort.TheVariants.{Read, Open, Close, Repeat, Join, Subtract, Choose}
use Rattle.lx_forms.specs.declared.steps.Step.{Step as Held}
use Rattle.lx_forms.specs.declared.steps.Level.{Level as HeldLevel}
use Rattle.lx_forms.specs.declared.steps.Progress.{Progress as HeldProgress}
use Rattle.lx_forms.specs.Lexemes.{Lexeme, nth_lexeme}
use Rattle.lx_forms.specs.Steps.{Step, reads, opens, closes, repeats, joins, subtracts, chooses}
use Rattle.lx_forms.specs.StepRuns.{Level, Progress}

-- the step of this sort at a lexeme
abbrev pub step_of : StepSort → (is_operand : Bool) → Lexeme → Step
step_of Read is_operand lexeme = reads is_operand lexeme
step_of Open is_operand lexeme = opens lexeme
step_of Close is_operand lexeme = closes lexeme
step_of Repeat is_operand lexeme = repeats lexeme
step_of Join is_operand lexeme = joins
step_of Subtract is_operand lexeme = subtracts is_operand lexeme
step_of Choose is_operand lexeme = chooses

module _ (lexemes : List Lexeme) where
  -- a step at a token of a block
  abbrev pub step_view : Held → Step
  step_view held = step_of held.sort held.is_operand (nth_lexeme lexemes held.place)

  -- what is read behind a parenthesis of a block
  abbrev pub level_view : HeldLevel → Level
  level_view held = record {
    opening = nth_lexeme lexemes held.opening;
    has_part = held.has_part;
    owes_join = held.owes_join;
    sign = option_map (nth_lexeme lexemes) held.sign;
    owes_choice = held.owes_choice;
  }

  -- how far an expression of a block is read
  abbrev pub progress_view : HeldProgress → Progress
  progress_view held = record {
    steps = map step_view held.steps.items;
    level = level_view held.level;
    outer = reverse (map level_view held.outer.items);
  }
