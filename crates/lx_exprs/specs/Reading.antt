-- The reading of an expression, step by step.
use Rattle.std.specs.Prelude.{◌≡◌, ◌≤◌, ℕ, suc, ◌+◌, ◌-◌, max, true, false, Bool, List, [], ◌∷◌, ◌++◌, reverse, Some, None, Result, Ok, Err, MatchResult, ◌&&◌, is_some, if◌then◌else◌}
use Rattle.std.specs.List.{AllByRecursion}
use Rattle.lx_base.specs.declared.faults.Fault.{Fault}
use Rattle.lx_base.specs.declared.faults.Fault.TheVariants.{NotClass}
use Rattle.lx_base.specs.declared.faults.Stop.{Stop}
use Rattle.lx_base.specs.declared.faults.Stop.TheVariants as stop
use Rattle.lx_base.specs.declared.settings.Options.{Options}
use Rattle.lx_exprs.specs.declared.expressions.Operands.{Operands as Held}
use Rattle.lx_exprs.specs.declared.operands.Operand.{Operand}
use Rattle.lx_exprs.specs.declared.expressions.Pairing.{Pairing}
use Rattle.lx_exprs.specs.declared.expressions.Pairing.TheVariants.{Alternation, Sequence}
use Rattle.lx_exprs.specs.declared.values.Room.{Room}
use Rattle.lx_exprs.specs.declared.values.Value.{Value}
use Rattle.lx_forms.specs.Lexemes.{Lexeme}
use Rattle.lx_regex.specs.declared.rules.Tag.{Tag}
use Rattle.lx_exprs.specs.Defined.{Before, Definition, Meaning, and_more, kept, meant_class}
use Rattle.lx_exprs.specs.Meanings.{IsClassMeaning, IsLeafMeaning, alternated, enclosed, followed, grouped, in_group, repeated_by}
use Rattle.lx_exprs.specs.Checks.{Check, Then, Finds, IsFilled, IsIn, LeafChecks, StopsAt, are_groups, bounds_fault, bounds_of}
use Rattle.lx_forms.specs.Steps.{Step, reads, opens, closes, repeats, joins, subtracts, chooses}
use Rattle.lx_exprs.specs.Operands.{HasOperandKinds, IsBoundedOperand, IsOperand}
use Rattle.lx_exprs.specs.Values.{IsValue}

-- What is read before a step: meanings that are not yet put together, the last one first, all tags and groups so far, and how many
-- groups there are before each one that is open, the innermost first.
pub record Operands : Type 0 where
  pub meanings : List Meaning
  pub seen : Before
  pub open_groups : List ℕ

-- nothing is read behind others
abbrev pub operands_behind : Before → Operands
operands_behind before = record { meanings = []; seen = before; open_groups = [] }

-- one meaning more
abbrev pub with_more : Operands → Meaning → Operands
with_more operands meaning = record {
  meanings = meaning ∷ operands.meanings;
  seen = and_more operands.seen meaning.tags meaning.groups;
  open_groups = operands.open_groups;
}

-- something else in the place of the last meaning
abbrev pub with_last : (Meaning → Meaning) → List Meaning → List Meaning
with_last change [] = []
with_last change (last ∷ meanings) = change last ∷ meanings

-- the sequence or the alternation of two meanings
abbrev pub paired : Pairing → Meaning → Meaning → Meaning
paired Sequence = followed
paired Alternation = alternated

-- one meaning in the place of the last two
abbrev pub with_both : (Meaning → Meaning → Meaning) → List Meaning → List Meaning
with_both put [] = []
with_both put (last ∷ []) = last ∷ []
with_both put (last ∷ other ∷ meanings) = put other last ∷ meanings

abbrev pub in_place : Operands → List Meaning → Operands
in_place operands meanings = record { meanings = meanings; seen = operands.seen; open_groups = operands.open_groups }

-- in parentheses, which are a group or none
abbrev pub opened : (is_group : Bool) → Operands → Operands
opened false operands = operands
opened true operands = record {
  meanings = operands.meanings;
  seen = in_group operands.seen;
  open_groups = operands.seen.groups ∷ operands.open_groups;
}

-- behind parentheses
abbrev pub closed : (is_group : Bool) → Operands → Operands
closed false operands = in_place operands (with_last enclosed operands.meanings)
closed true operands = by operands.open_groups
  where
    by : List ℕ → Operands
    by [] = operands
    by (number ∷ others) = record {
      meanings = with_last (grouped (kept (suc number))) operands.meanings;
      seen = operands.seen;
      open_groups = others;
    }

module _ (options : Options) (definitions : List Definition) where
  -- the difference of two meanings: both are classes, and it has the points of the left one that the right one does not have
  abbrev pub DifferenceHas : (left right : Meaning) → ℕ → Type 0
  DifferenceHas left right point = IsIn (meant_class left) point × ¬ IsIn (meant_class right) point

  abbrev pub DifferenceChecks : (is_operand : Bool) → (left right : Meaning) → (sign : Lexeme) → Check
  DifferenceChecks is_operand left right sign =
      Then (Finds (if is_some (meant_class left) && is_some (meant_class right) then None else Some (NotClass sign.at)))
      (IsFilled options definitions options.empty is_operand sign.at (DifferenceHas left right))

  abbrev pub IsDifference : (is_operand : Bool) → (left right meaning : Meaning) → Type 0
  IsDifference is_operand left right meaning =
      IsClassMeaning options definitions is_operand (max left.nesting right.nesting) (left.tags ++ right.tags) (kept (left.groups + right.groups)) (max left.count right.count)
      (DifferenceHas left right) meaning

  -- the checks of the difference of the last two meanings
  abbrev pub SubtractChecks : (is_operand : Bool) → List Meaning → (sign : Lexeme) → Check
  SubtractChecks is_operand [] sign fault = ⊥
  SubtractChecks is_operand (last ∷ []) sign fault = ⊥
  SubtractChecks is_operand (last ∷ other ∷ meanings) sign fault = DifferenceChecks is_operand other last sign fault

  -- the difference is put in their place
  abbrev pub Subtracts : (is_operand : Bool) → List Meaning → List Meaning → Type 0
  Subtracts is_operand [] after = ⊥
  Subtracts is_operand (last ∷ []) after = ⊥
  Subtracts is_operand (last ∷ other ∷ meanings) after =
      (meaning : Meaning) × IsDifference is_operand other last meaning × (after ≡ meaning ∷ meanings)

  -- the checks of a step
  abbrev pub StepChecks : Operands → Step → Check
  StepChecks operands (reads is_operand lexeme) = LeafChecks options definitions lexeme.kind is_operand operands.seen.tags lexeme
  StepChecks operands (opens opening) = Finds None
  StepChecks operands (closes opening) = Finds None
  StepChecks operands (repeats sign) = Finds (bounds_fault sign)
  StepChecks operands joins = Finds None
  StepChecks operands (subtracts is_operand sign) = SubtractChecks is_operand operands.meanings sign
  StepChecks operands chooses = Finds None

  -- what is read behind a step
  abbrev pub IsStepped : Operands → Step → Operands → Type 0
  IsStepped operands (reads is_operand lexeme) after =
      (meaning : Meaning) × IsLeafMeaning options definitions is_operand lexeme.kind operands.seen lexeme meaning
      × (after ≡ with_more operands meaning)
  IsStepped operands (opens opening) after = after ≡ opened (are_groups options definitions) operands
  IsStepped operands (closes opening) after = after ≡ closed (are_groups options definitions) operands
  IsStepped operands (repeats sign) after =
      after ≡ in_place operands (with_last (repeated_by (bounds_of sign)) operands.meanings)
  IsStepped operands joins after = after ≡ in_place operands (with_both followed operands.meanings)
  IsStepped operands (subtracts is_operand sign) after =
      (meanings : List Meaning) × Subtracts is_operand operands.meanings meanings × (after ≡ in_place operands meanings)
  IsStepped operands chooses after = after ≡ in_place operands (with_both alternated operands.meanings)

  -- The steps are taken in order: what is read behind all of them, or the first fault.
  pub data Goes : Operands → List Step → Result Operands Fault → Type 0 where
    ends : {operands : Operands} → Goes operands [] (Ok operands)
    refused : {operands : Operands} {step : Step} {steps : List Step} (fault : Fault) → StepChecks operands step (Some fault)
        → Goes operands (step ∷ steps) (Err fault)
    next : {operands : Operands} {step : Step} {steps : List Step} {result : Result Operands Fault} (after : Operands)
        → StepChecks operands step None → IsStepped operands step after → Goes after steps result → Goes operands (step ∷ steps) result

  -- a call that is to take the steps stops with their fault, or where memory runs out
  abbrev pub StopsReading : Operands → List Step → Stop → Type 0
  StopsReading operands steps stop.Memory = Unit {0}
  StopsReading operands steps (stop.Fault fault) = Goes operands steps (Err fault)

-- so many meanings are needed for a step, and this many are there behind it
abbrev pub Needs : Step → (depth : ℕ) → Type 0
Needs (reads is_operand lexeme) depth = Unit {0}
Needs (opens opening) depth = Unit {0}
Needs (closes opening) depth = 1 ≤ depth
Needs (repeats sign) depth = 1 ≤ depth
Needs joins depth = 2 ≤ depth
Needs (subtracts is_operand sign) depth = 2 ≤ depth
Needs chooses depth = 2 ≤ depth

abbrev pub depth_behind : Step → (depth : ℕ) → ℕ
depth_behind (reads is_operand lexeme) depth = suc depth
depth_behind (opens opening) depth = depth
depth_behind (closes opening) depth = depth
depth_behind (repeats sign) depth = depth
depth_behind joins depth = depth - 1
depth_behind (subtracts is_operand sign) depth = depth - 1
depth_behind chooses depth = depth - 1

-- steps that need no more meanings than are there, and leave one
abbrev pub AreInOrder : (depth : ℕ) → List Step → Type 0
AreInOrder depth [] = depth ≡ 1
AreInOrder depth (step ∷ steps) = Needs step depth × AreInOrder (depth_behind step depth) steps

-- operands stand for meanings one by one
abbrev pub AreValues : Room → List Meaning → List Operand → Type 0
AreValues room [] [] = Unit {0}
AreValues room [] (value ∷ values) = ⊥
AreValues room (meaning ∷ meanings) [] = ⊥
AreValues room (meaning ∷ meanings) (value ∷ values) = IsOperand room meaning value × AreValues room meanings values

-- each operand is bounded
abbrev pub AreBounded : List Operand → Type 0
AreBounded [] = Unit {0}
AreBounded (value ∷ values) = IsBoundedOperand value × AreBounded values

-- the tags of each operand are of the kinds that they have among the tags of an item
abbrev pub HaveOperandKinds : List Tag → List Operand → Type 0
HaveOperandKinds tags values = AllByRecursion (HasOperandKinds tags) values

-- among the tags that are read
abbrev pub HasOwnKinds : Held → Type 0
HasOwnKinds held = HaveOperandKinds held.seen held.values.items

-- what is held stands for what is read
pub record AreOperands (room : Room) (operands : Operands) (held : Held) : Type 0 where
  pub values : AreValues room operands.meanings (reverse held.values.items)
  pub tags : held.seen ≡ operands.seen.tags
  pub groups : held.groups ≡ operands.seen.groups
  pub open_groups : reverse held.open_groups.items ≡ operands.open_groups

-- a step is taken: its checks find nothing, and what is held stands for what is read behind it
pub record IsStepTaken (options : Options) (definitions : List Definition) (room : Room) (operands : Operands) (step : Step) (held : Held) : Type 0 where
  pub checked : StepChecks options definitions operands step None
  pub after : Operands
  pub stepped : IsStepped options definitions operands step after
  pub stands : AreOperands room after held

-- the steps are taken, and what is held stands for what is read
pub record AreTaken (options : Options) (definitions : List Definition) (room : Room) (operands : Operands) (steps : List Step) (held : Held) : Type 0 where
  pub after : Operands
  pub goes : Goes options definitions operands steps (Ok after)
  pub stands : AreOperands room after held

-- a token is read behind others
pub record IsLeafRead (options : Options) (definitions : List Definition) (room : Room) (is_operand : Bool) (before : Before) (lexeme : Lexeme) (after : List Tag) (value : Value) : Type 0 where
  pub checked : LeafChecks options definitions lexeme.kind is_operand before.tags lexeme None
  pub meaning : Meaning
  pub means : IsLeafMeaning options definitions is_operand lexeme.kind before lexeme meaning
  pub stands : IsValue room meaning value
  pub seen : after ≡ before.tags ++ meaning.tags

-- a call reads a token so, or stops with the first fault of its checks
abbrev pub IsLeafResult : Options → List Definition → Room → (is_operand : Bool) → Before → Lexeme → (after : List Tag) → Result Value Stop → Type 0
IsLeafResult options definitions room is_operand before lexeme after result =
    MatchResult result (IsLeafRead options definitions room is_operand before lexeme after)
    (StopsAt (LeafChecks options definitions lexeme.kind is_operand before.tags lexeme))
