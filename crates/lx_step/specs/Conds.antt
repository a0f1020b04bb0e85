-- Conditions by their numbers.
use Rattle.std.specs.Prelude.{◌≡◌, ◌<◌, ℕ, suc, max, List, [], ◌∷◌, length, map, Some, None, slice_get, if◌then◌else◌}
use Rattle.std.specs.List.{AllByRecursion}
use Rattle.lx_base.specs.Letters.{equal_words}
use Rattle.lx_ccode.specs.declared.piece.CondCase.{CondCase}
use Rattle.lx_ccode.specs.declared.piece.Piece.{Piece}
use Rattle.lx_ccode.specs.Statements.{all_statements}
use Rattle.lx_ccode.specs.Validity.{NamesOneOf}

-- the name of a condition by its number; the empty name where there is none
abbrev pub cond_name : List CondCase → (number : ℕ) → List ℕ
cond_name conds number = elim (slice_get conds number) [ None ↦ [] | Some case ↦ case.cond ]

-- the number of a condition: the place of the first case with its name, or behind them all
abbrev pub cond_number : List CondCase → (cond : List ℕ) → ℕ
cond_number [] cond = 0
cond_number (case ∷ cases) cond = if equal_words case.cond cond then 0 else suc (cond_number cases cond)

-- this is the number of a condition, or 0 where there is none
pub record IsCond (conds : List CondCase) (number : ℕ) : Type 0 where
  pub within : number < max (length conds) 1
  -- its name has no other number
  pub first : cond_number conds (cond_name conds number) ≡ number

-- each condition that a statement of the piece sets is one of the piece
abbrev pub NamesItsConds : Piece → Type 0
NamesItsConds piece = AllByRecursion (NamesOneOf (map (λ case. case.cond) piece.conds)) (all_statements piece.blocks)
