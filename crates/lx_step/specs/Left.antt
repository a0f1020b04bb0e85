-- What is kept of a match that was left.
use Rattle.std.specs.Prelude.{◌≡◌, ◌≤◌, ℕ, true, List, IfSome, Option, Some}
use Rattle.std.specs.List.{AllByRecursion, list_any}
use Rattle.std.specs.Option.{option_map}
use Rattle.lx_ccode.specs.declared.piece.CodeBlock.{CodeBlock}
use Rattle.lx_ccode.specs.declared.piece.StateCase.{StateCase}
use Rattle.lx_ccode.specs.Statements.{all_statements}
use Rattle.lx_ccode.specs.States.{state_block, stores}
use Rattle.lx_step.specs.declared.scanner.Scanner.{Scanner}

-- the numbers of the machine that was left, beside its cursor and its condition; registers and histories by their places
pub record Left : Type 0 where
  pub marker : ℕ
  pub accept : ℕ
  pub registers : List (Option ℕ)
  pub histories : List (List (Option ℕ))
  -- the state that was stored last
  pub state : ℕ
  -- how many steps the match has made
  pub steps : ℕ

-- what a scanner has left, where it stores a state
abbrev pub left_of : Scanner → (steps : ℕ) → Option Left
left_of scanner steps =
    option_map (λ state. record {
      marker = scanner.marker;
      accept = scanner.accept;
      registers = scanner.registers.items;
      histories = scanner.histories;
      state = state;
      steps = steps;
    }) scanner.state

-- the offset, where there is one, is not before the start
abbrev pub IsBehind : (start : ℕ) → Option ℕ → Type 0
IsBehind start offset = IfSome offset (λ one. start ≤ one)

-- what the scanner holds does not stand before the start
pub record IsFrom (start : ℕ) (scanner : Scanner) : Type 0 where
  pub cursor : start ≤ scanner.cursor
  pub marker : start ≤ scanner.marker
  pub registers : AllByRecursion (IsBehind start) scanner.registers.items

-- the state, where there is one, is one that a statement of the blocks stores
abbrev pub IsStored : List CodeBlock → (state : Option ℕ) → Type 0
IsStored blocks state = IfSome state (λ one. list_any (stores one) (all_statements blocks) ≡ true)

-- the state, where there is one, stands with the block where a piece with these blocks goes on that stored it
abbrev pub IsReturnOf : List CodeBlock → Option StateCase → Type 0
IsReturnOf blocks known = IfSome known (λ case. state_block blocks case.state ≡ Some case.block)

-- where a match was left, it stands behind its start
abbrev pub IsLeftFrom : (start : ℕ) → Scanner → Type 0
IsLeftFrom start scanner = IfSome scanner.state (λ state. IsFrom start scanner)
