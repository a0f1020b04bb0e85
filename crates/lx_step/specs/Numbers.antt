-- The registers and the histories that statements name, and their places.
use Rattle.std.specs.Prelude.{◌≡◌, ℕ, ◌+◌, ◌==◌, ◌&&◌, true, false, List, [], ◌∷◌, ◌++◌, length, position, Option, Some, None, nat_le, nat_lt, if◌then◌else◌}
use Rattle.std.specs.List.{list_any}
use Rattle.lx_ccode.specs.declared.piece.Stmt.{Stmt}
use Rattle.lx_ccode.specs.declared.piece.Stmt.TheVariants.{Set, Unset, Copy, MSet, MUnset, MCopy, Tag, End, Back}
use Rattle.lx_ccode.specs.declared.piece.CodeBlock.{CodeBlock}
use Rattle.lx_ccode.specs.Statements.{all_statements}
use Rattle.lx_step.specs.declared.numbers.Numbering.{Numbering}
use Rattle.lx_step.specs.declared.numbers.Sort.{Sort}
use Rattle.lx_step.specs.declared.numbers.Sort.TheVariants.{Register, History}

-- the numbers of a sort that the statement names: none, one or two
abbrev pub numbers_in : Sort → Stmt → Option ℕ × Option ℕ
numbers_in Register (Set register) = (Some register, None)
numbers_in Register (Unset register) = (Some register, None)
numbers_in Register (Copy register source) = (Some register, Some source)
numbers_in Register (Tag tag false register) = (Some register, None)
numbers_in Register (End place register) = (Some register, None)
numbers_in Register (Back register) = (Some register, None)
numbers_in Register _ = (None, None)
numbers_in History (MSet history) = (Some history, None)
numbers_in History (MUnset history) = (Some history, None)
numbers_in History (MCopy history source) = (Some history, Some source)
numbers_in History (Tag tag true history) = (Some history, None)
numbers_in History _ = (None, None)

-- numbers with one more at the end, unless there is none or it is there
abbrev pub with_number : Option ℕ → List ℕ → List ℕ
with_number None numbers = numbers
with_number (Some number) numbers = if list_any (λ other. number == other) numbers then numbers else numbers ++ number ∷ []

-- numbers with those of a sort that statements name
abbrev pub numbers_from : Sort → List Stmt → List ℕ → List ℕ
numbers_from sort [] numbers = numbers
numbers_from sort (statement ∷ statements) numbers =
    numbers_from sort statements (with_number (numbers_in sort statement).1 (with_number (numbers_in sort statement).0 numbers))

-- the numbers of a sort that a piece names, each once, in the order in which they come
abbrev pub numbers_of : Sort → List CodeBlock → List ℕ
numbers_of sort blocks = numbers_from sort (all_statements blocks) []

-- the registers and the histories of blocks
pub record IsNumberingOf (blocks : List CodeBlock) (numbering : Numbering) : Type 0 where
  pub registers : numbering.registers.keys ≡ numbers_of Register blocks
  pub histories : numbering.histories.keys ≡ numbers_of History blocks

-- the place of a number; those that the list has not come behind it, each at a place of its own
unfoldable pub place_of : List ℕ → (number : ℕ) → ℕ
place_of numbers number = elim (position (λ other. number == other) numbers) [ None ↦ length numbers + number | Some place ↦ place ]

-- the lesser of a number, where it is from another one on, and of one before
abbrev pub lesser_of : Option ℕ → (from : ℕ) → Option ℕ → Option ℕ
lesser_of None from least = least
lesser_of (Some number) from None = if nat_le from number then Some number else None
lesser_of (Some number) from (Some other) = if nat_lt number other && nat_le from number then Some number else Some other

-- the least of one before and of the numbers of a sort that statements name from a number on
abbrev pub least_in_all : Sort → (from : ℕ) → List Stmt → Option ℕ → Option ℕ
least_in_all sort from [] least = least
least_in_all sort from (statement ∷ statements) least =
    least_in_all sort from statements (lesser_of (numbers_in sort statement).1 from (lesser_of (numbers_in sort statement).0 from least))
