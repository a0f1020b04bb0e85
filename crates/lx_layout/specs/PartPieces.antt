-- The piece in which scanners stand one behind another.
use Rattle.std.specs.Prelude.{◌≡◌, ◌⊎◌, ℕ, ◌+◌, Bool, false, List, [], ◌∷◌, length, Option, Some, None, IsSome}
use Rattle.std.specs.List.{AllByRecursion}
use Rattle.lx_base.specs.declared.settings.Enc.{Enc}
use Rattle.lx_base.specs.declared.settings.Format.{Format}
use Rattle.lx_ccode.specs.Counts.{mregs_of, regs_of, state_count, table_size}
use Rattle.lx_ccode.specs.States.{states_from}
use Rattle.lx_ccode.specs.declared.piece.CodeBlock.{CodeBlock}
use Rattle.lx_ccode.specs.declared.piece.CondCase.{CondCase}
use Rattle.lx_ccode.specs.declared.piece.Head.{Head}
use Rattle.lx_ccode.specs.declared.piece.Mode.{Mode}
use Rattle.lx_ccode.specs.declared.piece.Mode.TheVariants.{Count, Eof, EofFixed, Plain}
use Rattle.lx_ccode.specs.declared.piece.Piece.{Piece}
use Rattle.lx_encode.specs.Units.{unit_size}
use Rattle.lx_layout.specs.PartModes.{Counts, Tries}
use Rattle.lx_layout.specs.Parts.{Part, given_asked, part_codes, parts_blocks}

-- a scanner asks for refills as a piece of the mode does
abbrev pub Suits : Mode → Part → Type 0
Suits Plain part = (part.given.demand.eof ≡ None) × ((number : ℕ) → part.given.demand.check number ≡ 0)
Suits Count part = Counts part
Suits EofFixed part = IsSome part.given.demand.eof × (part.given.demand.tries ≡ false)
Suits Eof part = Tries part

-- the cases of the switch over conditions: each goes to the first block of its scanner
abbrev pub with_case : Option (List ℕ) → (block : ℕ) → List CondCase → List CondCase
with_case None block cases = cases
with_case (Some cond) block cases = record { cond = cond; block = block } ∷ cases

abbrev pub cond_cases : (begin first : ℕ) → List Part → List CondCase
cond_cases begin first [] = []
cond_cases begin first (part ∷ parts) =
    with_case part.given.cond begin (cond_cases (begin + length (part_codes part begin first)) (first + given_asked part.given) parts)

-- what a piece of these blocks tells of itself
abbrev pub head_with : Format → (custom : Bool) → Enc → Mode → List CodeBlock → Head
head_with format custom enc mode blocks = record {
  format = format;
  custom = custom;
  enc = enc;
  mode = mode;
  regs = regs_of blocks;
  mregs = mregs_of blocks;
  states = state_count blocks;
}

-- The scanners stand one behind another in the piece, which tells their mode, has one unit at the end for all of them, or none, and
-- switches over their conditions. It has the switch over what they store, or none, and a table of their sets, of the size that its statements
-- ask for.
pub record IsPieceOf (format : Format) (custom : Bool) (enc : Enc) (mode : Mode) (first : ℕ) (parts : List Part) (piece : Piece) : Type 0 where
  pub blocks : piece.blocks ≡ parts_blocks 0 first parts
  pub head : piece.head ≡ Some (head_with format custom enc mode piece.blocks)
  pub unit : piece.unit ≡ unit_size enc
  pub eof : AllByRecursion (λ (part : Part). part.given.demand.eof ≡ piece.eof) parts
  pub states : (piece.states ≡ None) ⊎ (piece.states ≡ Some (states_from 0 piece.blocks))
  pub conds : piece.conds ≡ cond_cases 0 first parts
  pub formats : AllByRecursion (λ (part : Part). part.given.demand.format ≡ format) parts
  pub tables : AllByRecursion (λ (part : Part). part.given.demand.table ≡ piece.table) parts
  pub table : length piece.table ≡ table_size piece.blocks
