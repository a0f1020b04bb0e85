-- When the head of a piece agrees with what stands below it.
use Rattle.std.specs.Prelude.{◌≡◌, ◌&&◌, ◌||◌, Bool, true, not, is_some}
use Rattle.std.specs.List.{list_any}
use Rattle.lx_encode.specs.Units.{unit_size}
use Rattle.lx_ccode.specs.declared.piece.Head.{Head}
use Rattle.lx_ccode.specs.declared.piece.Mode.{Mode}
use Rattle.lx_ccode.specs.declared.piece.Mode.TheVariants.{Plain, Count, EofFixed, Eof}
use Rattle.lx_ccode.specs.declared.piece.Piece.{Piece}
use Rattle.lx_ccode.specs.Counts.{is_peek, mregs_of, regs_of, state_count}
use Rattle.lx_ccode.specs.Statements.{all_statements, is_need, is_try}

-- Which pieces a mode has: whether there is a unit for the end, and whether the statements have a Peek, a Need and a Try. In Count
-- and Eof mode a piece that reads a unit asks for refills.
abbrev pub keeps_mode : Mode → (has_eof peeks needs tries : Bool) → Bool
keeps_mode Plain has_eof peeks needs tries = not has_eof && (not needs && not tries)
keeps_mode Count has_eof peeks needs tries = not has_eof && ((not peeks || needs) && not tries)
keeps_mode EofFixed has_eof peeks needs tries = has_eof && (not needs && not tries)
keeps_mode Eof has_eof peeks needs tries = has_eof && (not needs && (not peeks || tries))

-- the head tells the piece's unit, mode and numbers
pub record Agrees (piece : Piece) (head : Head) : Type 0 where
  pub unit : piece.unit ≡ unit_size head.enc
  pub mode : keeps_mode head.mode (is_some piece.eof) (list_any is_peek (all_statements piece.blocks)) (list_any is_need (all_statements piece.blocks))
      (list_any is_try (all_statements piece.blocks)) ≡ true
  pub regs : head.regs ≡ regs_of piece.blocks
  pub mregs : head.mregs ≡ mregs_of piece.blocks
  pub states : head.states ≡ state_count piece.blocks
