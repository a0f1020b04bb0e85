-- How the output of a source is cut: a text for each text outside of blocks, and a piece for each block.
use Rattle.std.specs.Prelude.{◌≡◌, ℕ, suc, Bool, true, false, List, [], ◌∷◌, ◌++◌, drop, take, Some, None}
use Rattle.lx_base.specs.Names.{Spellings}
use Rattle.lx_ccode.specs.Bodies.{body_then}
use Rattle.lx_ccode.specs.Text.{line_after, line_then}
use Rattle.lx_creader.specs.Cut.{OutputPart, bare, outside, part_text, scanner}
use Rattle.lx_creader.specs.Marks.{IsFirstBegin}
use Rattle.lx_compile.specs.Facts.{body_of}
use Rattle.lx_compile.specs.Writing.{made_text, number_behind, place_of}
use Rattle.lx_compile.specs.declared.made.Made.{Made}
use Rattle.lx_compile.specs.declared.made.Made.TheVariants.{Outside, Scanners, Bare}

-- In an output with this name, where pieces are numbered from here on, and directives speak of all that is made, by these spellings.
module _ (names : Spellings) (out : List ℕ) (all : List Made) where
  -- the part of the output that this is, which begins in a line
  abbrev pub output_part : (number line : ℕ) → Made → OutputPart
  output_part number line (Outside text) = outside text
  output_part number line (Scanners piece checks warnings cover groups) = scanner (place_of out line piece) piece
  output_part number line (Bare at mark directive) = bare number (body_then names (body_of all directive) (line_then mark []))

  -- its parts
  abbrev pub output_parts : (number line : ℕ) → List Made → List OutputPart
  output_parts number line [] = []
  output_parts number line (one ∷ made) =
      output_part number line one ∷ output_parts (number_behind number one) (line_after line (made_text names out all number line one)) made

-- the number of the piece behind these, if the first has number 1
abbrev pub number_after : List Made → ℕ
number_after [] = 1
number_after (Outside text ∷ made) = number_after made
number_after (one ∷ made) = suc (number_after made)

-- it is the piece of a block
abbrev pub is_piece : Made → Bool
is_piece (Outside text) = false
is_piece one = true

-- it is the piece of scanners
abbrev pub is_scanner : Made → Bool
is_scanner (Scanners piece checks warnings cover groups) = true
is_scanner one = false

-- none of them is
abbrev pub HaveNoScanner : List Made → Type 0
HaveNoScanner [] = Unit {0}
HaveNoScanner (one ∷ made) = (is_scanner one ≡ false) × HaveNoScanner made

-- In an output the text of this part stands behind those of the earlier ones. If it is a piece, it stands where the first begin mark of its
-- number does; and if it is the first piece of scanners, where the first begin mark of a scanner does.
pub record IsFound (names : Spellings) (out : List ℕ) (made earlier : List Made) (one : Made) (output : List ℕ) : Type 0 where
  pub offset : ℕ
  pub rest : List ℕ
  -- it begins in the line behind those that end before it
  pub stands : drop offset output ≡ part_text (output_part names out made (number_after earlier) (line_after 1 (take offset output)) one) ++ rest
  pub first : is_piece one ≡ true → IsFirstBegin (Some (number_after earlier)) output offset
  pub first_scanner : HaveNoScanner earlier → is_scanner one ≡ true → IsFirstBegin None output offset
