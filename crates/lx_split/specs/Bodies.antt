-- Where the body of a block ends.
use Rattle.std.specs.Prelude.{ℕ, zero, suc, false, List, [], ◌∷◌, length, drop, codes, Option, Some, None, option_and_then, unwrap_or, ◌==◌, if◌then◌else◌}
use Rattle.lx_base.specs.declared.blocks.BlockKind.{BlockKind}
use Rattle.lx_base.specs.declared.blocks.BlockKind.TheVariants.{Ignore, Include}
use Rattle.lx_base.specs.Letters.{begins_with}
use Rattle.lx_token.specs.Blanks.{after_closing}
use Rattle.lx_token.specs.Braces.{after_bounds, after_code, after_literal, after_piece}

-- what follows the bounds or else the action that begins here
abbrev pub after_brace : Option (List ℕ) → List ℕ → Option (List ℕ)
after_brace (Some rest) text = Some rest
after_brace None text = after_code text

-- what follows the part of a body at its front, which is no `*/`: a class that is closed in its line, bounds or an action,
-- a string that is closed in its line, a comment, or a byte
abbrev pub after_part : List ℕ → Option (List ℕ)
after_part [] = None
after_part (letter ∷ text) =
    if letter == 91 then Some (unwrap_or (after_literal 93 false text) text)
    else (if letter == 123 then after_brace (after_bounds (letter ∷ text)) (letter ∷ text) else after_piece (letter ∷ text))

-- what follows a file name behind its opening quote, where it is closed in its line; no byte of it is escaped
abbrev pub after_file_name : List ℕ → Option (List ℕ)
after_file_name [] = None
after_file_name (letter ∷ text) = if letter == 34 then Some text else (if letter == 10 then None else after_file_name text)

-- the same in an include, where a `"` begins a file name
abbrev pub after_include_part : List ℕ → Option (List ℕ)
after_include_part [] = None
after_include_part (letter ∷ text) = if letter == 34 then Some (unwrap_or (after_file_name text) text) else after_part (letter ∷ text)

-- what follows the part at the front of the body of a block
abbrev pub after_part_of : BlockKind → List ℕ → Option (List ℕ)
after_part_of Include text = after_include_part text
after_part_of kind text = after_part text

-- what follows the first `*/` outside of such parts. No part is empty, so as many steps serve as the text has bytes
abbrev pub after_body : BlockKind → (steps : ℕ) → List ℕ → Option (List ℕ)
after_body kind zero text = None
after_body kind (suc steps) text =
    if begins_with (codes "*/") text then Some (drop 2 text) else option_and_then (after_body kind steps) (after_part_of kind text)

-- what follows a block, behind its opener; an ignored one ends at the first `*/`
abbrev pub after_block : BlockKind → List ℕ → Option (List ℕ)
after_block Ignore text = after_closing text
after_block kind text = after_body kind (length text) text
