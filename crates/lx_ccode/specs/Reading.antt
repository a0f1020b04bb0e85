-- Reading a piece from the front of bytes. These functions take for granted that a valid piece's text stands there, and
-- look only at what tells the cases apart. Where another text stands there they give some piece, whose own text is another one.
use Rattle.std.specs.Prelude.{ℕ, zero, suc, min, ◌+◌, ◌*◌, ◌/◌, Bool, true, false, List, [], ◌∷◌, length, take, drop, not, reverse, codes, Option, Some, None, is_some, slice_index, ◌||◌, ◌==◌, if◌then◌else◌}
use Rattle.std.specs.Str.Parse.{digits_value}
use Rattle.lx_base.specs.Letters.{is_digit, is_in_identifier, is_in_spelling, begins_with, is_register, is_history_register, equal_words, is_hexadecimal, is_in_type, front_letters, after_letters}
use Rattle.lx_base.specs.Names.{Spellings, cursor, marker, context_marker, set_state, append_offset, append_negative, current_unit, last_accept, tag_prefix, label_prefix, condition_prefix}
use Rattle.lx_base.specs.declared.settings.Format.{Format}
use Rattle.lx_base.specs.declared.settings.Format.TheVariants.{Two, Three}
use Rattle.lx_base.specs.declared.settings.Enc.{Enc}
use Rattle.lx_base.specs.declared.settings.Enc.TheVariants.{Byte, Ucs2, Utf8, Utf16, Utf32}
use Rattle.lx_ccode.specs.declared.piece.Head.{Head}
use Rattle.lx_ccode.specs.declared.piece.Mode.{Mode}
use Rattle.lx_ccode.specs.declared.piece.Mode.TheVariants as mode
use Rattle.lx_ccode.specs.declared.piece.LineMark.{LineMark}
use Rattle.lx_ccode.specs.declared.piece.Stmt.{Stmt}
use Rattle.lx_ccode.specs.declared.piece.Stmt.TheVariants.{Peek, Skip, Backup, Restore, Accept, Set, Unset, Copy, MSet, MUnset, MCopy, IfUnit, IfIs, IfSet, IfAccept, IfEnd, State, Need, Try, Cond, Tag, Count, End, Back, Switch, Goto, Leave, Code, Jump}
use Rattle.lx_ccode.specs.declared.piece.StateCase.{StateCase}
use Rattle.lx_ccode.specs.declared.piece.CondCase.{CondCase}
use Rattle.lx_ccode.specs.declared.piece.CodeBlock.{CodeBlock}
use Rattle.lx_ccode.specs.declared.piece.SwitchCase.{SwitchCase}
use Rattle.lx_ccode.specs.declared.piece.Piece.{Piece}
use Rattle.lx_ccode.specs.Heads.{is_custom, is_three}
use Rattle.lx_ccode.specs.Labels.{block_front}
use Rattle.lx_ccode.specs.Statements.{ends_in_code, is_ending}

-- the number at the front
abbrev pub number_at : List ℕ → ℕ
number_at bytes = digits_value 10 (front_letters is_digit bytes)

-- the hexadecimal number at the front
abbrev pub hexadecimal_at : List ℕ → ℕ
hexadecimal_at bytes = digits_value 16 (front_letters is_hexadecimal bytes)

-- the byte at a place, or 0 behind the end
abbrev pub byte_at : List ℕ → ℕ → ℕ
byte_at bytes place = slice_index bytes place

-- ---- heads

-- the encoding of a word
unfoldable pub encoding_of : List ℕ → Enc
encoding_of word =
    if equal_words word (codes "ucs2") then Ucs2
    else if equal_words word (codes "utf8") then Utf8
    else if equal_words word (codes "utf16") then Utf16
    else if equal_words word (codes "utf32") then Utf32
    else Byte

-- the mode of a word
unfoldable pub mode_of : List ℕ → Mode
mode_of word =
    if equal_words word (codes "count") then mode.Count
    else if equal_words word (codes "eoffixed") then mode.EofFixed
    else if equal_words word (codes "eof") then mode.Eof
    else mode.Plain

-- the format of a digit
abbrev pub format_of : (digit : ℕ) → Format
format_of digit = if digit == 51 then Three else Two

-- the head whose encoding stands at the front, and what comes behind its line
unfoldable pub head_fields_at : Format → (custom : Bool) → List ℕ → Head × List ℕ
head_fields_at format custom bytes =
    let behind = drop 1 (after_letters is_in_identifier bytes) in
    let regs = drop 1 (after_letters is_in_identifier behind) in
    let mregs = drop 1 (after_letters is_digit regs) in
    let states = drop 1 (after_letters is_digit mregs) in (
      record {
        format = format;
        custom = custom;
        enc = encoding_of (front_letters is_in_identifier bytes);
        mode = mode_of (front_letters is_in_identifier behind);
        regs = number_at regs;
        mregs = number_at mregs;
        states = number_at states;
      },
      drop 3 (after_letters is_digit states),
    )

-- the head, where `kept` may stand before its encoding, whether it does, and what comes behind its line
unfoldable pub kept_fields_at : Format → (custom : Bool) → List ℕ → Head × Bool × List ℕ
kept_fields_at format custom bytes =
    if byte_at bytes 0 == 107 then
    (let fields = head_fields_at format custom (drop 5 bytes) in
    (fields.0, true, fields.1))
    else
    (let fields = head_fields_at format custom bytes in
    (fields.0, false, fields.1))

-- the head, behind `/*!head:re2c 2 `
unfoldable pub head_line_at : Format → List ℕ → Head × Bool × List ℕ
head_line_at format bytes = if byte_at bytes 0 == 99 then kept_fields_at format true (drop 7 bytes) else kept_fields_at format false bytes

-- the head, where its line stands, whether `kept` stands in it, and what comes behind it
unfoldable pub head_at : List ℕ → Option Head × Bool × List ℕ
head_at bytes =
    if byte_at bytes 3 == 104 then
    (let line = head_line_at (format_of (byte_at bytes 13)) (drop 15 bytes) in
    (Some line.0, line.1, line.2))
    else (None, false, bytes)

-- ---- lines of source files

-- the file's name up to the closing quote, and what comes behind that; a byte behind `\` stands for itself
abbrev pub file_at : (after_slash : Bool) → List ℕ → List ℕ × List ℕ
file_at after_slash [] = ([], [])
file_at true (letter ∷ bytes) = (letter ∷ (file_at false bytes).0, (file_at false bytes).1)
file_at false (letter ∷ bytes) =
    if letter == 34 then ([], bytes)
    else if letter == 92 then file_at true bytes
    else (letter ∷ (file_at false bytes).0, (file_at false bytes).1)

-- `#line L "FILE"`, at its `#`, and what comes behind its line
unfoldable pub mark_at : List ℕ → LineMark × List ℕ
mark_at bytes =
    let file = file_at false (drop 2 (after_letters is_digit (drop 6 bytes))) in
    (record { line = number_at (drop 6 bytes); file = file.0 }, drop 1 file.1)

-- a `#line`, where one stands
abbrev pub line_at : List ℕ → Option LineMark × List ℕ
line_at bytes = if byte_at bytes 0 == 35 then (Some (mark_at bytes).0, (mark_at bytes).1) else (None, bytes)

-- ---- registers and jumps

-- what comes behind `yyN_`
abbrev pub block_at : List ℕ → List ℕ
block_at bytes = drop 1 (after_letters is_digit (drop 2 bytes))

-- the block of ` goto yyN_S;`
unfoldable pub goto_block : List ℕ → ℕ
goto_block bytes = number_at (block_at (drop 6 bytes))

-- what comes behind ` goto yyN_S;` and its line feed
unfoldable pub goto_tail : List ℕ → List ℕ
goto_tail bytes = drop 2 (after_letters is_digit (block_at (drop 6 bytes)))

-- the word is the context marker
abbrev pub is_context_marker : Spellings → List ℕ → Bool
is_context_marker names word = equal_words word (context_marker names)

-- the register that a word names
unfoldable pub register_of : Spellings → List ℕ → ℕ
register_of names word =
    if is_context_marker names word then 1 else digits_value 10 (drop (length (tag_prefix names)) word)

-- the history that a word names
unfoldable pub history_of : Spellings → List ℕ → ℕ
history_of names word = digits_value 10 (drop 1 (drop (length (tag_prefix names)) word))

-- ---- statements

-- a statement, whether it names the context marker as register 1, and what comes behind its line
abbrev pub Read : Type 0
Read = Stmt × Bool × List ℕ

-- the statement `target = source;` where the target is a register, a history or a user's tag
unfoldable pub register_assigned : Spellings → (target source : List ℕ) → Stmt × Bool
register_assigned names target source =
    if is_context_marker names target || is_register (tag_prefix names) target then
    (if equal_words source (cursor names) then (Set (register_of names target), is_context_marker names target)
    else if equal_words source (codes "NULL") then (Unset (register_of names target), is_context_marker names target)
    else (Copy (register_of names target) (register_of names source), is_context_marker names target || is_context_marker names source))
    else if is_history_register (tag_prefix names) target then (MCopy (history_of names target) (history_of names source), false)
    else if is_context_marker names source then (Tag target false (register_of names source), true)
    else if is_history_register (tag_prefix names) source then (Tag target true (history_of names source), false)
    else (Tag target false (register_of names source), false)

-- the statement `target = source;`
unfoldable pub assigned : Spellings → (target source : List ℕ) → Stmt × Bool
assigned names target source =
    if equal_words target (current_unit names) then (Peek, false)
    else if equal_words target (last_accept names) then (Accept (digits_value 10 source), false)
    else if equal_words target (marker names) then (Backup, false)
    else if equal_words target (cursor names) then
    (if equal_words source (marker names) then (Restore, false)
    else (Back (register_of names source), is_context_marker names source))
    else if equal_words target (codes "yynmatch") then (Count (digits_value 10 source), false)
    else if begins_with (codes "yypmatch[") target then
    (End (number_at (drop 9 target)) (register_of names source), is_context_marker names source)
    else register_assigned names target source

-- the word before the last parentheses, which close the word
unfoldable pub callee : List ℕ → List ℕ
callee word = reverse (drop 1 (after_letters is_in_identifier (drop 1 (reverse word))))

-- the word in the last parentheses, which close the word
unfoldable pub argument : List ℕ → List ℕ
argument word = reverse (front_letters is_in_identifier (drop 1 (reverse word)))

-- the statement `name(value);`
unfoldable pub called : Spellings → (name value : List ℕ) → Stmt
called names name value =
    if equal_words name (append_offset names) then MSet (history_of names value)
    else if equal_words name (append_negative names) then MUnset (history_of names value)
    else if equal_words name (set_state names) then State (digits_value 10 value)
    else Cond (drop (length (condition_prefix names)) value)

-- the word between the parenthesis behind so many letters and the last one
unfoldable pub enclosed : (letters : ℕ) → List ℕ → List ℕ
enclosed letters word = reverse (drop 1 (reverse (drop letters word)))

-- a call, where the input is read by primitives of the user's: some of them, or another call
unfoldable pub primitive_called : Spellings → List ℕ → Stmt × Bool
primitive_called names word =
    if equal_words word (codes "YYSKIP()") then (Skip, false)
    else if equal_words word (codes "YYBACKUP()") then (Backup, false)
    else if equal_words word (codes "YYRESTORE()") then (Restore, false)
    else if begins_with (codes "YYSTAGP(") word then
    (Set (register_of names (enclosed 8 word)), is_context_marker names (enclosed 8 word))
    else if begins_with (codes "YYSTAGN(") word then
    (Unset (register_of names (enclosed 8 word)), is_context_marker names (enclosed 8 word))
    else if begins_with (codes "YYRESTORETAG(") word then
    (Back (register_of names (enclosed 13 word)), is_context_marker names (enclosed 13 word))
    else (called names (callee word) (argument word), false)

-- a call
abbrev pub call_of : (custom : Bool) → Spellings → List ℕ → Stmt × Bool
call_of false names word = (called names (callee word) (argument word), false)
call_of true names word = primitive_called names word

-- the bit of a mask that has one
abbrev pub bit_place : (mask : ℕ) → ℕ
bit_place mask =
    if mask == 1 then 0
    else if mask == 2 then 1
    else if mask == 4 then 2
    else if mask == 8 then 3
    else if mask == 16 then 4
    else if mask == 32 then 5
    else if mask == 64 then 6
    else 7

-- the set whose table is asked at `yybm[`, and what comes behind its mask
unfoldable pub set_at : List ℕ → ℕ × List ℕ
set_at bytes =
    let rest = after_letters is_in_spelling bytes in
    if byte_at rest 1 == 43 then
    (let mask = drop 5 (after_letters is_in_spelling (drop 3 rest)) in
    (8 * (hexadecimal_at (drop 7 bytes) / 256) + bit_place (hexadecimal_at mask), after_letters is_hexadecimal mask))
    else (bit_place (hexadecimal_at (drop 5 rest)), after_letters is_hexadecimal (drop 5 rest))

-- a test of a set, at `yybm[`, with so many parentheses behind its mask
unfoldable pub set_test_at : (closing : ℕ) → List ℕ → Read
set_test_at closing bytes =
    let set = set_at bytes in
    (IfSet set.0 (goto_block (drop closing set.1)), false, goto_tail (drop closing set.1))

-- a test behind the word before its `<=`
unfoldable pub less_at : List ℕ → Read
less_at rest =
    let next = after_letters is_hexadecimal (drop 6 rest) in
    if byte_at next 0 == 32 then set_test_at 2 (drop 5 next)
    else (IfUnit (hexadecimal_at (drop 6 rest)) (goto_block (drop 1 next)), false, goto_tail (drop 1 next))

-- a statement, behind its `if (`, where the input is read through pointers
unfoldable pub if_at : Spellings → List ℕ → Read
if_at names bytes =
    let word = front_letters is_in_spelling bytes in
    let rest = after_letters is_in_spelling bytes in
    if byte_at rest 1 == 60 then less_at rest
    else if byte_at rest 1 == 62 then
    (let next = after_letters is_in_spelling (drop 4 rest) in
    (IfEnd (goto_block next), false, goto_tail next))
    else if byte_at rest 1 == 45 then
    (let next = drop 3 (after_letters is_in_spelling (drop 3 rest)) in
    (Need (number_at next), false, drop 2 (after_letters is_in_spelling (drop 2 (after_letters is_digit next)))))
    else if byte_at rest 2 == 32 then set_test_at 1 bytes
    else if byte_at rest 5 == 120 then
    (let next = drop 1 (after_letters is_hexadecimal (drop 6 rest)) in
    (IfIs (hexadecimal_at (drop 6 rest)) (goto_block next), false, goto_tail next))
    else if equal_words word (last_accept names) then
    (let next = drop 1 (after_letters is_digit (drop 4 rest)) in
    (IfAccept (number_at (drop 4 rest)) (goto_block next), false, goto_tail next))
    else (Try (goto_block (drop 6 rest)), false, goto_tail (drop 6 rest))

-- a statement, behind its `if (`, where the input is read by primitives of the user's
unfoldable pub primitive_if_at : Spellings → List ℕ → Read
primitive_if_at names bytes =
    let rest = after_letters is_in_spelling bytes in
    let next = after_letters is_in_spelling (drop 1 rest) in
    if ((byte_at rest 1 == 60) || (byte_at rest 1 == 61)) || (byte_at rest 2 == 32) then if_at names bytes
    else if byte_at next 0 == 32 then (IfEnd (goto_block rest), false, goto_tail rest)
    else (Need (number_at (drop 11 bytes)), false, drop 2 next)

-- a statement, behind its `if (`
abbrev pub test_at : (custom : Bool) → Spellings → List ℕ → Read
test_at false names bytes = if_at names bytes
test_at true names bytes = primitive_if_at names bytes

-- ---- switches over units

-- the block of `goto yyN_S;`
abbrev pub case_goto : List ℕ → ℕ
case_goto bytes = number_at (block_at (drop 5 bytes))

-- what comes behind `goto yyN_S;` and its line feed
abbrev pub case_tail : List ℕ → List ℕ
case_tail bytes = drop 2 (after_letters is_digit (block_at (drop 5 bytes)))

-- the units of a case, at most as many as the fuel
unfoldable pub units_at : (fuel : ℕ) → List ℕ → List ℕ × List ℕ
units_at zero bytes = ([], bytes)
units_at (suc fuel) bytes =
    if byte_at bytes 0 == 99 then
    (let others = units_at fuel (drop 2 (after_letters is_hexadecimal (drop 7 bytes))) in
    (hexadecimal_at (drop 7 bytes) ∷ others.0, others.1))
    else ([], bytes)

-- the cases of a switch over units, at most as many as the first fuel
unfoldable pub switch_cases_at : (cases fuel : ℕ) → List ℕ → List SwitchCase × List ℕ
switch_cases_at zero fuel bytes = ([], bytes)
switch_cases_at (suc cases) fuel bytes =
    if byte_at bytes 1 == 99 then
    (let units = units_at fuel (drop 1 bytes) in
    let others = switch_cases_at cases fuel (case_tail units.1) in
    (record { units = units.0; block = case_goto units.1 } ∷ others.0, others.1))
    else ([], bytes)

-- a switch over units, behind its `switch (`
unfoldable pub switch_at : List ℕ → Read
switch_at bytes =
    let cases = switch_cases_at (length bytes) (length bytes) (drop 3 (after_letters is_in_spelling bytes)) in
    let last = drop 9 cases.1 in
    (Switch cases.0 (goto_block last), false, drop 3 (goto_tail last))

-- a statement, behind its `if (` or its `switch (`, where it begins at these bytes
abbrev pub test_or_switch_at : (custom : Bool) → Spellings → (start bytes : List ℕ) → Read
test_or_switch_at custom names start bytes = if byte_at start 1 == 115 then switch_at bytes else test_at custom names bytes

-- a statement, behind its `goto `
unfoldable pub goto_at : Spellings → List ℕ → Read
goto_at names bytes =
    let rest = after_letters is_in_identifier bytes in
    if byte_at rest 1 == 32 then
    (Jump (drop (length (label_prefix names)) (front_letters is_in_identifier bytes)) (number_at (drop 5 rest)), false, drop 4 (after_letters is_digit (drop 5 rest)))
    else if is_digit (byte_at (block_at bytes) 0) then
    (Goto (number_at (block_at bytes)), false, drop 2 (after_letters is_digit (block_at bytes)))
    else (Leave, false, drop 2 rest)

-- a user's action, at the tab before its `/*!code`
unfoldable pub code_at : Option LineMark → List ℕ → Read
code_at line bytes =
    let rest = after_letters is_digit (drop 14 bytes) in
    let next = after_letters is_digit (drop 1 rest) in
    (Code (number_at (drop 14 bytes)) line (take (number_at (drop 1 rest)) (drop 2 next)), false, drop 1 (drop (number_at (drop 1 rest)) (drop 2 next)))

-- a statement, at its tab or at the `#` of its `#line`
unfoldable pub statement_at : (custom : Bool) → Spellings → List ℕ → Read
statement_at custom names bytes =
    if byte_at bytes 0 == 35 then code_at (Some (mark_at bytes).0) (mark_at bytes).1
    else
    let word = front_letters is_in_spelling (drop 1 bytes) in
    let rest = after_letters is_in_spelling (drop 1 bytes) in
    if byte_at rest 0 == 43 then (Skip, false, drop 2 (after_letters is_in_spelling (drop 2 rest)))
    else if byte_at rest 0 == 47 then code_at None bytes
    else if byte_at rest 0 == 59 then ((call_of custom names word).0, (call_of custom names word).1, drop 2 rest)
    else if byte_at rest 1 == 61 then
    (let source = front_letters is_in_spelling (drop 3 rest) in
    ((assigned names word source).0, (assigned names word source).1, drop 2 (after_letters is_in_spelling (drop 3 rest))))
    else if byte_at rest 1 == 40 then test_or_switch_at custom names bytes (drop 2 rest)
    else goto_at names (drop 1 rest)

-- a statement begins with a tab or a `#`
abbrev pub begins_statement : List ℕ → Bool
begins_statement bytes = (byte_at bytes 0 == 9) || (byte_at bytes 0 == 35)

-- the statements at the front up to one that ends a block, at most as many as the fuel
unfoldable pub statements_at : (fuel : ℕ) → (custom : Bool) → Spellings → List ℕ → List Stmt × Bool × List ℕ
statements_at zero custom names bytes = ([], false, bytes)
statements_at (suc fuel) custom names bytes =
    if begins_statement bytes then
    (let first = statement_at custom names bytes in
    if is_ending first.0 then (first.0 ∷ [], first.1, first.2)
    else
    let others = statements_at fuel custom names first.2 in
    (first.0 ∷ others.0, first.1 || others.1, others.2))
    else ([], false, bytes)

-- ---- blocks

-- what the blocks of a piece depend on beside their bytes
pub record Manner : Type 0 where
  pub names : Spellings
  -- the input is read by primitives of the user's
  pub custom : Bool
  -- the piece is of format 3
  pub three : Bool
  -- a `#line` stands behind each user's action
  pub placed : Bool
  -- how the labels of blocks begin, `yyN_`
  pub front : List ℕ

-- what comes behind a block with these statements
abbrev pub behind_block : Manner → List Stmt → List ℕ → List ℕ
behind_block manner statements bytes = if (if manner.placed then ends_in_code statements else false) then (mark_at bytes).1 else bytes

-- the statements of a block whose labels were read
abbrev pub body_at : (fuel : ℕ) → Manner → Option (List ℕ) → List ℕ → CodeBlock × Bool × List ℕ
body_at fuel manner cond bytes =
    let statements = statements_at fuel manner.custom manner.names bytes in
    (record { cond = cond; stmts = statements.0 }, statements.1, behind_block manner statements.0 statements.2)

-- the condition of a label that stands alone: none where it is the block's own, which in formats before 3 always stands
abbrev pub lone_label : Manner → (word : List ℕ) → Option (List ℕ)
lone_label manner word =
    if (if manner.three then begins_with manner.front word else true) then None
    else Some (drop (length (label_prefix manner.names)) word)

-- one block; of two labels the first is a condition's
unfoldable pub code_block_at : (fuel : ℕ) → Manner → List ℕ → CodeBlock × Bool × List ℕ
code_block_at fuel manner bytes =
    if begins_statement bytes then body_at fuel manner None bytes
    else
    let word = front_letters is_in_identifier bytes in
    let rest = drop 2 (after_letters is_in_identifier bytes) in
    if begins_statement rest then body_at fuel manner (lone_label manner word) rest
    else body_at fuel manner (Some (drop (length (label_prefix manner.names)) word)) (drop 2 (after_letters is_in_identifier rest))

-- no block begins here, but the brace or `yyN_none:;`
abbrev pub ends_blocks : List ℕ → Bool
ends_blocks bytes =
    if begins_statement bytes then false
    else (byte_at bytes 0 == 125) || (byte_at (after_letters is_in_identifier bytes) 1 == 59)

-- the blocks, at most as many as the first fuel
unfoldable pub blocks_at : (blocks fuel : ℕ) → Manner → List ℕ → List CodeBlock × Bool × List ℕ
blocks_at zero fuel manner bytes = ([], false, bytes)
blocks_at (suc blocks) fuel manner bytes =
    if ends_blocks bytes then ([], false, bytes)
    else
    (let first = code_block_at fuel manner bytes in
    let others = blocks_at blocks fuel manner first.2 in
    (first.0 ∷ others.0, first.1 || others.1, others.2))

-- what comes behind the label behind the blocks, where it stands, and the brace
abbrev pub behind_brace : List ℕ → List ℕ
behind_brace bytes = if byte_at bytes 0 == 125 then drop 2 bytes else drop 9 (block_at bytes)

abbrev pub onto_conds : Option (List ℕ) → (place : ℕ) → List CondCase → List CondCase
onto_conds None place cases = cases
onto_conds (Some cond) place cases = record { cond = cond; block = place } ∷ cases

-- the conditions that blocks are starts of, in order, where the first block has this place
abbrev pub conds_from : (place : ℕ) → List CodeBlock → List CondCase
conds_from place [] = []
conds_from place (block ∷ blocks) = onto_conds block.cond place (conds_from (suc place) blocks)

-- ---- what stands before the blocks

-- so many spellings ` L:T`
unfoldable pub names_at : (count : ℕ) → List ℕ → Spellings × List ℕ
names_at zero bytes = ([], bytes)
names_at (suc count) bytes =
    let size = number_at (drop 1 bytes) in
    let rest = drop 1 (after_letters is_digit (drop 1 bytes)) in
    let others = names_at count (drop size rest) in
    (take size rest ∷ others.0, others.1)

-- the unit that the buffer holds at its end, or `-`
unfoldable pub eof_at : List ℕ → Option ℕ × List ℕ
eof_at bytes = if byte_at bytes 0 == 45 then (None, drop 1 bytes) else (Some (number_at bytes), after_letters is_digit bytes)

abbrev pub is_tab : List ℕ → Bool
is_tab bytes = byte_at bytes 0 == 9

-- the bytes of the table, at most as many as the fuel
unfoldable pub cells_at : (fuel : ℕ) → List ℕ → List ℕ × List ℕ
cells_at zero bytes = ([], bytes)
cells_at (suc fuel) bytes =
    if byte_at bytes 1 == 125 then ([], bytes)
    else
    (let number = drop 2 (if is_tab bytes then drop 1 bytes else bytes) in
    let next = drop 1 (after_letters is_hexadecimal number) in
    let others = cells_at fuel (if byte_at next 0 == 10 then drop 1 next else next) in
    (hexadecimal_at number ∷ others.0, others.1))

-- the table of sets, where it stands
unfoldable pub table_at : (fuel : ℕ) → List ℕ → List ℕ × List ℕ
table_at fuel bytes =
    let rest = after_letters is_in_type (drop 1 bytes) in
    if (if is_tab bytes then byte_at rest 0 == 91 else false) then
    (let cells = cells_at fuel (drop 6 (after_letters is_digit (drop 1 rest))) in
    (cells.0, drop 4 cells.1))
    else ([], bytes)

-- the declarations, where they stand
unfoldable pub declarations_at : List ℕ → Bool × List ℕ
declarations_at bytes =
    if (if is_tab bytes then byte_at (after_letters is_in_type (drop 1 bytes)) 0 == 59 else false) then
    (true, drop 6 (after_letters is_in_identifier (drop 16 (after_letters is_in_type (drop 1 bytes)))))
    else (false, bytes)

-- the cases of a switch over stored states, at most as many as the fuel
unfoldable pub state_cases_at : (fuel : ℕ) → List ℕ → List StateCase × List ℕ
state_cases_at zero bytes = ([], bytes)
state_cases_at (suc fuel) bytes =
    if byte_at bytes 1 == 99 then
    (let next = drop 1 (after_letters is_digit (drop 6 bytes)) in
    let others = state_cases_at fuel (goto_tail next) in
    (record { state = number_at (drop 6 bytes); block = goto_block next } ∷ others.0, others.1))
    else ([], bytes)

-- the switch over stored states, where it stands
unfoldable pub state_switch_at : (fuel : ℕ) → List ℕ → Option (List StateCase) × List ℕ
state_switch_at fuel bytes =
    if is_tab bytes then
    (let cases = state_cases_at fuel (drop 3 (after_letters is_in_spelling (drop 9 bytes))) in
    (Some cases.0, drop 5 (after_letters is_in_identifier (drop 15 cases.1))))
    else (None, bytes)

-- the cases of the switch over conditions, at most as many as the fuel
unfoldable pub cond_cases_at : (fuel : ℕ) → Spellings → List ℕ → List CondCase × List ℕ
cond_cases_at zero names bytes = ([], bytes)
cond_cases_at (suc fuel) names bytes =
    if byte_at bytes 1 == 99 then
    (let next = drop 1 (after_letters is_in_identifier (drop 6 bytes)) in
    let others = cond_cases_at fuel names (goto_tail next) in
    (record { cond = drop (length (condition_prefix names)) (front_letters is_in_identifier (drop 6 bytes)); block = goto_block next } ∷ others.0, others.1))
    else ([], bytes)

-- the switch over conditions, where it stands
unfoldable pub cond_switch_at : (fuel : ℕ) → Spellings → List ℕ → List CondCase × List ℕ
cond_switch_at fuel names bytes =
    if is_digit (byte_at (block_at bytes) 0) then ([], bytes)
    else
    (let cases = cond_cases_at fuel names (drop 3 (after_letters is_in_spelling (drop 15 (block_at bytes)))) in
    (cases.0, drop 3 cases.1))

-- ---- what stands before the blocks in format 3

-- the declaration of the current unit, where it stands
unfoldable pub behind_unit_line : List ℕ → List ℕ
behind_unit_line bytes =
    let rest = after_letters is_in_type (drop 1 bytes) in
    if (if is_tab bytes then byte_at rest 0 == 59 else false) then drop 2 rest else bytes

-- the declaration of the last accepting state, where it stands
unfoldable pub behind_accept_line : List ℕ → List ℕ
behind_accept_line bytes =
    let rest = after_letters is_in_type (drop 1 bytes) in
    if (if is_tab bytes then byte_at rest 0 == 61 else false) then drop 5 rest else bytes

-- the cases of a switch at these bytes
abbrev pub switch_lines : List ℕ → List ℕ
switch_lines bytes = drop 3 (after_letters is_in_spelling (drop 9 bytes))

-- a switch at these bytes is over stored states: its first case has a number, or it has only the default
unfoldable pub is_state_switch : List ℕ → Bool
is_state_switch bytes = (byte_at (switch_lines bytes) 1 == 100) || is_digit (byte_at (switch_lines bytes) 6)

-- the switch over stored states, where it stands
unfoldable pub states_at : (fuel : ℕ) → List ℕ → Option (List StateCase) × List ℕ
states_at fuel bytes = if (if is_tab bytes then is_state_switch bytes else false) then state_switch_at fuel bytes else (None, bytes)

-- what comes behind the cases of the switch over conditions, at most as many as the fuel
unfoldable pub behind_label_cases : (fuel : ℕ) → List ℕ → List ℕ
behind_label_cases zero bytes = bytes
behind_label_cases (suc fuel) bytes =
    if byte_at bytes 1 == 99 then
    behind_label_cases fuel (drop 2 (after_letters is_in_identifier (drop 7 (after_letters is_in_identifier (drop 6 bytes)))))
    else bytes

-- what comes behind the label of the switch over conditions, where it stands
unfoldable pub behind_cond_label : List ℕ → List ℕ
behind_cond_label bytes = if (byte_at bytes 0 == 9) || (byte_at bytes 0 == 10) then bytes else drop 2 (after_letters is_in_identifier bytes)

-- what comes behind the switch over conditions, where it stands
unfoldable pub behind_label_switch : (fuel : ℕ) → List ℕ → List ℕ
behind_label_switch fuel bytes = if is_tab bytes then drop 3 (behind_label_cases fuel (switch_lines bytes)) else bytes

-- ---- the piece

-- whether the piece declares the variables, the switch over stored states, the conditions, and what comes behind the switches
abbrev pub Sections : Type 0
Sections = Bool × Option (List StateCase) × List CondCase × List ℕ

-- what stands before the blocks in formats before 3
unfoldable pub old_sections_at : (fuel : ℕ) → Spellings → List ℕ → Sections
old_sections_at fuel names bytes =
    let declares = declarations_at bytes in
    let states = state_switch_at fuel declares.1 in
    let conds = cond_switch_at fuel names states.1 in
    (declares.0, states.0, conds.0, conds.1)

-- what stands before the blocks in format 3, where the conditions are read from the labels
unfoldable pub sections_at : (fuel : ℕ) → (kept : Bool) → List ℕ → Sections
sections_at fuel kept bytes =
    let states = states_at fuel (behind_accept_line (behind_unit_line bytes)) in
    (not kept, states.0, [], drop 1 (behind_label_switch fuel (behind_cond_label states.1)))

-- what stands before the blocks, by the format
abbrev pub sections_of : (three : Bool) → (fuel : ℕ) → (kept : Bool) → Spellings → List ℕ → Sections
sections_of three fuel kept names bytes = if three then sections_at fuel kept bytes else old_sections_at fuel names bytes

-- the piece at the front, whose number has 32 bits, its place in the output where it has one, and what comes behind it, with fuel for
-- each of its lists
unfoldable pub reading : (fuel : ℕ) → List ℕ → Piece × Option LineMark × List ℕ
reading fuel bytes =
    let number = drop 14 bytes in
    let head = head_at (drop 3 (after_letters is_digit number)) in
    let unit = drop 14 head.2 in
    let eof = eof_at (drop 1 (after_letters is_digit unit)) in
    let names = names_at 17 eof.1 in
    let place = line_at (drop 3 names.1) in
    let table = table_at fuel (drop 2 place.1) in
    let sections = sections_of (is_three head.0) fuel head.1 names.0 table.1 in
    let manner : Manner = record { names = names.0; custom = is_custom head.0; three = is_three head.0; placed = is_some place.0; front = block_front (min (number_at number) 4294967295) } in
    let blocks = blocks_at fuel fuel manner sections.3 in
    let line = line_at (behind_brace blocks.2) in
    let conds = if is_three head.0 then conds_from 0 blocks.0 else sections.2 in
    (record { number = number_at number; head = head.0; names = names.0; unit = number_at unit; eof = eof.0; declares = sections.0; ctx = blocks.1; table = table.0; states = sections.1; conds = conds; blocks = blocks.0; line = line.0 }, place.0, drop 13 line.1)

-- the piece at the front of the bytes, where the text of one stands there, its place in the output, and what comes behind it
unfoldable pub piece_at : List ℕ → Piece × Option LineMark × List ℕ
piece_at bytes = reading (length bytes) bytes
