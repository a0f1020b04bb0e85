-- The text of a piece: one spelling each, by how its input is read. A function named `.. _then` gives a text with another behind it.
use Rattle.std.specs.Prelude.{ℕ, zero, suc, ◌*◌, ◌/◌, ◌%◌, ◌^◌, min, ◌+◌, Bool, true, false, List, [], ◌∷◌, ◌++◌, length, codes, Option, Some, None, is_some, not, slice_index_or, nat_lt, ◌||◌, ◌==◌, if◌then◌else◌}
use Rattle.std.specs.Fmt.{decimal, digits}
use Rattle.std.specs.List.{list_any}
use Rattle.lx_base.specs.Text.{joined}
use Rattle.lx_base.specs.Names.{Spellings, unit_type, cursor, limit, marker, refill, get_state, set_state, get_condition, set_condition, append_offset, append_negative, current_unit, last_accept, label_prefix, condition_prefix}
use Rattle.lx_ccode.specs.declared.piece.LineMark.{LineMark}
use Rattle.lx_ccode.specs.declared.piece.Stmt.{Stmt}
use Rattle.lx_ccode.specs.declared.piece.Stmt.TheVariants.{Peek, Skip, Backup, Restore, Accept, Set, Unset, Copy, MSet, MUnset, MCopy, IfUnit, IfIs, IfSet, IfAccept, IfEnd, State, Need, Try, Cond, Tag, Count, End, Back, Switch, Goto, Leave, Code, Jump}
use Rattle.lx_ccode.specs.declared.piece.StateCase.{StateCase}
use Rattle.lx_ccode.specs.declared.piece.CondCase.{CondCase}
use Rattle.lx_ccode.specs.declared.piece.CodeBlock.{CodeBlock}
use Rattle.lx_ccode.specs.declared.piece.SwitchCase.{SwitchCase}
use Rattle.lx_ccode.specs.declared.piece.Piece.{Piece}
use Rattle.lx_ccode.specs.Heads.{head_then, is_kept, is_three}
use Rattle.lx_ccode.specs.Registers.{register_text, history_text}
use Rattle.lx_ccode.specs.Statements.{all_statements, ends_in_code, has_accept, has_unit, is_leave}
use Rattle.lx_ccode.specs.Wording.{Wording, wording_of}

-- at least two digits, in upper case
abbrev pub hexadecimal : ℕ → List ℕ
hexadecimal number = if nat_lt number 16 then 48 ∷ digits 16 true number else digits 16 true number

-- a file's name in a C string: `\` and `"` behind a `\`
abbrev pub escaped : List ℕ → List ℕ
escaped [] = []
escaped (letter ∷ name) = if (letter == 34) || (letter == 92) then 92 ∷ letter ∷ escaped name else letter ∷ escaped name

-- the line `#line L "FILE"`, where there is one
abbrev pub line_then : Option LineMark → List ℕ → List ℕ
line_then None tail = tail
line_then (Some mark) tail = joined (codes "#line " ∷ decimal mark.line ∷ codes " \"" ∷ escaped mark.file ∷ codes "\"\n" ∷ []) tail

-- `yyN_S`, the label of block S in piece N
abbrev pub block_then : (number block : ℕ) → List ℕ → List ℕ
block_then number block tail = joined (codes "yy" ∷ decimal number ∷ codes "_" ∷ decimal block ∷ []) tail

-- the end of a line that jumps to a block
abbrev pub goto_then : (number block : ℕ) → List ℕ → List ℕ
goto_then number block tail = joined (codes " goto " ∷ []) (block_then number block (joined (codes ";\n" ∷ []) tail))

-- the place of a group of eight sets in the table, where it is not the first
abbrev pub group_text : ℕ → List ℕ
group_text zero = []
group_text (suc group) = codes "0x" ++ (hexadecimal (256 * suc group) ++ codes " + ")

-- a test of a set of units; of units of more than one byte it holds for those up to 0xFF only
abbrev pub set_test_then : (wide : Bool) → Wording → (set block : ℕ) → List ℕ → List ℕ
set_test_then false wording set block tail =
    joined (codes "\tif (yybm[" ∷ group_text (set / 8) ∷ current_unit wording.names ∷ codes "] & 0x" ∷ hexadecimal (2 ^ (set % 8)) ∷ codes ")" ∷ []) (
    goto_then wording.number block tail)
set_test_then true wording set block tail =
    joined (codes "\tif (" ∷ current_unit wording.names ∷ codes " <= 0xFF && (yybm[" ∷ group_text (set / 8) ∷ current_unit wording.names ∷ codes "] & 0x"
    ∷ hexadecimal (2 ^ (set % 8)) ∷ codes "))" ∷ []) (goto_then wording.number block tail)

-- units of a switch
abbrev pub units_then : List ℕ → List ℕ → List ℕ
units_then [] tail = tail
units_then (unit ∷ units) tail = joined (codes "case 0x" ∷ hexadecimal unit ∷ codes ": " ∷ []) (units_then units tail)

-- a case of a switch over units
abbrev pub switch_case_then : (number : ℕ) → SwitchCase → List ℕ → List ℕ
switch_case_then number case tail =
    joined (codes "\t" ∷ []) (units_then case.units (joined (codes "goto " ∷ []) (block_then number case.block (joined (codes ";\n" ∷ []) tail))))

-- the cases of a switch over units
abbrev pub switch_cases_then : (number : ℕ) → List SwitchCase → List ℕ → List ℕ
switch_cases_then number [] tail = tail
switch_cases_then number (case ∷ cases) tail = switch_case_then number case (switch_cases_then number cases tail)

-- a switch over units
abbrev pub switch_then : Wording → List SwitchCase → (last : ℕ) → List ℕ → List ℕ
switch_then wording cases last tail =
    joined (codes "\tswitch (" ∷ current_unit wording.names ∷ codes ") {\n" ∷ []) (switch_cases_then wording.number cases (
    joined (codes "\tdefault:" ∷ []) (goto_then wording.number last (joined (codes "\t}\n" ∷ []) tail))))

-- the line of a statement, where the input is read through pointers
abbrev pub pointer_then : Wording → Stmt → List ℕ → List ℕ
pointer_then wording Peek tail =
    joined (codes "\t" ∷ current_unit wording.names ∷ codes " = *" ∷ cursor wording.names ∷ codes ";\n" ∷ []) tail
pointer_then wording Skip tail =
    joined (codes "\t++" ∷ cursor wording.names ∷ codes ";\n" ∷ []) tail
pointer_then wording Backup tail =
    joined (codes "\t" ∷ marker wording.names ∷ codes " = " ∷ cursor wording.names ∷ codes ";\n" ∷ []) tail
pointer_then wording Restore tail =
    joined (codes "\t" ∷ cursor wording.names ∷ codes " = " ∷ marker wording.names ∷ codes ";\n" ∷ []) tail
pointer_then wording (Accept accept) tail =
    joined (codes "\t" ∷ last_accept wording.names ∷ codes " = " ∷ decimal accept ∷ codes ";\n" ∷ []) tail
pointer_then wording (Set register) tail =
    joined (codes "\t" ∷ register_text wording.names wording.ctx register ∷ codes " = " ∷ cursor wording.names ∷ codes ";\n" ∷ []) tail
pointer_then wording (Unset register) tail =
    joined (codes "\t" ∷ register_text wording.names wording.ctx register ∷ codes " = NULL;\n" ∷ []) tail
pointer_then wording (Copy register source) tail =
    joined (codes "\t" ∷ register_text wording.names wording.ctx register ∷ codes " = " ∷ register_text wording.names wording.ctx source ∷ codes ";\n" ∷ []) tail
pointer_then wording (MSet history) tail =
    joined (codes "\t" ∷ append_offset wording.names ∷ codes "(" ∷ history_text wording.names history ∷ codes ");\n" ∷ []) tail
pointer_then wording (MUnset history) tail =
    joined (codes "\t" ∷ append_negative wording.names ∷ codes "(" ∷ history_text wording.names history ∷ codes ");\n" ∷ []) tail
pointer_then wording (MCopy history source) tail =
    joined (codes "\t" ∷ history_text wording.names history ∷ codes " = " ∷ history_text wording.names source ∷ codes ";\n" ∷ []) tail
pointer_then wording (IfUnit greatest block) tail =
    joined (codes "\tif (" ∷ current_unit wording.names ∷ codes " <= 0x" ∷ hexadecimal greatest ∷ codes ")" ∷ []) (goto_then wording.number block tail)
pointer_then wording (IfIs unit block) tail =
    joined (codes "\tif (" ∷ current_unit wording.names ∷ codes " == 0x" ∷ hexadecimal unit ∷ codes ")" ∷ []) (goto_then wording.number block tail)
pointer_then wording (IfSet set block) tail = set_test_then (nat_lt 1 wording.unit) wording set block tail
pointer_then wording (IfAccept accept block) tail =
    joined (codes "\tif (" ∷ last_accept wording.names ∷ codes " == " ∷ decimal accept ∷ codes ")" ∷ []) (goto_then wording.number block tail)
pointer_then wording (IfEnd block) tail =
    joined (codes "\tif (" ∷ cursor wording.names ∷ codes " >= " ∷ limit wording.names ∷ codes ")" ∷ []) (goto_then wording.number block tail)
pointer_then wording (State state) tail =
    joined (codes "\t" ∷ set_state wording.names ∷ codes "(" ∷ decimal state ∷ codes ");\n" ∷ []) tail
pointer_then wording (Need units) tail =
    joined (codes "\tif ((" ∷ limit wording.names ∷ codes " - " ∷ cursor wording.names ∷ codes ") < " ∷ decimal units ∷ codes ") " ∷ refill wording.names ∷ codes "(" ∷ decimal units ∷ codes ");\n" ∷ []) tail
pointer_then wording (Try block) tail =
    joined (codes "\tif (" ∷ refill wording.names ∷ codes "() == 0)" ∷ []) (goto_then wording.number block tail)
pointer_then wording (Cond cond) tail =
    joined (codes "\t" ∷ set_condition wording.names ∷ codes "(" ∷ (condition_prefix wording.names ++ cond) ∷ codes ");\n" ∷ []) tail
pointer_then wording (Tag tag true history) tail =
    joined (codes "\t" ∷ tag ∷ codes " = " ∷ history_text wording.names history ∷ codes ";\n" ∷ []) tail
pointer_then wording (Tag tag false register) tail =
    joined (codes "\t" ∷ tag ∷ codes " = " ∷ register_text wording.names wording.ctx register ∷ codes ";\n" ∷ []) tail
pointer_then wording (Count groups) tail =
    joined (codes "\tyynmatch = " ∷ decimal groups ∷ codes ";\n" ∷ []) tail
pointer_then wording (End place register) tail =
    joined (codes "\tyypmatch[" ∷ decimal place ∷ codes "] = " ∷ register_text wording.names wording.ctx register ∷ codes ";\n" ∷ []) tail
pointer_then wording (Back register) tail =
    joined (codes "\t" ∷ cursor wording.names ∷ codes " = " ∷ register_text wording.names wording.ctx register ∷ codes ";\n" ∷ []) tail
pointer_then wording (Switch cases last) tail = switch_then wording cases last tail
pointer_then wording (Goto block) tail =
    joined (codes "\tgoto " ∷ []) (block_then wording.number block (joined (codes ";\n" ∷ []) tail))
pointer_then wording Leave tail =
    joined (codes "\tgoto yy" ∷ decimal wording.number ∷ codes "_none;\n" ∷ []) tail
pointer_then wording (Code rule line action) tail =
    line_then line (joined (codes "\t/*!code:re2c " ∷ decimal rule ∷ codes " " ∷ decimal (length action) ∷ codes "*/" ∷ action ∷ codes "\n" ∷ []) tail)
pointer_then wording (Jump cond rule) tail =
    joined (codes "\tgoto " ∷ (label_prefix wording.names ++ cond) ∷ codes "; /* " ∷ decimal rule ∷ codes " */\n" ∷ []) tail

-- the line of a statement, where the input is read by primitives of the user's: nine statements have another line
abbrev pub custom_then : Wording → Stmt → List ℕ → List ℕ
custom_then wording Peek tail =
    joined (codes "\t" ∷ current_unit wording.names ∷ codes " = YYPEEK();\n" ∷ []) tail
custom_then wording Skip tail =
    joined (codes "\tYYSKIP();\n" ∷ []) tail
custom_then wording Backup tail =
    joined (codes "\tYYBACKUP();\n" ∷ []) tail
custom_then wording Restore tail =
    joined (codes "\tYYRESTORE();\n" ∷ []) tail
custom_then wording (Set register) tail =
    joined (codes "\tYYSTAGP(" ∷ register_text wording.names wording.ctx register ∷ codes ");\n" ∷ []) tail
custom_then wording (Unset register) tail =
    joined (codes "\tYYSTAGN(" ∷ register_text wording.names wording.ctx register ∷ codes ");\n" ∷ []) tail
custom_then wording (Back register) tail =
    joined (codes "\tYYRESTORETAG(" ∷ register_text wording.names wording.ctx register ∷ codes ");\n" ∷ []) tail
custom_then wording (Need units) tail =
    joined (codes "\tif (YYLESSTHAN(" ∷ decimal units ∷ codes ")) " ∷ refill wording.names ∷ codes "(" ∷ decimal units ∷ codes ");\n" ∷ []) tail
custom_then wording (IfEnd block) tail =
    joined (codes "\tif (YYLESSTHAN(1))" ∷ []) (goto_then wording.number block tail)
custom_then wording statement tail = pointer_then wording statement tail

-- the line of a statement, by how the input is read
abbrev pub line_by : (custom : Bool) → Wording → Stmt → List ℕ → List ℕ
line_by false wording statement tail = pointer_then wording statement tail
line_by true wording statement tail = custom_then wording statement tail

-- the line of a statement
abbrev pub statement_then : Wording → Stmt → List ℕ → List ℕ
statement_then wording statement tail = line_by wording.custom wording statement tail

-- the lines of statements, in order
abbrev pub statements_then : Wording → List Stmt → List ℕ → List ℕ
statements_then wording [] tail = tail
statements_then wording (statement ∷ statements) tail =
    statement_then wording statement (statements_then wording statements tail)

-- a condition's label, where the block is its start
abbrev pub label_then : Spellings → Option (List ℕ) → List ℕ → List ℕ
label_then names None tail = tail
label_then names (Some cond) tail = joined ((label_prefix names ++ cond) ∷ codes ":\n" ∷ []) tail

-- how many lines end in the text
abbrev pub feeds : List ℕ → ℕ
feeds [] = 0
feeds (letter ∷ text) = if letter == 10 then suc (feeds text) else feeds text

-- the line where the next text begins, when this text begins in a line of the file: C's numbers of lines stop before 2^31, and these
-- at the greatest of 32 bits
abbrev pub line_after : (line : ℕ) → (text : List ℕ) → ℕ
line_after line text = min (line + feeds text) 4294967295

-- the same, where lines are counted
abbrev pub line_behind : (line : Option ℕ) → (text : List ℕ) → Option ℕ
line_behind None text = None
line_behind (Some line) text = Some (line_after line text)

-- a line of the file, where lines are counted
abbrev pub mark_of : (file : List ℕ) → (line : Option ℕ) → Option LineMark
mark_of file None = None
mark_of file (Some line) = Some (record { line = line; file = file })

-- the label of a block, where it stands
abbrev pub block_label_then : (stands : Bool) → (number place : ℕ) → List ℕ → List ℕ
block_label_then false number place tail = tail
block_label_then true number place tail = block_then number place (joined (codes ":\n" ∷ []) tail)

-- the labels of a block and its statements
abbrev pub block_lines_then : Wording → (place : ℕ) → CodeBlock → List ℕ → List ℕ
block_lines_then wording place block tail =
    label_then wording.names block.cond (block_label_then (slice_index_or wording.labels place true) wording.number place (statements_then wording block.stmts tail))

-- the line of the output behind a block that begins in this line and ends in a user's action: that behind a `#line`, which names it
abbrev pub given_back : Wording → (line : Option ℕ) → (place : ℕ) → CodeBlock → Option LineMark
given_back wording line place block =
    if ends_in_code block.stmts then mark_of wording.out (line_behind (line_behind line (block_lines_then wording place block [])) (codes "\n"))
    else None

-- one block, which begins in this line of the output, where lines are counted
abbrev pub code_block_then : Wording → (line : Option ℕ) → (place : ℕ) → CodeBlock → List ℕ → List ℕ
code_block_then wording line place block tail = block_lines_then wording place block (line_then (given_back wording line place block) tail)

-- blocks, of which the first has this place and begins in this line of the output, where lines are counted
abbrev pub blocks_then : Wording → (line : Option ℕ) → (place : ℕ) → List CodeBlock → List ℕ → List ℕ
blocks_then wording line place [] tail = tail
blocks_then wording line place (block ∷ blocks) tail =
    code_block_then wording line place block (
    blocks_then wording (line_behind line (code_block_then wording line place block [])) (suc place) blocks tail)

-- ` L:T`, a spelling T with L bytes
abbrev pub name_then : List ℕ → List ℕ → List ℕ
name_then word tail = joined (codes " " ∷ decimal (length word) ∷ codes ":" ∷ word ∷ []) tail

-- the spellings, in order
abbrev pub names_then : Spellings → List ℕ → List ℕ
names_then [] tail = tail
names_then (word ∷ words) tail = name_then word (names_then words tail)

-- the unit that the buffer holds at its end, or `-`
abbrev pub eof_then : Option ℕ → List ℕ → List ℕ
eof_then None tail = joined (codes "-" ∷ []) tail
eof_then (Some unit) tail = joined (decimal unit ∷ []) tail

-- what stands before a byte of the table, and behind it: a row has sixteen
abbrev pub row_start : (is_first : Bool) → List ℕ
row_start true = codes "\t"
row_start false = []

abbrev pub row_end : (is_last : Bool) → List ℕ
row_end true = codes "\n"
row_end false = []

-- a byte of the table at a place, counted from 0
abbrev pub cell_then : (place byte : ℕ) → List ℕ → List ℕ
cell_then place byte tail =
    joined (row_start ((place % 16) == 0) ∷ codes "0x" ∷ hexadecimal byte ∷ codes "," ∷ row_end ((place % 16) == 15) ∷ []) tail

-- bytes of the table, of which the first has this place
abbrev pub cells_then : (place : ℕ) → List ℕ → List ℕ → List ℕ
cells_then place [] tail = tail
cells_then place (byte ∷ bytes) tail = cell_then place byte (cells_then (suc place) bytes tail)

-- the table of sets, where the piece has one
abbrev pub table_then : List ℕ → List ℕ → List ℕ
table_then [] tail = tail
table_then (byte ∷ bytes) tail =
    joined (codes "\tstatic const unsigned char yybm[" ∷ decimal (length (byte ∷ bytes)) ∷ codes "] = {\n" ∷ []) (
    cells_then 0 (byte ∷ bytes) (joined (codes "\t};\n" ∷ []) tail))

-- the declarations of the two variables, where the piece has them
abbrev pub declarations_then : Spellings → (declares : Bool) → List ℕ → List ℕ
declarations_then names false tail = tail
declarations_then names true tail =
    joined (codes "\t" ∷ unit_type names ∷ codes " " ∷ current_unit names ∷ codes ";\n\tunsigned int " ∷ last_accept names ∷ codes " = 0;\n" ∷ []) tail

-- a case of a switch over stored states
abbrev pub state_case_then : (number : ℕ) → StateCase → List ℕ → List ℕ
state_case_then number case tail = joined (codes "\tcase " ∷ decimal case.state ∷ codes ":" ∷ []) (goto_then number case.block tail)

-- the cases of a switch over stored states
abbrev pub state_cases_then : (number : ℕ) → List StateCase → List ℕ → List ℕ
state_cases_then number [] tail = tail
state_cases_then number (case ∷ cases) tail = state_case_then number case (state_cases_then number cases tail)

-- the label where a piece starts: that of the condition switch where there is one, else that of block 0
abbrev pub start_then : (number : ℕ) → List CondCase → List ℕ → List ℕ
start_then number [] tail = block_then number 0 tail
start_then number (case ∷ cases) tail = joined (codes "yy" ∷ decimal number ∷ codes "_cond" ∷ []) tail

-- the switch over stored states, where there is one; without a stored state it goes to the start
abbrev pub state_switch_then : (number : ℕ) → Spellings → List CondCase → Option (List StateCase) → List ℕ → List ℕ
state_switch_then number names conds None tail = tail
state_switch_then number names conds (Some cases) tail =
    joined (codes "\tswitch (" ∷ get_state names ∷ codes "()) {\n" ∷ []) (state_cases_then number cases (
    joined (codes "\tdefault: goto " ∷ []) (start_then number conds (joined (codes ";\n\t}\n" ∷ []) tail))))

-- a case of a switch over conditions
abbrev pub cond_case_then : (number : ℕ) → Spellings → CondCase → List ℕ → List ℕ
cond_case_then number names case tail =
    joined (codes "\tcase " ∷ (condition_prefix names ++ case.cond) ∷ codes ":" ∷ []) (goto_then number case.block tail)

-- the cases of a switch over conditions
abbrev pub cond_cases_then : (number : ℕ) → Spellings → List CondCase → List ℕ → List ℕ
cond_cases_then number names [] tail = tail
cond_cases_then number names (case ∷ cases) tail = cond_case_then number names case (cond_cases_then number names cases tail)

-- the switch over conditions, where there are any
abbrev pub cond_switch_then : (number : ℕ) → Spellings → List CondCase → List ℕ → List ℕ
cond_switch_then number names [] tail = tail
cond_switch_then number names (case ∷ cases) tail =
    joined (codes "yy" ∷ decimal number ∷ codes "_cond:\n\tswitch (" ∷ get_condition names ∷ codes "()) {\n" ∷ []) (
    cond_cases_then number names (case ∷ cases) (joined (codes "\t}\n" ∷ []) tail))

-- ---- what stands before the blocks in format 3

-- the type of a code unit of so many bytes
abbrev pub unit_word : (unit : ℕ) → List ℕ
unit_word unit = if unit == 1 then codes "char" else if unit == 2 then codes "short" else codes "int"

-- the declaration of the current unit, where it stands
abbrev pub unit_line_then : (stands : Bool) → Spellings → (unit : ℕ) → List ℕ → List ℕ
unit_line_then false names unit tail = tail
unit_line_then true names unit tail = joined (codes "\tunsigned " ∷ unit_word unit ∷ codes " " ∷ current_unit names ∷ codes ";\n" ∷ []) tail

-- the declaration of the last accepting state, where it stands
abbrev pub accept_line_then : (stands : Bool) → Spellings → List ℕ → List ℕ
accept_line_then false names tail = tail
accept_line_then true names tail = joined (codes "\tunsigned int " ∷ last_accept names ∷ codes " = 0;\n" ∷ []) tail

-- the label of the switch over conditions, where it stands
abbrev pub cond_label_then : (stands : Bool) → (number : ℕ) → List ℕ → List ℕ
cond_label_then false number tail = tail
cond_label_then true number tail = joined (codes "yy" ∷ decimal number ∷ codes "_cond:\n" ∷ []) tail

-- a case of the switch over conditions, which goes to the condition's label
abbrev pub label_case_then : Spellings → CondCase → List ℕ → List ℕ
label_case_then names case tail =
    joined (codes "\tcase " ∷ (condition_prefix names ++ case.cond) ∷ codes ": goto " ∷ (label_prefix names ++ case.cond) ∷ codes ";\n" ∷ []) tail

-- the cases of the switch over conditions, in order
abbrev pub label_cases_then : Spellings → List CondCase → List ℕ → List ℕ
label_cases_then names [] tail = tail
label_cases_then names (case ∷ cases) tail = label_case_then names case (label_cases_then names cases tail)

-- the switch over conditions, where there are any
abbrev pub label_switch_then : Spellings → List CondCase → List ℕ → List ℕ
label_switch_then names [] tail = tail
label_switch_then names (case ∷ cases) tail =
    joined (codes "\tswitch (" ∷ get_condition names ∷ codes "()) {\n" ∷ []) (label_cases_then names (case ∷ cases) (joined (codes "\t}\n" ∷ []) tail))

-- the piece declares the current unit, in format 3: where the user does not, and a statement has it
abbrev pub declares_unit : Piece → Bool
declares_unit piece = if piece.declares then list_any has_unit (all_statements piece.blocks) else false

-- the piece declares the last accepting state, in format 3
abbrev pub declares_accept : Piece → Bool
declares_accept piece = if piece.declares then list_any has_accept (all_statements piece.blocks) else false

-- the switch over conditions has a label, in format 3: a switch over stored states goes to it, the piece's own or one that the user has
abbrev pub has_cond_label : Piece → Bool
has_cond_label piece = if length piece.conds == 0 then false else not piece.declares || is_some piece.states

-- ---- the piece

-- the declarations and switches before the blocks, by the format
abbrev pub sections_by : (three : Bool) → Piece → List ℕ → List ℕ
sections_by false piece tail =
    declarations_then piece.names piece.declares (
    state_switch_then piece.number piece.names piece.conds piece.states (
    cond_switch_then piece.number piece.names piece.conds tail))
sections_by true piece tail =
    unit_line_then (declares_unit piece) piece.names piece.unit (
    accept_line_then (declares_accept piece) piece.names (
    state_switch_then piece.number piece.names piece.conds piece.states (
    cond_label_then (has_cond_label piece) piece.number (
    label_switch_then piece.names piece.conds (
    joined (codes "\n" ∷ []) tail)))))

-- from the begin mark to the line of the spellings
abbrev pub front_then : Piece → List ℕ → List ℕ
front_then piece tail =
    joined (codes "/*!begin:re2c " ∷ decimal piece.number ∷ codes "*/\n" ∷ []) (
    head_then (is_kept piece.head piece.declares) piece.head (
    joined (codes "/*!names:re2c " ∷ decimal piece.unit ∷ codes " " ∷ []) (
    eof_then piece.eof (
    names_then piece.names (
    joined (codes "*/\n" ∷ []) tail)))))

-- from the brace to the blocks
abbrev pub opening_then : Piece → List ℕ → List ℕ
opening_then piece tail = joined (codes "{\n" ∷ []) (table_then piece.table (sections_by (is_three piece.head) piece tail))

-- the label behind the blocks stands: in format 3 where a statement goes to it
abbrev pub has_none_label : Piece → Bool
has_none_label piece = if is_three piece.head then list_any is_leave (all_statements piece.blocks) else true

-- the label behind the blocks, where it stands
abbrev pub none_label_then : (stands : Bool) → (number : ℕ) → List ℕ → List ℕ
none_label_then false number tail = tail
none_label_then true number tail = joined (codes "yy" ∷ decimal number ∷ codes "_none:;\n" ∷ []) tail

-- from the label behind the blocks to the end mark
abbrev pub closing_then : Piece → List ℕ → List ℕ
closing_then piece tail =
    none_label_then (has_none_label piece) piece.number (
    joined (codes "}\n" ∷ []) (
    line_then piece.line (
    joined (codes "/*!end:re2c*/" ∷ []) tail)))

abbrev pub line_of : Option LineMark → Option ℕ
line_of None = None
line_of (Some mark) = Some mark.line

-- the line of the output where the blocks begin, where the brace stands in the line of the place
abbrev pub blocks_line : (place : Option LineMark) → Piece → Option ℕ
blocks_line place piece = line_behind (line_of place) (opening_then piece [])

-- a piece, from its begin mark to its end mark; where it has a place, a `#line` before the brace and behind each action gives
-- the lines that follow back to the output
abbrev pub piece_then : (place : Option LineMark) → Piece → List ℕ → List ℕ
piece_then place piece tail =
    front_then piece (
    line_then place (
    opening_then piece (
    blocks_then (wording_of place piece) (blocks_line place piece) 0 piece.blocks (
    closing_then piece tail))))

-- the text of a piece
abbrev pub piece_text : (place : Option LineMark) → Piece → List ℕ
piece_text place piece = piece_then place piece []
