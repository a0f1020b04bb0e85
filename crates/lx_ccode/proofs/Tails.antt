-- A text and what stands behind it, and texts that are written part by part.
use Rattle.std.proofs.Common.{[], ◌++◌, ◌+◌, ◌<◌, ◌∙◌, ◌∷◌, ◌≡◌, ◌≤◌, Bool, List, None, Option, Some, add-one, ap, ap₂, append_assoc, arith, drop, false, get_or, length, refl, suc, sym, take, true, zero, ℕ, ◌-◌}
use Rattle.std.proofs.lemmas.List.{drop_more, length-append}
use Rattle.std.proofs.Math.Seq.{drop-append_seam, take-length}
use Rattle.std.specs.Fmt.{decimal}
use Rattle.std.specs.Prelude.{◌*◌, ◌/◌, ◌%◌, ◌^◌, ◌==◌, codes, if◌then◌else◌, min, nat_lt, slice_index_or}
use Rattle.lx_base.specs.Names.{Spellings, condition_prefix, current_unit, get_condition, get_state, label_prefix, last_accept}
use Rattle.lx_base.specs.Text.{joined}
use Rattle.lx_ccode.specs.declared.piece.CodeBlock.{CodeBlock}
use Rattle.lx_ccode.specs.declared.piece.SwitchCase.{SwitchCase}
use Rattle.lx_ccode.specs.declared.piece.CondCase.{CondCase}
use Rattle.lx_ccode.specs.declared.piece.Head.{Head}
use Rattle.lx_ccode.specs.declared.piece.LineMark.{LineMark}
use Rattle.lx_ccode.specs.declared.piece.Piece.{Piece}
use Rattle.lx_ccode.specs.declared.piece.StateCase.{StateCase}
use Rattle.lx_ccode.specs.declared.piece.Stmt.{Stmt}
use Rattle.lx_ccode.specs.declared.piece.Stmt.TheVariants.{Code, IfSet, Switch, Tag}
use Rattle.lx_ccode.specs.Heads.{custom_word, encoding_word, format_word, head_then, is_custom, is_kept, is_three, kept_word, mode_word}
use Rattle.lx_ccode.specs.Text.{accept_line_then, block_label_then, block_lines_then, blocks_line, blocks_then, cell_then, cells_then, closing_then, code_block_then, cond_cases_then, cond_label_then, cond_switch_then, custom_then, declarations_then, declares_accept, declares_unit, eof_then, feeds, front_then, given_back, goto_then, group_text, has_cond_label, has_none_label, hexadecimal, label_cases_then, label_switch_then, label_then, line_behind, line_by, line_then, mark_of, names_then, none_label_then, opening_then, piece_text, piece_then, pointer_then, row_end, row_start, sections_by, set_test_then, start_then, state_cases_then, state_switch_then, statement_then, statements_then, switch_case_then, switch_cases_then, switch_then, table_then, unit_line_then, unit_word, units_then}
use Rattle.lx_ccode.specs.Statements.{ends_in_code}
use Rattle.lx_ccode.specs.Labels.{standing_labels}
use Rattle.lx_ccode.specs.declared.lines.Scope.{Scope}
use Rattle.lx_ccode.specs.Wording.{Wording, file_of, scope_wording, wording_of}

-- ---- a text and what stands behind it

pub joined-append : (words : List (List ℕ)) (tail rest : List ℕ) → joined words tail ++ rest ≡ joined words (tail ++ rest)
joined-append [] tail rest = refl
joined-append (word ∷ words) tail rest = append_assoc word (joined words tail) rest ∙ ap (λ (l : List ℕ). word ++ l) (joined-append words tail rest)

pub joined-length : (words : List (List ℕ)) (tail : List ℕ) → length tail ≤ length (joined words tail)
joined-length [] tail = omega arith
joined-length (word ∷ words) tail =
    let rest : length tail ≤ length (joined words tail) = joined-length words tail in
    let both : length (word ++ joined words tail) ≡ length word + length (joined words tail) = length-append word (joined words tail) in
    omega arith

pub line_then-append : (line : Option LineMark) (tail rest : List ℕ) → line_then line tail ++ rest ≡ line_then line (tail ++ rest)
line_then-append None tail rest = refl
line_then-append (Some line) tail rest = simp append_assoc

-- the text of a line alone behind a text, and then a tail
pub line_then-nil : (line : Option LineMark) (before tail : List ℕ) → (before ++ line_then line []) ++ tail ≡ before ++ line_then line tail
line_then-nil line before tail = append_assoc before (line_then line []) tail ∙ ap (λ (b : List ℕ). before ++ b) (line_then-append line [] tail)

goto_then-append : (number block : ℕ) (tail rest : List ℕ) → goto_then number block tail ++ rest ≡ goto_then number block (tail ++ rest)
goto_then-append number block tail rest = joined-append (codes " goto yy" ∷ decimal number ∷ codes "_" ∷ decimal block ∷ codes ";\n" ∷ []) tail rest

-- the words of a test of a set, before its jump
abbrev pub set_parts : (wide : Bool) → Wording → (set : ℕ) → List (List ℕ)
set_parts false wording set =
    codes "\tif (yybm[" ∷ group_text (set / 8) ∷ current_unit wording.names ∷ codes "] & 0x" ∷ hexadecimal (2 ^ (set % 8)) ∷ codes ")" ∷ []
set_parts true wording set =
    codes "\tif (" ∷ current_unit wording.names ∷ codes " <= 0xFF && (yybm[" ∷ group_text (set / 8) ∷ current_unit wording.names ∷ codes "] & 0x"
    ∷ hexadecimal (2 ^ (set % 8)) ∷ codes "))" ∷ []

pub set_test_then-parts : (wide : Bool) (wording : Wording) (set block : ℕ) (tail : List ℕ)
    → set_test_then wide wording set block tail ≡ joined (set_parts wide wording set) (goto_then wording.number block tail)
set_test_then-parts false wording set block tail = refl
set_test_then-parts true wording set block tail = refl

set_test_then-append : (wide : Bool) (wording : Wording) (set block : ℕ) (tail rest : List ℕ)
    → set_test_then wide wording set block tail ++ rest ≡ set_test_then wide wording set block (tail ++ rest)
set_test_then-append wide wording set block tail rest =
    let parts : List (List ℕ) = set_parts wide wording set in
    ap (λ (l : List ℕ). l ++ rest) (set_test_then-parts wide wording set block tail)
    ∙ joined-append parts (goto_then wording.number block tail) rest
    ∙ ap (joined parts) (goto_then-append wording.number block tail rest)
    ∙ sym (set_test_then-parts wide wording set block (tail ++ rest))

-- the words of a unit of a case
abbrev pub unit_words : ℕ → List (List ℕ)
unit_words unit = codes "case 0x" ∷ hexadecimal unit ∷ codes ": " ∷ []

units_then-append : (units tail rest : List ℕ) → units_then units tail ++ rest ≡ units_then units (tail ++ rest)
units_then-append [] tail rest = refl
units_then-append (unit ∷ units) tail rest =
    joined-append (unit_words unit) (units_then units tail) rest ∙ ap (joined (unit_words unit)) (units_then-append units tail rest)

-- the end of a case
abbrev pub case_words : (number block : ℕ) → List (List ℕ)
case_words number block = codes "goto yy" ∷ decimal number ∷ codes "_" ∷ decimal block ∷ codes ";\n" ∷ []

switch_case_then-append : (number : ℕ) (case : SwitchCase) (tail rest : List ℕ)
    → switch_case_then number case tail ++ rest ≡ switch_case_then number case (tail ++ rest)
switch_case_then-append number case tail rest =
    ap (λ (l : List ℕ). 9 ∷ l) (units_then-append case.units (joined (case_words number case.block) tail) rest
    ∙ ap (units_then case.units) (joined-append (case_words number case.block) tail rest))

switch_cases_then-append : (number : ℕ) (cases : List SwitchCase) (tail rest : List ℕ)
    → switch_cases_then number cases tail ++ rest ≡ switch_cases_then number cases (tail ++ rest)
switch_cases_then-append number [] tail rest = refl
switch_cases_then-append number (case ∷ cases) tail rest =
    switch_case_then-append number case (switch_cases_then number cases tail) rest
    ∙ ap (switch_case_then number case) (switch_cases_then-append number cases tail rest)

-- the words of the last line of a switch, with its default
abbrev pub last_words : (number block : ℕ) → List (List ℕ)
last_words number block = codes "\tdefault: goto yy" ∷ decimal number ∷ codes "_" ∷ decimal block ∷ codes ";\n\t}\n" ∷ []

abbrev pub switch_words : Wording → List (List ℕ)
switch_words wording = codes "\tswitch (" ∷ current_unit wording.names ∷ codes ") {\n" ∷ []

switch_then-append : (wording : Wording) (cases : List SwitchCase) (last : ℕ) (tail rest : List ℕ)
    → switch_then wording cases last tail ++ rest ≡ switch_then wording cases last (tail ++ rest)
switch_then-append wording cases last tail rest =
    joined-append (switch_words wording) (switch_cases_then wording.number cases (joined (last_words wording.number last) tail)) rest
    ∙ ap (joined (switch_words wording)) (switch_cases_then-append wording.number cases (joined (last_words wording.number last) tail) rest
    ∙ ap (switch_cases_then wording.number cases) (joined-append (last_words wording.number last) tail rest))

pointer_then-append : (wording : Wording) (statement : Stmt) (tail rest : List ℕ)
    → pointer_then wording statement tail ++ rest ≡ pointer_then wording statement (tail ++ rest)
pointer_then-append wording (Tag word true k) tail rest = simp append_assoc
pointer_then-append wording (Tag word false k) tail rest = simp append_assoc
pointer_then-append wording (Code k None word) tail rest = simp append_assoc
pointer_then-append wording (Code k (Some l) word) tail rest = simp append_assoc
pointer_then-append wording (IfSet set block) tail rest = set_test_then-append (nat_lt 1 wording.unit) wording set block tail rest
pointer_then-append wording (Switch cases last) tail rest = switch_then-append wording cases last tail rest
pointer_then-append wording statement tail rest = simp append_assoc

custom_then-append : (wording : Wording) (statement : Stmt) (tail rest : List ℕ)
    → custom_then wording statement tail ++ rest ≡ custom_then wording statement (tail ++ rest)
custom_then-append wording (Tag word true k) tail rest = pointer_then-append wording (Tag word true k) tail rest
custom_then-append wording (Tag word false k) tail rest = pointer_then-append wording (Tag word false k) tail rest
custom_then-append wording (Code k None word) tail rest = pointer_then-append wording (Code k None word) tail rest
custom_then-append wording (Code k (Some l) word) tail rest = pointer_then-append wording (Code k (Some l) word) tail rest
custom_then-append wording (IfSet set block) tail rest = pointer_then-append wording (IfSet set block) tail rest
custom_then-append wording (Switch cases last) tail rest = pointer_then-append wording (Switch cases last) tail rest
custom_then-append wording statement tail rest = simp append_assoc

line_by-append : (custom : Bool) (wording : Wording) (statement : Stmt) (tail rest : List ℕ)
    → line_by custom wording statement tail ++ rest ≡ line_by custom wording statement (tail ++ rest)
line_by-append false wording statement tail rest = pointer_then-append wording statement tail rest
line_by-append true wording statement tail rest = custom_then-append wording statement tail rest

pub statement_then-append : (wording : Wording) (statement : Stmt) (tail rest : List ℕ)
    → statement_then wording statement tail ++ rest ≡ statement_then wording statement (tail ++ rest)
statement_then-append wording statement tail rest = line_by-append wording.custom wording statement tail rest

statements_then-append : (wording : Wording) (statements : List Stmt) (tail rest : List ℕ)
    → statements_then wording statements tail ++ rest ≡ statements_then wording statements (tail ++ rest)
statements_then-append wording [] tail rest = refl
statements_then-append wording (s ∷ statements) tail rest = statement_then-append wording s (statements_then wording statements tail) rest
    ∙ ap (statement_then wording s) (statements_then-append wording statements tail rest)

label_then-append : (names : Spellings) (label : Option (List ℕ)) (tail rest : List ℕ)
    → label_then names label tail ++ rest ≡ label_then names label (tail ++ rest)
label_then-append names None tail rest = refl
label_then-append names (Some word) tail rest = append_assoc (label_prefix names ++ word) (58 ∷ 10 ∷ tail) rest

-- the words of a block's label
abbrev pub block_words : (number place : ℕ) → List (List ℕ)
block_words number place = codes "yy" ∷ decimal number ∷ codes "_" ∷ decimal place ∷ codes ":\n" ∷ []

block_label_then-append : (stands : Bool) (number place : ℕ) (tail rest : List ℕ)
    → block_label_then stands number place tail ++ rest ≡ block_label_then stands number place (tail ++ rest)
block_label_then-append false number place tail rest = refl
block_label_then-append true number place tail rest = joined-append (block_words number place) tail rest

pub block_lines_then-append : (wording : Wording) (place : ℕ) (block : CodeBlock) (tail rest : List ℕ)
    → block_lines_then wording place block tail ++ rest ≡ block_lines_then wording place block (tail ++ rest)
block_lines_then-append wording place block tail rest =
    let stands : Bool = slice_index_or wording.labels place true in
    let code : List ℕ = statements_then wording block.stmts tail in
    label_then-append wording.names block.cond (block_label_then stands wording.number place code) rest
    ∙ ap (label_then wording.names block.cond) (block_label_then-append stands wording.number place code rest
    ∙ ap (block_label_then stands wording.number place) (statements_then-append wording block.stmts tail rest))

pub code_block_then-append : (wording : Wording) (line : Option ℕ) (place : ℕ) (block : CodeBlock) (tail rest : List ℕ)
    → code_block_then wording line place block tail ++ rest ≡ code_block_then wording line place block (tail ++ rest)
code_block_then-append wording line place block tail rest =
    let given : Option LineMark = given_back wording line place block in
    block_lines_then-append wording place block (line_then given tail) rest
    ∙ ap (block_lines_then wording place block) (line_then-append given tail rest)

pub blocks_then-append : (wording : Wording) (line : Option ℕ) (place : ℕ) (blocks : List CodeBlock) (tail rest : List ℕ)
    → blocks_then wording line place blocks tail ++ rest ≡ blocks_then wording line place blocks (tail ++ rest)
blocks_then-append wording line place [] tail rest = refl
blocks_then-append wording line place (b ∷ blocks) tail rest =
    let after : Option ℕ = line_behind line (code_block_then wording line place b []) in
    code_block_then-append wording line place b (blocks_then wording after (suc place) blocks tail) rest
    ∙ ap (code_block_then wording line place b) (blocks_then-append wording after (suc place) blocks tail rest)

names_then-append : (words : Spellings) (tail rest : List ℕ) → names_then words tail ++ rest ≡ names_then words (tail ++ rest)
names_then-append [] tail rest = refl
names_then-append (word ∷ words) tail rest = joined-append (codes " " ∷ decimal (length word) ∷ codes ":" ∷ word ∷ []) (names_then words tail) rest
    ∙ ap (joined (codes " " ∷ decimal (length word) ∷ codes ":" ∷ word ∷ [])) (names_then-append words tail rest)

eof_then-append : (eof : Option ℕ) (tail rest : List ℕ) → eof_then eof tail ++ rest ≡ eof_then eof (tail ++ rest)
eof_then-append None tail rest = refl
eof_then-append (Some eof) tail rest = append_assoc (decimal eof) tail rest

-- the words of a head line
abbrev pub head_line_parts : (kept : Bool) → Head → List (List ℕ)
head_line_parts kept head =
    codes "/*!head:re2c " ∷ format_word head.format ∷ custom_word head.custom ∷ kept_word kept ∷ encoding_word head.enc ∷ codes " " ∷ mode_word head.mode ∷ codes " "
    ∷ decimal head.regs ∷ codes " " ∷ decimal head.mregs ∷ codes " " ∷ decimal head.states ∷ codes "*/\n" ∷ []

head_then-append : (kept : Bool) (head : Option Head) (tail rest : List ℕ) → head_then kept head tail ++ rest ≡ head_then kept head (tail ++ rest)
head_then-append kept None tail rest = refl
head_then-append kept (Some head) tail rest = joined-append (head_line_parts kept head) tail rest

-- the words of a byte of the table
abbrev pub cell_words : (place byte : ℕ) → List (List ℕ)
cell_words place byte = row_start ((place % 16) == 0) ∷ codes "0x" ∷ hexadecimal byte ∷ codes "," ∷ row_end ((place % 16) == 15) ∷ []

cells_then-append : (place : ℕ) (bytes tail rest : List ℕ) → cells_then place bytes tail ++ rest ≡ cells_then place bytes (tail ++ rest)
cells_then-append place [] tail rest = refl
cells_then-append place (byte ∷ bytes) tail rest =
    joined-append (cell_words place byte) (cells_then (suc place) bytes tail) rest
    ∙ ap (joined (cell_words place byte)) (cells_then-append (suc place) bytes tail rest)

-- the words of the first line of a table
abbrev pub table_words : (size : ℕ) → List (List ℕ)
table_words size = codes "\tstatic const unsigned char yybm[" ∷ decimal size ∷ codes "] = {\n" ∷ []

table_then-append : (table tail rest : List ℕ) → table_then table tail ++ rest ≡ table_then table (tail ++ rest)
table_then-append [] tail rest = refl
table_then-append (byte ∷ bytes) tail rest =
    let words : List (List ℕ) = table_words (length (byte ∷ bytes)) in
    joined-append words (cells_then 0 (byte ∷ bytes) (codes "\t};\n" ++ tail)) rest
    ∙ ap (joined words) (cells_then-append 0 (byte ∷ bytes) (codes "\t};\n" ++ tail) rest)

declarations_then-append : (names : Spellings) (declares : Bool) (tail rest : List ℕ)
    → declarations_then names declares tail ++ rest ≡ declarations_then names declares (tail ++ rest)
declarations_then-append names false tail rest = refl
declarations_then-append names true tail rest = simp append_assoc

state_cases_then-append : (number : ℕ) (cases : List StateCase) (tail rest : List ℕ)
    → state_cases_then number cases tail ++ rest ≡ state_cases_then number cases (tail ++ rest)
state_cases_then-append number [] tail rest = refl
state_cases_then-append number (c ∷ cases) tail rest =
    let parts : List (List ℕ) = codes "\tcase " ∷ decimal c.state ∷ codes ": goto yy" ∷ decimal number ∷ codes "_" ∷ decimal c.block ∷ codes ";\n" ∷ [] in
    joined-append parts (state_cases_then number cases tail) rest ∙ ap (joined parts) (state_cases_then-append number cases tail rest)

pub start_then-append : (number : ℕ) (conds : List CondCase) (tail rest : List ℕ)
    → start_then number conds tail ++ rest ≡ start_then number conds (tail ++ rest)
start_then-append number [] tail rest = simp append_assoc
start_then-append number (c ∷ conds) tail rest = simp append_assoc

state_switch_then-append : (number : ℕ) (names : Spellings) (conds : List CondCase) (states : Option (List StateCase)) (tail rest : List ℕ)
    → state_switch_then number names conds states tail ++ rest ≡ state_switch_then number names conds states (tail ++ rest)
state_switch_then-append number names conds None tail rest = refl
state_switch_then-append number names conds (Some states) tail rest =
    let parts : List (List ℕ) = codes "\tswitch (" ∷ get_state names ∷ codes "()) {\n" ∷ [] in
    joined-append parts (state_cases_then number states (codes "\tdefault: goto " ++ start_then number conds (codes ";\n\t}\n" ++ tail))) rest
    ∙ ap (joined parts) (state_cases_then-append number states (codes "\tdefault: goto " ++ start_then number conds (codes ";\n\t}\n" ++ tail)) rest
    ∙ ap (λ (l : List ℕ). state_cases_then number states (codes "\tdefault: goto " ++ l)) (start_then-append number conds (codes ";\n\t}\n" ++ tail) rest))

cond_cases_then-append : (number : ℕ) (names : Spellings) (conds : List CondCase) (tail rest : List ℕ)
    → cond_cases_then number names conds tail ++ rest ≡ cond_cases_then number names conds (tail ++ rest)
cond_cases_then-append number names [] tail rest = refl
cond_cases_then-append number names (c ∷ conds) tail rest =
    let parts : List (List ℕ) = codes "\tcase " ∷ (condition_prefix names ++ c.cond) ∷ codes ": goto yy" ∷ decimal number ∷ codes "_" ∷ decimal c.block ∷ codes ";\n" ∷ [] in
    joined-append parts (cond_cases_then number names conds tail) rest ∙ ap (joined parts) (cond_cases_then-append number names conds tail rest)

cond_switch_then-append : (number : ℕ) (names : Spellings) (conds : List CondCase) (tail rest : List ℕ)
    → cond_switch_then number names conds tail ++ rest ≡ cond_switch_then number names conds (tail ++ rest)
cond_switch_then-append number names [] tail rest = refl
cond_switch_then-append number names (c ∷ conds) tail rest =
    let parts : List (List ℕ) = codes "yy" ∷ decimal number ∷ codes "_cond:\n\tswitch (" ∷ get_condition names ∷ codes "()) {\n" ∷ [] in
    joined-append parts (cond_cases_then number names (c ∷ conds) (codes "\t}\n" ++ tail)) rest
    ∙ ap (joined parts) (cond_cases_then-append number names (c ∷ conds) (codes "\t}\n" ++ tail) rest)

abbrev pub begin_parts : Piece → List (List ℕ)
begin_parts p = codes "/*!begin:re2c " ∷ decimal p.number ∷ codes "*/\n" ∷ []

abbrev pub unit_parts : Piece → List (List ℕ)
unit_parts p = codes "/*!names:re2c " ∷ decimal p.unit ∷ codes " " ∷ []

abbrev pub none_parts : Piece → List (List ℕ)
none_parts p = codes "yy" ∷ decimal p.number ∷ codes "_none:;\n" ∷ []

-- ---- what stands before the blocks in format 3

-- the words of the declaration of the current unit
abbrev pub unit_line_words : Spellings → (unit : ℕ) → List (List ℕ)
unit_line_words names unit = codes "\tunsigned " ∷ unit_word unit ∷ codes " " ∷ current_unit names ∷ codes ";\n" ∷ []

unit_line_then-append : (stands : Bool) (names : Spellings) (unit : ℕ) (tail rest : List ℕ)
    → unit_line_then stands names unit tail ++ rest ≡ unit_line_then stands names unit (tail ++ rest)
unit_line_then-append false names unit tail rest = refl
unit_line_then-append true names unit tail rest = joined-append (unit_line_words names unit) tail rest

-- the words of the declaration of the last accepting state
abbrev pub accept_line_words : Spellings → List (List ℕ)
accept_line_words names = codes "\tunsigned int " ∷ last_accept names ∷ codes " = 0;\n" ∷ []

accept_line_then-append : (stands : Bool) (names : Spellings) (tail rest : List ℕ) → accept_line_then stands names tail ++ rest ≡ accept_line_then stands names (tail ++ rest)
accept_line_then-append false names tail rest = refl
accept_line_then-append true names tail rest = joined-append (accept_line_words names) tail rest

-- the words of the label of the switch over conditions
abbrev pub cond_label_words : (number : ℕ) → List (List ℕ)
cond_label_words number = codes "yy" ∷ decimal number ∷ codes "_cond:\n" ∷ []

cond_label_then-append : (stands : Bool) (number : ℕ) (tail rest : List ℕ) → cond_label_then stands number tail ++ rest ≡ cond_label_then stands number (tail ++ rest)
cond_label_then-append false number tail rest = refl
cond_label_then-append true number tail rest = joined-append (cond_label_words number) tail rest

-- the words of a case that goes to a condition's label
abbrev pub label_case_words : Spellings → CondCase → List (List ℕ)
label_case_words names case =
    codes "\tcase " ∷ (condition_prefix names ++ case.cond) ∷ codes ": goto " ∷ (label_prefix names ++ case.cond) ∷ codes ";\n" ∷ []

pub label_cases_then-append : (names : Spellings) (cases : List CondCase) (tail rest : List ℕ)
    → label_cases_then names cases tail ++ rest ≡ label_cases_then names cases (tail ++ rest)
label_cases_then-append names [] tail rest = refl
label_cases_then-append names (case ∷ cases) tail rest =
    joined-append (label_case_words names case) (label_cases_then names cases tail) rest
    ∙ ap (joined (label_case_words names case)) (label_cases_then-append names cases tail rest)

-- the words of the head of a switch over conditions
abbrev pub label_switch_words : Spellings → List (List ℕ)
label_switch_words names = codes "\tswitch (" ∷ get_condition names ∷ codes "()) {\n" ∷ []

label_switch_then-append : (names : Spellings) (conds : List CondCase) (tail rest : List ℕ)
    → label_switch_then names conds tail ++ rest ≡ label_switch_then names conds (tail ++ rest)
label_switch_then-append names [] tail rest = refl
label_switch_then-append names (case ∷ conds) tail rest =
    joined-append (label_switch_words names) (label_cases_then names (case ∷ conds) (codes "\t}\n" ++ tail)) rest
    ∙ ap (joined (label_switch_words names)) (label_cases_then-append names (case ∷ conds) (codes "\t}\n" ++ tail) rest)

-- ---- the parts of a piece

pub sections_by-append : (three : Bool) (piece : Piece) (tail rest : List ℕ) → sections_by three piece tail ++ rest ≡ sections_by three piece (tail ++ rest)
sections_by-append false piece tail rest =
    declarations_then-append piece.names piece.declares _ rest
    ∙ ap (declarations_then piece.names piece.declares) (state_switch_then-append piece.number piece.names piece.conds piece.states _ rest
    ∙ ap (state_switch_then piece.number piece.names piece.conds piece.states) (cond_switch_then-append piece.number piece.names piece.conds tail rest))
sections_by-append true piece tail rest =
    unit_line_then-append (declares_unit piece) piece.names piece.unit _ rest
    ∙ ap (unit_line_then (declares_unit piece) piece.names piece.unit) (accept_line_then-append (declares_accept piece) piece.names _ rest
    ∙ ap (accept_line_then (declares_accept piece) piece.names) (state_switch_then-append piece.number piece.names piece.conds piece.states _ rest
    ∙ ap (state_switch_then piece.number piece.names piece.conds piece.states) (cond_label_then-append (has_cond_label piece) piece.number _ rest
    ∙ ap (cond_label_then (has_cond_label piece) piece.number) (label_switch_then-append piece.names piece.conds (10 ∷ tail) rest))))

pub front_then-append : (piece : Piece) (tail rest : List ℕ) → front_then piece tail ++ rest ≡ front_then piece (tail ++ rest)
front_then-append piece tail rest =
    let kept : Bool = is_kept piece.head piece.declares in
    joined-append (begin_parts piece) _ rest
    ∙ ap (joined (begin_parts piece)) (head_then-append kept piece.head _ rest ∙ ap (head_then kept piece.head) (joined-append (unit_parts piece) _ rest
    ∙ ap (joined (unit_parts piece)) (eof_then-append piece.eof _ rest ∙ ap (eof_then piece.eof) (names_then-append piece.names (codes "*/\n" ++ tail) rest))))

pub opening_then-append : (piece : Piece) (tail rest : List ℕ) → opening_then piece tail ++ rest ≡ opening_then piece (tail ++ rest)
opening_then-append piece tail rest =
    let three : Bool = is_three piece.head in
    ap (λ (l : List ℕ). codes "{\n" ++ l) (table_then-append piece.table (sections_by three piece tail) rest
    ∙ ap (table_then piece.table) (sections_by-append three piece tail rest))

none_label_then-append : (stands : Bool) (number : ℕ) (tail rest : List ℕ) → none_label_then stands number tail ++ rest ≡ none_label_then stands number (tail ++ rest)
none_label_then-append false number tail rest = refl
none_label_then-append true number tail rest = joined-append (codes "yy" ∷ decimal number ∷ codes "_none:;\n" ∷ []) tail rest

pub closing_then-append : (piece : Piece) (tail rest : List ℕ) → closing_then piece tail ++ rest ≡ closing_then piece (tail ++ rest)
closing_then-append piece tail rest =
    let stands : Bool = has_none_label piece in
    none_label_then-append stands piece.number _ rest
    ∙ ap (λ (l : List ℕ). none_label_then stands piece.number (codes "}\n" ++ l)) (line_then-append piece.line (codes "/*!end:re2c*/" ++ tail) rest)

pub piece_text-append : (place : Option LineMark) (piece : Piece) (tail : List ℕ) → piece_text place piece ++ tail ≡ piece_then place piece tail
piece_text-append place piece tail =
    let wording : Wording = wording_of place piece in
    let line : Option ℕ = blocks_line place piece in
    front_then-append piece _ tail
    ∙ ap (front_then piece) (line_then-append place _ tail
    ∙ ap (line_then place) (opening_then-append piece _ tail
    ∙ ap (opening_then piece) (blocks_then-append wording line 0 piece.blocks _ tail
    ∙ ap (blocks_then wording line 0 piece.blocks) (closing_then-append piece [] tail))))

-- a part alone behind a text, and then a tail
pub statement_then-nil : (wording : Wording) (statement : Stmt) (before tail : List ℕ)
    → (before ++ statement_then wording statement []) ++ tail ≡ before ++ statement_then wording statement tail
statement_then-nil wording statement before tail = append_assoc before (statement_then wording statement []) tail
    ∙ ap (λ (b : List ℕ). before ++ b) (statement_then-append wording statement [] tail)

pub label_then-nil : (names : Spellings) (label : Option (List ℕ)) (before tail : List ℕ)
    → (before ++ label_then names label []) ++ tail ≡ before ++ label_then names label tail
label_then-nil names label before tail = append_assoc before (label_then names label []) tail
    ∙ ap (λ (b : List ℕ). before ++ b) (label_then-append names label [] tail)

pub code_block_then-nil : (wording : Wording) (line : Option ℕ) (place : ℕ) (block : CodeBlock) (before tail : List ℕ)
    → (before ++ code_block_then wording line place block []) ++ tail ≡ before ++ code_block_then wording line place block tail
code_block_then-nil wording line place block before tail = append_assoc before (code_block_then wording line place block []) tail
    ∙ ap (λ (l : List ℕ). before ++ l) (code_block_then-append wording line place block [] tail)

pub blocks_then-nil : (wording : Wording) (line : Option ℕ) (place : ℕ) (blocks : List CodeBlock) (before tail : List ℕ)
    → (before ++ blocks_then wording line place blocks []) ++ tail ≡ before ++ blocks_then wording line place blocks tail
blocks_then-nil wording line place blocks before tail = append_assoc before (blocks_then wording line place blocks []) tail
    ∙ ap (λ (b : List ℕ). before ++ b) (blocks_then-append wording line place blocks [] tail)

pub block_label_then-nil : (stands : Bool) (number place : ℕ) (before tail : List ℕ)
    → (before ++ block_label_then stands number place []) ++ tail ≡ before ++ block_label_then stands number place tail
block_label_then-nil stands number place before tail = append_assoc before (block_label_then stands number place []) tail
    ∙ ap (λ (b : List ℕ). before ++ b) (block_label_then-append stands number place [] tail)

pub names_then-nil : (words : Spellings) (before tail : List ℕ) → (before ++ names_then words []) ++ tail ≡ before ++ names_then words tail
names_then-nil words before tail = append_assoc before (names_then words []) tail ∙ ap (λ (b : List ℕ). before ++ b) (names_then-append words [] tail)

pub eof_then-nil : (eof : Option ℕ) (before tail : List ℕ) → (before ++ eof_then eof []) ++ tail ≡ before ++ eof_then eof tail
eof_then-nil eof before tail = append_assoc before (eof_then eof []) tail ∙ ap (λ (b : List ℕ). before ++ b) (eof_then-append eof [] tail)

pub head_then-nil : (kept : Bool) (head : Option Head) (before tail : List ℕ) → (before ++ head_then kept head []) ++ tail ≡ before ++ head_then kept head tail
head_then-nil kept head before tail = append_assoc before (head_then kept head []) tail ∙ ap (λ (b : List ℕ). before ++ b) (head_then-append kept head [] tail)

pub table_then-nil : (table before tail : List ℕ) → (before ++ table_then table []) ++ tail ≡ before ++ table_then table tail
table_then-nil table before tail = append_assoc before (table_then table []) tail ∙ ap (λ (b : List ℕ). before ++ b) (table_then-append table [] tail)

pub cells_then-nil : (place : ℕ) (bytes before tail : List ℕ) → (before ++ cells_then place bytes []) ++ tail ≡ before ++ cells_then place bytes tail
cells_then-nil place bytes before tail = append_assoc before (cells_then place bytes []) tail ∙ ap (λ (b : List ℕ). before ++ b) (cells_then-append place bytes [] tail)

pub units_then-nil : (units before tail : List ℕ) → (before ++ units_then units []) ++ tail ≡ before ++ units_then units tail
units_then-nil units before tail = append_assoc before (units_then units []) tail ∙ ap (λ (b : List ℕ). before ++ b) (units_then-append units [] tail)

pub switch_case_then-nil : (number : ℕ) (case : SwitchCase) (before tail : List ℕ)
    → (before ++ switch_case_then number case []) ++ tail ≡ before ++ switch_case_then number case tail
switch_case_then-nil number case before tail = append_assoc before (switch_case_then number case []) tail
    ∙ ap (λ (b : List ℕ). before ++ b) (switch_case_then-append number case [] tail)

pub switch_cases_then-nil : (number : ℕ) (cases : List SwitchCase) (before tail : List ℕ)
    → (before ++ switch_cases_then number cases []) ++ tail ≡ before ++ switch_cases_then number cases tail
switch_cases_then-nil number cases before tail = append_assoc before (switch_cases_then number cases []) tail
    ∙ ap (λ (b : List ℕ). before ++ b) (switch_cases_then-append number cases [] tail)

pub declarations_then-nil : (names : Spellings) (declares : Bool) (before tail : List ℕ)
    → (before ++ declarations_then names declares []) ++ tail ≡ before ++ declarations_then names declares tail
declarations_then-nil names declares before tail = append_assoc before (declarations_then names declares []) tail
    ∙ ap (λ (b : List ℕ). before ++ b) (declarations_then-append names declares [] tail)

pub state_cases_then-nil : (number : ℕ) (cases : List StateCase) (before tail : List ℕ)
    → (before ++ state_cases_then number cases []) ++ tail ≡ before ++ state_cases_then number cases tail
state_cases_then-nil number cases before tail = append_assoc before (state_cases_then number cases []) tail
    ∙ ap (λ (b : List ℕ). before ++ b) (state_cases_then-append number cases [] tail)

pub state_switch_then-nil : (number : ℕ) (names : Spellings) (conds : List CondCase) (states : Option (List StateCase)) (before tail : List ℕ)
    → (before ++ state_switch_then number names conds states []) ++ tail ≡ before ++ state_switch_then number names conds states tail
state_switch_then-nil number names conds states before tail = append_assoc before (state_switch_then number names conds states []) tail
    ∙ ap (λ (b : List ℕ). before ++ b) (state_switch_then-append number names conds states [] tail)

pub cond_cases_then-nil : (number : ℕ) (names : Spellings) (conds : List CondCase) (before tail : List ℕ)
    → (before ++ cond_cases_then number names conds []) ++ tail ≡ before ++ cond_cases_then number names conds tail
cond_cases_then-nil number names conds before tail = append_assoc before (cond_cases_then number names conds []) tail
    ∙ ap (λ (b : List ℕ). before ++ b) (cond_cases_then-append number names conds [] tail)

pub joined-nil : (words : List (List ℕ)) (before tail : List ℕ) → (before ++ joined words []) ++ tail ≡ before ++ joined words tail
joined-nil words before tail = append_assoc before (joined words []) tail ∙ ap (λ (b : List ℕ). before ++ b) (joined-append words [] tail)

-- one more item of a list whose texts are appended one behind another
pub appended_next : {A : Type 0} (one : A → List ℕ → List ℕ) (all : List A → List ℕ) (xs : List A) (index : ℕ) (a : A) (was now total : List ℕ)
    → ((b tail : List ℕ) → (b ++ one a []) ++ tail ≡ b ++ one a tail) → ((l : List A) → all (a ∷ l) ≡ one a (all l)) → index < length xs
    → a ≡ get_or xs index a → now ≡ was ++ one a []
    → was ++ all (drop index xs) ≡ total → now ++ all (drop (index + 1) xs) ≡ total
appended_next one all xs index a was now total tails step lt is e h =
    let rest : drop index xs ≡ a ∷ drop (index + 1) xs = drop_more xs index a lt ∙ ap (λ b. b ∷ drop (index + 1) xs) (sym is) in
    ap (λ (l : List ℕ). l ++ all (drop (index + 1) xs)) e ∙ tails was (all (drop (index + 1) xs))
    ∙ ap (λ (l : List ℕ). was ++ l) (sym (step (drop (index + 1) xs)) ∙ ap all (sym rest)) ∙ h

-- the same, where an item stands for its own text
pub appended_word : {A : Type 0} (word : A → List ℕ) (all : List A → List ℕ) (xs : List A) (index : ℕ) (none : A) (was now total : List ℕ)
    → ((a : A) (l : List A) → all (a ∷ l) ≡ word a ++ all l) → index < length xs → now ≡ was ++ word (get_or xs index none)
    → was ++ all (drop index xs) ≡ total → now ++ all (drop (index + 1) xs) ≡ total
appended_word word all xs index none was now total step lt e h =
    let a = get_or xs index none in
    ap (λ (l : List ℕ). l ++ all (drop (index + 1) xs)) e ∙ append_assoc was (word a) (all (drop (index + 1) xs))
    ∙ ap (λ (l : List ℕ). was ++ l) (sym (step a (drop (index + 1) xs)) ∙ ap all (sym (drop_more xs index none lt))) ∙ h

-- the same, where the text of an item depends on its place
pub appended_next_at : {A : Type 0} (one : ℕ → A → List ℕ → List ℕ) (all : ℕ → List A → List ℕ) (xs : List A) (index : ℕ) (a : A) (was now total : List ℕ)
    → ((b tail : List ℕ) → (b ++ one index a []) ++ tail ≡ b ++ one index a tail)
    → ((l : List A) → all index (a ∷ l) ≡ one index a (all (index + 1) l)) → index < length xs → a ≡ get_or xs index a → now ≡ was ++ one index a []
    → was ++ all index (drop index xs) ≡ total → now ++ all (index + 1) (drop (index + 1) xs) ≡ total
appended_next_at one all xs index a was now total tails step lt is e h =
    let rest : drop index xs ≡ a ∷ drop (index + 1) xs = drop_more xs index a lt ∙ ap (λ b. b ∷ drop (index + 1) xs) (sym is) in
    ap (λ (l : List ℕ). l ++ all (index + 1) (drop (index + 1) xs)) e ∙ tails was (all (index + 1) (drop (index + 1) xs))
    ∙ ap (λ (l : List ℕ). was ++ l) (sym (step (drop (index + 1) xs)) ∙ ap (all index) (sym rest)) ∙ h

pub cells_then-cons : (place byte : ℕ) (bytes tail : List ℕ) → cells_then place (byte ∷ bytes) tail ≡ cell_then place byte (cells_then (place + 1) bytes tail)
cells_then-cons place byte bytes tail = ap (λ (next : ℕ). cell_then place byte (cells_then next bytes tail)) (sym (add-one place))

pub blocks_then-cons : (wording : Wording) (line : Option ℕ) (index : ℕ) (block : CodeBlock) (l : List CodeBlock) (tail : List ℕ)
    → blocks_then wording line index (block ∷ l) tail ≡ code_block_then wording line index block (blocks_then wording (line_behind line (code_block_then wording line index block [])) (index + 1) l tail)
blocks_then-cons wording line index block l tail =
    ap (λ (place : ℕ). code_block_then wording line index block (blocks_then wording (line_behind line (code_block_then wording line index block [])) place l tail)) (sym (add-one index))

-- one spelling of the names line, one case of a switch
abbrev pub name_parts : List ℕ → List (List ℕ)
name_parts word = codes " " ∷ decimal (length word) ∷ codes ":" ∷ word ∷ []

abbrev pub state_parts : ℕ → StateCase → List (List ℕ)
state_parts number c = codes "\tcase " ∷ decimal c.state ∷ codes ": goto yy" ∷ decimal number ∷ codes "_" ∷ decimal c.block ∷ codes ";\n" ∷ []

abbrev pub cond_parts : ℕ → Spellings → CondCase → List (List ℕ)
cond_parts number names c = codes "\tcase " ∷ (condition_prefix names ++ c.cond) ∷ codes ": goto yy" ∷ decimal number ∷ codes "_" ∷ decimal c.block ∷ codes ";\n" ∷ []

-- a part that was appended, and then the next
pub part_written : {f : List ℕ → List ℕ} (o before tail : List ℕ) → o ≡ before ++ f [] → ((b rest : List ℕ) → (b ++ f []) ++ rest ≡ b ++ f rest)
    → o ++ tail ≡ before ++ f tail
part_written {f = f} o before tail e law = ap (λ (l : List ℕ). l ++ tail) e ∙ law before tail

-- a block's three parts
pub block_lines_written : (wording : Wording) (place : ℕ) (block : CodeBlock) (o0 o1 o2 o3 : List ℕ) → o1 ≡ o0 ++ label_then wording.names block.cond []
    → o2 ≡ o1 ++ block_label_then (slice_index_or wording.labels place true) wording.number place [] → o3 ≡ o2 ++ statements_then wording block.stmts []
    → o3 ≡ o0 ++ block_lines_then wording place block []
block_lines_written wording place block o0 o1 o2 o3 e1 e2 e3 =
    let stands : Bool = slice_index_or wording.labels place true in
    let code : List ℕ = statements_then wording block.stmts [] in
    e3 ∙ part_written {f = block_label_then stands wording.number place} o2 o1 code e2 (block_label_then-nil stands wording.number place)
    ∙ part_written {f = label_then wording.names block.cond} o1 o0 (block_label_then stands wording.number place code) e1 (label_then-nil wording.names block.cond)

pub cond_switch_parts : (number : ℕ) (names : Spellings) (case : CondCase) (conds : List CondCase) (before : List ℕ)
    → ((before ++ joined (codes "yy" ∷ decimal number ∷ codes "_cond:\n\tswitch (" ∷ get_condition names ∷ codes "()) {\n" ∷ []) []) ++ cond_cases_then number names (case ∷ conds) []) ++ joined (codes "\t}\n" ∷ []) [] ≡ before ++ cond_switch_then number names (case ∷ conds) []
cond_switch_parts number names case conds before =
    let parts : List (List ℕ) = codes "yy" ∷ decimal number ∷ codes "_cond:\n\tswitch (" ∷ get_condition names ∷ codes "()) {\n" ∷ [] in
    cond_cases_then-nil number names (case ∷ conds) (before ++ joined parts []) (joined (codes "\t}\n" ∷ []) [])
    ∙ joined-nil parts before (cond_cases_then number names (case ∷ conds) (joined (codes "\t}\n" ∷ []) []))

-- a switch over states: its head, its cases, and its end behind them
pub switch_written : (names : Spellings) (cases : List ℕ → List ℕ) (before o1 o2 o3 end : List ℕ) → ((b rest : List ℕ) → (b ++ cases []) ++ rest ≡ b ++ cases rest)
    → o1 ≡ before ++ joined (codes "\tswitch (" ∷ get_state names ∷ codes "()) {\n" ∷ []) [] → o2 ≡ o1 ++ cases [] → o3 ≡ o2 ++ end
    → o3 ≡ before ++ joined (codes "\tswitch (" ∷ get_state names ∷ codes "()) {\n" ∷ []) (cases end)
switch_written names cases before o1 o2 o3 end law e1 e2 e3 =
    let head : List (List ℕ) = codes "\tswitch (" ∷ get_state names ∷ codes "()) {\n" ∷ [] in
    e3 ∙ part_written {f = cases} o2 o1 end e2 law ∙ part_written {f = joined head} o1 before (cases end) e1 (joined-nil head)

pub cond_switch_written : (number : ℕ) (names : Spellings) (conds : List CondCase) (before o1 o2 o3 name : List ℕ) → (length conds ≡ 0 → ⊥)
    → name ≡ get_condition names
    → o1 ≡ before ++ joined (codes "yy" ∷ decimal number ∷ codes "_cond:\n\tswitch (" ∷ name ∷ codes "()) {\n" ∷ []) []
    → o2 ≡ o1 ++ cond_cases_then number names conds [] → o3 ≡ o2 ++ joined (codes "\t}\n" ∷ []) []
    → o3 ≡ before ++ cond_switch_then number names conds []
cond_switch_written number names [] before o1 o2 o3 name some hg e1 e2 e3 = absurd (some refl)
cond_switch_written number names (c ∷ conds) before o1 o2 o3 name some hg e1 e2 e3 =
    let first : o1 ≡ before ++ joined (codes "yy" ∷ decimal number ∷ codes "_cond:\n\tswitch (" ∷ get_condition names ∷ codes "()) {\n" ∷ []) [] = e1
    ∙ ap (λ (b : List ℕ). before ++ joined (codes "yy" ∷ decimal number ∷ codes "_cond:\n\tswitch (" ∷ b ∷ codes "()) {\n" ∷ []) []) hg in
    e3 ∙ ap (λ (l : List ℕ). l ++ joined (codes "\t}\n" ∷ []) []) (e2 ∙ ap (λ (l : List ℕ). l ++ cond_cases_then number names (c ∷ conds) []) first)
    ∙ cond_switch_parts number names c conds before

-- a text alone behind another, and then a tail
pub then-nil : (text : List ℕ → List ℕ) → ((tail rest : List ℕ) → text tail ++ rest ≡ text (tail ++ rest)) → (before tail : List ℕ) → (before ++ text []) ++ tail ≡ before ++ text tail
then-nil text law before tail = append_assoc before (text []) tail ∙ ap (λ (b : List ℕ). before ++ b) (law [] tail)

-- what is appended part by part is the text up to the line of the spellings
pub front_written : (piece : Piece) (o0 a b o1 o2 o3 o4 : List ℕ) → a ≡ o0 ++ joined (begin_parts piece) []
    → b ≡ a ++ head_then (is_kept piece.head piece.declares) piece.head [] → o1 ≡ b ++ joined (unit_parts piece) []
    → o2 ≡ o1 ++ eof_then piece.eof [] → o3 ≡ o2 ++ names_then piece.names [] → o4 ≡ o3 ++ joined (codes "*/\n" ∷ []) [] → o4 ≡ o0 ++ front_then piece []
front_written piece o0 a b o1 o2 o3 o4 ea eb e1 e2 e3 e4 =
    let kept : Bool = is_kept piece.head piece.declares in
    e4 ∙ part_written {f = names_then piece.names} o3 o2 _ e3 (names_then-nil piece.names)
    ∙ part_written {f = eof_then piece.eof} o2 o1 _ e2 (eof_then-nil piece.eof)
    ∙ part_written {f = joined (unit_parts piece)} o1 b _ e1 (joined-nil (unit_parts piece))
    ∙ part_written {f = head_then kept piece.head} b a _ eb (head_then-nil kept piece.head)
    ∙ part_written {f = joined (begin_parts piece)} a o0 _ ea (joined-nil (begin_parts piece))

-- the declarations and the switches in formats before 3
pub old_sections_written : (piece : Piece) (o0 o1 o2 o3 : List ℕ) → o1 ≡ o0 ++ declarations_then piece.names piece.declares []
    → o2 ≡ o1 ++ state_switch_then piece.number piece.names piece.conds piece.states [] → o3 ≡ o2 ++ cond_switch_then piece.number piece.names piece.conds []
    → o3 ≡ o0 ++ sections_by false piece []
old_sections_written piece o0 o1 o2 o3 e1 e2 e3 =
    e3 ∙ part_written {f = state_switch_then piece.number piece.names piece.conds piece.states} o2 o1 _ e2 (state_switch_then-nil piece.number piece.names piece.conds piece.states)
    ∙ part_written {f = declarations_then piece.names piece.declares} o1 o0 _ e1 (declarations_then-nil piece.names piece.declares)

-- the same in format 3
pub sections_of_three_written : (piece : Piece) (o0 o1 o2 o3 o4 o5 o6 : List ℕ) → o1 ≡ o0 ++ unit_line_then (declares_unit piece) piece.names piece.unit []
    → o2 ≡ o1 ++ accept_line_then (declares_accept piece) piece.names [] → o3 ≡ o2 ++ state_switch_then piece.number piece.names piece.conds piece.states []
    → o4 ≡ o3 ++ cond_label_then (has_cond_label piece) piece.number [] → o5 ≡ o4 ++ label_switch_then piece.names piece.conds []
    → o6 ≡ o5 ++ joined (codes "\n" ∷ []) [] → o6 ≡ o0 ++ sections_by true piece []
sections_of_three_written piece o0 o1 o2 o3 o4 o5 o6 e1 e2 e3 e4 e5 e6 =
    e6 ∙ part_written {f = label_switch_then piece.names piece.conds} o5 o4 _ e5 (then-nil (label_switch_then piece.names piece.conds) (label_switch_then-append piece.names piece.conds))
    ∙ part_written {f = cond_label_then (has_cond_label piece) piece.number} o4 o3 _ e4 (then-nil (cond_label_then (has_cond_label piece) piece.number) (cond_label_then-append (has_cond_label piece) piece.number))
    ∙ part_written {f = state_switch_then piece.number piece.names piece.conds piece.states} o3 o2 _ e3 (state_switch_then-nil piece.number piece.names piece.conds piece.states)
    ∙ part_written {f = accept_line_then (declares_accept piece) piece.names} o2 o1 _ e2 (then-nil (accept_line_then (declares_accept piece) piece.names) (accept_line_then-append (declares_accept piece) piece.names))
    ∙ part_written {f = unit_line_then (declares_unit piece) piece.names piece.unit} o1 o0 _ e1 (then-nil (unit_line_then (declares_unit piece) piece.names piece.unit) (unit_line_then-append (declares_unit piece) piece.names piece.unit))

-- the brace, the table, and what stands before the blocks
pub opening_written : (piece : Piece) (o0 o1 o2 o3 : List ℕ) → o1 ≡ o0 ++ joined (codes "{\n" ∷ []) [] → o2 ≡ o1 ++ table_then piece.table []
    → o3 ≡ o2 ++ sections_by (is_three piece.head) piece [] → o3 ≡ o0 ++ opening_then piece []
opening_written piece o0 o1 o2 o3 e1 e2 e3 =
    e3 ∙ part_written {f = table_then piece.table} o2 o1 _ e2 (table_then-nil piece.table)
    ∙ part_written {f = joined (codes "{\n" ∷ [])} o1 o0 _ e1 (joined-nil (codes "{\n" ∷ []))

-- the text behind the blocks
pub closing_written : (piece : Piece) (o0 o1 o2 o3 : List ℕ) → o1 ≡ o0 ++ none_label_then (has_none_label piece) piece.number [] → o2 ≡ o1 ++ joined (codes "}\n" ∷ []) []
    → o3 ≡ o2 ++ line_then piece.line (joined (codes "/*!end:re2c*/" ∷ []) []) → o3 ≡ o0 ++ closing_then piece []
closing_written piece o0 o1 o2 o3 e1 e2 e3 =
    e3 ∙ part_written {f = joined (codes "}\n" ∷ [])} o2 o1 _ e2 (joined-nil (codes "}\n" ∷ []))
    ∙ part_written {f = none_label_then (has_none_label piece) piece.number} o1 o0 _ e1 (then-nil (none_label_then (has_none_label piece) piece.number) (none_label_then-append (has_none_label piece) piece.number))

-- the five parts of a piece
pub piece_written : (place : Option LineMark) (piece : Piece) (o0 o1 o2 o3 o4 o5 : List ℕ) → o1 ≡ o0 ++ front_then piece [] → o2 ≡ o1 ++ line_then place []
    → o3 ≡ o2 ++ opening_then piece [] → o4 ≡ o3 ++ blocks_then (wording_of place piece) (blocks_line place piece) 0 piece.blocks []
    → o5 ≡ o4 ++ closing_then piece [] → o5 ≡ o0 ++ piece_text place piece
piece_written place piece o0 o1 o2 o3 o4 o5 e1 e2 e3 e4 e5 =
    let wording : Wording = wording_of place piece in
    let line : Option ℕ = blocks_line place piece in
    e5 ∙ part_written {f = blocks_then wording line 0 piece.blocks} o4 o3 _ e4 (blocks_then-nil wording line 0 piece.blocks)
    ∙ part_written {f = opening_then piece} o3 o2 _ e3 (then-nil (opening_then piece) (opening_then-append piece))
    ∙ part_written {f = line_then place} o2 o1 _ e2 (line_then-nil place)
    ∙ part_written {f = front_then piece} o1 o0 _ e1 (then-nil (front_then piece) (front_then-append piece))

-- a switch over conditions that goes to their labels
pub label_switch_written : (names : Spellings) (conds : List CondCase) (o0 o1 o2 o3 name : List ℕ) → (length conds ≡ 0 → ⊥) → name ≡ get_condition names
    → o1 ≡ o0 ++ joined (codes "\tswitch (" ∷ name ∷ codes "()) {\n" ∷ []) [] → o2 ≡ o1 ++ label_cases_then names conds [] → o3 ≡ o2 ++ joined (codes "\t}\n" ∷ []) []
    → o3 ≡ o0 ++ label_switch_then names conds []
label_switch_written names [] o0 o1 o2 o3 name some is e1 e2 e3 = absurd (some refl)
label_switch_written names (case ∷ conds) o0 o1 o2 o3 name some is e1 e2 e3 =
    let cases : List ℕ = label_cases_then names (case ∷ conds) (codes "\t}\n") in
    let first : o1 ≡ o0 ++ joined (label_switch_words names) [] = e1 ∙ ap (λ (b : List ℕ). o0 ++ joined (codes "\tswitch (" ∷ b ∷ codes "()) {\n" ∷ []) []) is in
    e3 ∙ part_written {f = label_cases_then names (case ∷ conds)} o2 o1 (codes "\t}\n") e2 (then-nil (label_cases_then names (case ∷ conds)) (label_cases_then-append names (case ∷ conds)))
    ∙ part_written {f = joined (label_switch_words names)} o1 o0 cases first (joined-nil (label_switch_words names))

-- ---- lines of a text

pub feeds-append : (text more : List ℕ) → feeds (text ++ more) ≡ feeds text + feeds more
feeds-append [] more = omega arith
feeds-append (letter ∷ text) more = by (letter == 10) (feeds-append text more) where
  by : (feed : Bool) → feeds (text ++ more) ≡ feeds text + feeds more
      → (if feed then suc (feeds (text ++ more)) else feeds (text ++ more)) ≡ (if feed then suc (feeds text) else feeds text) + feeds more
  by true e = omega (arith, e)
  by false e = e

-- the line behind two texts is that behind the second, which begins in the line behind the first
pub line_behind-append : (line : Option ℕ) (text more : List ℕ) → line_behind (line_behind line text) more ≡ line_behind line (text ++ more)
line_behind-append None text more = refl
line_behind-append (Some line) text more =
    let both : feeds (text ++ more) ≡ feeds text + feeds more = feeds-append text more in
    let same : min (min (line + feeds text) 4294967295 + feeds more) 4294967295 ≡ min (line + feeds (text ++ more)) 4294967295 = omega (arith, both) in
    ap Some same

-- a case of a switch over units: its units, and its jump
pub switch_case_written : (number : ℕ) (case : SwitchCase) (o0 o1 o2 o3 : List ℕ) → o1 ≡ o0 ++ codes "\t" → o2 ≡ o1 ++ units_then case.units []
    → o3 ≡ o2 ++ joined (case_words number case.block) [] → o3 ≡ o0 ++ switch_case_then number case []
switch_case_written number case o0 o1 o2 o3 e1 e2 e3 =
    let end : List ℕ = joined (case_words number case.block) [] in
    e3 ∙ part_written {f = units_then case.units} o2 o1 end e2 (units_then-nil case.units)
    ∙ part_written {f = joined (codes "\t" ∷ [])} o1 o0 (units_then case.units end) e1 (joined-nil (codes "\t" ∷ []))

-- a switch over units: its head, its cases, and its end
pub switch_lines_written : (wording : Wording) (cases : List SwitchCase) (last : ℕ) (o0 o1 o2 o3 : List ℕ) → o1 ≡ o0 ++ joined (switch_words wording) []
    → o2 ≡ o1 ++ switch_cases_then wording.number cases [] → o3 ≡ o2 ++ joined (last_words wording.number last) []
    → o3 ≡ o0 ++ switch_then wording cases last []
switch_lines_written wording cases last o0 o1 o2 o3 e1 e2 e3 =
    let end : List ℕ = joined (last_words wording.number last) [] in
    e3 ∙ part_written {f = switch_cases_then wording.number cases} o2 o1 end e2 (switch_cases_then-nil wording.number cases)
    ∙ part_written {f = joined (switch_words wording)} o1 o0 (switch_cases_then wording.number cases end) e1 (joined-nil (switch_words wording))

-- the table: its head, its bytes, and its end
pub table_written : (table o0 o1 o2 o3 : List ℕ) → (length table ≡ 0 → ⊥) → o1 ≡ o0 ++ joined (table_words (length table)) []
    → o2 ≡ o1 ++ cells_then 0 table [] → o3 ≡ o2 ++ joined (codes "\t};\n" ∷ []) [] → o3 ≡ o0 ++ table_then table []
table_written [] o0 o1 o2 o3 some e1 e2 e3 = absurd (some refl)
table_written (byte ∷ bytes) o0 o1 o2 o3 some e1 e2 e3 =
    let table : List ℕ = byte ∷ bytes in
    let end : List ℕ = codes "\t};\n" in
    e3 ∙ part_written {f = cells_then 0 table} o2 o1 end e2 (cells_then-nil 0 table)
    ∙ part_written {f = joined (table_words (length table))} o1 o0 (cells_then 0 table end) e1 (joined-nil (table_words (length table)))

-- the place of a group that is not the first
pub group_text_some : (group : ℕ) → (group ≡ 0 → ⊥) → group_text group ≡ codes "0x" ++ (hexadecimal (256 * group) ++ codes " + ")
group_text_some zero some = absurd (some refl)
group_text_some (suc group) some = refl

-- the head line, word by word
pub head_line_written : (kept : Bool) (head : Head) (o0 o1 o2 o3 o4 o5 o6 : List ℕ)
    → o1 ≡ o0 ++ joined (codes "/*!head:re2c " ∷ format_word head.format ∷ custom_word head.custom ∷ []) []
    → o2 ≡ o1 ++ joined (kept_word kept ∷ encoding_word head.enc ∷ [] ∷ []) [] → o3 ≡ o2 ++ joined (codes " " ∷ mode_word head.mode ∷ codes " " ∷ []) []
    → o4 ≡ o3 ++ joined ([] ∷ decimal head.regs ∷ codes " " ∷ []) [] → o5 ≡ o4 ++ joined ([] ∷ decimal head.mregs ∷ codes " " ∷ []) []
    → o6 ≡ o5 ++ joined ([] ∷ decimal head.states ∷ codes "*/\n" ∷ []) [] → o6 ≡ o0 ++ head_then kept (Some head) []
head_line_written kept head o0 o1 o2 o3 o4 o5 o6 e1 e2 e3 e4 e5 e6 =
    let w1 : List (List ℕ) = codes "/*!head:re2c " ∷ format_word head.format ∷ custom_word head.custom ∷ [] in
    let w2 : List (List ℕ) = kept_word kept ∷ encoding_word head.enc ∷ [] ∷ [] in
    let w3 : List (List ℕ) = codes " " ∷ mode_word head.mode ∷ codes " " ∷ [] in
    let w4 : List (List ℕ) = [] ∷ decimal head.regs ∷ codes " " ∷ [] in
    let w5 : List (List ℕ) = [] ∷ decimal head.mregs ∷ codes " " ∷ [] in
    e6 ∙ part_written {f = joined w5} o5 o4 _ e5 (joined-nil w5) ∙ part_written {f = joined w4} o4 o3 _ e4 (joined-nil w4)
    ∙ part_written {f = joined w3} o3 o2 _ e3 (joined-nil w3) ∙ part_written {f = joined w2} o2 o1 _ e2 (joined-nil w2)
    ∙ part_written {f = joined w1} o1 o0 _ e1 (joined-nil w1)

-- the blocks from a place on, where the line behind the first is known
pub blocks_then-drop : (wording : Wording) (line after : Option ℕ) (place : ℕ) (blocks : List CodeBlock) (block : CodeBlock) (tail : List ℕ) → place < length blocks
    → block ≡ get_or blocks place block → after ≡ line_behind line (code_block_then wording line place block [])
    → blocks_then wording line place (drop place blocks) tail ≡ code_block_then wording line place block (blocks_then wording after (place + 1) (drop (place + 1) blocks) tail)
blocks_then-drop wording line after place blocks block tail within is after_is =
    let rest : List CodeBlock = drop (place + 1) blocks in
    ap (λ (left : List CodeBlock). blocks_then wording line place left tail) (drop_more blocks place block within ∙ ap (λ first. first ∷ rest) (sym is))
    ∙ blocks_then-cons wording line place block rest tail
    ∙ ap (λ (next : Option ℕ). code_block_then wording line place block (blocks_then wording next (place + 1) rest tail)) (sym after_is)

-- one more block, and the line behind it
pub blocks_written : (wording : Wording) (line after : Option ℕ) (place : ℕ) (blocks : List CodeBlock) (block : CodeBlock) (was now total : List ℕ) → place < length blocks
    → block ≡ get_or blocks place block → now ≡ was ++ code_block_then wording line place block [] → after ≡ line_behind line (code_block_then wording line place block [])
    → was ++ blocks_then wording line place (drop place blocks) [] ≡ total → now ++ blocks_then wording after (place + 1) (drop (place + 1) blocks) [] ≡ total
blocks_written wording line after place blocks block was now total within is e after_is h =
    part_written {f = code_block_then wording line place block} now was (blocks_then wording after (place + 1) (drop (place + 1) blocks) []) e (code_block_then-nil wording line place block)
    ∙ ap (λ (l : List ℕ). was ++ l) (sym (blocks_then-drop wording line after place blocks block [] within is after_is)) ∙ h

-- the line behind what was written last
pub line_behind-written : (line after : Option ℕ) (start : ℕ) (before items shown more : List ℕ) → start ≡ length before → shown ≡ items → items ≡ before ++ more
    → after ≡ line_behind line (take (length shown - start) (drop start shown)) → after ≡ line_behind line more
line_behind-written line after start before items shown more at is e h =
    let whole : shown ≡ before ++ more = is ∙ e in
    let last : drop start shown ≡ more = ap₂ (λ (place : ℕ) (l : List ℕ). drop place l) at whole ∙ drop-append_seam before more in
    let size : length shown - start ≡ length more = omega (arith, ap length whole, length-append before more, at) in
    h ∙ ap (line_behind line) (ap₂ (λ (count : ℕ) (l : List ℕ). take count l) size last ∙ take-length more)

-- the `#line` behind a block, by its last statement
given_back-by : (wording : Wording) (line : Option ℕ) (place : ℕ) (block : CodeBlock) (ends : Bool) → ends_in_code block.stmts ≡ ends
    → given_back wording line place block ≡ (if ends then mark_of wording.out (line_behind (line_behind line (block_lines_then wording place block [])) (codes "\n")) else None)
given_back-by wording line place block ends is =
    ap (λ (b : Bool). if b then mark_of wording.out (line_behind (line_behind line (block_lines_then wording place block [])) (codes "\n")) else None) is

-- the line behind a block, which is that behind its lines and then behind its `#line`
line_behind-block : (wording : Wording) (line behind after : Option ℕ) (place : ℕ) (block : CodeBlock) → behind ≡ line_behind line (block_lines_then wording place block [])
    → after ≡ line_behind behind (line_then (given_back wording line place block) []) → after ≡ line_behind line (code_block_then wording line place block [])
line_behind-block wording line behind after place block behind_is after_is =
    let lines : List ℕ = block_lines_then wording place block [] in
    let back : List ℕ = line_then (given_back wording line place block) [] in
    after_is ∙ ap (λ (next : Option ℕ). line_behind next back) behind_is ∙ line_behind-append line lines back
    ∙ ap (line_behind line) (block_lines_then-append wording place block [] back)

-- a block that ends in an action: its lines, and the `#line` behind them
pub code_block_written : (wording : Wording) (line behind after : Option ℕ) (place : ℕ) (block : CodeBlock) (o0 o1 o2 : List ℕ) → ends_in_code block.stmts ≡ true
    → o1 ≡ o0 ++ block_lines_then wording place block [] → behind ≡ line_behind line (block_lines_then wording place block [])
    → o2 ≡ o1 ++ line_then (mark_of wording.out (line_behind behind (codes "\n"))) [] → after ≡ line_behind behind (line_then (mark_of wording.out (line_behind behind (codes "\n"))) [])
    → (o2 ≡ o0 ++ code_block_then wording line place block []) × (after ≡ line_behind line (code_block_then wording line place block []))
code_block_written wording line behind after place block o0 o1 o2 ends e1 behind_is e2 after_is =
    let mark : Option ℕ → Option LineMark = λ next. mark_of wording.out (line_behind next (codes "\n")) in
    let given : mark behind ≡ given_back wording line place block = ap mark behind_is ∙ sym (given_back-by wording line place block true ends) in (
      e2 ∙ ap (λ (m : Option LineMark). o1 ++ line_then m []) given
          ∙ part_written {f = block_lines_then wording place block} o1 o0 (line_then (given_back wording line place block) []) e1 (then-nil (block_lines_then wording place block) (block_lines_then-append wording place block)),
      line_behind-block wording line behind after place block behind_is (after_is ∙ ap (λ (m : Option LineMark). line_behind behind (line_then m [])) given),
    )

-- a block that does not
pub code_block_plain : (wording : Wording) (line : Option ℕ) (place : ℕ) (block : CodeBlock) → ends_in_code block.stmts ≡ false
    → block_lines_then wording place block [] ≡ code_block_then wording line place block []
code_block_plain wording line place block ends =
    ap (λ (m : Option LineMark). block_lines_then wording place block (line_then m [])) (sym (given_back-by wording line place block false ends))

-- what the lines of a piece depend on is what its scope says
pub scope_wording-piece : (scope : Scope) (place : Option LineMark) (piece : Piece) → scope.number ≡ piece.number → scope.names.now ≡ piece.names → scope.ctx ≡ piece.ctx
    → scope.custom ≡ is_custom piece.head → scope.unit ≡ piece.unit → scope.labels.now ≡ standing_labels piece → scope.out.now ≡ file_of place
    → scope_wording scope ≡ wording_of place piece
scope_wording-piece scope place piece number names ctx custom unit labels out = cc
