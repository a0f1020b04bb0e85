-- A piece has at most as many parts as its text has bytes, so that the length of the bytes is fuel enough.
use Rattle.std.proofs.Common.{[], ◌++◌, ◌+◌, ◌<◌, ◌∷◌, ◌≡◌, ◌≤◌, Bool, List, None, Option, Some, ap, arith, false, length, refl, suc, true, ℕ}
use Rattle.std.proofs.lemmas.Bool.{false≢true}
use Rattle.std.proofs.lemmas.List.{length-append}
use Rattle.std.specs.Fmt.{decimal}
use Rattle.std.specs.Prelude.{codes, slice_index_or}
use Rattle.lx_base.specs.Names.{Spellings, condition_prefix, current_unit, get_condition, get_state, label_prefix, last_accept, unit_type}
use Rattle.lx_base.specs.Text.{joined}
use Rattle.lx_ccode.specs.declared.piece.CodeBlock.{CodeBlock}
use Rattle.lx_ccode.specs.declared.piece.CondCase.{CondCase}
use Rattle.lx_ccode.specs.declared.piece.Head.{Head}
use Rattle.lx_ccode.specs.declared.piece.LineMark.{LineMark}
use Rattle.lx_ccode.specs.declared.piece.Piece.{Piece}
use Rattle.lx_ccode.specs.declared.piece.StateCase.{StateCase}
use Rattle.lx_ccode.specs.declared.piece.Stmt.{Stmt}
use Rattle.lx_ccode.specs.Heads.{head_then, is_kept, is_three}
use Rattle.lx_ccode.specs.Reading.{begins_statement}
use Rattle.lx_ccode.specs.Statements.{statement_count}
use Rattle.lx_ccode.specs.Text.{accept_line_then, block_label_then, blocks_line, blocks_then, closing_then, code_block_then, cond_cases_then, cond_label_then, cond_switch_then, declarations_then, declares_accept, declares_unit, eof_then, escaped, front_then, given_back, has_cond_label, label_cases_then, label_switch_then, label_then, line_behind, line_then, names_then, piece_then, sections_by, start_then, state_cases_then, state_switch_then, statement_then, statements_then, table_then, unit_line_then, unit_word}
use Rattle.lx_ccode.specs.Wording.{Wording, wording_of}
use Rattle.lx_ccode.proofs.ReadSections.{begins_statement-statement}
use Rattle.lx_ccode.proofs.ReadTables.{table_then-length}
use Rattle.lx_ccode.proofs.Tails.{begin_parts, head_line_parts, joined-length, statement_then-append, unit_parts}

-- how many state cases there are
abbrev pub case_count : Option (List StateCase) → ℕ
case_count None = 0
case_count (Some cases) = length cases

-- at least as many as each list of the piece has items
abbrev pub list_sizes : Piece → ℕ
list_sizes p = case_count p.states + length p.conds + statement_count p.blocks + length p.table

statement_not_empty : (l : List ℕ) → begins_statement l ≡ true → 0 < length l
statement_not_empty [] h = absurd (false≢true h)
statement_not_empty (c ∷ l) h = omega arith

statement_then-length : (wording : Wording) (statement : Stmt) (tail : List ℕ)
    → length tail < length (statement_then wording statement tail)
statement_then-length wording statement tail =
    let whole : length (statement_then wording statement [] ++ tail) ≡ length (statement_then wording statement tail) = ap (λ (l : List ℕ). length l) (statement_then-append wording statement [] tail) in
    let both : length (statement_then wording statement [] ++ tail) ≡ length (statement_then wording statement []) + length tail = length-append (statement_then wording statement []) tail in
    let some : 0 < length (statement_then wording statement []) = statement_not_empty (statement_then wording statement []) (begins_statement-statement wording statement []) in
    omega arith

statements_then-length : (wording : Wording) (statements : List Stmt) (tail : List ℕ)
    → length statements + length tail ≤ length (statements_then wording statements tail)
statements_then-length wording [] tail = omega arith
statements_then-length wording (s ∷ statements) tail =
    let rest : length statements + length tail ≤ length (statements_then wording statements tail) = statements_then-length wording statements tail in
    let here : length (statements_then wording statements tail) < length (statement_then wording s (statements_then wording statements tail)) = statement_then-length wording s (statements_then wording statements tail) in
    omega arith

label_then-length : (names : Spellings) (label : Option (List ℕ)) (tail : List ℕ) → length tail ≤ length (label_then names label tail)
label_then-length names None tail = omega arith
label_then-length names (Some word) tail = joined-length ((label_prefix names ++ word) ∷ codes ":\n" ∷ []) tail

block_label_then-length : (stands : Bool) (number place : ℕ) (tail : List ℕ) → length tail ≤ length (block_label_then stands number place tail)
block_label_then-length false number place tail = omega arith
block_label_then-length true number place tail = joined-length (codes "yy" ∷ decimal number ∷ codes "_" ∷ decimal place ∷ codes ":\n" ∷ []) tail

line_then-length : (line : Option LineMark) (tail : List ℕ) → length tail ≤ length (line_then line tail)
line_then-length None tail = omega arith
line_then-length (Some mark) tail = joined-length (codes "#line " ∷ decimal mark.line ∷ codes " \"" ∷ escaped mark.file ∷ codes "\"\n" ∷ []) tail

blocks_then-length : (wording : Wording) (line : Option ℕ) (place : ℕ) (blocks : List CodeBlock) (tail : List ℕ)
    → statement_count blocks + length tail ≤ length (blocks_then wording line place blocks tail)
blocks_then-length wording line place [] tail = omega arith
blocks_then-length wording line place (b ∷ blocks) tail =
    let after : Option ℕ = line_behind line (code_block_then wording line place b []) in
    let others : List ℕ = blocks_then wording after (suc place) blocks tail in
    let given : List ℕ = line_then (given_back wording line place b) others in
    let code : List ℕ = statements_then wording b.stmts given in
    let stands : Bool = slice_index_or wording.labels place true in
    let rest : statement_count blocks + length tail ≤ length others = blocks_then-length wording after (suc place) blocks tail in
    let behind : length others ≤ length given = line_then-length (given_back wording line place b) others in
    let stmts : length b.stmts + length given ≤ length code = statements_then-length wording b.stmts given in
    let own : length code ≤ length (block_label_then stands wording.number place code) = block_label_then-length stands wording.number place code in
    let label : length (block_label_then stands wording.number place code) ≤ length (blocks_then wording line place (b ∷ blocks) tail) = label_then-length wording.names b.cond (block_label_then stands wording.number place code) in
    omega (arith, rest, behind, stmts, own, label)

names_then-length : (words : Spellings) (tail : List ℕ) → length tail ≤ length (names_then words tail)
names_then-length [] tail = omega arith
names_then-length (word ∷ words) tail =
    let rest : length tail ≤ length (names_then words tail) = names_then-length words tail in
    let here : length (names_then words tail) ≤ length (names_then (word ∷ words) tail) = joined-length (codes " " ∷ decimal (length word) ∷ codes ":" ∷ word ∷ []) (names_then words tail) in
    omega arith

eof_then-length : (eof : Option ℕ) (tail : List ℕ) → length tail ≤ length (eof_then eof tail)
eof_then-length None tail = joined-length (codes "-" ∷ []) tail
eof_then-length (Some eof) tail = joined-length (decimal eof ∷ []) tail

declarations_then-length : (names : Spellings) (declares : Bool) (tail : List ℕ) → length tail ≤ length (declarations_then names declares tail)
declarations_then-length names false tail = omega arith
declarations_then-length names true tail = joined-length (codes "\t" ∷ unit_type names ∷ codes " " ∷ current_unit names ∷ codes ";\n\tunsigned int " ∷ last_accept names ∷ codes " = 0;\n" ∷ []) tail

state_cases_then-length : (number : ℕ) (cases : List StateCase) (tail : List ℕ)
    → length cases + length tail ≤ length (state_cases_then number cases tail)
state_cases_then-length number [] tail = omega arith
state_cases_then-length number (c ∷ cases) tail =
    let rest : length cases + length tail ≤ length (state_cases_then number cases tail) = state_cases_then-length number cases tail in
    let here : length (state_cases_then number cases tail) ≤ length (joined (codes "case " ∷ decimal c.state ∷ codes ": goto yy" ∷ decimal number ∷ codes "_" ∷ decimal c.block ∷ codes ";\n" ∷ []) (state_cases_then number cases tail)) = joined-length (codes "case " ∷ decimal c.state ∷ codes ": goto yy" ∷ decimal number ∷ codes "_" ∷ decimal c.block ∷ codes ";\n" ∷ []) (state_cases_then number cases tail) in
    let tab : length (state_cases_then number (c ∷ cases) tail) ≡ suc (length (joined (codes "case " ∷ decimal c.state ∷ codes ": goto yy" ∷ decimal number ∷ codes "_" ∷ decimal c.block ∷ codes ";\n" ∷ []) (state_cases_then number cases tail))) = refl in
    omega arith

start_then-length : (number : ℕ) (conds : List CondCase) (tail : List ℕ) → length tail ≤ length (start_then number conds tail)
start_then-length number [] tail = joined-length (codes "yy" ∷ decimal number ∷ codes "_" ∷ decimal 0 ∷ []) tail
start_then-length number (c ∷ conds) tail = joined-length (codes "yy" ∷ decimal number ∷ codes "_cond" ∷ []) tail

state_switch_then-length : (number : ℕ) (names : Spellings) (conds : List CondCase) (states : Option (List StateCase)) (tail : List ℕ)
    → case_count states + length tail ≤ length (state_switch_then number names conds states tail)
state_switch_then-length number names conds None tail = omega arith
state_switch_then-length number names conds (Some states) tail =
    let end : length tail ≤ length (codes ";\n\t}\n" ++ tail) = joined-length (codes ";\n\t}\n" ∷ []) tail in
    let start : length (codes ";\n\t}\n" ++ tail) ≤ length (start_then number conds (codes ";\n\t}\n" ++ tail)) = start_then-length number conds (codes ";\n\t}\n" ++ tail) in
    let default : length (start_then number conds (codes ";\n\t}\n" ++ tail)) ≤ length (codes "\tdefault: goto " ++ start_then number conds (codes ";\n\t}\n" ++ tail)) = joined-length (codes "\tdefault: goto " ∷ []) (start_then number conds (codes ";\n\t}\n" ++ tail)) in
    let length_cases : length states + length (codes "\tdefault: goto " ++ start_then number conds (codes ";\n\t}\n" ++ tail)) ≤ length (state_cases_then number states (codes "\tdefault: goto " ++ start_then number conds (codes ";\n\t}\n" ++ tail))) = state_cases_then-length number states (codes "\tdefault: goto " ++ start_then number conds (codes ";\n\t}\n" ++ tail)) in
    let head : length (state_cases_then number states (codes "\tdefault: goto " ++ start_then number conds (codes ";\n\t}\n" ++ tail))) ≤ length (state_switch_then number names conds (Some states) tail) = joined-length (codes "\tswitch (" ∷ get_state names ∷ codes "()) {\n" ∷ []) (state_cases_then number states (codes "\tdefault: goto " ++ start_then number conds (codes ";\n\t}\n" ++ tail))) in
    omega arith

cond_cases_then-length : (number : ℕ) (names : Spellings) (conds : List CondCase) (tail : List ℕ)
    → length conds + length tail ≤ length (cond_cases_then number names conds tail)
cond_cases_then-length number names [] tail = omega arith
cond_cases_then-length number names (c ∷ conds) tail =
    let rest : length conds + length tail ≤ length (cond_cases_then number names conds tail) = cond_cases_then-length number names conds tail in
    let parts : List (List ℕ) = codes "case " ∷ (condition_prefix names ++ c.cond) ∷ codes ": goto yy" ∷ decimal number ∷ codes "_" ∷ decimal c.block ∷ codes ";\n" ∷ [] in
    let here : length (cond_cases_then number names conds tail) < length (cond_cases_then number names (c ∷ conds) tail) = (let h = joined-length parts (cond_cases_then number names conds tail) in omega (arith, h)) in
    omega arith

cond_switch_then-length : (number : ℕ) (names : Spellings) (conds : List CondCase) (tail : List ℕ)
    → length conds + length tail ≤ length (cond_switch_then number names conds tail)
cond_switch_then-length number names [] tail = omega arith
cond_switch_then-length number names (c ∷ conds) tail =
    let end : length tail ≤ length (codes "\t}\n" ++ tail) = joined-length (codes "\t}\n" ∷ []) tail in
    let length_cases : length (c ∷ conds) + length (codes "\t}\n" ++ tail) ≤ length (cond_cases_then number names (c ∷ conds) (codes "\t}\n" ++ tail)) = cond_cases_then-length number names (c ∷ conds) (codes "\t}\n" ++ tail) in
    let head : length (cond_cases_then number names (c ∷ conds) (codes "\t}\n" ++ tail)) ≤ length (cond_switch_then number names (c ∷ conds) tail) = joined-length (codes "yy" ∷ decimal number ∷ codes "_cond:\n\tswitch (" ∷ get_condition names ∷ codes "()) {\n" ∷ []) (cond_cases_then number names (c ∷ conds) (codes "\t}\n" ++ tail)) in
    omega arith

head_then-length : (kept : Bool) (head : Option Head) (tail : List ℕ) → length tail ≤ length (head_then kept head tail)
head_then-length kept None tail = omega arith
head_then-length kept (Some head) tail = joined-length (head_line_parts kept head) tail

unit_line_then-length : (stands : Bool) (names : Spellings) (unit : ℕ) (tail : List ℕ) → length tail ≤ length (unit_line_then stands names unit tail)
unit_line_then-length false names unit tail = omega arith
unit_line_then-length true names unit tail = joined-length (codes "\tunsigned " ∷ unit_word unit ∷ codes " " ∷ current_unit names ∷ codes ";\n" ∷ []) tail

accept_line_then-length : (stands : Bool) (names : Spellings) (tail : List ℕ) → length tail ≤ length (accept_line_then stands names tail)
accept_line_then-length false names tail = omega arith
accept_line_then-length true names tail = joined-length (codes "\tunsigned int " ∷ last_accept names ∷ codes " = 0;\n" ∷ []) tail

cond_label_then-length : (stands : Bool) (number : ℕ) (tail : List ℕ) → length tail ≤ length (cond_label_then stands number tail)
cond_label_then-length false number tail = omega arith
cond_label_then-length true number tail = joined-length (codes "yy" ∷ decimal number ∷ codes "_cond:\n" ∷ []) tail

label_cases_then-length : (names : Spellings) (cases : List CondCase) (tail : List ℕ) → length cases + length tail ≤ length (label_cases_then names cases tail)
label_cases_then-length names [] tail = omega arith
label_cases_then-length names (case ∷ cases) tail =
    let others : List ℕ = label_cases_then names cases tail in
    let rest : length cases + length tail ≤ length others = label_cases_then-length names cases tail in
    let words : List (List ℕ) = codes "case " ∷ (condition_prefix names ++ case.cond) ∷ codes ": goto " ∷ (label_prefix names ++ case.cond) ∷ codes ";\n" ∷ [] in
    let here : length others ≤ length (joined words others) = joined-length words others in
    let tab : length (label_cases_then names (case ∷ cases) tail) ≡ suc (length (joined words others)) = refl in
    omega (arith, rest, here, tab)

label_switch_then-length : (names : Spellings) (conds : List CondCase) (tail : List ℕ) → length conds + length tail ≤ length (label_switch_then names conds tail)
label_switch_then-length names [] tail = omega arith
label_switch_then-length names (case ∷ conds) tail =
    let end : List ℕ = codes "\t}\n" ++ tail in
    let behind : length tail ≤ length end = joined-length (codes "\t}\n" ∷ []) tail in
    let cases : length (case ∷ conds) + length end ≤ length (label_cases_then names (case ∷ conds) end) = label_cases_then-length names (case ∷ conds) end in
    let whole : length (label_cases_then names (case ∷ conds) end) ≤ length (label_switch_then names (case ∷ conds) tail) =
    joined-length (codes "\tswitch (" ∷ get_condition names ∷ codes "()) {\n" ∷ []) (label_cases_then names (case ∷ conds) end) in
    omega (arith, behind, cases, whole)

sections_by-length : (three : Bool) (piece : Piece) (tail : List ℕ) → case_count piece.states + length piece.conds + length tail ≤ length (sections_by three piece tail)
sections_by-length false piece tail =
    let conds : List ℕ = cond_switch_then piece.number piece.names piece.conds tail in
    let states : List ℕ = state_switch_then piece.number piece.names piece.conds piece.states conds in
    omega (arith, cond_switch_then-length piece.number piece.names piece.conds tail, state_switch_then-length piece.number piece.names piece.conds piece.states conds, declarations_then-length piece.names piece.declares states)
sections_by-length true piece tail =
    let conds : List ℕ = label_switch_then piece.names piece.conds (10 ∷ tail) in
    let label : List ℕ = cond_label_then (has_cond_label piece) piece.number conds in
    let states : List ℕ = state_switch_then piece.number piece.names piece.conds piece.states label in
    let accept : List ℕ = accept_line_then (declares_accept piece) piece.names states in
    omega (
      arith,
      label_switch_then-length piece.names piece.conds (10 ∷ tail),
      cond_label_then-length (has_cond_label piece) piece.number conds,
      state_switch_then-length piece.number piece.names piece.conds piece.states label,
      accept_line_then-length (declares_accept piece) piece.names states,
      unit_line_then-length (declares_unit piece) piece.names piece.unit accept,
    )

front_then-length : (piece : Piece) (tail : List ℕ) → length tail ≤ length (front_then piece tail)
front_then-length piece tail =
    let end : List ℕ = codes "*/\n" ++ tail in
    let names : List ℕ = names_then piece.names end in
    let eof : List ℕ = eof_then piece.eof names in
    let unit : List ℕ = joined (unit_parts piece) eof in
    let head : List ℕ = head_then (is_kept piece.head piece.declares) piece.head unit in
    omega (
      arith,
      joined-length (codes "*/\n" ∷ []) tail,
      names_then-length piece.names end,
      eof_then-length piece.eof names,
      joined-length (unit_parts piece) eof,
      head_then-length (is_kept piece.head piece.declares) piece.head unit,
      joined-length (begin_parts piece) head,
    )

pub list_sizes-length : (place : Option LineMark) (piece : Piece) (tail : List ℕ) → list_sizes piece ≤ length (piece_then place piece tail)
list_sizes-length place piece tail =
    let closing : List ℕ = closing_then piece tail in
    let blocks : List ℕ = blocks_then (wording_of place piece) (blocks_line place piece) 0 piece.blocks closing in
    let sections : List ℕ = sections_by (is_three piece.head) piece blocks in
    let table : List ℕ = table_then piece.table sections in
    let brace : List ℕ = codes "{\n" ++ table in
    let placing : List ℕ = line_then place brace in
    let h1 : statement_count piece.blocks + length closing ≤ length blocks = blocks_then-length (wording_of place piece) (blocks_line place piece) 0 piece.blocks closing in
    let h2 = sections_by-length (is_three piece.head) piece blocks in
    let h3 : length piece.table + length sections ≤ length table = table_then-length piece.table sections in
    let h4 : length table ≤ length brace = joined-length (codes "{\n" ∷ []) table in
    let h5 : length brace ≤ length placing = line_then-length place brace in
    let h6 : length placing ≤ length (piece_then place piece tail) = front_then-length piece placing in
    omega (arith, h1, h2, h3, h4, h5, h6)
