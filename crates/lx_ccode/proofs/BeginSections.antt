-- No begin mark begins in the sections of a piece, behind its own.
use Rattle.std.proofs.Common.{[], ◌++◌, ◌*◌, ◌+◌, ◌<◌, ◌^◌, ◌∙◌, ◌∷◌, ◌≡◌, ◌⊎◌, Bool, List, None, Option, Some, ap, arith, drop, false, inl, inr, length, refl, subst, suc, sym, true, ℕ}
use Rattle.std.proofs.lemmas.List.{append_cancel_right}
use Rattle.std.specs.Fmt.{decimal}
use Rattle.std.specs.List.{AllByRecursion}
use Rattle.std.specs.Prelude.{◌%◌, ◌==◌, IfSome, codes, if◌then◌else◌, slice_index_or}
use Rattle.lx_base.specs.Letters.{IsIdentifier}
use Rattle.lx_base.specs.Names.{EachIsShort, Spellings, condition_prefix, current_unit, get_condition, get_state, label_prefix, last_accept, unit_type}
use Rattle.lx_base.specs.Text.{joined}
use Rattle.lx_ccode.specs.Bodies.{body_piece_text}
use Rattle.lx_base.specs.declared.settings.Format.{Format}
use Rattle.lx_base.specs.declared.settings.Format.TheVariants.{Two, Three}
use Rattle.lx_base.specs.declared.settings.Enc.{Enc}
use Rattle.lx_base.specs.declared.settings.Enc.TheVariants.{Byte, Ucs2, Utf8, Utf16, Utf32}
use Rattle.lx_ccode.specs.Front.{IsPlaced}
use Rattle.lx_ccode.specs.Heads.{custom_word, encoding_word, format_word, head_then, is_kept, is_three, kept_word, mode_word}
use Rattle.lx_ccode.specs.Marks.{HasNoBegin, IsUnmarked, IsUnmarkedLine, begins_piece}
use Rattle.lx_ccode.specs.Statements.{all_statements, ends_in_code}
use Rattle.lx_ccode.specs.Text.{accept_line_then, block_label_then, block_lines_then, block_then, blocks_line, blocks_then, cells_then, closing_then, code_block_then, cond_cases_then, cond_label_then, cond_switch_then, declarations_then, declares_accept, declares_unit, eof_then, given_back, goto_then, has_cond_label, has_none_label, hexadecimal, label_cases_then, label_switch_then, label_then, line_behind, line_of, line_then, mark_of, names_then, none_label_then, opening_then, piece_text, piece_then, row_end, row_start, sections_by, start_then, state_cases_then, state_switch_then, statements_then, table_then, unit_line_then, unit_word}
use Rattle.lx_ccode.specs.Validity.{EachBlockHasSpelling, IsByte, IsLabel, IsLine, IsLong, IsShort, IsValid}
use Rattle.lx_ccode.specs.declared.bodies.Body.TheVariants.{Empty}
use Rattle.lx_ccode.specs.declared.piece.CodeBlock.{CodeBlock}
use Rattle.lx_ccode.specs.declared.piece.CondCase.{CondCase}
use Rattle.lx_ccode.specs.declared.piece.Head.{Head}
use Rattle.lx_ccode.specs.declared.piece.LineMark.{LineMark}
use Rattle.lx_ccode.specs.declared.piece.Mode.{Mode}
use Rattle.lx_ccode.specs.declared.piece.Mode.TheVariants.{Plain, Count, EofFixed, Eof}
use Rattle.lx_ccode.specs.declared.piece.Piece.{Piece}
use Rattle.lx_ccode.specs.declared.piece.StateCase.{StateCase}
use Rattle.lx_ccode.specs.declared.piece.Stmt.{Stmt}
use Rattle.lx_ccode.specs.Wording.{Wording, wording_of}
use Rattle.lx_ccode.proofs.BeginLines.{NamesPass, block_passes, goto_passes, line_passes, names_pass, number_passes, prefixed_passes, short_passes, statements_pass}
use Rattle.lx_ccode.proofs.BeginMarks.{EachPasses, Passes, Passes-all, Passes-joined, Passes-text, Passes-then, hexadecimal_lacks, none_begins, none_begins-word}
use Rattle.lx_ccode.proofs.ReadTables.{table_is_small}
use Rattle.lx_ccode.proofs.RoundTrip.{statement_count-blocks}
use Rattle.lx_ccode.proofs.Tails.{accept_line_words, cell_words, cond_label_words, head_line_parts, joined-append, label_case_words, label_switch_words, line_then-append, piece_text-append, table_words, unit_line_words, unit_parts}

label_passes : (names : Spellings) (label : Option (List ℕ)) (behind : List ℕ) → NamesPass names → IsLabel label → Passes (label_then names label behind) behind
label_passes names None behind pass h = Passes-all behind
label_passes names (Some cond) behind pass h = Passes-joined ((label_prefix names ++ cond) ∷ codes ":\n" ∷ []) behind
    (prefixed_passes (label_prefix names) cond pass.label_lacks h, (refl, tt))

block_label_passes : (stands : Bool) (number place : ℕ) (behind : List ℕ) → IsShort number → IsLong place → Passes (block_label_then stands number place behind) behind
block_label_passes false number place behind h k = Passes-all behind
block_label_passes true number place behind h k =
    Passes-then (block_then number place (codes ":\n" ++ behind)) (codes ":\n" ++ behind) behind
    (block_passes number place (codes ":\n" ++ behind) h k) (Passes-joined (codes ":\n" ∷ []) behind (refl, tt))

-- where lines are counted, no begin mark begins in the file's name
abbrev IsFree : Wording → (line : Option ℕ) → Type 0
IsFree wording line = IsUnmarkedLine (mark_of wording.out line)

IsFree-line_behind : (wording : Wording) (line : Option ℕ) (text : List ℕ) → IsFree wording line → IsFree wording (line_behind line text)
IsFree-line_behind wording None text free = tt
IsFree-line_behind wording (Some line) text free = free

mark_short : (file : List ℕ) (line : Option ℕ) (text : List ℕ) → IsLine (mark_of file (line_behind line text))
mark_short file None text = tt
mark_short file (Some line) text = omega arith

given_passes : (wording : Wording) (line : Option ℕ) (place : ℕ) (block : CodeBlock) (behind : List ℕ) → IsFree wording line
    → Passes (line_then (given_back wording line place block) behind) behind
given_passes wording line place block behind free = by (ends_in_code block.stmts) where
  after : Option ℕ
  after = line_behind line (block_lines_then wording place block [])

  by : (code : Bool) → Passes (line_then (if code then mark_of wording.out (line_behind after (codes "\n")) else None) behind) behind
  by true = line_passes (mark_of wording.out (line_behind after (codes "\n"))) behind (mark_short wording.out after (codes "\n"))
      (IsFree-line_behind wording after (codes "\n") (IsFree-line_behind wording line (block_lines_then wording place block []) free))
  by false = Passes-all behind

code_block_passes : (wording : Wording) (line : Option ℕ) (place : ℕ) (block : CodeBlock) (behind : List ℕ) → IsShort wording.number → NamesPass wording.names → IsLong place
    → EachBlockHasSpelling wording.names (block ∷ []) → AllByRecursion IsUnmarked block.stmts → IsFree wording line → Passes (code_block_then wording line place block behind) behind
code_block_passes wording line place block behind h pass k spelled free unmarked =
    let given : List ℕ = line_then (given_back wording line place block) behind in
    let code : List ℕ = statements_then wording block.stmts given in
    let stands : Bool = slice_index_or wording.labels place true in
    let own : List ℕ = block_label_then stands wording.number place code in
    Passes-then (code_block_then wording line place block behind) own behind (label_passes wording.names block.cond own pass spelled.0.1)
    (Passes-then own code behind (block_label_passes stands wording.number place code h k)
    (Passes-then code given behind (statements_pass wording block.stmts given h pass spelled.0.2 free) (given_passes wording line place block behind unmarked)))

-- the statements of the blocks, block by block
abbrev EachBlockIsUnmarked : List CodeBlock → Type 0
EachBlockIsUnmarked [] = Unit {0}
EachBlockIsUnmarked (block ∷ blocks) = AllByRecursion IsUnmarked block.stmts × EachBlockIsUnmarked blocks

front_unmarked : (statements more : List Stmt) → AllByRecursion IsUnmarked (statements ++ more) → AllByRecursion IsUnmarked statements × AllByRecursion IsUnmarked more
front_unmarked [] more free = (tt, free)
front_unmarked (statement ∷ statements) more free =
    let rest = front_unmarked statements more free.1 in ((free.0, rest.0), rest.1)

blocks_unmarked : (blocks : List CodeBlock) → AllByRecursion IsUnmarked (all_statements blocks) → EachBlockIsUnmarked blocks
blocks_unmarked [] free = tt
blocks_unmarked (block ∷ blocks) free =
    let both = front_unmarked block.stmts (all_statements blocks) free in (both.0, blocks_unmarked blocks both.1)

blocks_pass : (wording : Wording) (line : Option ℕ) (place : ℕ) (blocks : List CodeBlock) (behind : List ℕ) → IsShort wording.number → NamesPass wording.names
    → place + length blocks < 2 ^ 64 → EachBlockHasSpelling wording.names blocks → EachBlockIsUnmarked blocks → IsFree wording line → Passes (blocks_then wording line place blocks behind) behind
blocks_pass wording line place [] behind h pass k spelled free unmarked = Passes-all behind
blocks_pass wording line place (block ∷ blocks) behind h pass k spelled free unmarked =
    let text : List ℕ = code_block_then wording line place block [] in
    let after : Option ℕ = line_behind line text in
    let others : List ℕ = blocks_then wording after (suc place) blocks behind in
    Passes-then (blocks_then wording line place (block ∷ blocks) behind) others behind
    (code_block_passes wording line place block others h pass (omega (arith, k)) (spelled.0, tt) free.0 unmarked)
    (blocks_pass wording after (suc place) blocks behind h pass (omega (arith, k)) spelled.1 free.1 (IsFree-line_behind wording line text unmarked))

-- no slash stands in the words
names_then_passes : (words : Spellings) (behind : List ℕ) → EachIsShort words → EachPasses words → Passes (names_then words behind) behind
names_then_passes [] behind h k = Passes-all behind
names_then_passes (word ∷ words) behind h k =
    Passes-then (names_then (word ∷ words) behind) (names_then words behind) behind
    (Passes-joined (codes " " ∷ decimal (length word) ∷ codes ":" ∷ word ∷ []) (names_then words behind) (refl, (short_passes (length word) h.0, (refl, (k.0, tt)))))
    (names_then_passes words behind h.1 k.1)

eof_passes : (eof : Option ℕ) (behind : List ℕ) → IfSome eof (λ unit. unit < 2 ^ 64) → Passes (eof_then eof behind) behind
eof_passes None behind h = Passes-joined (codes "-" ∷ []) behind (refl, tt)
eof_passes (Some unit) behind h = Passes-joined (decimal unit ∷ []) behind (number_passes unit h, tt)

row_start_passes : (is_first : Bool) → none_begins (row_start is_first) ≡ true
row_start_passes true = refl
row_start_passes false = refl

row_end_passes : (is_last : Bool) → none_begins (row_end is_last) ≡ true
row_end_passes true = refl
row_end_passes false = refl

cells_pass : (place : ℕ) (bytes behind : List ℕ) → AllByRecursion IsByte bytes → Passes (cells_then place bytes behind) behind
cells_pass place [] behind each = Passes-all behind
cells_pass place (byte ∷ bytes) behind each =
    let small : byte < 256 = each.0 in
    let others : List ℕ = cells_then (suc place) bytes behind in
    Passes-then (cells_then place (byte ∷ bytes) behind) others behind
    (Passes-joined (cell_words place byte) others
    (row_start_passes ((place % 16) == 0), (refl, (none_begins-word (hexadecimal byte) (hexadecimal_lacks byte (omega (arith, small))), (refl, (row_end_passes ((place % 16) == 15), tt))))))
    (cells_pass (suc place) bytes behind each.1)

table_passes : (table behind : List ℕ) → AllByRecursion IsByte table → length table < 2 ^ 64 → Passes (table_then table behind) behind
table_passes [] behind each h = Passes-all behind
table_passes (byte ∷ bytes) behind each h =
    let table : List ℕ = byte ∷ bytes in
    let end : List ℕ = codes "\t};\n" ++ behind in
    Passes-then (table_then table behind) (cells_then 0 table end) behind
    (Passes-joined (table_words (length table)) (cells_then 0 table end) (refl, (number_passes (length table) h, (refl, tt))))
    (Passes-then (cells_then 0 table end) end behind (cells_pass 0 table end each) (Passes-joined (codes "\t};\n" ∷ []) behind (refl, tt)))

declarations_pass : (names : Spellings) (declares : Bool) (behind : List ℕ) → NamesPass names → Passes (declarations_then names declares behind) behind
declarations_pass names false behind pass = Passes-all behind
declarations_pass names true behind pass =
    Passes-joined (codes "\t" ∷ unit_type names ∷ codes " " ∷ current_unit names ∷ codes ";\n\tunsigned int " ∷ last_accept names ∷ codes " = 0;\n" ∷ []) behind
    (refl, (pass.unit_type, (refl, (pass.current_unit, (refl, (pass.last_accept, (refl, tt)))))))

state_cases_pass : (number : ℕ) (cases : List StateCase) (behind : List ℕ) → IsShort number → AllByRecursion (λ case. IsLong case.state × IsLong case.block) cases
    → Passes (state_cases_then number cases behind) behind
state_cases_pass number [] behind h each = Passes-all behind
state_cases_pass number (case ∷ cases) behind h each =
    Passes-then (state_cases_then number (case ∷ cases) behind) (goto_then number case.block (state_cases_then number cases behind)) behind
    (Passes-joined (codes "\tcase " ∷ decimal case.state ∷ codes ":" ∷ []) (goto_then number case.block (state_cases_then number cases behind)) (refl, (number_passes case.state each.0.0, (refl, tt))))
    (Passes-then (goto_then number case.block (state_cases_then number cases behind)) (state_cases_then number cases behind) behind
    (goto_passes number case.block (state_cases_then number cases behind) h each.0.1) (state_cases_pass number cases behind h each.1))

start_passes : (number : ℕ) (conds : List CondCase) (behind : List ℕ) → IsShort number → Passes (start_then number conds behind) behind
start_passes number [] behind h = block_passes number 0 behind h (omega arith)
start_passes number (case ∷ conds) behind h = Passes-joined (codes "yy" ∷ decimal number ∷ codes "_cond" ∷ []) behind (refl, (short_passes number h, (refl, tt)))

state_switch_passes : (number : ℕ) (names : Spellings) (conds : List CondCase) (states : Option (List StateCase)) (behind : List ℕ) → IsShort number → NamesPass names
    → IfSome states (λ cases. AllByRecursion (λ case. IsLong case.state × IsLong case.block) cases) → Passes (state_switch_then number names conds states behind) behind
state_switch_passes number names conds None behind h pass each = Passes-all behind
state_switch_passes number names conds (Some cases) behind h pass each =
    let end : List ℕ = codes ";\n\t}\n" ++ behind in
    let start : List ℕ = start_then number conds end in
    Passes-then (state_switch_then number names conds (Some cases) behind) (state_cases_then number cases (codes "\tdefault: goto " ++ start)) behind
    (Passes-joined (codes "\tswitch (" ∷ get_state names ∷ codes "()) {\n" ∷ []) (state_cases_then number cases (codes "\tdefault: goto " ++ start)) (refl, (pass.get_state, (refl, tt))))
    (Passes-then (state_cases_then number cases (codes "\tdefault: goto " ++ start)) (codes "\tdefault: goto " ++ start) behind
    (state_cases_pass number cases (codes "\tdefault: goto " ++ start) h each)
    (Passes-then (codes "\tdefault: goto " ++ start) start behind (Passes-joined (codes "\tdefault: goto " ∷ []) start (refl, tt))
    (Passes-then start end behind (start_passes number conds end h) (Passes-joined (codes ";\n\t}\n" ∷ []) behind (refl, tt)))))

cond_cases_pass : (number : ℕ) (names : Spellings) (cases : List CondCase) (behind : List ℕ) → IsShort number → NamesPass names
    → AllByRecursion (λ case. IsIdentifier case.cond × IsLong case.block) cases → Passes (cond_cases_then number names cases behind) behind
cond_cases_pass number names [] behind h pass each = Passes-all behind
cond_cases_pass number names (case ∷ cases) behind h pass each =
    let rest : List ℕ = cond_cases_then number names cases behind in
    Passes-then (cond_cases_then number names (case ∷ cases) behind) (goto_then number case.block rest) behind
    (Passes-joined (codes "\tcase " ∷ (condition_prefix names ++ case.cond) ∷ codes ":" ∷ []) (goto_then number case.block rest)
    (refl, (prefixed_passes (condition_prefix names) case.cond pass.condition_lacks each.0.0, (refl, tt))))
    (Passes-then (goto_then number case.block rest) rest behind (goto_passes number case.block rest h each.0.1) (cond_cases_pass number names cases behind h pass each.1))

cond_switch_passes : (number : ℕ) (names : Spellings) (cases : List CondCase) (behind : List ℕ) → IsShort number → NamesPass names
    → AllByRecursion (λ case. IsIdentifier case.cond × IsLong case.block) cases → Passes (cond_switch_then number names cases behind) behind
cond_switch_passes number names [] behind h pass each = Passes-all behind
cond_switch_passes number names (case ∷ cases) behind h pass each =
    let end : List ℕ = codes "\t}\n" ++ behind in
    Passes-then (cond_switch_then number names (case ∷ cases) behind) (cond_cases_then number names (case ∷ cases) end) behind
    (Passes-joined (codes "yy" ∷ decimal number ∷ codes "_cond:\n\tswitch (" ∷ get_condition names ∷ codes "()) {\n" ∷ []) (cond_cases_then number names (case ∷ cases) end)
    (refl, (short_passes number h, (refl, (pass.get_condition, (refl, tt))))))
    (Passes-then (cond_cases_then number names (case ∷ cases) end) end behind (cond_cases_pass number names (case ∷ cases) end h pass each)
    (Passes-joined (codes "\t}\n" ∷ []) behind (refl, tt)))

names_lack : (names : Spellings) → length names ≡ 17 → NamesPass names → EachPasses names
names_lack (n1 ∷ n2 ∷ n3 ∷ n4 ∷ n5 ∷ n6 ∷ n7 ∷ n8 ∷ n9 ∷ n10 ∷ n11 ∷ n12 ∷ n13 ∷ n14 ∷ n15 ∷ n16 ∷ n17 ∷ []) h pass =
    (pass.unit_type, (pass.cursor, (pass.limit, (pass.marker, (none_begins-word n5 pass.context_lacks, (pass.refill, (pass.get_state, (pass.set_state, (pass.get_condition, (pass.set_condition, (pass.append_offset, (pass.append_negative, (pass.current_unit, (pass.last_accept, (none_begins-word n15 pass.tag_lacks, (none_begins-word n16 pass.label_lacks, (none_begins-word n17 pass.condition_lacks, tt)))))))))))))))))
names_lack names h pass = absurd (omega (arith, h))

-- a unit of one, two or four bytes
unit_passes : (unit : ℕ) → (unit ≡ 1) ⊎ ((unit ≡ 2) ⊎ (unit ≡ 4)) → none_begins (decimal unit) ≡ true
unit_passes unit h = short_passes unit (elim h [ inl e ↦ omega (arith, e) | inr other ↦ elim other [ inl e ↦ omega (arith, e) | inr e ↦ omega (arith, e) ] ])

eof_short : (unit : ℕ) (eof : Option ℕ) → (unit ≡ 1) ⊎ ((unit ≡ 2) ⊎ (unit ≡ 4)) → IfSome eof (λ eof. eof < 2 ^ (8 * unit)) → IfSome eof (λ unit. unit < 2 ^ 64)
eof_short unit None sizes h = tt
eof_short unit (Some eof) sizes h = elim sizes [
  | inl e ↦ (let less : eof < 2 ^ (8 * 1) = subst (λ (u : ℕ). eof < 2 ^ (8 * u)) e h in omega (arith, less))
  | inr other ↦ elim other [
    | inl e ↦ (let less : eof < 2 ^ (8 * 2) = subst (λ (u : ℕ). eof < 2 ^ (8 * u)) e h in omega (arith, less))
    | inr e ↦ (let less : eof < 2 ^ (8 * 4) = subst (λ (u : ℕ). eof < 2 ^ (8 * u)) e h in omega (arith, less))
  ]
]

-- an end mark, before what its last slash begins no mark with
end_passes : (behind : List ℕ) → begins_piece (47 ∷ behind) ≡ false → Passes (codes "/*!end:re2c*/" ++ behind) behind
end_passes behind h =
    Passes-then (codes "/*!end:re2c*/" ++ behind) (codes "/" ++ behind) behind
    (Passes-joined (codes "/*!end:re2c*" ∷ []) (codes "/" ++ behind) (refl, tt)) (Passes-text (codes "/") behind (h, tt))

-- ---- what stands before the blocks

old_sections_pass : (piece : Piece) (behind : List ℕ) → IsValid piece → Passes (sections_by false piece behind) behind
old_sections_pass piece behind valid =
    let pass : NamesPass piece.names = names_pass piece.names valid.names in
    let number : IsShort piece.number = valid.range.number in
    let conds : List ℕ = cond_switch_then piece.number piece.names piece.conds behind in
    let states : List ℕ = state_switch_then piece.number piece.names piece.conds piece.states conds in
    Passes-then (declarations_then piece.names piece.declares states) states behind (declarations_pass piece.names piece.declares states pass)
    (Passes-then states conds behind (state_switch_passes piece.number piece.names piece.conds piece.states conds number pass valid.range.states)
    (cond_switch_passes piece.number piece.names piece.conds behind number pass valid.range.conds))

unit_word_passes : (unit : ℕ) → none_begins (unit_word unit) ≡ true
unit_word_passes unit = by (unit == 1) (unit == 2) where
  by : (one two : Bool) → none_begins (if one then codes "char" else if two then codes "short" else codes "int") ≡ true
  by true two = refl
  by false true = refl
  by false false = refl

unit_line_passes : (stands : Bool) (names : Spellings) (unit : ℕ) (behind : List ℕ) → NamesPass names → Passes (unit_line_then stands names unit behind) behind
unit_line_passes false names unit behind pass = Passes-all behind
unit_line_passes true names unit behind pass =
    Passes-joined (unit_line_words names unit) behind (refl, (unit_word_passes unit, (refl, (pass.current_unit, (refl, tt)))))

accept_line_passes : (stands : Bool) (names : Spellings) (behind : List ℕ) → NamesPass names → Passes (accept_line_then stands names behind) behind
accept_line_passes false names behind pass = Passes-all behind
accept_line_passes true names behind pass = Passes-joined (accept_line_words names) behind (refl, (pass.last_accept, (refl, tt)))

cond_label_passes : (stands : Bool) (number : ℕ) (behind : List ℕ) → IsShort number → Passes (cond_label_then stands number behind) behind
cond_label_passes false number behind h = Passes-all behind
cond_label_passes true number behind h = Passes-joined (cond_label_words number) behind (refl, (short_passes number h, (refl, tt)))

label_cases_pass : (names : Spellings) (cases : List CondCase) (behind : List ℕ) → NamesPass names → AllByRecursion (λ case. IsIdentifier case.cond × IsLong case.block) cases
    → Passes (label_cases_then names cases behind) behind
label_cases_pass names [] behind pass each = Passes-all behind
label_cases_pass names (case ∷ cases) behind pass each =
    let others : List ℕ = label_cases_then names cases behind in
    Passes-then (label_cases_then names (case ∷ cases) behind) others behind
    (Passes-joined (label_case_words names case) others
    (refl, (prefixed_passes (condition_prefix names) case.cond pass.condition_lacks each.0.0, (refl, (prefixed_passes (label_prefix names) case.cond pass.label_lacks each.0.0, (refl, tt))))))
    (label_cases_pass names cases behind pass each.1)

label_switch_passes : (names : Spellings) (conds : List CondCase) (behind : List ℕ) → NamesPass names → AllByRecursion (λ case. IsIdentifier case.cond × IsLong case.block) conds
    → Passes (label_switch_then names conds behind) behind
label_switch_passes names [] behind pass each = Passes-all behind
label_switch_passes names (case ∷ conds) behind pass each =
    let end : List ℕ = codes "\t}\n" ++ behind in
    let cases : List ℕ = label_cases_then names (case ∷ conds) end in
    Passes-then (label_switch_then names (case ∷ conds) behind) cases behind (Passes-joined (label_switch_words names) cases (refl, (pass.get_condition, (refl, tt))))
    (Passes-then cases end behind (label_cases_pass names (case ∷ conds) end pass each) (Passes-joined (codes "\t}\n" ∷ []) behind (refl, tt)))

sections_of_three_pass : (piece : Piece) (behind : List ℕ) → IsValid piece → Passes (sections_by true piece behind) behind
sections_of_three_pass piece behind valid =
    let pass : NamesPass piece.names = names_pass piece.names valid.names in
    let number : IsShort piece.number = valid.range.number in
    let feed : List ℕ = codes "\n" ++ behind in
    let conds : List ℕ = label_switch_then piece.names piece.conds feed in
    let label : List ℕ = cond_label_then (has_cond_label piece) piece.number conds in
    let states : List ℕ = state_switch_then piece.number piece.names piece.conds piece.states label in
    let accept : List ℕ = accept_line_then (declares_accept piece) piece.names states in
    Passes-then (sections_by true piece behind) accept behind (unit_line_passes (declares_unit piece) piece.names piece.unit accept pass)
    (Passes-then accept states behind (accept_line_passes (declares_accept piece) piece.names states pass)
    (Passes-then states label behind (state_switch_passes piece.number piece.names piece.conds piece.states label number pass valid.range.states)
    (Passes-then label conds behind (cond_label_passes (has_cond_label piece) piece.number conds number)
    (Passes-then conds feed behind (label_switch_passes piece.names piece.conds feed pass valid.range.conds) (Passes-joined (codes "\n" ∷ []) behind (refl, tt))))))

sections_pass : (three : Bool) (piece : Piece) (behind : List ℕ) → IsValid piece → Passes (sections_by three piece behind) behind
sections_pass false piece behind valid = old_sections_pass piece behind valid
sections_pass true piece behind valid = sections_of_three_pass piece behind valid

-- the brace, the table, and what stands before the blocks
opening_passes : (piece : Piece) (behind : List ℕ) → IsValid piece → Passes (opening_then piece behind) behind
opening_passes piece behind valid =
    let sections : List ℕ = sections_by (is_three piece.head) piece behind in
    let table : List ℕ = table_then piece.table sections in
    Passes-then (opening_then piece behind) table behind (Passes-joined (codes "{\n" ∷ []) table (refl, tt))
    (Passes-then table sections behind (table_passes piece.table sections valid.range.table (table_is_small piece valid)) (sections_pass (is_three piece.head) piece behind valid))

-- ---- what stands behind the blocks

none_label_passes : (stands : Bool) (number : ℕ) (behind : List ℕ) → IsShort number → Passes (none_label_then stands number behind) behind
none_label_passes false number behind h = Passes-all behind
none_label_passes true number behind h = Passes-joined (codes "yy" ∷ decimal number ∷ codes "_none:;\n" ∷ []) behind (refl, (short_passes number h, (refl, tt)))

closing_passes : (piece : Piece) (behind : List ℕ) → IsValid piece → IsUnmarkedLine piece.line → begins_piece (47 ∷ behind) ≡ false → Passes (closing_then piece behind) behind
closing_passes piece behind valid line after =
    let end : List ℕ = codes "/*!end:re2c*/" ++ behind in
    let mark : List ℕ = line_then piece.line end in
    let brace : List ℕ = codes "}\n" ++ mark in
    Passes-then (closing_then piece behind) brace behind (none_label_passes (has_none_label piece) piece.number brace valid.range.number)
    (Passes-then brace mark behind (Passes-joined (codes "}\n" ∷ []) mark (refl, tt))
    (Passes-then mark end behind (line_passes piece.line end valid.range.line line) (end_passes behind after)))

custom_word_passes : (custom : Bool) → none_begins (custom_word custom) ≡ true
custom_word_passes true = refl
custom_word_passes false = refl

format_word_passes : (format : Format) → none_begins (format_word format) ≡ true
format_word_passes Two = refl
format_word_passes Three = refl

encoding_word_passes : (enc : Enc) → none_begins (encoding_word enc) ≡ true
encoding_word_passes Byte = refl
encoding_word_passes Ucs2 = refl
encoding_word_passes Utf8 = refl
encoding_word_passes Utf16 = refl
encoding_word_passes Utf32 = refl

mode_word_passes : (mode : Mode) → none_begins (mode_word mode) ≡ true
mode_word_passes Plain = refl
mode_word_passes Count = refl
mode_word_passes EofFixed = refl
mode_word_passes Eof = refl

kept_word_passes : (kept : Bool) → none_begins (kept_word kept) ≡ true
kept_word_passes true = refl
kept_word_passes false = refl

head_passes : (kept : Bool) (head : Option Head) (behind : List ℕ) → IfSome head (λ head. IsShort head.regs × IsShort head.mregs × IsLong head.states) → Passes (head_then kept head behind) behind
head_passes kept None behind h = Passes-all behind
head_passes kept (Some head) behind h = Passes-joined (head_line_parts kept head) behind
    (refl, (format_word_passes head.format, (custom_word_passes head.custom, (kept_word_passes kept, (encoding_word_passes head.enc, (refl, (mode_word_passes head.mode, (refl, (short_passes head.regs h.0, (refl, (short_passes head.mregs h.1, (refl, (number_passes head.states h.2, (refl, tt))))))))))))))

-- the lines of a piece up to that of the spellings, behind the first byte of its begin mark
front_passes : (piece : Piece) (behind : List ℕ) → IsValid piece
    → Passes (joined (codes "*!begin:re2c " ∷ decimal piece.number ∷ codes "*/\n" ∷ []) (head_then (is_kept piece.head piece.declares) piece.head (joined (unit_parts piece) (
    eof_then piece.eof (names_then piece.names (joined (codes "*/\n" ∷ []) behind)))))) behind
front_passes piece behind valid =
    let pass : NamesPass piece.names = names_pass piece.names valid.names in
    let kept : Bool = is_kept piece.head piece.declares in
    let feed : List ℕ = codes "*/\n" ++ behind in
    let names : List ℕ = names_then piece.names feed in
    let eof : List ℕ = eof_then piece.eof names in
    let unit : List ℕ = joined (unit_parts piece) eof in
    let head : List ℕ = head_then kept piece.head unit in
    Passes-then (joined (codes "*!begin:re2c " ∷ decimal piece.number ∷ codes "*/\n" ∷ []) head) head behind
    (Passes-joined (codes "*!begin:re2c " ∷ decimal piece.number ∷ codes "*/\n" ∷ []) head (refl, (short_passes piece.number valid.range.number, (refl, tt))))
    (Passes-then head unit behind (head_passes kept piece.head unit valid.range.head)
    (Passes-then unit eof behind (Passes-joined (unit_parts piece) eof (refl, (unit_passes piece.unit valid.unit, (refl, tt))))
    (Passes-then eof names behind (eof_passes piece.eof names (eof_short piece.unit piece.eof valid.unit valid.eof))
    (Passes-then names feed behind (names_then_passes piece.names feed valid.names.each_is_short (names_lack piece.names valid.names.count pass))
    (Passes-joined (codes "*/\n" ∷ []) behind (refl, tt))))))

-- what passes is the text before what stands behind it
none_begins-front : (text behind : List ℕ) → Passes (text ++ behind) behind → HasNoBegin text behind
none_begins-front text behind pass = subst (λ (l : List ℕ). HasNoBegin l behind) (append_cancel_right pass.front text behind (sym pass.is)) pass.none

-- where a piece has a place, no begin mark begins in the name of its file
IsFree-place : (place : Option LineMark) (piece : Piece) → IsUnmarkedLine place → IsFree (wording_of place piece) (line_of place)
IsFree-place None piece free = tt
IsFree-place (Some mark) piece free = free

pub HasNoBegin-piece : (place : Option LineMark) (piece : Piece) (behind : List ℕ) → IsValid piece → IsPlaced place piece → AllByRecursion IsUnmarked (all_statements piece.blocks)
    → IsUnmarkedLine piece.line → IsUnmarkedLine place → begins_piece (47 ∷ behind) ≡ false → HasNoBegin (drop 1 (piece_text place piece)) behind
HasNoBegin-piece place piece behind valid placed free line file after =
    let wording : Wording = wording_of place piece in
    let first : Option ℕ = blocks_line place piece in
    let closing : List ℕ = closing_then piece behind in
    let blocks : List ℕ = blocks_then wording first 0 piece.blocks closing in
    let opening : List ℕ = opening_then piece blocks in
    let mark : List ℕ = line_then place opening in
    let few : 0 + length piece.blocks < 2 ^ 64 = (let less = statement_count-blocks piece.names piece.blocks valid.spelled in omega (arith, valid.statements, less)) in
    none_begins-front (drop 1 (piece_text place piece)) behind (subst (λ (l : List ℕ). Passes (drop 1 l) behind) (sym (piece_text-append place piece behind))
    (Passes-then (drop 1 (piece_then place piece behind)) mark behind (front_passes piece mark valid)
    (Passes-then mark opening behind (line_passes place opening placed.line file)
    (Passes-then opening blocks behind (opening_passes piece blocks valid)
    (Passes-then blocks closing behind
    (blocks_pass wording first 0 piece.blocks closing valid.range.number (names_pass piece.names valid.names) few valid.spelled (blocks_unmarked piece.blocks free)
    (IsFree-line_behind wording (line_of place) (opening_then piece []) (IsFree-place place piece file)))
    (closing_passes piece behind valid line after))))))

pub HasNoBegin-body : (number : ℕ) (names : Spellings) (line : Option LineMark) (behind : List ℕ) → IsShort number → IsLine line → IsUnmarkedLine line
    → begins_piece (47 ∷ behind) ≡ false → HasNoBegin (drop 1 (body_piece_text number names Empty line)) behind
HasNoBegin-body number names line behind short is free after =
    let words : List (List ℕ) = codes "*!begin:re2c " ∷ decimal number ∷ codes "*/\n" ∷ [] in
    let end : List ℕ = codes "/*!end:re2c*/" in
    let whole : joined words (line_then line end) ++ behind ≡ joined words (line_then line (end ++ behind)) =
    joined-append words (line_then line end) behind ∙ ap (λ (l : List ℕ). joined words l) (line_then-append line end behind) in
    none_begins-front (joined words (line_then line end)) behind (subst (λ (l : List ℕ). Passes l behind) (sym whole)
    (Passes-then (joined words (line_then line (end ++ behind))) (line_then line (end ++ behind)) behind
    (Passes-joined words (line_then line (end ++ behind)) (refl, (short_passes number short, (refl, tt))))
    (Passes-then (line_then line (end ++ behind)) (end ++ behind) behind (line_passes line (end ++ behind) is free) (end_passes behind after))))
