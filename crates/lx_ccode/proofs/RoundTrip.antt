-- Reading the text of a valid piece gives the piece, so that a text has one reading.
use Rattle.std.proofs.Common.{[], ◌*◌, ◌++◌, ◌+◌, ◌<◌, ◌^◌, ◌∙◌, ◌∷◌, ◌≡◌, ◌≤◌, Bool, List, None, Option, Some, ap, arith, false, inl, inr, length, map, refl, subst, suc, sym, true, ℕ}
use Rattle.std.proofs.lemmas.Bool.{false≢true}
use Rattle.std.proofs.lemmas.List.{length-append}
use Rattle.std.specs.Fmt.{decimal}
use Rattle.std.specs.List.{AllByRecursion, list_any}
use Rattle.std.specs.Prelude.{◌||◌, ◌⊎◌, IfSome, codes, if◌then◌else◌, is_some, min, not, slice_index_or}
use Rattle.lx_base.specs.declared.limits.TheConstants.{STATEMENT_LIMIT}
use Rattle.lx_base.specs.Letters.{IsIdentifier, is_digit, is_in_identifier}
use Rattle.lx_base.specs.Names.{Spellings}
use Rattle.lx_ccode.specs.declared.piece.CodeBlock.{CodeBlock}
use Rattle.lx_ccode.specs.declared.piece.CondCase.{CondCase}
use Rattle.lx_ccode.specs.declared.piece.Head.{Head}
use Rattle.lx_ccode.specs.declared.piece.LineMark.{LineMark}
use Rattle.lx_ccode.specs.declared.piece.Piece.{Piece}
use Rattle.lx_ccode.specs.declared.piece.StateCase.{StateCase}
use Rattle.lx_ccode.specs.declared.piece.Stmt.{Stmt}
use Rattle.lx_ccode.specs.Front.{BeginsWithPiece, BeginsWithPieceAt, IsPlaced}
use Rattle.lx_ccode.specs.Heads.{head_then, is_kept, is_three}
use Rattle.lx_ccode.specs.Reading.{begins_statement, behind_brace, block_at, byte_at, conds_from, ends_blocks, is_tab, old_sections_at, piece_at, reading, sections_of}
use Rattle.lx_ccode.specs.Statements.{all_statements, statement_count, has_register_one}
use Rattle.lx_ccode.specs.Text.{block_label_then, blocks_line, blocks_then, closing_then, code_block_then, cond_switch_then, eof_then, given_back, has_none_label, label_then, line_behind, line_of, line_then, names_then, none_label_then, opening_then, piece_text, piece_then, sections_by, state_switch_then, statements_then, table_then}
use Rattle.lx_ccode.specs.Validity.{EachBlockHasSpelling, IsLong, IsShort, IsValid, labels, onto_labels}
use Rattle.lx_ccode.specs.Wording.{Wording, wording_of}
use Rattle.lx_ccode.proofs.Lengths.{case_count, list_sizes, list_sizes-length}
use Rattle.lx_ccode.proofs.ReadHeads.{HasNumbers, head_at-head}
use Rattle.lx_ccode.proofs.ReadLines.{names_context, names_context-with, names_context-without}
use Rattle.lx_ccode.proofs.ReadConds.{conds_from-valid}
use Rattle.lx_ccode.proofs.ReadLabels.{IsWorded, begins_statement-blocks, blocks_at-blocks, blocks_name_context, is_some-line_behind}
use Rattle.lx_ccode.proofs.ReadOpenings.{NoTable-sections, sections_at-sections}
use Rattle.lx_ccode.proofs.ReadSections.{AreCases, AreConds, AreStates, IsEof, NoDeclarations-states, NoTable-declarations, any_names_context, cond_switch_at-switch, declarations_at-declarations, eof_at-eof, is_tab-conds, is_tab-statement, line_at-line, names_at-seventeen, state_switch_at-switch}
use Rattle.lx_ccode.proofs.ReadTables.{NoTable, table_at-table, table_is_small}
use Rattle.lx_ccode.proofs.Tails.{piece_text-append}
use Rattle.lx_ccode.proofs.Words.{behind-stop, behind-word, decimal_digits, decimal_first, decimal_identifier, decimal_value, front-stop}

-- ---- the flag

or-false : (a flag : Bool) → a ≡ false → flag ≡ false → (a || flag) ≡ false
or-false a flag h k = rw (h, k) refl

any_names_context-without : (statements : List Stmt) → any_names_context false statements ≡ false
any_names_context-without [] = refl
any_names_context-without (s ∷ statements) = or-false (names_context false s) (any_names_context false statements) (names_context-without s) (any_names_context-without statements)

blocks_name_context-without : (blocks : List CodeBlock) → blocks_name_context false blocks ≡ false
blocks_name_context-without [] = refl
blocks_name_context-without (b ∷ blocks) = or-false (any_names_context false b.stmts) (blocks_name_context false blocks) (any_names_context-without b.stmts) (blocks_name_context-without blocks)

any_names_context-with : (statements : List Stmt) → any_names_context true statements ≡ list_any has_register_one statements
any_names_context-with [] = refl
any_names_context-with (s ∷ statements) = rw (names_context-with s, any_names_context-with statements) refl

pub list_any-append : (f : Stmt → Bool) (statements ts : List Stmt) → list_any f (statements ++ ts) ≡ (list_any f statements || list_any f ts)
list_any-append f [] ts = refl
list_any-append f (s ∷ statements) ts = by_first (f s) (list_any-append f statements ts) where
  by_first : (flag : Bool) → list_any f (statements ++ ts) ≡ (list_any f statements || list_any f ts)
      → (flag || list_any f (statements ++ ts)) ≡ ((flag || list_any f statements) || list_any f ts)
  by_first true e = refl
  by_first false e = e

blocks_name_context-with : (blocks : List CodeBlock) → blocks_name_context true blocks ≡ list_any has_register_one (all_statements blocks)
blocks_name_context-with [] = refl
blocks_name_context-with (b ∷ blocks) = rw (any_names_context-with b.stmts, blocks_name_context-with blocks) (sym (list_any-append has_register_one b.stmts (all_statements blocks)))

blocks_name_context-ctx : (ctx : Bool) (blocks : List CodeBlock) → (ctx ≡ true → list_any has_register_one (all_statements blocks) ≡ true)
    → blocks_name_context ctx blocks ≡ ctx
blocks_name_context-ctx true blocks h = blocks_name_context-with blocks ∙ h refl
blocks_name_context-ctx false blocks h = blocks_name_context-without blocks

-- ---- the parts of a valid piece

eof_is_small : (eof : Option ℕ) (unit : ℕ) → (unit ≡ 1) ⊎ ((unit ≡ 2) ⊎ (unit ≡ 4)) → IfSome eof (λ eof. eof < 2 ^ (8 * unit)) → IsEof eof
eof_is_small None unit h k = tt
eof_is_small (Some eof) unit (inl h) k = let small : eof < 2 ^ (8 * 1) = subst (λ (v : ℕ). eof < 2 ^ (8 * v)) h k in omega arith
eof_is_small (Some eof) unit (inr (inl h)) k = let small : eof < 2 ^ (8 * 2) = subst (λ (v : ℕ). eof < 2 ^ (8 * v)) h k in omega arith
eof_is_small (Some eof) unit (inr (inr h)) k = let small : eof < 2 ^ (8 * 4) = subst (λ (v : ℕ). eof < 2 ^ (8 * v)) h k in omega arith

unit_is_small : (unit : ℕ) → (unit ≡ 1) ⊎ ((unit ≡ 2) ⊎ (unit ≡ 4)) → unit < 2 ^ 64
unit_is_small unit (inl h) = omega arith
unit_is_small unit (inr (inl h)) = omega arith
unit_is_small unit (inr (inr h)) = omega arith

AreCases-from : (cases : List StateCase) → AllByRecursion (λ c. (c.state < 2 ^ 64) × (c.block < 2 ^ 64)) cases → AreCases cases
AreCases-from [] h = tt
AreCases-from (c ∷ cases) h = (h.0, AreCases-from cases h.1)

AreConds-from : (conds : List CondCase) → AllByRecursion (λ c. IsIdentifier c.cond × (c.block < 2 ^ 64)) conds → AreConds conds
AreConds-from [] h = tt
AreConds-from (c ∷ conds) h = (h.0, AreConds-from conds h.1)

AreStates-from : (fuel : ℕ) (states : Option (List StateCase)) → case_count states ≤ fuel
    → IfSome states (λ cases. AllByRecursion (λ c. (c.state < 2 ^ 64) × (c.block < 2 ^ 64)) cases) → AreStates fuel states
AreStates-from fuel None le h = tt
AreStates-from fuel (Some cases) le h = (AreCases-from cases h, le)

pub statement_count-all : (blocks : List CodeBlock) → statement_count blocks ≡ length (all_statements blocks)
statement_count-all [] = refl
statement_count-all (b ∷ blocks) =
    let rest : statement_count blocks ≡ length (all_statements blocks) = statement_count-all blocks in
    let both : length (b.stmts ++ all_statements blocks) ≡ length b.stmts + length (all_statements blocks) = length-append b.stmts (all_statements blocks) in
    omega arith

-- each block has a statement
pub statement_count-blocks : (names : Spellings) (blocks : List CodeBlock) → EachBlockHasSpelling names blocks → length blocks ≤ statement_count blocks
statement_count-blocks names [] spelled = omega arith
statement_count-blocks names (b ∷ blocks) spelled =
    let rest : length blocks ≤ statement_count blocks = statement_count-blocks names blocks spelled.1 in
    let here : 0 < length b.stmts = spelled.0.0 in
    omega arith

-- without a condition no block has a label, so that block 0 begins with its own line
first_block_number : (wording : Wording) (line : Option ℕ) (blocks : List CodeBlock) (tail : List ℕ) → wording.number < 2 ^ 64 → slice_index_or wording.labels 0 true ≡ true
    → 0 < length blocks → length (labels blocks) ≡ 0 → is_digit (byte_at (block_at (blocks_then wording line 0 blocks tail)) 0) ≡ true
first_block_number wording line [] tail short stands h e = absurd (omega arith)
first_block_number wording line (b ∷ blocks) tail short stands h e = by_label b.cond e where
  rest : List ℕ
  rest = statements_then wording b.stmts (line_then (given_back wording line 0 b) (blocks_then wording (line_behind line (code_block_then wording line 0 b [])) 1 blocks tail))

  numbered : (stands : Bool) → stands ≡ true → is_digit (byte_at (block_at (block_label_then stands wording.number 0 rest)) 0) ≡ true
  numbered false is = absurd (false≢true is)
  numbered true is = rw (behind-stop is_digit (decimal wording.number) 95 (decimal 0 ++ (codes ":\n" ++ rest)) (decimal_digits wording.number short) refl) (decimal_first 0 (codes ":\n" ++ rest) (omega arith))

  by_label : (label : Option (List ℕ)) → length (onto_labels label (labels blocks)) ≡ 0
      → is_digit (byte_at (block_at (label_then wording.names label (block_label_then (slice_index_or wording.labels 0 true) wording.number 0 rest))) 0) ≡ true
  by_label None k = numbered (slice_index_or wording.labels 0 true) stands
  by_label (Some word) k = absurd (omega (arith, k))

length-conds : (conds : List CondCase) → length (map (λ c. c.cond) conds) ≡ length conds
length-conds [] = refl
length-conds (c ∷ conds) = ap suc (length-conds conds)

numbers_of : (head : Option Head) → IfSome head (λ head. IsShort head.regs × IsShort head.mregs × IsLong head.states) → IfSome head HasNumbers
numbers_of None h = tt
numbers_of (Some head) h =
    let regs : head.regs < 2 ^ 32 = h.0 in
    let mregs : head.mregs < 2 ^ 32 = h.1 in
    (omega (arith, regs), omega (arith, mregs), h.2)

-- ---- the label behind the blocks

closing_ends : (stands : Bool) (number : ℕ) (tail : List ℕ) → number < 2 ^ 64 → ends_blocks (none_label_then stands number (codes "}\n" ++ tail)) ≡ true
closing_ends false number tail short = refl
closing_ends true number tail short =
    rw (behind-word is_in_identifier (decimal number) (codes "_none:;\n}\n" ++ tail) (decimal_identifier number short)) refl

behind_brace-closing : (stands : Bool) (number : ℕ) (tail : List ℕ) → number < 2 ^ 64 → behind_brace (none_label_then stands number (codes "}\n" ++ tail)) ≡ tail
behind_brace-closing false number tail short = refl
behind_brace-closing true number tail short =
    rw (behind-stop is_digit (decimal number) 95 (codes "none:;\n}\n" ++ tail) (decimal_digits number short) refl) refl

begins_statement-closing : (stands : Bool) (number : ℕ) (tail : List ℕ) → begins_statement (none_label_then stands number (codes "}\n" ++ tail)) ≡ false
begins_statement-closing false number tail = refl
begins_statement-closing true number tail = refl

-- ---- what stands before the blocks, by the format

-- in formats before 3 each label stands
standing-old : (place : Option LineMark) (piece : Piece) → is_three piece.head ≡ false → (block : ℕ) → slice_index_or (wording_of place piece).labels block true ≡ true
standing-old place piece old block = rw old refl

-- the blocks of a piece and what stands behind them
abbrev blocks_of : Option LineMark → Piece → List ℕ → List ℕ
blocks_of place piece tail = blocks_then (wording_of place piece) (blocks_line place piece) 0 piece.blocks (closing_then piece tail)

abbrev switch_conds : (three : Bool) → Piece → List CondCase
switch_conds three piece = if three then [] else piece.conds

is_kept-three : (head : Option Head) (declares : Bool) → is_three head ≡ true → is_kept head declares ≡ not declares
is_kept-three head declares is = rw is refl

-- the declarations and the switches before the blocks, in formats before 3
old_sections_at-sections : (fuel : ℕ) (place : Option LineMark) (piece : Piece) (tail : List ℕ) → IsValid piece → list_sizes piece ≤ fuel → is_three piece.head ≡ false
    → old_sections_at fuel piece.names (sections_by false piece (blocks_of place piece tail)) ≡ (piece.declares, piece.states, piece.conds, blocks_of place piece tail)
unfolding old_sections_at
old_sections_at-sections fuel place piece tail v le is =
    let short : piece.number < 2 ^ 64 = (let h : piece.number < 2 ^ 32 = v.range.number in omega (arith, h)) in
    let blocks : List ℕ = blocks_of place piece tail in
    let stands = standing-old place piece is 0 in
    let no_statement : begins_statement blocks ≡ false = begins_statement-blocks (wording_of place piece) (blocks_line place piece) 0 piece.blocks (closing_then piece tail) v.names stands (begins_statement-closing (has_none_label piece) piece.number (line_then piece.line (codes "/*!end:re2c*/" ++ tail))) in
    let conds : List ℕ = cond_switch_then piece.number piece.names piece.conds blocks in
    let tab : is_tab conds ≡ false = is_tab-conds piece.number piece.names piece.conds blocks (is_tab-statement blocks no_statement) in
    let states : List ℕ = state_switch_then piece.number piece.names piece.conds piece.states conds in
    let numbered : length piece.conds ≡ 0 → is_digit (byte_at (block_at blocks) 0) ≡ true = (λ (e : length piece.conds ≡ 0). first_block_number (wording_of place piece) (blocks_line place piece) piece.blocks (closing_then piece tail) short stands v.blocks (sym (ap length v.conds) ∙ length-conds piece.conds ∙ e)) in
    rw (
      declarations_at-declarations piece.names piece.declares states v.names (NoDeclarations-states piece.number piece.names piece.conds piece.states conds tab),
      state_switch_at-switch fuel piece.number piece.names piece.conds piece.states conds short v.names (AreStates-from fuel piece.states (omega (arith, le)) v.range.states) tab,
      cond_switch_at-switch fuel piece.number piece.names piece.conds blocks short v.names (AreConds-from piece.conds v.range.conds) (omega (arith, le)) numbered,
    ) refl

-- the declarations and the switches before the blocks
sections_of-sections : (fuel : ℕ) (place : Option LineMark) (piece : Piece) (tail : List ℕ) → IsValid piece → list_sizes piece ≤ fuel
    → sections_of (is_three piece.head) fuel (is_kept piece.head piece.declares) piece.names (sections_by (is_three piece.head) piece (blocks_of place piece tail))
    ≡ (piece.declares, piece.states, switch_conds (is_three piece.head) piece, blocks_of place piece tail)
sections_of-sections fuel place piece tail v le = by (is_three piece.head) refl where
  by : (three : Bool) → is_three piece.head ≡ three
      → sections_of three fuel (is_kept piece.head piece.declares) piece.names (sections_by three piece (blocks_of place piece tail))
      ≡ (piece.declares, piece.states, switch_conds three piece, blocks_of place piece tail)
  by true is =
      let short : piece.number < 2 ^ 64 = (let h : piece.number < 2 ^ 32 = v.range.number in omega (arith, h)) in
      rw (is_kept-three piece.head piece.declares is) (sections_at-sections fuel piece (blocks_of place piece tail) short v.names (AreConds-from piece.conds v.range.conds)
      (omega (arith, le)) (AreStates-from fuel piece.states (omega (arith, le)) v.range.states))
  by false is = old_sections_at-sections fuel place piece tail v le is

-- no table stands there
NoTable-by : (place : Option LineMark) (piece : Piece) (tail : List ℕ) → IsValid piece → NoTable (sections_by (is_three piece.head) piece (blocks_of place piece tail))
NoTable-by place piece tail v = by (is_three piece.head) refl where
  blocks : List ℕ
  blocks = blocks_of place piece tail

  by : (three : Bool) → is_three piece.head ≡ three → NoTable (sections_by three piece blocks)
  by true is = NoTable-sections piece blocks v.names
  by false is =
      let no_statement : begins_statement blocks ≡ false = begins_statement-blocks (wording_of place piece) (blocks_line place piece) 0 piece.blocks (closing_then piece tail) v.names (standing-old place piece is 0) (begins_statement-closing (has_none_label piece) piece.number (line_then piece.line (codes "/*!end:re2c*/" ++ tail))) in
      NoTable-declarations piece.number piece.names piece.declares piece.conds piece.states (cond_switch_then piece.number piece.names piece.conds blocks) v.names
      (is_tab-conds piece.number piece.names piece.conds blocks (is_tab-statement blocks no_statement))

-- the conditions, by the switch or by the labels
conds_read : (piece : Piece) → IsValid piece → (if is_three piece.head then conds_from 0 piece.blocks else switch_conds (is_three piece.head) piece) ≡ piece.conds
conds_read piece v = by (is_three piece.head) where
  by : (three : Bool) → (if three then conds_from 0 piece.blocks else switch_conds three piece) ≡ piece.conds
  by true = conds_from-valid piece v
  by false = refl

-- a place is read as it stands
is_some-line_of : (place : Option LineMark) → is_some (line_of place) ≡ is_some place
is_some-line_of None = refl
is_some-line_of (Some mark) = refl

-- a number of 32 bits is read as it is
number_fits : (number : ℕ) → IsShort number → min number 4294967295 ≡ number
number_fits number short = let h : number < 2 ^ 32 = short in omega (arith, h)

pub reading-piece : (fuel : ℕ) (place : Option LineMark) (piece : Piece) (tail : List ℕ) → IsValid piece → IsPlaced place piece → list_sizes piece ≤ fuel
    → reading fuel (piece_then place piece tail) ≡ (piece, place, tail)
unfolding reading
reading-piece fuel place piece tail v placed le =
    let short : piece.number < 2 ^ 64 = (let h : piece.number < 2 ^ 32 = v.range.number in omega (arith, h)) in
    let hc : statement_count piece.blocks ≡ length (all_statements piece.blocks) = statement_count-all piece.blocks in
    let hf : length piece.blocks ≤ statement_count piece.blocks = statement_count-blocks piece.names piece.blocks v.spelled in
    let hs : statement_count piece.blocks ≤ STATEMENT_LIMIT = v.statements in
    let small : 0 + length piece.blocks < 2 ^ 64 = omega (arith, hf, hs) in
    let end : List ℕ = codes "/*!end:re2c*/" ++ tail in
    let line : List ℕ = line_then piece.line end in
    let closing : List ℕ = closing_then piece tail in
    let blocks : List ℕ = blocks_of place piece tail in
    let sections : List ℕ = sections_by (is_three piece.head) piece blocks in
    let table : List ℕ = table_then piece.table sections in
    let brace : List ℕ = codes "{\n" ++ table in
    let placing : List ℕ = line_then place brace in
    let names : List ℕ = names_then piece.names (codes "*/\n" ++ placing) in
    let eof : List ℕ = eof_then piece.eof names in
    let unit : List ℕ = codes " " ++ eof in
    let spelled : List ℕ = codes "/*!names:re2c " ++ (decimal piece.unit ++ unit) in
    let head : List ℕ = head_then (is_kept piece.head piece.declares) piece.head spelled in
    let worded : IsWorded (wording_of place piece) = record { short = short; allowed = v.names; clash = v.names_differ; free = v.no_primitive } in
    let counted : is_some (blocks_line place piece) ≡ is_some place = is_some-line_behind (line_of place) (opening_then piece []) ∙ is_some-line_of place in
    let l0 = line_at-line piece.line end v.range.line refl in
    let b0 = blocks_at-blocks fuel fuel (wording_of place piece) (is_three piece.head) (is_some place) (blocks_line place piece) 0 piece.blocks closing worded small v.spelled
    (omega (arith, hf, le)) (omega (arith, le)) v.ends counted (standing-old place piece) v.no_block_label (closing_ends (has_none_label piece) piece.number line short) in
    let s0 = sections_of-sections fuel place piece tail v le in
    let t0 = table_at-table fuel piece.table sections v.range.table (omega (arith, le)) (table_is_small piece v) (NoTable-by place piece tail v) in
    let p0 = line_at-line place brace placed.line refl in
    let n0 = names_at-seventeen piece.names (codes "*/\n" ++ placing) v.names.count v.names.each_is_short in
    let e0 = eof_at-eof piece.eof piece.names (codes "*/\n" ++ placing) (eof_is_small piece.eof piece.unit v.unit v.eof) v.names.count in
    let h0 = head_at-head piece.head piece.declares spelled (numbers_of piece.head v.range.head) refl in
    let hu : piece.unit < 2 ^ 64 = unit_is_small piece.unit v.unit in
    rw (
      front-stop is_digit (decimal piece.number) 42 (codes "/\n" ++ head) (decimal_digits piece.number short) refl,
      behind-stop is_digit (decimal piece.number) 42 (codes "/\n" ++ head) (decimal_digits piece.number short) refl,
      decimal_value piece.number short,
      number_fits piece.number v.range.number,
      h0,
      front-stop is_digit (decimal piece.unit) 32 eof (decimal_digits piece.unit hu) refl,
      behind-stop is_digit (decimal piece.unit) 32 eof (decimal_digits piece.unit hu) refl,
      decimal_value piece.unit hu,
      e0,
      n0,
      p0,
      t0,
      s0,
      b0,
      behind_brace-closing (has_none_label piece) piece.number line short,
      l0,
      conds_read piece v,
      blocks_name_context-ctx piece.ctx piece.blocks v.ctx,
    ) refl

-- the text of a valid piece is read as that piece, and what stands behind it is left
pub piece_at-text : (place : Option LineMark) (piece : Piece) (tail : List ℕ) → IsValid piece → IsPlaced place piece → piece_at (piece_text place piece ++ tail) ≡ (piece, place, tail)
unfolding piece_at
piece_at-text place piece tail v placed = ap (λ (b : List ℕ). reading (length b) b) (piece_text-append place piece tail)
    ∙ reading-piece (length (piece_then place piece tail)) place piece tail v placed (list_sizes-length place piece tail)

-- no text is that of two valid pieces, and none is a proper front of another's
pub one_reading : (place mark : Option LineMark) (piece other : Piece) (tail rest : List ℕ) → IsValid piece → IsPlaced place piece → IsValid other → IsPlaced mark other
    → piece_text place piece ++ tail ≡ piece_text mark other ++ rest → (piece ≡ other) × (place ≡ mark) × (tail ≡ rest)
one_reading place mark piece other tail rest v placed word marked e =
    let same : (piece, place, tail) ≡ (other, mark, rest) = sym (piece_at-text place piece tail v placed) ∙ ap piece_at e ∙ piece_at-text mark other rest word marked in
    (ap (λ (r : Piece × Option LineMark × List ℕ). r.0) same, ap (λ (r : Piece × Option LineMark × List ℕ). r.1) same, ap (λ (r : Piece × Option LineMark × List ℕ). r.2) same)

-- ---- what a reader of the code has to test

pub piece_at-front : (b : List ℕ) (piece : Piece) (s : BeginsWithPiece b piece) → piece_at b ≡ (piece, s.place, s.rest)
piece_at-front b piece s = ap piece_at s.text ∙ piece_at-text s.place piece s.rest s.valid s.placed

-- where the text of a piece stands, it is the text of the piece that is read, at its place: so a reader need only test what it reads
pub BeginsWithPiece-read : (b : List ℕ) (piece : Piece) → BeginsWithPiece b piece
    → IsValid (piece_at b).0 × IsPlaced (piece_at b).1 (piece_at b).0 × BeginsWithPieceAt b (piece_at b).1 (piece_at b).0
BeginsWithPiece-read b piece s = subst (λ (r : Piece × Option LineMark × List ℕ). IsValid r.0 × IsPlaced r.1 r.0 × BeginsWithPieceAt b r.1 r.0) (sym (piece_at-front b piece s)) (s.valid, s.placed, (s.rest, s.text))

-- a valid piece has a statement
pub statement_count-valid : (piece : Piece) → IsValid piece → 0 < statement_count piece.blocks
statement_count-valid piece valid =
    let more : length piece.blocks ≤ statement_count piece.blocks = statement_count-blocks piece.names piece.blocks valid.spelled in
    let some : 0 < length piece.blocks = valid.blocks in
    omega (arith, more, some)
