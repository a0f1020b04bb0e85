-- Each block that is written is read again, with or without its labels.
use Rattle.std.proofs.Common.{[], ◌++◌, ◌+◌, ◌<◌, ◌^◌, ◌∙◌, ◌∷◌, ◌≡◌, ◌≤◌, Bool, List, None, Option, Some, ap, append_assoc, arith, false, length, refl, suc, sym, true, zero, ℕ}
use Rattle.std.proofs.lemmas.Bool.{false≢true}
use Rattle.std.specs.Fmt.{decimal}
use Rattle.std.specs.List.{AllByRecursion, list_any}
use Rattle.std.specs.Prelude.{◌==◌, ◌||◌, IfSome, codes, if◌then◌else◌, is_some, slice_index_or}
use Rattle.lx_base.specs.Letters.{EachLetter, IsIdentifier, after_letters, begins_identifier, begins_with, front_letters, is_in_identifier}
use Rattle.lx_base.specs.Names.{AreAllowed, DoNotClash, Spellings, label_prefix}
use Rattle.lx_base.specs.Names.{name_primitives}
use Rattle.lx_ccode.specs.declared.piece.CodeBlock.{CodeBlock}
use Rattle.lx_ccode.specs.declared.piece.Stmt.{Stmt}
use Rattle.lx_ccode.specs.Labels.{block_front, is_like_block}
use Rattle.lx_ccode.specs.Reading.{Manner, begins_statement, behind_block, blocks_at, body_at, byte_at, code_block_at, ends_blocks, lone_label, mark_at}
use Rattle.lx_ccode.specs.Statements.{ends_in_code, statement_count}
use Rattle.lx_ccode.specs.Text.{block_label_then, block_lines_then, block_then, blocks_then, code_block_then, given_back, label_then, line_behind, line_then, mark_of, statements_then}
use Rattle.lx_ccode.specs.Validity.{EachBlockHasSpelling, EachHasSpelling, IsLabel, ends_once, labels}
use Rattle.lx_ccode.specs.Wording.{Wording}
use Rattle.lx_ccode.proofs.ReadLines.{identifier_no_sign, mark_at-line}
use Rattle.lx_ccode.proofs.ReadSections.{any_names_context, begins_statement-statement, statements_at-statements}
use Rattle.lx_ccode.proofs.Words.{EachLetter-append, EachLetter-identifier, begins_with-append, behind-stop, behind-word, decimal_identifier, drop-front, front-stop, front-word}

-- ---- lines that are counted

-- a line, where lines are counted, has a spelling
abbrev pub IsCounted : Option ℕ → Type 0
IsCounted None = Unit {0}
IsCounted (Some line) = line < 2 ^ 64

pub is_some-line_behind : (line : Option ℕ) (text : List ℕ) → is_some (line_behind line text) ≡ is_some line
is_some-line_behind None text = refl
is_some-line_behind (Some line) text = refl

IsCounted-line_behind : (line : Option ℕ) (text : List ℕ) → IsCounted (line_behind line text)
IsCounted-line_behind None text = tt
IsCounted-line_behind (Some line) text = omega arith

-- ---- the statements

-- the wording of a valid piece
pub record IsWorded (wording : Wording) : Type 0 where
  pub short : wording.number < 2 ^ 64
  pub allowed : AreAllowed wording.names
  pub clash : DoNotClash wording.names
  pub free : wording.custom ≡ true → name_primitives wording.names ≡ false

-- what the blocks of a piece depend on when they are read
abbrev pub manner_by : Wording → (three placed : Bool) → Manner
manner_by wording three placed = record { names = wording.names; custom = wording.custom; three = three; placed = placed; front = block_front wording.number }

-- what stands behind the statements of a block, where the next line is this one
abbrev given_then : Wording → List Stmt → (next : Option ℕ) → List ℕ → List ℕ
given_then wording statements next tail = line_then (if ends_in_code statements then mark_of wording.out next else None) tail

neither : (flag : Bool) → (if flag then false else false) ≡ false
neither true = refl
neither false = refl

behind_block-given : (manner : Manner) (statements : List Stmt) (file tail : List ℕ) (next : Option ℕ) → is_some next ≡ manner.placed → IsCounted next
    → behind_block manner statements (line_then (if ends_in_code statements then mark_of file next else None) tail) ≡ tail
behind_block-given manner statements file tail next is counted = by (ends_in_code statements) next is counted where
  by : (code : Bool) (next : Option ℕ) → is_some next ≡ manner.placed → IsCounted next
      → (if (if manner.placed then code else false) then (mark_at (line_then (if code then mark_of file next else None) tail)).1 else line_then (if code then mark_of file next else None) tail) ≡ tail
  by true None is counted = rw (sym is) refl
  by true (Some line) is counted = rw (sym is, mark_at-line (record { line = line; file = file }) tail counted) refl
  by false next is counted = rw (neither manner.placed) refl

body_at-body : (fuel : ℕ) (wording : Wording) (three placed : Bool) (cond : Option (List ℕ)) (statements : List Stmt) (next : Option ℕ) (tail : List ℕ)
    → IsWorded wording → EachHasSpelling wording.names statements → length statements ≤ fuel → ends_once statements ≡ true
    → is_some next ≡ placed → IsCounted next
    → body_at fuel (manner_by wording three placed) cond (statements_then wording statements (given_then wording statements next tail))
    ≡ (record { cond = cond; stmts = statements }, any_names_context wording.ctx statements, tail)
body_at-body fuel wording three placed cond statements next tail worded spelled le ends is counted =
    rw (
      statements_at-statements fuel wording statements (given_then wording statements next tail) worded.short worded.allowed worded.clash worded.free spelled le ends,
      behind_block-given (manner_by wording three placed) statements wording.out tail next is counted,
    ) refl

-- ---- labels

identifier_no_statement : (c : ℕ) → begins_identifier c ≡ true → ((c == 9) || (c == 35)) ≡ false
identifier_no_statement c h = rw (identifier_no_sign c 9 refl h, identifier_no_sign c 35 refl h) refl

begins_statement-word : (front_word tail : List ℕ) → IsIdentifier front_word → begins_statement (front_word ++ tail) ≡ false
begins_statement-word [] tail h = absurd h
begins_statement-word (c ∷ front_word) tail h = identifier_no_statement c h.0

brace-word : (front_word tail : List ℕ) → IsIdentifier front_word → (byte_at (front_word ++ tail) 0 == 125) ≡ false
brace-word [] tail h = absurd h
brace-word (c ∷ front_word) tail h = identifier_no_sign c 125 refl h.0

begins_statement-cond : (names : Spellings) (cond tail : List ℕ) → AreAllowed names → begins_statement ((label_prefix names ++ cond) ++ tail) ≡ false
begins_statement-cond names cond tail allowed = ap begins_statement (append_assoc (label_prefix names) cond tail)
    ∙ begins_statement-word (label_prefix names) (cond ++ tail) allowed.label_prefix

brace-cond : (names : Spellings) (cond tail : List ℕ) → AreAllowed names → (byte_at ((label_prefix names ++ cond) ++ tail) 0 == 125) ≡ false
brace-cond names cond tail allowed = ap (λ (text : List ℕ). byte_at text 0 == 125) (append_assoc (label_prefix names) cond tail)
    ∙ brace-word (label_prefix names) (cond ++ tail) allowed.label_prefix

-- the first block's first line, in formats in which each label stands
pub begins_statement-blocks : (wording : Wording) (line : Option ℕ) (place : ℕ) (blocks : List CodeBlock) (tail : List ℕ) → AreAllowed wording.names
    → slice_index_or wording.labels place true ≡ true → begins_statement tail ≡ false → begins_statement (blocks_then wording line place blocks tail) ≡ false
begins_statement-blocks wording line place [] tail allowed stands q = q
begins_statement-blocks wording line place (block ∷ blocks) tail allowed stands q = by block.cond where
  more : List ℕ
  more = statements_then wording block.stmts (line_then (given_back wording line place block) (blocks_then wording (line_behind line (code_block_then wording line place block [])) (suc place) blocks tail))

  by : (cond : Option (List ℕ)) → begins_statement (label_then wording.names cond (block_label_then (slice_index_or wording.labels place true) wording.number place more)) ≡ false
  by None = rw stands refl
  by (Some cond) = begins_statement-cond wording.names cond (58 ∷ 10 ∷ block_label_then (slice_index_or wording.labels place true) wording.number place more) allowed

begins_statement-statements : (wording : Wording) (statements : List Stmt) (tail : List ℕ) → 0 < length statements
    → begins_statement (statements_then wording statements tail) ≡ true
begins_statement-statements wording [] tail h = absurd (omega arith)
begins_statement-statements wording (s ∷ statements) tail h = begins_statement-statement wording s (statements_then wording statements tail)

-- a line `yyN_S:`
behind-block : (number place : ℕ) (tail : List ℕ) → number < 2 ^ 64 → place < 2 ^ 64
    → after_letters is_in_identifier (block_then number place (58 ∷ tail)) ≡ 58 ∷ tail
behind-block number place tail h k = rw (behind-word is_in_identifier (decimal number) (95 ∷ (decimal place ++ 58 ∷ tail)) (decimal_identifier number h), behind-stop is_in_identifier (decimal place) 58 tail (decimal_identifier place k) refl) refl

-- the word `yyN_S`
abbrev block_word : (number place : ℕ) → List ℕ
block_word number place = codes "yy" ++ (decimal number ++ 95 ∷ decimal place)

front-block : (number place : ℕ) (tail : List ℕ) → number < 2 ^ 64 → place < 2 ^ 64
    → front_letters is_in_identifier (block_then number place (58 ∷ tail)) ≡ block_word number place
front-block number place tail h k =
    rw (front-word is_in_identifier (decimal number) (95 ∷ (decimal place ++ 58 ∷ tail)) (decimal_identifier number h), front-stop is_in_identifier (decimal place) 58 tail (decimal_identifier place k) refl) refl

begins_with-block : (number place : ℕ) → begins_with (block_front number) (block_word number place) ≡ true
begins_with-block number place =
    ap (begins_with (decimal number ++ codes "_")) (sym (append_assoc (decimal number) (codes "_") (decimal place)))
    ∙ begins_with-append (decimal number ++ codes "_") (decimal place)

-- the label of a block is its own
lone_label-own : (wording : Wording) (three placed : Bool) (place : ℕ) → lone_label (manner_by wording three placed) (block_word wording.number place) ≡ None
lone_label-own wording true placed place = rw (begins_with-block wording.number place) refl
lone_label-own wording false placed place = refl

lone_label-block : (wording : Wording) (three placed : Bool) (place : ℕ) (tail : List ℕ) → wording.number < 2 ^ 64 → place < 2 ^ 64
    → lone_label (manner_by wording three placed) (front_letters is_in_identifier (block_then wording.number place (58 ∷ tail))) ≡ None
lone_label-block wording three placed place tail h k =
    ap (lone_label (manner_by wording three placed)) (front-block wording.number place tail h k) ∙ lone_label-own wording three placed place

-- labels of a condition and of a block, of which each may stand, before statements
abbrev labelled_then : Wording → (stands : Bool) → (place : ℕ) → (cond : Option (List ℕ)) → List ℕ → List ℕ
labelled_then wording stands place cond body = label_then wording.names cond (block_label_then stands wording.number place body)

code_block_at-labelled : (fuel : ℕ) (wording : Wording) (three placed stands : Bool) (place : ℕ) (cond : Option (List ℕ)) (statements : List Stmt) (next : Option ℕ) (tail : List ℕ)
    → IsWorded wording → place < 2 ^ 64 → 0 < length statements → IsLabel cond → EachHasSpelling wording.names statements → length statements ≤ fuel → ends_once statements ≡ true
    → is_some next ≡ placed → IsCounted next → (three ≡ false → stands ≡ true)
    → (three ≡ true → IfSome cond (λ cond. is_like_block wording.number wording.names cond ≡ false))
    → code_block_at fuel (manner_by wording three placed) (labelled_then wording stands place cond (statements_then wording statements (given_then wording statements next tail)))
    ≡ (record { cond = cond; stmts = statements }, any_names_context wording.ctx statements, tail)
unfolding code_block_at
code_block_at-labelled fuel wording three placed false place None statements next tail worded small some label spelled le ends is counted stood apart =
    rw (
      begins_statement-statements wording statements (given_then wording statements next tail) some,
      body_at-body fuel wording three placed None statements next tail worded spelled le ends is counted,
    ) refl
code_block_at-labelled fuel wording three placed true place None statements next tail worded small some label spelled le ends is counted stood apart =
    let body : List ℕ = statements_then wording statements (given_then wording statements next tail) in
    rw (
      behind-block wording.number place (10 ∷ body) worded.short small,
      lone_label-block wording three placed place (10 ∷ body) worded.short small,
      begins_statement-statements wording statements (given_then wording statements next tail) some,
      body_at-body fuel wording three placed None statements next tail worded spelled le ends is counted,
    ) refl
code_block_at-labelled fuel wording three placed true place (Some cond) statements next tail worded small some label spelled le ends is counted stood apart =
    let word : EachLetter is_in_identifier (label_prefix wording.names ++ cond) = EachLetter-append is_in_identifier (label_prefix wording.names) cond (EachLetter-identifier (label_prefix wording.names) worded.allowed.label_prefix) (EachLetter-identifier cond label) in
    let body : List ℕ = statements_then wording statements (given_then wording statements next tail) in
    let block : List ℕ = block_then wording.number place (codes ":\n" ++ body) in
    rw (
      begins_statement-cond wording.names cond (58 ∷ 10 ∷ block) worded.allowed,
      behind-stop is_in_identifier (label_prefix wording.names ++ cond) 58 (10 ∷ block) word refl,
      front-stop is_in_identifier (label_prefix wording.names ++ cond) 58 (10 ∷ block) word refl,
      behind-block wording.number place (10 ∷ body) worded.short small,
      drop-front (label_prefix wording.names) cond,
      body_at-body fuel wording three placed (Some cond) statements next tail worded spelled le ends is counted,
    ) refl
code_block_at-labelled fuel wording false placed false place (Some cond) statements next tail worded small some label spelled le ends is counted stood apart =
    absurd (false≢true (stood refl))
code_block_at-labelled fuel wording true placed false place (Some cond) statements next tail worded small some label spelled le ends is counted stood apart =
    let word : EachLetter is_in_identifier (label_prefix wording.names ++ cond) = EachLetter-append is_in_identifier (label_prefix wording.names) cond (EachLetter-identifier (label_prefix wording.names) worded.allowed.label_prefix) (EachLetter-identifier cond label) in
    let body : List ℕ = statements_then wording statements (given_then wording statements next tail) in
    rw (
      begins_statement-cond wording.names cond (58 ∷ 10 ∷ body) worded.allowed,
      behind-stop is_in_identifier (label_prefix wording.names ++ cond) 58 (10 ∷ body) word refl,
      front-stop is_in_identifier (label_prefix wording.names ++ cond) 58 (10 ∷ body) word refl,
      begins_statement-statements wording statements (given_then wording statements next tail) some,
      apart refl,
      drop-front (label_prefix wording.names) cond,
      body_at-body fuel wording true placed (Some cond) statements next tail worded spelled le ends is counted,
    ) refl

-- ---- blocks

-- the first line of a block is no end of the blocks
ends_blocks-labelled : (wording : Wording) (stands : Bool) (place : ℕ) (cond : Option (List ℕ)) (body : List ℕ) → IsWorded wording → place < 2 ^ 64
    → IsLabel cond → begins_statement body ≡ true → ends_blocks (labelled_then wording stands place cond body) ≡ false
ends_blocks-labelled wording false place None body worded small label begins = rw begins refl
ends_blocks-labelled wording true place None body worded small label begins = rw (behind-block wording.number place (10 ∷ body) worded.short small) refl
ends_blocks-labelled wording stands place (Some cond) body worded small label begins =
    let word : EachLetter is_in_identifier (label_prefix wording.names ++ cond) = EachLetter-append is_in_identifier (label_prefix wording.names) cond (EachLetter-identifier (label_prefix wording.names) worded.allowed.label_prefix) (EachLetter-identifier cond label) in
    let more : List ℕ = block_label_then stands wording.number place body in
    rw (
      begins_statement-cond wording.names cond (58 ∷ 10 ∷ more) worded.allowed,
      brace-cond wording.names cond (58 ∷ 10 ∷ more) worded.allowed,
      behind-stop is_in_identifier (label_prefix wording.names ++ cond) 58 (10 ∷ more) word refl,
    ) refl

abbrev pub blocks_name_context : Bool → List CodeBlock → Bool
blocks_name_context ctx [] = false
blocks_name_context ctx (b ∷ blocks) = any_names_context ctx b.stmts || blocks_name_context ctx blocks

-- no label of a condition begins as those of the blocks do
abbrev pub AreApart : Wording → List CodeBlock → Type 0
AreApart wording blocks = list_any (is_like_block wording.number wording.names) (labels blocks) ≡ false

or_left-false : (one other : Bool) → (one || other) ≡ false → one ≡ false
or_left-false true other e = e
or_left-false false other e = refl

or_right-false : (one other : Bool) → (one || other) ≡ false → other ≡ false
or_right-false true other e = absurd (false≢true (sym e))
or_right-false false other e = e

AreApart-first : (wording : Wording) (block : CodeBlock) (blocks : List CodeBlock) → AreApart wording (block ∷ blocks)
    → IfSome block.cond (λ cond. is_like_block wording.number wording.names cond ≡ false)
AreApart-first wording block blocks apart = by block.cond refl where
  by : (cond : Option (List ℕ)) → block.cond ≡ cond → IfSome cond (λ cond. is_like_block wording.number wording.names cond ≡ false)
  by None is = tt
  by (Some cond) is = or_left-false (is_like_block wording.number wording.names cond) (list_any (is_like_block wording.number wording.names) (labels blocks)) (rw is at apart)

AreApart-others : (wording : Wording) (block : CodeBlock) (blocks : List CodeBlock) → AreApart wording (block ∷ blocks) → AreApart wording blocks
AreApart-others wording block blocks apart = by block.cond refl where
  by : (cond : Option (List ℕ)) → block.cond ≡ cond → AreApart wording blocks
  by None is = rw is at apart
  by (Some cond) is = or_right-false (is_like_block wording.number wording.names cond) (list_any (is_like_block wording.number wording.names) (labels blocks)) (rw is at apart)

pub blocks_at-blocks : (k fuel : ℕ) (wording : Wording) (three placed : Bool) (line : Option ℕ) (place : ℕ) (blocks : List CodeBlock) (tail : List ℕ) → IsWorded wording
    → place + length blocks < 2 ^ 64 → EachBlockHasSpelling wording.names blocks → length blocks ≤ k → statement_count blocks ≤ fuel
    → AllByRecursion (λ (block : CodeBlock). ends_once block.stmts ≡ true) blocks → is_some line ≡ placed
    → (three ≡ false → (place : ℕ) → slice_index_or wording.labels place true ≡ true) → (three ≡ true → AreApart wording blocks) → ends_blocks tail ≡ true
    → blocks_at k fuel (manner_by wording three placed) (blocks_then wording line place blocks tail) ≡ (blocks, blocks_name_context wording.ctx blocks, tail)
unfolding blocks_at
blocks_at-blocks zero fuel wording three placed line place [] tail worded small spelled le lc q is stood apart e = refl
blocks_at-blocks (suc k) fuel wording three placed line place [] tail worded small spelled le lc q is stood apart e = rw e refl
blocks_at-blocks zero fuel wording three placed line place (b ∷ blocks) tail worded small spelled le lc q is stood apart e = absurd (omega arith)
blocks_at-blocks (suc k) fuel wording three placed line place (b ∷ blocks) tail worded small spelled le lc q is stood apart e =
    let after : Option ℕ = line_behind line (code_block_then wording line place b []) in
    let others : List ℕ = blocks_then wording after (suc place) blocks tail in
    let rest = blocks_at-blocks k fuel wording three placed after (suc place) blocks tail worded (omega arith) spelled.1 (omega arith) (omega arith) q.1
    (is_some-line_behind line (code_block_then wording line place b []) ∙ is) stood (λ t. AreApart-others wording b blocks (apart t)) e in
    let here : place < 2 ^ 64 = omega arith in
    let few : length b.stmts ≤ fuel = omega arith in
    let behind : Option ℕ = line_behind line (block_lines_then wording place b []) in
    let next : Option ℕ = line_behind behind (codes "\n") in
    let counted : is_some next ≡ placed = is_some-line_behind behind (codes "\n") ∙ is_some-line_behind line (block_lines_then wording place b []) ∙ is in
    let stands : Bool = slice_index_or wording.labels place true in
    rw (
      ends_blocks-labelled wording stands place b.cond (statements_then wording b.stmts (given_then wording b.stmts next others)) worded here spelled.0.1
          (begins_statement-statements wording b.stmts (given_then wording b.stmts next others) spelled.0.0),
      code_block_at-labelled fuel wording three placed stands place b.cond b.stmts next others worded here spelled.0.0 spelled.0.1 spelled.0.2 few q.0 counted
          (IsCounted-line_behind behind (codes "\n")) (λ f. stood f place) (λ t. AreApart-first wording b blocks (apart t)),
      rest,
    ) refl
