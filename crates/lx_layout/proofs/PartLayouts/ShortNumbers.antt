-- The numbers of registers, of stored states and of blocks in a piece of scanners are within their bounds.
use Rattle.std.specs.Prelude.{◌≡◌, ℕ, zero, suc, ◌+◌, ◌<◌, ◌≤◌, List, [], ◌∷◌, length, map, Option, Some, None, Bool, true, false, refl, if◌then◌else◌}
use Rattle.std.proofs.Common.{ap, arith}
use Rattle.std.proofs.lemmas.Bool.{false≢true}
use Rattle.std.specs.List.{AllByRecursion, range_with_len}
use Rattle.lx_base.specs.Letters.{IsIdentifier}
use Rattle.lx_base.specs.Names.{Spellings}
use Rattle.lx_ccode.specs.Counts.{greatest_of, history_in, mregs_of, register_in, regs_of}
use Rattle.lx_ccode.specs.States.{onto_cases, states_from, states_in, try_first}
use Rattle.lx_ccode.specs.Statements.{all_statements, state_of, statement_count}
use Rattle.lx_ccode.specs.Validity.{IsLabel, IsLong, IsShort, ends_once, label_of}
use Rattle.lx_ccode.specs.declared.piece.CodeBlock.{CodeBlock}
use Rattle.lx_ccode.specs.declared.piece.CondCase.{CondCase}
use Rattle.lx_ccode.specs.declared.piece.StateCase.{StateCase}
use Rattle.lx_ccode.specs.declared.piece.Stmt.{Stmt}
use Rattle.lx_ccode.specs.declared.piece.Stmt.TheVariants.{Back, Copy, End, MCopy, MSet, MUnset, Set, Tag, Unset}
use Rattle.lx_layout.specs.FormedParts.{conds_of, with_cond}
use Rattle.lx_layout.specs.PartPieces.{cond_cases, with_case}
use Rattle.lx_layout.specs.Parts.{EachPart, Part, given_asked, part_codes, parts_blocks}
use Rattle.lx_layout.specs.Writable.{PartsCanBeWritten}
use Rattle.lx_layout.proofs.PartLayouts.ClosedParts.{length-parts}
use Rattle.lx_layout.proofs.PartLayouts.Spelled.{IsSpellable}

-- ---- registers

module _ (names : Spellings) (conds : List (List ℕ)) where
  register_short : (statement : Stmt) → IsSpellable names conds statement → IsShort (register_in statement)
  register_short (Set register) fine = fine.1
  register_short (Unset register) fine = fine.1
  register_short (Copy register source) fine = let one = fine.0.1 in let other = fine.1.1 in omega (arith, one, other)
  register_short (Tag tag true history) fine = omega arith
  register_short (Tag tag false register) fine = fine.1.1
  register_short (End place register) fine = fine.1.1
  register_short (Back register) fine = fine.1
  register_short _ fine = omega arith

  history_short : (statement : Stmt) → IsSpellable names conds statement → IsShort (history_in statement)
  history_short (MSet history) fine = fine
  history_short (MUnset history) fine = fine
  history_short (MCopy history source) fine = let one = fine.0 in let other = fine.1 in omega (arith, one, other)
  history_short (Tag tag true history) fine = fine.1
  history_short (Tag tag false register) fine = omega arith
  history_short _ fine = omega arith

  greatest_short : (number : Stmt → ℕ) → ((statement : Stmt) → IsSpellable names conds statement → IsShort (number statement)) → (code : List Stmt)
      → AllByRecursion (IsSpellable names conds) code → IsShort (greatest_of number code)
  greatest_short number short [] fine = omega arith
  greatest_short number short (statement ∷ code) fine =
      let here = short statement fine.0 in
      let again = greatest_short number short code fine.1 in
      omega (arith, here, again)

  pub regs_short : (blocks : List CodeBlock) → AllByRecursion (IsSpellable names conds) (all_statements blocks) → IsShort (regs_of blocks)
  regs_short blocks fine = greatest_short register_in register_short (all_statements blocks) fine

  pub mregs_short : (blocks : List CodeBlock) → AllByRecursion (IsSpellable names conds) (all_statements blocks) → IsShort (mregs_of blocks)
  mregs_short blocks fine = greatest_short history_in history_short (all_statements blocks) fine

-- ---- blocks

some_statement : (code : List Stmt) → ends_once code ≡ true → 0 < length code
some_statement [] ends = absurd (false≢true ends)
some_statement (statement ∷ code) ends = omega arith

pub blocks_few : (blocks : List CodeBlock) → AllByRecursion (λ (block : CodeBlock). ends_once block.stmts ≡ true) blocks
    → length blocks ≤ statement_count blocks
blocks_few [] ends = omega arith
blocks_few (block ∷ blocks) ends =
    let some : 0 < length block.stmts = some_statement block.stmts ends.0 in
    let again : length blocks ≤ statement_count blocks = blocks_few blocks ends.1 in
    omega (arith, some, again)

-- ---- what is stored

abbrev GoesWithin : (count : ℕ) → List StateCase → Type 0
GoesWithin count cases = AllByRecursion (λ (case : StateCase). case.block ≤ count) cases

within_in : (count place : ℕ) (code : List Stmt) (others : List StateCase) → suc place ≤ count → GoesWithin count others
    → GoesWithin count (states_in place code others)
within_in count place [] others le h = h
within_in count place (statement ∷ code) others le h = by (state_of statement) (try_first code) (within_in count place code others le h)
  where
    by : (o : Option ℕ) (t : Bool) → GoesWithin count (states_in place code others)
        → GoesWithin count (onto_cases o (if t then suc place else place) (states_in place code others))
    by None t again = again
    by (Some number) true again = (le, again)
    by (Some number) false again = (omega (arith, le), again)

pub within_from : (count place : ℕ) (blocks : List CodeBlock) → place + length blocks ≤ count → GoesWithin count (states_from place blocks)
within_from count place [] le = tt
within_from count place (block ∷ blocks) le =
    within_in count place block.stmts (states_from (suc place) blocks) (omega (arith, le)) (within_from count (suc place) blocks (omega (arith, le)))

pub stored_below : (low n limit : ℕ) (cases : List StateCase) → map (λ case. case.state) cases ≡ range_with_len low n → low + n ≤ limit
    → AllByRecursion (λ (case : StateCase). case.state < limit) cases
stored_below low n limit [] e le = tt
stored_below low zero limit (case ∷ cases) e le = absurd (cc)
stored_below low (suc n) limit (case ∷ cases) e le =
    let here : case.state ≡ low = cc in
    let rest : map (λ case. case.state) cases ≡ range_with_len (low + 1) n = cc in
    (omega (arith, here, le), stored_below (low + 1) n limit cases rest (omega (arith, le)))

-- ---- conditions

pub cases_named : (begin first : ℕ) (parts : List Part) → map (λ case. case.cond) (cond_cases begin first parts) ≡ conds_of parts
cases_named begin first [] = refl
cases_named begin first (part ∷ parts) =
    by part.given.cond (cases_named (begin + length (part_codes part begin first)) (first + given_asked part.given) parts)
  where
    by : (o : Option (List ℕ)) → map (λ case. case.cond) (cond_cases (begin + length (part_codes part begin first)) (first + given_asked part.given) parts)
        ≡ conds_of parts
        → map (λ case. case.cond) (with_case o begin (cond_cases (begin + length (part_codes part begin first)) (first + given_asked part.given) parts))
        ≡ with_cond o (conds_of parts)
    by None again = again
    by (Some cond) again = ap (λ l. cond ∷ l) again

pub cases_begin : (blocks : List CodeBlock) (begin first : ℕ) (parts : List Part)
    → EachPart (λ part begin from. label_of blocks begin ≡ part.given.cond) begin first parts
    → AllByRecursion (λ (case : CondCase). label_of blocks case.block ≡ Some case.cond) (cond_cases begin first parts)
cases_begin blocks begin first [] h = tt
cases_begin blocks begin first (part ∷ parts) h =
    by part.given.cond h.0 (cases_begin blocks (begin + length (part_codes part begin first)) (first + given_asked part.given) parts h.1)
  where
    by : (o : Option (List ℕ)) → label_of blocks begin ≡ o
        → AllByRecursion (λ (case : CondCase). label_of blocks case.block ≡ Some case.cond)
        (cond_cases (begin + length (part_codes part begin first)) (first + given_asked part.given) parts)
        → AllByRecursion (λ (case : CondCase). label_of blocks case.block ≡ Some case.cond)
        (with_case o begin (cond_cases (begin + length (part_codes part begin first)) (first + given_asked part.given) parts))
    by None e again = again
    by (Some cond) e again = (e, again)

pub cases_short : (names : Spellings) (conds : List (List ℕ)) (begin first : ℕ) (parts : List Part) → PartsCanBeWritten names conds parts
    → IsLong (begin + length (parts_blocks begin first parts))
    → AllByRecursion (λ (case : CondCase). IsIdentifier case.cond × IsLong case.block) (cond_cases begin first parts)
cases_short names conds begin first [] written room = tt
cases_short names conds begin first (part ∷ parts) written room =
    let l = length-parts begin first part parts in
    by part.given.cond written.0.label (omega (arith, room))
    (cases_short names conds (begin + length (part_codes part begin first)) (first + given_asked part.given) parts written.1 (omega (arith, l, room)))
  where
    by : (o : Option (List ℕ)) → IsLabel o → IsLong begin
        → AllByRecursion (λ (case : CondCase). IsIdentifier case.cond × IsLong case.block)
        (cond_cases (begin + length (part_codes part begin first)) (first + given_asked part.given) parts)
        → AllByRecursion (λ (case : CondCase). IsIdentifier case.cond × IsLong case.block)
        (with_case o begin (cond_cases (begin + length (part_codes part begin first)) (first + given_asked part.given) parts))
    by None is long again = again
    by (Some cond) is long again = ((is, long), again)
