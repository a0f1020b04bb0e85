-- All blocks of scanners one behind another can be written.
use Rattle.std.specs.Prelude.{◌≡◌, ℕ, ◌+◌, ◌<◌, ◌≤◌, List, [], ◌∷◌, ◌++◌, length, map, Option, true, false, refl}
use Rattle.std.proofs.Common.{ap, arith, subst, sym}
use Rattle.std.proofs.lemmas.List.{length-map}
use Rattle.std.proofs.lemmas.Bool.{false≢true}
use Rattle.std.specs.List.{AllByRecursion}
use Rattle.lx_base.specs.Names.{Spellings}
use Rattle.lx_base.specs.declared.limits.TheConstants.{STATEMENT_LIMIT}
use Rattle.lx_ccode.specs.Statements.{all_statements}
use Rattle.lx_ccode.specs.Validity.{AreSwitchCases, AreUnitsOnce, EachBlockHasSpelling, EachHasSpelling, HasFewGroups, HasSpelling, IsByte, IsLabel, IsLong, IsShort, IsSwitchCase, JumpsBelow, NamesOneOf, ends_once, units_of}
use Rattle.lx_ccode.specs.declared.piece.SwitchCase.{SwitchCase}
use Rattle.lx_dispatch.specs.Dispatch.{AreCases, all_units}
use Rattle.lx_ccode.specs.declared.piece.CodeBlock.{CodeBlock}
use Rattle.lx_ccode.specs.declared.piece.Stmt.{Stmt}
use Rattle.lx_ccode.specs.declared.piece.Stmt.TheVariants.{Accept as SaveAccept, Back, Backup, Code, Cond, Copy, Count, End, Goto, IfAccept, IfEnd, IfIs, IfSet, IfUnit, Jump, Leave, MCopy, MSet, MUnset, Need, Peek, Restore, Set, Skip, State as Store, Switch, Tag, Try, Unset}
use Rattle.lx_layout.specs.FormedParts.{AreFormed, all_asked}
use Rattle.lx_layout.specs.Parts.{EachPart, Part, given_asked, labelled, part_blocks, part_codes, parts_blocks}
use Rattle.lx_layout.specs.Plans.{unlabelled}
use Rattle.lx_layout.specs.Writable.{PartsCanBeWritten}
use Rattle.lx_layout.proofs.PartLayouts.ClosedParts.{all_end, all_jump}
use Rattle.lx_layout.proofs.PartLayouts.PartBlocks.{OfBlocks, of_parts, of_statements}
use Rattle.lx_layout.proofs.PartLayouts.Spelled.{IsSpellable, part_fine}
use Rattle.lx_layout.proofs.Validity.EachElement.{each-append, each-back, each-front, each-map}

module _ (names : Spellings) (conds : List (List ℕ)) where
  parts_fine : (greatest begin first : ℕ) (parts : List Part) → AreFormed greatest parts → IsShort greatest → PartsCanBeWritten names conds parts
      → IsLong (first + all_asked parts)
      → EachPart (λ part begin from. AllByRecursion (λ code. AllByRecursion (IsSpellable names conds) code) (part_codes part begin from)) begin first parts
  parts_fine greatest begin first [] are short written room = tt
  parts_fine greatest begin first (part ∷ parts) are short written room = (
    part_fine names conds greatest first part short are.0 written.0 (omega (arith, room)) begin,
    parts_fine greatest (begin + length (part_codes part begin first)) (first + given_asked part.given) parts are.1 short written.1 (omega (arith, room)),
  )

  pub blocks_fine : (greatest first : ℕ) (parts : List Part) → AreFormed greatest parts → IsShort greatest → PartsCanBeWritten names conds parts
      → IsLong (first + all_asked parts) → OfBlocks (λ code. AllByRecursion (IsSpellable names conds) code) (parts_blocks 0 first parts)
  blocks_fine greatest first parts are short written room =
      of_parts (λ code. AllByRecursion (IsSpellable names conds) code) 0 first parts (parts_fine greatest 0 first parts are short written room)

  -- ---- a switch over units

  units-all : (cases : List SwitchCase) → units_of cases ≡ all_units (map (λ (case : SwitchCase). case.units) cases)
  units-all [] = refl
  units-all (case ∷ cases) = ap (λ units. case.units ++ units) (units-all cases)

  each_case : (count : ℕ) (cases : List SwitchCase) → count ≤ STATEMENT_LIMIT
      → AllByRecursion (λ own. (0 < length own) × AllByRecursion IsByte own) (map (λ (case : SwitchCase). case.units) cases)
      → AllByRecursion (λ block. block < count) (map (λ (case : SwitchCase). case.block) cases) → AllByRecursion IsSwitchCase cases
  each_case count [] small units below = tt
  each_case count (case ∷ cases) small units below = (
    record { some = units.0.0; bytes = units.0.1; block = (let lt = below.0 in omega (arith, lt, small)) },
    each_case count cases small units.1 below.1,
  )

  switch_spelled : (count : ℕ) (cases : List SwitchCase) (last : ℕ) → count ≤ STATEMENT_LIMIT → AreCases (map (λ (case : SwitchCase). case.units) cases)
      → AllByRecursion (λ block. block < count) (map (λ (case : SwitchCase). case.block) cases ++ last ∷ []) → AreSwitchCases cases × IsLong last
  switch_spelled count cases last small fine below =
      let blocks : List ℕ = map (λ (case : SwitchCase). case.block) cases in
      let some = fine.some in
      let l : length (map (λ (case : SwitchCase). case.units) cases) ≡ length cases = length-map {B = List ℕ} cases (λ (case : SwitchCase). case.units) in
      let lt = (each-back (λ block. block < count) (map (λ (case : SwitchCase). case.block) cases) (last ∷ []) below).0 in (
        record {
          some = omega (arith, some, l);
          each = each_case count cases small fine.each (each-front (λ block. block < count) (map (λ (case : SwitchCase). case.block) cases) (last ∷ []) below);
          once = subst (λ units. AreUnitsOnce units) (sym (units-all cases)) fine.once;
        },
        omega (arith, lt, small),
      )

  -- ---- one statement

  spelled : (count : ℕ) (statement : Stmt) → count ≤ STATEMENT_LIMIT → IsSpellable names conds statement → JumpsBelow count statement
      → HasSpelling names statement
  spelled count Peek small fine below = tt
  spelled count Skip small fine below = tt
  spelled count Backup small fine below = tt
  spelled count Restore small fine below = tt
  spelled count Leave small fine below = tt
  spelled count (SaveAccept accept) small fine below = fine
  spelled count (Set register) small fine below = fine
  spelled count (Unset register) small fine below = fine
  spelled count (Copy register source) small fine below = fine
  spelled count (MSet history) small fine below = omega (arith, fine)
  spelled count (MUnset history) small fine below = omega (arith, fine)
  spelled count (MCopy history source) small fine below = (omega (arith, fine.0), omega (arith, fine.1))
  spelled count (IfUnit greatest block) small fine below = (fine, omega (arith, below.0, small))
  spelled count (IfIs unit block) small fine below = (fine, omega (arith, below.0, small))
  spelled count (IfSet set block) small fine below = (fine, omega (arith, below.0, small))
  spelled count (IfAccept accept block) small fine below = (fine, omega (arith, below.0, small))
  spelled count (IfEnd block) small fine below = omega (arith, below.0, small)
  spelled count (Store number) small fine below = fine
  spelled count (Need units) small fine below = fine
  spelled count (Try block) small fine below = omega (arith, below.0, small)
  spelled count (Cond cond) small fine below = fine.0
  spelled count (Switch cases last) small fine below = switch_spelled count cases last small fine below
  spelled count (Goto block) small fine below = omega (arith, below.0, small)
  spelled count (Tag tag true history) small fine below = (fine.0, omega (arith, fine.1))
  spelled count (Tag tag false register) small fine below = fine
  spelled count (Count groups) small fine below = omega (arith, fine)
  spelled count (End place register) small fine below = (omega (arith, fine.0), fine.1)
  spelled count (Back register) small fine below = fine
  spelled count (Code rule line action) small fine below = fine
  spelled count (Jump cond rule) small fine below = (fine.0.0, fine.1)

  pub one_of : (statement : Stmt) → IsSpellable names conds statement → NamesOneOf conds statement
  one_of (Cond cond) fine = fine.1
  one_of (Jump cond rule) fine = fine.0.1
  one_of _ fine = tt

  pub few_groups : (statement : Stmt) → IsSpellable names conds statement → HasFewGroups statement
  few_groups (Count groups) fine = fine
  few_groups (End place register) fine = fine.0
  few_groups _ fine = tt

  -- ---- all blocks

  abbrev LabelsWritten : List CodeBlock → Type 0
  LabelsWritten blocks = AllByRecursion (λ (block : CodeBlock). IsLabel block.cond) blocks

  labels_none : (codes : List (List Stmt)) → LabelsWritten (unlabelled codes)
  labels_none [] = tt
  labels_none (code ∷ codes) = (tt, labels_none codes)

  labels_first : (cond : Option (List ℕ)) (codes : List (List Stmt)) → IsLabel cond → LabelsWritten (labelled cond codes)
  labels_first cond [] is = tt
  labels_first cond (code ∷ codes) is = (is, labels_none codes)

  pub labels_written : (begin first : ℕ) (parts : List Part) → PartsCanBeWritten names conds parts → LabelsWritten (parts_blocks begin first parts)
  labels_written begin first [] written = tt
  labels_written begin first (part ∷ parts) written =
      each-append (λ (block : CodeBlock). IsLabel block.cond) (part_blocks part begin first)
      (parts_blocks (begin + length (part_codes part begin first)) (first + given_asked part.given) parts)
      (labels_first part.given.cond (part_codes part begin first) written.0.label)
      (labels_written (begin + length (part_codes part begin first)) (first + given_asked part.given) parts written.1)

  some_statement : (code : List Stmt) → ends_once code ≡ true → 0 < length code
  some_statement [] ends = absurd (false≢true ends)
  some_statement (statement ∷ code) ends = omega arith

  code_spelled : (count : ℕ) (code : List Stmt) → count ≤ STATEMENT_LIMIT → AllByRecursion (IsSpellable names conds) code
      → AllByRecursion (JumpsBelow count) code → EachHasSpelling names code
  code_spelled count [] small fine below = tt
  code_spelled count (statement ∷ code) small fine below =
      (spelled count statement small fine.0 below.0, code_spelled count code small fine.1 below.1)

  pub blocks_spelled : (count : ℕ) (blocks : List CodeBlock) → count ≤ STATEMENT_LIMIT → OfBlocks (λ code. AllByRecursion (IsSpellable names conds) code) blocks
      → LabelsWritten blocks → AllByRecursion (λ (block : CodeBlock). ends_once block.stmts ≡ true) blocks
      → AllByRecursion (JumpsBelow count) (all_statements blocks) → EachBlockHasSpelling names blocks
  blocks_spelled count [] small fine labels ends below = tt
  blocks_spelled count (block ∷ blocks) small fine labels ends below = (
    (
      some_statement block.stmts ends.0,
      labels.0,
      code_spelled count block.stmts small fine.0 (each-front (JumpsBelow count) block.stmts (all_statements blocks) below),
    ),
    blocks_spelled count blocks small fine.1 labels.1 ends.1 (each-back (JumpsBelow count) block.stmts (all_statements blocks) below),
  )

  -- ---- all scanners

  pub parts_written : (greatest first : ℕ) (parts : List Part) (blocks : List CodeBlock) → AreFormed greatest parts → IsShort greatest
      → PartsCanBeWritten names conds parts → blocks ≡ parts_blocks 0 first parts → length blocks ≤ STATEMENT_LIMIT → IsLong (first + all_asked parts)
      → EachBlockHasSpelling names blocks × AllByRecursion HasFewGroups (all_statements blocks) × AllByRecursion (NamesOneOf conds) (all_statements blocks)
  parts_written greatest first parts blocks are short written same small room =
      let fine : OfBlocks (λ code. AllByRecursion (IsSpellable names conds) code) blocks =
      subst (λ l. OfBlocks (λ code. AllByRecursion (IsSpellable names conds) code) l) (sym same) (blocks_fine greatest first parts are short written room) in
      let labels : LabelsWritten blocks = subst (λ l. LabelsWritten l) (sym same) (labels_written 0 first parts written) in (
        blocks_spelled (length blocks) blocks small fine labels (all_end greatest first parts blocks are same) (all_jump greatest first parts blocks are same),
        each-map (IsSpellable names conds) HasFewGroups few_groups (all_statements blocks) (of_statements (IsSpellable names conds) blocks fine),
        each-map (IsSpellable names conds) (NamesOneOf conds) one_of (all_statements blocks) (of_statements (IsSpellable names conds) blocks fine),
      )
