-- A piece in which scanners stand one behind another is valid.
use Rattle.std.specs.Prelude.{◌≡◌, ◌⊎◌, ℕ, ◌+◌, ◌*◌, ◌^◌, ◌<◌, ◌≤◌, ◌||◌, not, IfSome, is_some, List, [], ◌∷◌, length, map, Option, Some, None, Bool, true, false, refl}
use Rattle.std.proofs.Common.{inl, inr, ◌∙◌, ap, arith, subst, sym}
use Rattle.std.proofs.lemmas.Bool.{false≢true}
use Rattle.std.proofs.lemmas.List.FromFn.{length-range_with_len}
use Rattle.std.proofs.lemmas.List.{length-map}
use Rattle.std.specs.List.{AllByRecursion, list_any}
use Rattle.lx_base.specs.declared.limits.TheConstants.{STATEMENT_LIMIT}
use Rattle.lx_base.specs.Letters.{IsIdentifier}
use Rattle.lx_base.specs.Names.{AreAllowed, AreDistinct, DoNotClash, name_primitives, name_table}
use Rattle.lx_base.specs.Spelling.{greatest_unit}
use Rattle.lx_base.specs.declared.settings.Enc.{Enc}
use Rattle.lx_base.specs.declared.settings.Enc.TheVariants.{Byte, Ucs2, Utf8, Utf16, Utf32}
use Rattle.lx_base.specs.declared.settings.Format.{Format}
use Rattle.lx_base.specs.declared.settings.Format.TheVariants.{Two, Three}
use Rattle.lx_ccode.specs.Agreement.{Agrees, keeps_mode}
use Rattle.lx_ccode.specs.Counts.{is_peek, state_count}
use Rattle.lx_ccode.specs.Heads.{is_custom, is_format_three, is_three}
use Rattle.lx_ccode.specs.Labels.{is_like_block}
use Rattle.lx_ccode.specs.States.{states_from}
use Rattle.lx_ccode.specs.Statements.{all_statements, has_register_one, is_need, is_of_three, is_reading, is_state, is_switch, is_try, names_table, statement_count}
use Rattle.lx_ccode.specs.Validity.{AreAscending, AreOnce, EachBlockHasSpelling, HasFewGroups, IsByte, IsLine, IsLong, IsShort, IsStateSwitch, IsValid, NamesOneOf, ends_once, label_of, labels, states_before_refills}
use Rattle.lx_ccode.specs.declared.piece.CodeBlock.{CodeBlock}
use Rattle.lx_ccode.specs.declared.piece.CondCase.{CondCase}
use Rattle.lx_ccode.specs.declared.piece.Head.{Head}
use Rattle.lx_ccode.specs.declared.piece.Mode.{Mode}
use Rattle.lx_ccode.specs.declared.piece.Mode.TheVariants.{Count, Eof, EofFixed, Plain}
use Rattle.lx_ccode.specs.declared.piece.Piece.{Piece}
use Rattle.lx_ccode.specs.declared.piece.StateCase.{StateCase}
use Rattle.lx_ccode.specs.declared.piece.Stmt.{Stmt}
use Rattle.lx_ccode.specs.declared.piece.Stmt.TheVariants.{IfEnd, Peek, Skip}
use Rattle.lx_encode.specs.Units.{unit_size}
use Rattle.lx_layout.specs.FormedParts.{AllStore, AreFormed, all_asked, conds_of}
use Rattle.lx_layout.specs.PartModes.{CountsNothing, TriesNothing}
use Rattle.lx_layout.specs.PartPieces.{IsPieceOf, Suits, head_with}
use Rattle.lx_layout.specs.Parts.{Part, parts_blocks}
use Rattle.lx_layout.specs.Writable.{PartsCanBeWritten}
use Rattle.lx_layout.proofs.PartLayouts.AskingParts.{needs_none, reads_need, reads_try, refills_after, states_before, tries_none}
use Rattle.lx_layout.proofs.PartLayouts.ClosedParts.{all_end, all_jump, length-parts}
use Rattle.lx_layout.proofs.PartLayouts.LastBlocks.{last_tries_none}
use Rattle.lx_layout.proofs.PartLayouts.OfFormatTwo.{none_of_three, switches_bytes}
use Rattle.lx_layout.proofs.PartLayouts.PartBlocks.{OfBlocks, of_statements}
use Rattle.lx_layout.proofs.PartLayouts.PartOrder.{parts_begin, parts_labelled, some_block}
use Rattle.lx_layout.proofs.PartLayouts.PartStates.{no_states, nothing_stored, states_ascend, states_numbered, states_once}
use Rattle.lx_layout.proofs.PartLayouts.ShortNumbers.{blocks_few, cases_begin, cases_named, cases_short, mregs_short, regs_short, stored_below, within_from}
use Rattle.lx_layout.proofs.PartLayouts.Spelled.{IsSpellable}
use Rattle.lx_layout.proofs.PartLayouts.WrittenParts.{blocks_fine, parts_written}
use Rattle.lx_layout.proofs.Validity.EachElement.{each-both, each-map}

-- ---- encodings

size_is : (enc : Enc) → (unit_size enc ≡ 1) ⊎ ((unit_size enc ≡ 2) ⊎ (unit_size enc ≡ 4))
size_is Byte = inl refl
size_is Ucs2 = inr (inl refl)
size_is Utf8 = inl refl
size_is Utf16 = inr (inl refl)
size_is Utf32 = inr (inr refl)

pub greatest_short : (enc : Enc) → IsShort (greatest_unit enc)
greatest_short Byte = omega arith
greatest_short Ucs2 = omega arith
greatest_short Utf8 = omega arith
greatest_short Utf16 = omega arith
greatest_short Utf32 = omega arith

-- ---- modes

-- all scanners suit the mode of one
pub counts_nothing : (mode : Mode) (part : Part) → (mode ≡ Count → ⊥) → Suits mode part → CountsNothing part
counts_nothing Plain part other suits none number = suits.1 number
counts_nothing Count part other suits none number = absurd (other refl)
counts_nothing EofFixed part other suits none number = absurd (false≢true (sym (ap (λ o. is_some o) none) ∙ suits.0))
counts_nothing Eof part other suits none number = absurd (false≢true (sym (ap (λ o. is_some o) none) ∙ suits.eof))

pub tries_nothing : (mode : Mode) (part : Part) → (mode ≡ Eof → ⊥) → Suits mode part → TriesNothing part
tries_nothing Plain part other suits some = absurd (false≢true (sym (ap (λ o. is_some o) suits.0) ∙ some))
tries_nothing Count part other suits some = absurd (false≢true (sym (ap (λ o. is_some o) suits.eof) ∙ some))
tries_nothing EofFixed part other suits some = suits.1
tries_nothing Eof part other suits some = absurd (other refl)

-- whether there is a unit for the end
abbrev has_unit : Mode → Bool
has_unit Plain = false
has_unit Count = false
has_unit EofFixed = true
has_unit Eof = true

unit_suits : (mode : Mode) (part : Part) → Suits mode part → is_some part.given.demand.eof ≡ has_unit mode
unit_suits Plain part suits = ap (λ o. is_some o) suits.0
unit_suits Count part suits = ap (λ o. is_some o) suits.eof
unit_suits EofFixed part suits = suits.0
unit_suits Eof part suits = suits.eof

or_else : (peeks asks : Bool) → (peeks ≡ true → asks ≡ true) → (not peeks || asks) ≡ true
or_else true asks h = h refl
or_else false asks h = refl

keeps : (mode : Mode) (eof peeks needs tries : Bool) → eof ≡ has_unit mode → ((mode ≡ Count → ⊥) → needs ≡ false) → ((mode ≡ Eof → ⊥) → tries ≡ false)
    → (mode ≡ Count → peeks ≡ true → needs ≡ true) → (mode ≡ Eof → peeks ≡ true → tries ≡ true) → keeps_mode mode eof peeks needs tries ≡ true
keeps Plain eof peeks needs tries unit none without counts does =
    let a : needs ≡ false = none (λ e. absurd (cc)) in
    let b : tries ≡ false = without (λ e. absurd (cc)) in
    rw (unit, a, b) refl
keeps Count eof peeks needs tries unit none without counts does =
    let a : (not peeks || needs) ≡ true = or_else peeks needs (counts refl) in
    let b : tries ≡ false = without (λ e. absurd (cc)) in
    rw (unit, a, b) refl
keeps EofFixed eof peeks needs tries unit none without counts does =
    let a : needs ≡ false = none (λ e. absurd (cc)) in
    let b : tries ≡ false = without (λ e. absurd (cc)) in
    rw (unit, a, b) refl
keeps Eof eof peeks needs tries unit none without counts does =
    let a : needs ≡ false = none (λ e. absurd (cc)) in
    let b : (not peeks || tries) ≡ true = or_else peeks tries (does refl) in
    rw (unit, a, b) refl

-- what reads a unit is among what reads
peeks_read : (statements : List Stmt) → list_any is_peek statements ≡ true → list_any is_reading statements ≡ true
peeks_read [] peeks = peeks
peeks_read (Peek ∷ statements) peeks = refl
peeks_read (Skip ∷ statements) peeks = refl
peeks_read (IfEnd block ∷ statements) peeks = refl
peeks_read (statement ∷ statements) peeks = peeks_read statements peeks

-- ---- the piece

module _ (format : Format) (custom : Bool) (enc : Enc) (mode : Mode) (stores : Bool) (first : ℕ) (parts : List Part) (piece : Piece) (some : 0 < length parts)
    (are : AreFormed (greatest_unit enc) parts) (suit : AllByRecursion (Suits mode) parts) (store : AllStore stores parts)
    (written : PartsCanBeWritten piece.names (conds_of parts) parts) (apart : AreDistinct (conds_of parts)) (is : IsPieceOf format custom enc mode first parts piece)
    (few : statement_count piece.blocks ≤ STATEMENT_LIMIT) (room : IsLong (first + all_asked parts)) where
  abbrev blocks : List CodeBlock
  blocks = piece.blocks

  ends : AllByRecursion (λ (block : CodeBlock). ends_once block.stmts ≡ true) piece.blocks
  ends = all_end (greatest_unit enc) first parts piece.blocks are is.blocks

  few_blocks : length piece.blocks ≤ STATEMENT_LIMIT
  few_blocks = let h : length piece.blocks ≤ statement_count piece.blocks = blocks_few piece.blocks ends in omega (arith, h, few)

  has_block : 0 < length piece.blocks
  has_block = subst (λ l. 0 < length l) (sym is.blocks) (by parts some are)
    where
      by : (list : List Part) → 0 < length list → AreFormed (greatest_unit enc) list → 0 < length (parts_blocks 0 first list)
      by [] some are = absurd (omega (arith, some))
      by (part ∷ list) some are =
          let l = length-parts 0 first part list in
          let own = some_block (greatest_unit enc) 0 first part are.0 in
          omega (arith, l, own)

  statements_fine : AllByRecursion (IsSpellable piece.names (conds_of parts)) (all_statements piece.blocks)
  statements_fine =
      of_statements (IsSpellable piece.names (conds_of parts)) piece.blocks
      (subst (λ l. OfBlocks (λ code. AllByRecursion (IsSpellable piece.names (conds_of parts)) code) l) (sym is.blocks)
      (blocks_fine piece.names (conds_of parts) (greatest_unit enc) first parts are (greatest_short enc) written room))

  are_written : EachBlockHasSpelling piece.names piece.blocks × AllByRecursion HasFewGroups (all_statements piece.blocks)
      × AllByRecursion (NamesOneOf (conds_of parts)) (all_statements piece.blocks)
  are_written =
      parts_written piece.names (conds_of parts) (greatest_unit enc) first parts piece.blocks are (greatest_short enc) written is.blocks few_blocks room

  all_labels : labels piece.blocks ≡ conds_of parts
  all_labels = parts_labelled (greatest_unit enc) first parts piece.blocks are is.blocks

  -- ---- refills

  no_need : (mode ≡ Count → ⊥) → list_any is_need (all_statements piece.blocks) ≡ false
  no_need other =
      needs_none first parts piece.blocks is.blocks (each-map (Suits mode) CountsNothing (λ part suits. counts_nothing mode part other suits) parts suit)

  no_try : (mode ≡ Eof → ⊥) → list_any is_try (all_statements piece.blocks) ≡ false
  no_try other =
      tries_none first parts piece.blocks is.blocks (each-map (Suits mode) TriesNothing (λ part suits. tries_nothing mode part other suits) parts suit)

  unit_there : is_some piece.eof ≡ has_unit mode
  unit_there = by parts some suit is.eof
    where
      by : (list : List Part) → 0 < length list → AllByRecursion (Suits mode) list
          → AllByRecursion (λ (part : Part). part.given.demand.eof ≡ piece.eof) list → is_some piece.eof ≡ has_unit mode
      by [] some suit same = absurd (omega (arith, some))
      by (part ∷ list) some suit same = ap (λ o. is_some o) (sym same.0) ∙ unit_suits mode part suit.0

  mode_kept : keeps_mode mode (is_some piece.eof) (list_any is_peek (all_statements piece.blocks)) (list_any is_need (all_statements piece.blocks))
      (list_any is_try (all_statements piece.blocks)) ≡ true
  mode_kept =
      keeps mode (is_some piece.eof) (list_any is_peek (all_statements piece.blocks)) (list_any is_need (all_statements piece.blocks))
      (list_any is_try (all_statements piece.blocks)) unit_there no_need no_try
      (λ e peeks. reads_need (greatest_unit enc) first parts piece.blocks are (subst (λ m. AllByRecursion (Suits m) parts) e suit) is.blocks
      (peeks_read (all_statements piece.blocks) peeks))
      (λ e peeks. reads_try first parts piece.blocks (subst (λ m. AllByRecursion (Suits m) parts) e suit) is.blocks
      (peeks_read (all_statements piece.blocks) peeks))

  one_way : (list_any is_need (all_statements piece.blocks) ≡ false) ⊎ (list_any is_try (all_statements piece.blocks) ≡ false)
  one_way = by mode refl
    where
      by : (m : Mode) → mode ≡ m → (list_any is_need (all_statements piece.blocks) ≡ false) ⊎ (list_any is_try (all_statements piece.blocks) ≡ false)
      by Plain e = inl (no_need (λ z. let w = sym e ∙ z in absurd (cc)))
      by Count e = inr (no_try (λ z. let w = sym e ∙ z in absurd (cc)))
      by EofFixed e = inl (no_need (λ z. let w = sym e ∙ z in absurd (cc)))
      by Eof e = inl (no_need (λ z. let w = sym e ∙ z in absurd (cc)))

  -- ---- what is stored

  once_each : AreOnce (states_from 0 piece.blocks)
  once_each = by stores store
    where
      by : (t : Bool) → AllStore t parts → AreOnce (states_from 0 piece.blocks)
      by true store = states_once first parts piece.blocks store is.blocks
      by false store = subst (λ l. AreOnce l) (sym (no_states (greatest_unit enc) first parts piece.blocks are store is.blocks)) tt

  in_order : IsStateSwitch piece.blocks (states_from 0 piece.blocks)
  in_order = (by stores store, λ number. refl)
    where
      by : (t : Bool) → AllStore t parts → AreAscending (states_from 0 piece.blocks)
      by true store = states_ascend first parts piece.blocks store is.blocks
      by false store = subst (λ l. AreAscending l) (sym (no_states (greatest_unit enc) first parts piece.blocks are store is.blocks)) tt

  stored_first : list_any is_state (all_statements piece.blocks) ≡ true
      → AllByRecursion (λ (block : CodeBlock). states_before_refills false block.stmts ≡ true) piece.blocks
  stored_first = by stores store
    where
      by : (t : Bool) → AllStore t parts → list_any is_state (all_statements piece.blocks) ≡ true
          → AllByRecursion (λ (block : CodeBlock). states_before_refills false block.stmts ≡ true) piece.blocks
      by true store h = states_before first parts piece.blocks store is.blocks
      by false store h = absurd (false≢true (sym (nothing_stored (greatest_unit enc) first parts piece.blocks are store is.blocks) ∙ h))

  numbers_long : AllByRecursion (λ (case : StateCase). case.state < first + all_asked parts) (states_from 0 piece.blocks)
  numbers_long = by stores store
    where
      by : (t : Bool) → AllStore t parts → AllByRecursion (λ (case : StateCase). case.state < first + all_asked parts) (states_from 0 piece.blocks)
      by true store =
          stored_below first (all_asked parts) (first + all_asked parts) (states_from 0 piece.blocks) (states_numbered first parts piece.blocks store is.blocks)
          (omega arith)
      by false store =
          subst (λ l. AllByRecursion (λ (case : StateCase). case.state < first + all_asked parts) l)
          (sym (no_states (greatest_unit enc) first parts piece.blocks are store is.blocks)) tt

  cases_long : AllByRecursion (λ (case : StateCase). IsLong case.state × IsLong case.block) (states_from 0 piece.blocks)
  cases_long =
      each-both (λ (case : StateCase). case.state < first + all_asked parts) (λ (case : StateCase). case.block ≤ length piece.blocks)
      (λ (case : StateCase). IsLong case.state × IsLong case.block)
      (λ case lt le. let small = few_blocks in (omega (arith, lt, room), omega (arith, le, small))) (states_from 0 piece.blocks) numbers_long
      (within_from (length piece.blocks) 0 piece.blocks (omega arith))

  count_long : IsLong (state_count piece.blocks)
  count_long = by stores store
    where
      by : (t : Bool) → AllStore t parts → IsLong (state_count piece.blocks)
      by true store =
          let l : length (states_from 0 piece.blocks) ≡ all_asked parts =
          sym (length-map {B = ℕ} (states_from 0 piece.blocks) (λ (case : StateCase). case.state))
          ∙ ap (λ l. length l) (states_numbered first parts piece.blocks store is.blocks) ∙ length-range_with_len first (all_asked parts) in
          omega (arith, l, room)
      by false store =
          let l : length (states_from 0 piece.blocks) ≡ 0 =
          ap (λ l. length l) (no_states (greatest_unit enc) first parts piece.blocks are store is.blocks) in
          omega (arith, l)

  of_switch : (P : List StateCase → Type 0) → P (states_from 0 piece.blocks) → IfSome piece.states P
  of_switch P h = by is.states
    where
      by : (piece.states ≡ None) ⊎ (piece.states ≡ Some (states_from 0 piece.blocks)) → IfSome piece.states P
      by (inl none) = subst (λ o. IfSome o P) (sym none) tt
      by (inr some) = subst (λ o. IfSome o P) (sym some) h

  -- ---- the format

  of_format : list_any is_of_three (all_statements piece.blocks) ≡ true → is_three piece.head ≡ true
  of_format some = ap is_three is.head ∙ by format refl is.formats
    where
      by : (given : Format) → format ≡ given → AllByRecursion (λ (part : Part). part.given.demand.format ≡ given) parts → is_format_three format ≡ true
      by Three e formats = ap is_format_three e
      by Two e formats =
          absurd (false≢true (sym (none_of_three (greatest_unit enc) first parts piece.blocks are formats is.blocks) ∙ some))

  of_bytes : list_any is_switch (all_statements piece.blocks) ≡ true → piece.unit ≡ 1
  of_bytes some = is.unit ∙ by enc (switches_bytes (greatest_unit enc) first parts piece.blocks are is.blocks some)
    where
      by : (given : Enc) → greatest_unit given ≡ 0xFF → unit_size given ≡ 1
      by Byte e = refl
      by Ucs2 e = absurd (omega (arith, e))
      by Utf8 e = refl
      by Utf16 e = absurd (omega (arith, e))
      by Utf32 e = absurd (omega (arith, e))

  table_bytes : AllByRecursion IsByte piece.table
  table_bytes = by parts some are is.tables
    where
      by : (list : List Part) → 0 < length list → AreFormed (greatest_unit enc) list
          → AllByRecursion (λ (part : Part). part.given.demand.table ≡ piece.table) list → AllByRecursion IsByte piece.table
      by [] some are same = absurd (omega (arith, some))
      by (part ∷ list) some are same = let table = are.0.table in subst (λ l. AllByRecursion IsByte l) same.0 table.3

  three : is_three piece.head ≡ true → is_format_three format ≡ true
  three e = sym (ap is_three is.head) ∙ e

  -- ---- the whole

  agrees : Agrees piece (head_with format custom enc mode piece.blocks)
  agrees = record { unit = is.unit; mode = mode_kept; regs = refl; mregs = refl; states = refl }

  conds_long : AllByRecursion (λ (case : CondCase). IsIdentifier case.cond × IsLong case.block) piece.conds
  conds_long =
      let small = few_blocks in
      let l : length piece.blocks ≡ length (parts_blocks 0 first parts) = ap (λ l. length l) is.blocks in
      subst (λ l. AllByRecursion (λ (case : CondCase). IsIdentifier case.cond × IsLong case.block) l) (sym is.conds)
      (cases_short piece.names (conds_of parts) 0 first parts written (omega (arith, small, l)))

  pub parts_valid : IsShort piece.number → IfSome piece.eof (λ eof. eof < 2 ^ (8 * piece.unit)) → IsLine piece.line → AreAllowed piece.names → DoNotClash piece.names
      → (custom ≡ true → name_primitives piece.names ≡ false) → (is_format_three format ≡ true → name_table piece.names ≡ false)
      → (is_format_three format ≡ true → list_any names_table (all_statements piece.blocks) ≡ false)
      → (is_format_three format ≡ true → list_any (is_like_block piece.number piece.names) (conds_of parts) ≡ false)
      → (piece.ctx ≡ true → list_any has_register_one (all_statements piece.blocks) ≡ true) → IsValid piece
  parts_valid number eof line allowed differ free no_table no_tag no_label marked = record {
    range = record {
      number = number;
      line = line;
      states = of_switch (λ cases. AllByRecursion (λ case. IsLong case.state × IsLong case.block) cases) cases_long;
      conds = conds_long;
      head = subst (λ (o : Option Head). IfSome o (λ head. IsShort head.regs × IsShort head.mregs × IsLong head.states)) (sym is.head)
          (regs_short piece.names (conds_of parts) piece.blocks statements_fine, mregs_short piece.names (conds_of parts) piece.blocks statements_fine, count_long);
      table = table_bytes;
    };
    unit = subst (λ n. (n ≡ 1) ⊎ ((n ≡ 2) ⊎ (n ≡ 4))) (sym is.unit) (size_is enc);
    eof = eof;
    blocks = has_block;
    statements = few;
    jumps = all_jump (greatest_unit enc) first parts piece.blocks are is.blocks;
    ends = ends;
    one_refill = one_way;
    states_differ = once_each;
    after_states = refills_after first parts piece.blocks is.blocks;
    before_refills = stored_first;
    next_block = last_tries_none first parts piece.blocks is.blocks;
    state_switch = of_switch (IsStateSwitch piece.blocks) in_order;
    conds = ap (λ (l : List CondCase). map (λ case. case.cond) l) is.conds ∙ cases_named 0 first parts ∙ sym all_labels;
    conds_differ = subst AreDistinct (sym all_labels) apart;
    cond_switch = subst (λ (l : List CondCase). AllByRecursion (λ case. label_of piece.blocks case.block ≡ Some case.cond) l) (sym is.conds)
        (cases_begin piece.blocks 0 first parts (parts_begin (greatest_unit enc) first parts piece.blocks are is.blocks));
    conds_named = subst (λ conds. AllByRecursion (NamesOneOf conds) (all_statements piece.blocks)) (sym all_labels) (are_written.2);
    groups = are_written.1;
    ctx = marked;
    names = allowed;
    names_differ = differ;
    no_primitive = λ e. free (sym (ap is_custom is.head) ∙ e);
    of_three = of_format;
    switches = of_bytes;
    table = is.table;
    no_table = λ e. no_table (three e);
    no_table_tag = λ e. no_tag (three e);
    no_block_label = λ e. subst (λ list. list_any (is_like_block piece.number piece.names) list ≡ false) (sym all_labels) (no_label (three e));
    head = subst (λ (o : Option Head). IfSome o (Agrees piece)) (sym is.head) agrees;
    spelled = are_written.0;
  }
