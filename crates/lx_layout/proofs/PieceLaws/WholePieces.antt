-- A piece whose blocks are those of scanners one behind another is a piece of these scanners.
use Rattle.std.specs.Prelude.{◌≡◌, ◌⊎◌, ℕ, ◌+◌, ◌*◌, ◌^◌, ◌<◌, ◌≤◌, Bool, true, false, ◌&&◌, List, length, map, Option, Some, None, IfSome, refl}
use Rattle.std.proofs.Common.{◌∙◌, ap, arith, inl, inr, subst, sym}
use Rattle.std.proofs.lemmas.Bool.{false≢true}
use Rattle.std.proofs.lemmas.List.{length-map}
use Rattle.std.proofs.lemmas.List.Elements.{recursion_from_All}
use Rattle.std.proofs.lemmas.List.FromFn.{length-range_with_len}
use Rattle.std.specs.List.{AllByRecursion, list_any, range_with_len}
use Rattle.lx_base.specs.Names.{AreAllowed, DoNotClash, name_primitives, name_table}
use Rattle.lx_base.specs.Spelling.{greatest_unit}
use Rattle.lx_base.specs.declared.settings.Enc.{Enc}
use Rattle.lx_base.specs.declared.settings.Enc.TheVariants.{Byte, Ucs2, Utf8, Utf16, Utf32}
use Rattle.lx_base.specs.declared.limits.TheConstants.{STATEMENT_LIMIT}
use Rattle.lx_ccode.specs.Counts.{state_count, table_size}
use Rattle.lx_ccode.specs.Heads.{is_format_three}
use Rattle.lx_ccode.specs.Labels.{is_like_block}
use Rattle.lx_ccode.specs.Schedules.{ReadsUnasked}
use Rattle.lx_ccode.specs.States.{states_from}
use Rattle.lx_ccode.specs.Statements.{all_statements, has_register_one, is_need, is_refill, is_state, is_try, statement_count}
use Rattle.lx_ccode.specs.Validity.{IsLine, IsLong, IsShort, IsValid, labels}
use Rattle.lx_ccode.specs.declared.piece.Mode.{Mode}
use Rattle.lx_ccode.specs.declared.piece.Mode.TheVariants.{Count, Eof, EofFixed, Plain}
use Rattle.lx_ccode.specs.declared.piece.Piece.{Piece}
use Rattle.lx_ccode.specs.declared.piece.StateCase.{StateCase}
use Rattle.lx_encode.specs.Units.{unit_size}
use Rattle.lx_dispatch.specs.Dispatch.{IsTable}
use Rattle.lx_layout.specs.Forgetting.{JumpsForget}
use Rattle.lx_layout.specs.FormedParts as formed
use Rattle.lx_layout.specs.FormedParts.{AllStore, AreFormed, all_asked}
use Rattle.lx_layout.specs.PartModes.{CountsNothing, TriesNothing}
use Rattle.lx_layout.specs.PartPieces as parts_of
use Rattle.lx_layout.specs.PartPieces.{Suits}
use Rattle.lx_layout.specs.Parts.{EachPart, Part, parts_blocks}
use Rattle.lx_layout.specs.Pieces.{AreFit, ArePartsOf, Form, HasFields, IsActionOf, IsPieceOf, IsScannerIn, Source, conds_of, given_of, mode_of, sources_in}
use Rattle.lx_layout.specs.Switches.{cond_cases}
use Rattle.lx_layout.specs.Writable.{PartsCanBeWritten}
use Rattle.lx_layout.proofs.Jumps.ForgettingSources.{conds_of-in, fit_in}
use Rattle.lx_layout.proofs.LiveBlocks.LivePieces.{parts_live, parts_met}
use Rattle.lx_layout.proofs.PartLayouts.AskingParts.{needs_none, reads_need, reads_try, refills_after, states_before, tries_none}
use Rattle.lx_layout.proofs.PartLayouts.ClosedParts.{all_end}
use Rattle.lx_layout.proofs.PartLayouts.OwnRegisters.{parts_own}
use Rattle.lx_layout.proofs.PartLayouts.PartBlocks.{of_parts, of_statements}
use Rattle.lx_layout.proofs.PartLayouts.PartOrder.{parts_labelled, parts_stand}
use Rattle.lx_layout.proofs.PartLayouts.PartStates.{no_states, nothing_stored, states_numbered}
use Rattle.lx_layout.proofs.PartLayouts.ShortNumbers.{blocks_few}
use Rattle.lx_layout.proofs.PartLayouts.ValidParts.{counts_nothing, parts_valid, tries_nothing}
use Rattle.lx_layout.proofs.PieceLaws.AskedFew.{all_few}
use Rattle.lx_layout.proofs.PieceLaws.EachPart.{AreFitScanners}
use Rattle.lx_layout.proofs.PieceLaws.FitParts.{all_eof, all_formats, all_store, all_suit, all_tables, all_written, are_formed}
use Rattle.lx_layout.proofs.PieceLaws.ScannerEntries.{AreDifferent, BeginsAt, cases_of, conds_distinct, parts_enter}
use Rattle.lx_layout.proofs.PieceLaws.EachScanner.{conds_differ, parts_act, parts_in, same_conds, same_length}
use Rattle.lx_layout.proofs.PieceLaws.OneScanner.{FitsForm}
use Rattle.lx_layout.proofs.PieceLaws.StoredRefills.{none_refills, refills_none, stored_blocks}
use Rattle.lx_layout.proofs.PieceLaws.TableTags.{no_table_tags}
use Rattle.lx_layout.proofs.Validity.EachElement.{each-map}

and_right : (a b : Bool) → (a && b) ≡ true → b ≡ true
and_right true b e = e
and_right false b e = absurd (false≢true e)

-- a unit of an encoding has its bytes
size_fits : (enc : Enc) (unit : ℕ) → unit ≤ greatest_unit enc → unit < 2 ^ (8 * unit_size enc)
size_fits Byte unit le = omega (arith, le)
size_fits Ucs2 unit le = omega (arith, le)
size_fits Utf8 unit le = omega (arith, le)
size_fits Utf16 unit le = omega (arith, le)
size_fits Utf32 unit le = omega (arith, le)

module _ (form : Form) (given : List Source) (parts : List Part) (piece : Piece) (fits : AreFit form given)
    (are : ArePartsOf form piece.table (sources_in piece.blocks given) parts) (is_table : IsTable piece.table)
    (size : length piece.table ≡ table_size piece.blocks)
    (short : IsShort form.number) (blocks : piece.blocks ≡ parts_blocks 0 form.first_state parts)
    (small : statement_count piece.blocks ≤ STATEMENT_LIMIT) (fields : HasFields form (labels piece.blocks) piece)
    (states : IfSome piece.states (λ cases. cases ≡ states_from 0 piece.blocks)) (conds : piece.conds ≡ cond_cases 0 piece.blocks)
    (forgets : JumpsForget piece.blocks) where
  -- the scanners as they stand in the piece
  abbrev scanners : List Source
  scanners = sources_in piece.blocks given

  fit : AreFit form scanners
  fit = fit_in piece.blocks form given fits

  abbrev greatest : ℕ
  greatest = greatest_unit form.enc

  each : AreFitScanners form (conds_of scanners) scanners
  each = recursion_from_All _ scanners fit.each

  are_parts : AreFormed greatest parts
  are_parts = are_formed form piece.table (conds_of scanners) is_table scanners parts each are

  store : AllStore form.stores parts
  store = all_store form piece.table (conds_of scanners) scanners parts each are

  suit : AllByRecursion (Suits (mode_of form.eof form.fill)) parts
  suit = all_suit form piece.table (conds_of scanners) scanners parts each are

  written : PartsCanBeWritten piece.names (formed.conds_of parts) parts
  written =
      subst (λ list. PartsCanBeWritten piece.names list parts) (sym (same_conds form piece.table scanners parts are))
      (subst (λ names. PartsCanBeWritten names (conds_of scanners) parts) (sym fields.names)
      (all_written form piece.table (conds_of scanners) fit.eof scanners parts each are))

  apart : AreDifferent parts
  apart = conds_differ form piece.table scanners parts are fit.different

  few_asked : all_asked parts ≤ statement_count piece.blocks
  few_asked =
      let few = all_few 0 form.first_state parts in
      let l : length piece.blocks ≡ length (parts_blocks 0 form.first_state parts) = ap (λ l. length l) blocks in
      let le = blocks_few piece.blocks (all_end greatest form.first_state parts piece.blocks are_parts blocks) in
      omega (arith, few, l, le)

  room : IsLong (form.first_state + all_asked parts)
  room = let few = few_asked in let first = fit.first_state in omega (arith, few, first, small)

  cases : piece.conds ≡ parts_of.cond_cases 0 form.first_state parts
  cases = conds ∙ ap (λ l. cond_cases 0 l) blocks ∙ cases_of greatest 0 form.first_state parts are_parts

  of_parts_piece : parts_of.IsPieceOf form.format form.custom form.enc (mode_of form.eof form.fill) form.first_state parts piece
  of_parts_piece = record {
    blocks = blocks;
    head = fields.head;
    unit = fields.unit;
    eof = all_eof form piece.table (conds_of scanners) piece.eof fields.eof scanners parts each are;
    states = by piece.states refl states;
    conds = cases;
    formats = all_formats form piece.table (conds_of scanners) scanners parts each are;
    tables = all_tables form piece.table (conds_of scanners) scanners parts each are;
    table = size;
  }
    where
      by : (o : Option (List StateCase)) → piece.states ≡ o → IfSome o (λ cases. cases ≡ states_from 0 piece.blocks)
          → (piece.states ≡ None) ⊎ (piece.states ≡ Some (states_from 0 piece.blocks))
      by None e is = inl e
      by (Some list) e is = inr (e ∙ ap (λ l. Some l) is)

  some_part : 0 < length parts
  some_part = let some = fit.some in let l = same_length form piece.table scanners parts are in omega (arith, some, l)

  unit_fits : IfSome piece.eof (λ eof. eof < 2 ^ (8 * piece.unit))
  unit_fits =
      subst (λ o. IfSome o (λ eof. eof < 2 ^ (8 * piece.unit))) (sym fields.eof)
      (subst (λ n. IfSome form.eof (λ eof. eof < 2 ^ (8 * n))) (sym fields.unit) (by form.eof fit.eof))
    where
      by : (o : Option ℕ) → IfSome o (λ unit. unit ≤ greatest_unit form.enc) → IfSome o (λ eof. eof < 2 ^ (8 * unit_size form.enc))
      by None le = tt
      by (Some unit) le = size_fits form.enc unit le

  no_label : is_format_three form.format ≡ true → list_any (is_like_block piece.number piece.names) (formed.conds_of parts) ≡ false
  no_label three =
      subst (λ list. list_any (is_like_block piece.number piece.names) list ≡ false) (sym (same_conds form piece.table scanners parts are))
      (subst (λ number. list_any (is_like_block number piece.names) (conds_of scanners) ≡ false) (sym fields.number)
      (subst (λ names. list_any (is_like_block form.number names) (conds_of scanners) ≡ false) (sym fields.names) (fit.no_block_label three)))

  is_valid : IsValid piece
  is_valid =
      parts_valid form.format form.custom form.enc (mode_of form.eof form.fill) form.stores form.first_state parts piece some_part are_parts suit store written
      (conds_distinct parts apart) of_parts_piece small room (subst IsShort (sym fields.number) short) unit_fits
      (subst IsLine (sym fields.line) fit.line)
      (subst AreAllowed (sym fields.names) fit.names) (subst DoNotClash (sym fields.names) fit.names_differ)
      (λ custom. subst (λ names. name_primitives names ≡ false) (sym fields.names) (fit.no_primitive custom))
      (λ three. subst (λ names. name_table names ≡ false) (sym fields.names) (fit.no_table three))
      (λ three. no_table_tags form piece.table (conds_of scanners) three form.first_state scanners parts piece.blocks are_parts each are blocks)
      no_label
      (λ marked. and_right form.context (list_any has_register_one (all_statements piece.blocks)) (sym fields.ctx ∙ marked))

  -- ---- what is stored, and where refills are asked for

  nothing : form.stores ≡ false → list_any is_state (all_statements piece.blocks) ≡ false
  nothing e = nothing_stored greatest form.first_state parts piece.blocks are_parts (subst (λ t. AllStore t parts) e store) blocks

  asks_nothing : form.fill ≡ false → list_any is_refill (all_statements piece.blocks) ≡ false
  asks_nothing e = by form.eof form.fill suit e
    where
      quiet : (mode : Mode) → (mode ≡ Count → ⊥) → (mode ≡ Eof → ⊥) → AllByRecursion (Suits mode) parts
          → list_any is_refill (all_statements piece.blocks) ≡ false
      quiet mode no_count no_try suits =
          refills_none (all_statements piece.blocks)
          (needs_none form.first_state parts piece.blocks blocks
          (each-map (Suits mode) CountsNothing (λ part is. counts_nothing mode part no_count is) parts suits))
          (tries_none form.first_state parts piece.blocks blocks
          (each-map (Suits mode) TriesNothing (λ part is. tries_nothing mode part no_try is) parts suits))

      by : (o : Option ℕ) (t : Bool) → AllByRecursion (Suits (mode_of o t)) parts → t ≡ false
          → list_any is_refill (all_statements piece.blocks) ≡ false
      by None false suits e = quiet Plain (λ other. absurd (cc)) (λ other. absurd (cc)) suits
      by (Some unit) false suits e = quiet EofFixed (λ other. absurd (cc)) (λ other. absurd (cc)) suits
      by o true suits e = absurd (false≢true (sym e))

  -- what reads units asks for some where refills are asked for
  asks : ReadsUnasked piece → form.fill ≡ false
  asks unasked = by form.eof form.fill suit
    where
      none : (list_any is_need (all_statements piece.blocks) ≡ false) × (list_any is_try (all_statements piece.blocks) ≡ false)
      none = none_refills (all_statements piece.blocks) unasked.1

      by : (o : Option ℕ) (t : Bool) → AllByRecursion (Suits (mode_of o t)) parts → t ≡ false
      by o false suits = refl
      by None true suits =
          let needs = reads_need greatest form.first_state parts piece.blocks are_parts suits blocks unasked.0 in
          absurd (false≢true (sym none.0 ∙ needs))
      by (Some unit) true suits =
          let tries = reads_try form.first_state parts piece.blocks suits blocks unasked.0 in
          absurd (false≢true (sym none.1 ∙ tries))

  numbered : map (λ case. case.state) (states_from 0 piece.blocks) ≡ range_with_len form.first_state (state_count piece.blocks)
  numbered = by form.stores store
    where
      by : (t : Bool) → AllStore t parts
          → map (λ case. case.state) (states_from 0 piece.blocks) ≡ range_with_len form.first_state (state_count piece.blocks)
      by true all =
          let are_so = states_numbered form.first_state parts piece.blocks all blocks in
          let l : length (states_from 0 piece.blocks) ≡ all_asked parts =
          sym (length-map {B = ℕ} (states_from 0 piece.blocks) (λ (case : StateCase). case.state))
          ∙ ap (λ l. length l) are_so ∙ length-range_with_len form.first_state (all_asked parts) in
          are_so ∙ ap (λ n. range_with_len form.first_state n) (sym l)
      by false all =
          let none = no_states greatest form.first_state parts piece.blocks are_parts all blocks in
          subst (λ (l : List StateCase). map (λ case. case.state) l ≡ range_with_len form.first_state (length l)) (sym none) refl

  stored : list_any is_state (all_statements piece.blocks) ≡ form.stores && list_any is_refill (all_statements piece.blocks)
  stored = by form.stores store nothing
    where
      by : (t : Bool) → AllStore t parts → (t ≡ false → list_any is_state (all_statements piece.blocks) ≡ false)
          → list_any is_state (all_statements piece.blocks) ≡ t && list_any is_refill (all_statements piece.blocks)
      by false all none = none refl
      by true all none =
          stored_blocks piece.blocks (refills_after form.first_state parts piece.blocks blocks)
          (states_before form.first_state parts piece.blocks all blocks)

  -- ---- actions and scanners

  actions : AllByRecursion (IsActionOf given) (all_statements piece.blocks)
  actions =
      subst (λ l. AllByRecursion (IsActionOf given) (all_statements l)) (sym blocks)
      (of_statements (IsActionOf given) (parts_blocks 0 form.first_state parts)
      (of_parts (λ code. AllByRecursion (IsActionOf given) code) 0 form.first_state parts
      (parts_act form piece.table piece.blocks given 0 form.first_state given parts are_parts are (λ scanner has. has))))

  ready : FitsForm form piece
  ready = record { eof = fields.eof; unit = fields.unit; once = is_valid.states_differ; none = nothing; asks = asks_nothing }

  begin : EachPart (BeginsAt piece.conds) 0 form.first_state parts
  begin =
      subst (λ l. EachPart (BeginsAt l) 0 form.first_state parts) (sym cases)
      (parts_enter form.first_state parts apart
      (subst (λ list. (length list ≡ length parts) ⊎ (length parts ≡ 1)) (sym (same_conds form piece.table scanners parts are))
      (subst (λ n. (length (conds_of scanners) ≡ n) ⊎ (n ≡ 1)) (sym (same_length form piece.table scanners parts are)) fit.conds)))

  stand : AllByRecursion (λ (scanner : Source). IsScannerIn (mode_of form.eof form.fill) form.enc (given_of form piece.table scanner) scanner.checks piece) given
  stand =
      parts_in form (conds_of scanners) piece ready 0 form.first_state given parts each are
      (parts_stand form.first_state parts piece.blocks blocks) (parts_own greatest 0 form.first_state parts are_parts) begin

  pub is_piece : IsPieceOf form given piece
  is_piece = record {
    valid = is_valid;
    fields = subst (λ list. HasFields form list piece)
        (parts_labelled greatest form.first_state parts piece.blocks are_parts blocks ∙ same_conds form piece.table scanners parts are
        ∙ conds_of-in piece.blocks given) fields;
    numbered = numbered;
    stored = stored;
    asks = asks;
    forgets = forgets;
    actions = actions;
    stand = stand;
    live = λ met. parts_live piece is_valid.states_differ (greatest_unit form.enc) form.first_state parts blocks are_parts
        (parts_stand form.first_state parts piece.blocks blocks) begin (parts_met form piece.table piece.blocks given parts are met);
  }
