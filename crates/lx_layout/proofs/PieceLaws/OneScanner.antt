-- A scanner whose layout stands in a piece stands in it.
use Rattle.std.specs.Prelude.{◌≡◌, ◌≢◌, ◌⊎◌, ℕ, ◌*◌, ◌^◌, ◌<◌, ◌≤◌, Bool, true, false, ◌&&◌, List, [], length, Option, Some, None, IfSome, IsSome, is_some, refl}
use Rattle.std.proofs.Common.{◌∙◌, ap, ap₂, arith, inr, subst, sym}
use Rattle.std.specs.List.{AllByRecursion, list_any}
use Rattle.lx_auto.specs.Automaton.{state_of}
use Rattle.lx_auto.specs.declared.automaton.Accept.{Accept}
use Rattle.lx_base.specs.Spelling.{greatest_unit}
use Rattle.lx_base.specs.declared.settings.Enc.{Enc}
use Rattle.lx_base.specs.declared.settings.Enc.TheVariants.{Byte, Ucs2, Utf8, Utf16, Utf32}
use Rattle.lx_ccode.specs.Runs.{entry_block}
use Rattle.lx_ccode.specs.States.{states_from}
use Rattle.lx_ccode.specs.Statements.{all_statements, code_of, is_state}
use Rattle.lx_ccode.specs.Validity.{AreOnce}
use Rattle.lx_ccode.specs.declared.piece.Piece.{Piece}
use Rattle.lx_encode.specs.Units.{unit_size}
use Rattle.lx_regex.specs.Order.{Policy}
use Rattle.lx_regex.specs.Pattern.{Pattern, end_rule}
use Rattle.lx_tdfa.specs.Promise.{IsAutoUnder}
use Rattle.lx_layout.specs.Carries.{Carries, NamesItsOwn}
use Rattle.lx_layout.specs.CheckedStates.{ChecksAs, ChecksByWalks}
use Rattle.lx_layout.specs.EndedRules.{EndsRules}
use Rattle.lx_layout.specs.FewTests.{HasFewTests}
use Rattle.lx_layout.specs.Forgetting.{endings_in}
use Rattle.lx_layout.specs.Halting.{AreHalting, Halting}
use Rattle.lx_layout.specs.Layout.{StandsFrom}
use Rattle.lx_layout.specs.Parts.{checked, checked_by, given_supply, stored_from}
use Rattle.lx_layout.specs.Pieces.{ChecksIn, FitsEnd, Form, IsFitScanner, IsScannerIn, MayBegin, Source, counted, given_of, mode_of}
use Rattle.lx_layout.specs.RightInMode.{AreEnough, AreStoredBy, AsksNothing, HaveEndings, IsRightInMode, IsSupplied, IsSupplyOf}
use Rattle.lx_layout.specs.Supplied.{Serves, ServesEntry}
use Rattle.lx_layout.specs.SuppliedLayout.{EachReader, entry_of, fall_block, number_in, place_of, rule_block, supplied_layout}
use Rattle.lx_layout.specs.Supplies.{Reader, Supply}
use Rattle.lx_dispatch.specs.Dispatch.{AreTestsOf, top_of}
use Rattle.lx_dispatch.specs.TestTrees.{PicksAs, TestTree}
use Rattle.lx_layout.proofs.BlockLayouts.Questions.{FitsTable}
use Rattle.lx_layout.proofs.PieceLaws.EnoughChecks.{checks_enough}
use Rattle.lx_layout.proofs.PieceLaws.FitParts.{end_unit}
use Rattle.lx_layout.proofs.PieceLaws.PartEntries.{entry_first}
use Rattle.lx_layout.proofs.ScannerLaws.CheckedLayouts.{layout_checks}
use Rattle.lx_layout.proofs.ScannerLaws.EndedLayouts.{layout_ends_rules}
use Rattle.lx_layout.proofs.Supplied.SuppliedMatches.{supplied_right}
use Rattle.lx_layout.proofs.SuppliedLayouts.CarriedLayouts.{layout_carries_at}
use Rattle.lx_layout.proofs.SuppliedLayouts.LeadingTrees.{LeadsWithin, each_reader, leads_within}
use Rattle.lx_layout.proofs.SuppliedLayouts.LayoutServes.{layout_entered, layout_serves}
use Rattle.lx_layout.proofs.ScannerLaws.FewLayouts.{layout_tests_few}
use Rattle.lx_layout.proofs.ScannerLaws.UncheckedStarts.{layout_checked}

-- a unit of a piece is one of the encoding
unit_within : (enc : Enc) (unit : ℕ) → unit < 2 ^ (8 * unit_size enc) → unit ≤ greatest_unit enc
unit_within Byte unit lt = omega (arith, lt)
unit_within Ucs2 unit lt = omega (arith, lt)
unit_within Utf8 unit lt = omega (arith, lt)
unit_within Utf16 unit lt = omega (arith, lt)
unit_within Utf32 unit lt = omega (arith, lt)

-- What is known of a piece: its unit, and that at the end; that each state is stored once, and none where none is to be; and that it asks for
-- nothing where no refill is asked for.
pub record FitsForm (form : Form) (piece : Piece) : Type 0 where
  pub eof : piece.eof ≡ form.eof
  pub unit : piece.unit ≡ unit_size form.enc
  pub once : AreOnce (states_from 0 piece.blocks)
  pub none : form.stores ≡ false → list_any is_state (all_statements piece.blocks) ≡ false
  pub asks : form.fill ≡ false → AsksNothing piece

module _ (form : Form) (conds : List (List ℕ)) (scanner : Source) (fit : IsFitScanner form conds scanner) (halting : Halting)
    (trees : Reader → TestTree (Option ℕ)) (begin first : ℕ) (piece : Piece) (ready : FitsForm form piece)
    (marked : AreHalting form.eof scanner.end_rule (greatest_unit form.enc) scanner.auto halting)
    (are : EachReader (AreTestsOf form.format piece.table form.eof (greatest_unit form.enc)) form.eof (greatest_unit form.enc) trees scanner.auto)
    (stands : StandsFrom (code_of piece.blocks) begin
    (supplied_layout (given_supply (given_of form piece.table scanner) first) halting scanner.endings scanner.end_rule trees scanner.auto begin))
    (told : endings_in piece.blocks scanner.endings ≡ scanner.endings) where
  abbrev supply : Supply
  supply = given_supply (given_of form piece.table scanner) first

  abbrev entry : ℕ
  entry = entry_of supply halting scanner.end_rule trees scanner.auto begin

  tests : EachReader LeadsWithin form.eof (greatest_unit form.enc) trees scanner.auto
  tests =
      each_reader (AreTestsOf form.format piece.table form.eof (greatest_unit form.enc)) LeadsWithin
      (λ split tree is. leads_within (length piece.table) (greatest_unit form.enc) split tree is.within) form.eof (greatest_unit form.enc) trees scanner.auto are

  picks : EachReader (PicksAs (top_of form.eof (greatest_unit form.enc)) supply.among) form.eof (greatest_unit form.enc) trees scanner.auto
  picks =
      each_reader (AreTestsOf form.format piece.table form.eof (greatest_unit form.enc)) (PicksAs (top_of form.eof (greatest_unit form.enc)) supply.among)
      (λ split tree is. is.picks) form.eof (greatest_unit form.enc) trees scanner.auto are

  stored : (supply.stored ≡ None) ⊎ AreOnce (states_from 0 piece.blocks)
  stored = inr ready.once

  among : FitsTable supply.among piece
  among set unit = refl

  carried_as : AllByRecursion (λ code. AllByRecursion (NamesItsOwn scanner.auto) code)
      (supplied_layout supply halting scanner.endings scanner.end_rule trees scanner.auto begin)
      → (carries : Carries piece entry scanner.endings scanner.auto) × (carries.place ≡ place_of supply halting scanner.end_rule trees scanner.auto begin)
  carried_as own =
      layout_carries_at piece scanner.endings scanner.end_rule (greatest_unit form.enc) scanner.auto supply halting trees begin fit.formed fit.units fit.agreed
      (end_unit form conds scanner fit) picks tests marked stands stored ready.eof among
      (λ unit lt. unit_within form.enc unit (subst (λ n. unit < 2 ^ (8 * n)) ready.unit lt)) own

  carried : AllByRecursion (λ code. AllByRecursion (NamesItsOwn scanner.auto) code)
      (supplied_layout supply halting scanner.endings scanner.end_rule trees scanner.auto begin)
      → (carries : Carries piece entry (endings_in piece.blocks scanner.endings) scanner.auto)
      × (carries.place ≡ place_of supply halting scanner.end_rule trees scanner.auto begin)
  carried own =
      subst (λ endings. (carries : Carries piece entry endings scanner.auto)
      × (carries.place ≡ place_of supply halting scanner.end_rule trees scanner.auto begin)) (sym told) (carried_as own)

  needs : (place : ℕ → ℕ) → place ≡ place_of supply halting scanner.end_rule trees scanner.auto begin
      → ChecksIn (mode_of form.eof form.fill) piece entry place scanner.auto scanner.checks
  needs place same = by form.eof form.fill refl refl
    where
      by : (o : Option ℕ) (t : Bool) → form.eof ≡ o → form.fill ≡ t → ChecksIn (mode_of o t) piece entry place scanner.auto scanner.checks
      by None false e f = tt
      by None true e f = (
        subst (λ p. ChecksAs piece entry p scanner.auto (checked scanner.checks)) (sym same)
            (subst (λ check. ChecksAs piece entry (place_of supply halting scanner.end_rule trees scanner.auto begin) scanner.auto check)
            (ap₂ (λ o t. checked_by (counted o t scanner.checks)) e f)
            (layout_checks supply halting scanner.endings scanner.end_rule (greatest_unit form.enc) trees scanner.auto begin piece stands fit.formed tests
            (end_unit form conds scanner fit) e marked stored)),
        subst (λ p. ChecksByWalks piece entry p scanner.auto scanner.checks) (sym same)
            (layout_checked piece supply halting scanner.endings scanner.end_rule (greatest_unit form.enc) trees scanner.auto begin stands fit.formed tests
            marked stored (end_unit form conds scanner fit) e scanner.checks fit.checks
            (λ state. ap₂ (λ o t. checked_by (counted o t scanner.checks) state) e f)),
      )
      by (Some unit) false e f = tt
      by (Some unit) true e f = tt

  -- the rule at the end of the input is no accept's
  no_accept : (rule state : ℕ) (accept : Accept) → scanner.end_rule ≡ Some rule → state < length scanner.auto.states
      → (state_of scanner.auto.states state).accept ≡ Some accept → accept.rule ≢ rule
  no_accept rule state accept is lt accepts =
      let end : FitsEnd form conds scanner rule = subst (λ o. IfSome o (FitsEnd form conds scanner)) is fit.end in
      subst (λ o. IfSome o (λ (accept : Accept). accept.rule ≢ rule)) accepts
      (end.alone state (record { edges = []; accept = None; leave = [] }) lt)

  rules_end : EndsRules piece entry scanner.endings
  rules_end =
      layout_ends_rules supply halting scanner.end_rule (greatest_unit form.enc) trees scanner.auto begin fit.formed tests scanner.endings piece stands marked
      stored no_accept

  -- ---- it is right

  of_mode : IsSupplyOf (mode_of form.eof form.fill) supply scanner.auto piece
  of_mode = by form.eof form.fill refl refl
    where
      by : (o : Option ℕ) (t : Bool) → form.eof ≡ o → form.fill ≡ t → IsSupplyOf (mode_of o t) supply scanner.auto piece
      by None false e f = (e, (λ number. ap₂ (λ o t. checked_by (counted o t scanner.checks) number) e f), ready.asks f)
      by None true e f = (
        e,
        subst (λ check. AreEnough scanner.auto check) (sym (ap₂ (λ o t. checked_by (counted o t scanner.checks)) e f))
            (checks_enough scanner.auto scanner.checks fit.checks),
      )
      by (Some unit) false e f = (ap (λ o. is_some o) e, ap₂ (λ o t. is_some o && t) e f, ready.asks f)
      by (Some unit) true e f = (ap (λ o. is_some o) e, ap₂ (λ o t. is_some o && t) e f)

  stored_by : AreStoredBy supply.stored piece
  stored_by = by form.stores refl
    where
      by : (t : Bool) → form.stores ≡ t
          → AreStoredBy (stored_from (given_of form piece.table scanner).demand scanner.end_rule scanner.auto t first) piece
      by false e = ready.none e
      by true e = ready.once

  supplied : IsSupplied (mode_of form.eof form.fill) supply scanner.auto piece
  supplied = record { eof = ready.eof; of_mode = of_mode; stored = stored_by; among = among }

  -- the rule at the end of the input is that of the patterns
  is_right : (policy : Policy) (patterns : List Pattern) (cond : List ℕ) → IsAutoUnder policy form.enc patterns scanner.auto
      → HaveEndings form.enc patterns scanner.endings → end_rule patterns ≡ scanner.end_rule → entry_block piece.conds cond ≡ Some entry
      → IsRightInMode policy (mode_of form.eof form.fill) cond form.enc patterns scanner.endings piece
  is_right policy patterns cond is ends same begins =
      let serves = layout_serves supply halting scanner.endings scanner.end_rule (greatest_unit form.enc) trees scanner.auto begin (code_of piece.blocks) stands
      fit.formed fit.units picks marked fit.agreed in
      let enters = layout_entered supply halting scanner.endings scanner.end_rule (greatest_unit form.enc) trees scanner.auto begin (code_of piece.blocks) stands
      fit.formed fit.units picks marked (end_unit form conds scanner fit) in
      supplied_right policy (mode_of form.eof form.fill) form.enc patterns scanner.auto scanner.endings supply halting piece
      (place_of supply halting scanner.end_rule trees scanner.auto begin) (number_in halting scanner.auto.states)
      (rule_block supply halting scanner.end_rule trees scanner.auto begin) (fall_block supply halting scanner.end_rule trees scanner.auto begin) entry cond is ends
      (subst (λ o. Serves supply halting scanner.endings (greatest_unit form.enc) scanner.auto (code_of piece.blocks)
      (place_of supply halting scanner.end_rule trees scanner.auto begin) (number_in halting scanner.auto.states)
      (rule_block supply halting scanner.end_rule trees scanner.auto begin) (fall_block supply halting scanner.end_rule trees scanner.auto begin) o) (sym same)
      serves)
      (subst (λ o. ServesEntry supply halting scanner.endings (greatest_unit form.enc) scanner.auto (code_of piece.blocks)
      (place_of supply halting scanner.end_rule trees scanner.auto begin) (number_in halting scanner.auto.states)
      (rule_block supply halting scanner.end_rule trees scanner.auto begin) (fall_block supply halting scanner.end_rule trees scanner.auto begin) o
      (entry_of supply halting scanner.end_rule trees scanner.auto begin)) (sym same) enters)
      (subst (λ o. IsSome o → IsSome form.eof) (sym same) (end_unit form conds scanner fit)) supplied begins

  pub scanner_stands : AllByRecursion (λ code. AllByRecursion (NamesItsOwn scanner.auto) code)
      (supplied_layout supply halting scanner.endings scanner.end_rule trees scanner.auto begin)
      → ((cond : List ℕ) → MayBegin scanner.cond cond → entry_block piece.conds cond ≡ Some begin)
      → IsScannerIn (mode_of form.eof form.fill) form.enc (given_of form piece.table scanner) scanner.checks piece
  scanner_stands own begins =
      let at : entry ≡ begin = entry_first supply halting trees scanner.auto scanner.end_rule begin in
      let enters = λ (cond : List ℕ) (may : MayBegin scanner.cond cond). begins cond may ∙ ap (λ n. Some n) (sym at) in
      let carries = carried own in
      record {
        entry = entry;
        begins = enters;
        carries = carries.0;
        needs = needs carries.0.place carries.1;
        rules = subst (λ endings. EndsRules piece entry endings) (sym told) rules_end;
        tests =
            subst (λ p. HasFewTests piece entry form.format p form.eof (greatest_unit form.enc) scanner.auto) (sym carries.1)
            (layout_tests_few piece form.format supply halting scanner.endings scanner.end_rule (greatest_unit form.enc) trees scanner.auto begin fit.formed are
            (end_unit form conds scanner fit) marked stands stored);
        right = λ policy patterns cond is ends same may. is_right policy patterns cond is ends same (enters cond may);
      }
