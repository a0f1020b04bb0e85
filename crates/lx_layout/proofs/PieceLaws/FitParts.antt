-- Scanners that fit are formed, suit the mode of their piece, and can be written.
use Rattle.std.specs.Prelude.{◌≡◌, ℕ, ◌≤◌, Bool, true, false, List, [], ◌∷◌, map, Option, Some, None, IfSome, IsSome, is_some, refl, ◌&&◌}
use Rattle.std.proofs.Common.{◌∙◌, ap, arith, sym}
use Rattle.std.proofs.lemmas.Bool.{false≢true}
use Rattle.std.proofs.lemmas.List.Elements.{recursion_from_All}
use Rattle.std.specs.List.{AllByRecursion}
use Rattle.lx_auto.specs.Automaton.{state_of}
use Rattle.lx_auto.specs.declared.automaton.Accept.{Accept}
use Rattle.lx_auto.specs.declared.automaton.Edge.{Edge}
use Rattle.lx_auto.specs.declared.automaton.State.{State}
use Rattle.lx_base.specs.Spelling.{greatest_unit}
use Rattle.lx_base.specs.declared.settings.Enc.{Enc}
use Rattle.lx_base.specs.declared.settings.Enc.TheVariants.{Byte, Ucs2, Utf8, Utf16, Utf32}
use Rattle.lx_ccode.specs.Validity.{IsShort}
use Rattle.lx_dispatch.specs.Dispatch.{IsTable}
use Rattle.lx_layout.specs.Endings.{Ending}
use Rattle.lx_layout.specs.FormedParts.{AllStore, AreFormed, IsFormed}
use Rattle.lx_layout.specs.PartPieces.{Suits}
use Rattle.lx_layout.specs.Parts.{IsPartOf, Part, checked_by}
use Rattle.lx_layout.specs.Pieces.{ArePartsOf, FitsAccept, FitsEnd, Form, IsFitScanner, Source, counted, given_of, mode_of}
use Rattle.lx_layout.specs.Writable.{AcceptCanBeWritten, AcceptsCanBeWritten, PartCanBeWritten, PartsCanBeWritten, RuleCanBeWritten}
use Rattle.lx_layout.proofs.PieceLaws.EachPart.{AreFitScanners, each_part, with_given}
use Rattle.lx_layout.proofs.PieceLaws.EnoughChecks.{checks_few, no_check, no_edge}
use Rattle.lx_layout.proofs.Validity.EachElement.{each-map}

-- a rule at the end of the input has a unit there
pub end_unit : (form : Form) (conds : List (List ℕ)) (scanner : Source) → IsFitScanner form conds scanner → IsSome scanner.end_rule → IsSome form.eof
end_unit form conds scanner fit some = by scanner.end_rule fit.end some
  where
    by : (o : Option ℕ) → IfSome o (FitsEnd form conds scanner) → IsSome o → IsSome form.eof
    by None h is = absurd (false≢true is)
    by (Some rule) h is = h.unit

module _ (form : Form) (table : List ℕ) (conds : List (List ℕ)) where
  formed_part : IsTable table → (scanner : Source) (part : Part) → IsFitScanner form conds scanner → IsPartOf (greatest_unit form.enc) (given_of form table scanner) part
      → IsFormed (greatest_unit form.enc) (with_given part (given_of form table scanner))
  formed_part is_table scanner part fit is = record {
    chosen = record { is = refl; marked = is.marked; format = is.format; trees = is.trees };
    auto = fit.formed;
    units = fit.units;
    ends = end_unit form conds scanner fit;
    table = is_table;
  }

  pub are_formed : IsTable table → (scanners : List Source) (parts : List Part) → AreFitScanners form conds scanners → ArePartsOf form table scanners parts
      → AreFormed (greatest_unit form.enc) parts
  are_formed is_table scanners parts fit are =
      each_part form conds table (IsFormed (greatest_unit form.enc)) (λ scanner part fits is. formed_part is_table scanner part fits is) scanners parts fit are

  pub all_store : (scanners : List Source) (parts : List Part) → AreFitScanners form conds scanners → ArePartsOf form table scanners parts
      → AllStore form.stores parts
  all_store scanners parts fit are =
      each_part form conds table (λ (part : Part). part.given.demand.stores ≡ form.stores) (λ scanner part fits is. refl) scanners parts fit are

  pub all_eof : (eof : Option ℕ) → eof ≡ form.eof → (scanners : List Source) (parts : List Part) → AreFitScanners form conds scanners
      → ArePartsOf form table scanners parts → AllByRecursion (λ (part : Part). part.given.demand.eof ≡ eof) parts
  all_eof eof same scanners parts fit are =
      each_part form conds table (λ (part : Part). part.given.demand.eof ≡ eof) (λ scanner part fits is. sym same) scanners parts fit are

  pub all_formats : (scanners : List Source) (parts : List Part) → AreFitScanners form conds scanners → ArePartsOf form table scanners parts
      → AllByRecursion (λ (part : Part). part.given.demand.format ≡ form.format) parts
  all_formats scanners parts fit are =
      each_part form conds table (λ (part : Part). part.given.demand.format ≡ form.format) (λ scanner part fits is. refl) scanners parts fit are

  pub all_tables : (scanners : List Source) (parts : List Part) → AreFitScanners form conds scanners → ArePartsOf form table scanners parts
      → AllByRecursion (λ (part : Part). part.given.demand.table ≡ table) parts
  all_tables scanners parts fit are =
      each_part form conds table (λ (part : Part). part.given.demand.table ≡ table) (λ scanner part fits is. refl) scanners parts fit are

  -- ---- the mode

  none_leads : (edges : List Edge) → map (λ (edge : Edge). edge.to) edges ≡ [] → edges ≡ []
  none_leads [] e = refl
  none_leads (edge ∷ edges) e = absurd (cc)

  suits_part : (scanner : Source) (part : Part) → IsFitScanner form conds scanner → IsPartOf (greatest_unit form.enc) (given_of form table scanner) part
      → Suits (mode_of form.eof form.fill) (with_given part (given_of form table scanner))
  suits_part scanner part fit is = by form.eof form.fill refl refl
    where
      by : (o : Option ℕ) (t : Bool) → form.eof ≡ o → form.fill ≡ t → Suits (mode_of o t) (with_given part (given_of form table scanner))
      by None false e f = (e, λ number. ap (λ o. checked_by (counted o form.fill scanner.checks) number) e ∙ ap (λ t. checked_by (counted None t scanner.checks) number) f)
      by None true e f = record {
        eof = e;
        checks = scanner.checks;
        check = λ number. ap (λ o. checked_by (counted o form.fill scanner.checks) number) e ∙ ap (λ t. checked_by (counted None t scanner.checks) number) f;
        start = (
          λ zeroth. none_leads (state_of scanner.auto.states 0).edges (no_edge scanner.auto scanner.checks fit.checks zeroth),
          λ none. no_check scanner.auto scanner.checks fit.checks (ap (λ (edges : List Edge). map (λ (edge : Edge). edge.to) edges) none),
        );
      }
      by (Some unit) false e f =
          (ap (λ o. is_some o) e, ap (λ o. is_some o && form.fill) e ∙ f)
      by (Some unit) true e f = record { eof = ap (λ o. is_some o) e; tries = ap (λ o. is_some o && form.fill) e ∙ f }

  pub all_suit : (scanners : List Source) (parts : List Part) → AreFitScanners form conds scanners → ArePartsOf form table scanners parts
      → AllByRecursion (Suits (mode_of form.eof form.fill)) parts
  all_suit scanners parts fit are =
      each_part form conds table (Suits (mode_of form.eof form.fill)) (λ scanner part fits is. suits_part scanner part fits is) scanners parts fit are

  -- ---- what is written

  accepts_written : (endings : ℕ → Ending) (states : List State)
      → AllByRecursion (λ (state : State). IfSome state.accept (FitsAccept form.names conds endings)) states → AcceptsCanBeWritten form.names conds endings states
  accepts_written endings states fit =
      each-map (λ (state : State). IfSome state.accept (FitsAccept form.names conds endings))
      (λ (state : State). IfSome state.accept (AcceptCanBeWritten form.names conds endings)) (λ state is. by state.accept is) states fit
    where
      by : (o : Option Accept) → IfSome o (FitsAccept form.names conds endings) → IfSome o (AcceptCanBeWritten form.names conds endings)
      by None is = tt
      by (Some accept) is =
          let same = is.values in
          record { rule = record { short = is.short; ending = is.ending }; values = omega (arith, same) }

  end_written : (scanner : Source) (o : Option ℕ) → IfSome o (FitsEnd form conds scanner) → IfSome o (RuleCanBeWritten form.names conds scanner.endings)
  end_written scanner None fit = tt
  end_written scanner (Some rule) fit = record { short = fit.short; ending = fit.ending }

  checks_short : (scanner : Source) → IsFitScanner form conds scanner → (number : ℕ)
      → IsShort (checked_by (counted form.eof form.fill scanner.checks) number)
  checks_short scanner fit number = by form.eof form.fill
    where
      by : (o : Option ℕ) (t : Bool) → IsShort (checked_by (counted o t scanner.checks) number)
      by None false = omega arith
      by None true =
          let few = fit.formed.few in
          let le = checks_few scanner.auto scanner.checks fit.checks number in
          omega (arith, few, le)
      by (Some unit) t = omega arith

  unit_short : IfSome form.eof (λ unit. unit ≤ greatest_unit form.enc) → IfSome form.eof IsShort
  unit_short eof = by form.eof eof
    where
      short : (enc : Enc) (unit : ℕ) → unit ≤ greatest_unit enc → IsShort unit
      short Byte unit le = omega (arith, le)
      short Ucs2 unit le = omega (arith, le)
      short Utf8 unit le = omega (arith, le)
      short Utf16 unit le = omega (arith, le)
      short Utf32 unit le = omega (arith, le)

      by : (o : Option ℕ) → IfSome o (λ unit. unit ≤ greatest_unit form.enc) → IfSome o IsShort
      by None le = tt
      by (Some unit) le = short form.enc unit le

  written_part : IfSome form.eof (λ unit. unit ≤ greatest_unit form.enc) → (scanner : Source) (part : Part) → IsFitScanner form conds scanner → IsPartOf (greatest_unit form.enc) (given_of form table scanner) part
      → PartCanBeWritten form.names conds (with_given part (given_of form table scanner))
  written_part eof scanner part fit is = record {
    label = fit.label;
    checks = checks_short scanner fit;
    accepts = accepts_written scanner.endings scanner.auto.states
        (recursion_from_All (λ (state : State). IfSome state.accept (FitsAccept form.names conds scanner.endings)) scanner.auto.states fit.accepts);
    end_rule = end_written scanner scanner.end_rule fit.end;
    eof = unit_short eof;
  }

  pub all_written : IfSome form.eof (λ unit. unit ≤ greatest_unit form.enc) → (scanners : List Source) (parts : List Part) → AreFitScanners form conds scanners → ArePartsOf form table scanners parts
      → PartsCanBeWritten form.names conds parts
  all_written eof scanners parts fit are =
      each_part form conds table (PartCanBeWritten form.names conds) (λ scanner part fits is. written_part eof scanner part fits is) scanners parts fit are
