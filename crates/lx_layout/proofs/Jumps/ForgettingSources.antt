-- Scanners that stand in blocks with what was kept forgotten before jumps.
use Rattle.std.specs.Prelude.{◌≡◌, ◌≢◌, ◌⊎◌, ℕ, ◌<◌, Bool, true, false, List, [], ◌∷◌, length, map, nat_eq, Option, Some, None, IfSome, refl, if◌then◌else◌}
use Rattle.std.proofs.Common.{sym, ap, ap₂, ◌∙◌, subst, true≢false}
use Rattle.std.proofs.Math.Path.{fun_ext}
use Rattle.std.proofs.lemmas.List.{length-map}
use Rattle.std.proofs.lemmas.List.Elements.{All-from_recursion, recursion_from_All}
use Rattle.std.specs.List.{AllByRecursion, list_any}
use Rattle.lx_auto.specs.declared.automaton.Accept.{Accept}
use Rattle.lx_auto.specs.declared.automaton.State.{State}
use Rattle.lx_base.specs.Names.{Spellings}
use Rattle.lx_base.specs.Spelling.{greatest_unit}
use Rattle.lx_ccode.specs.Labels.{is_like_block}
use Rattle.lx_ccode.specs.declared.piece.CodeBlock.{CodeBlock}
use Rattle.lx_dispatch.specs.Dispatch.{IsTable}
use Rattle.lx_layout.specs.Endings.{Ending}
use Rattle.lx_layout.specs.Forgetting.{JumpsForget, any_tests_kept, forgetting_block, forgetting_blocks, forgetting_by, forgets_before_jumps}
use Rattle.lx_layout.specs.FormedParts.{AreFormed}
use Rattle.lx_layout.specs.Parts.{Given, Part, parts_blocks}
use Rattle.lx_layout.specs.PieceViews.{seen_sources}
use Rattle.lx_layout.specs.Pieces.{AreFit, ArePartsOf, FitsAccept, FitsEnd, Form, HaveDifferentConditions, IsFitScanner, Source, conds_of, given_of, onto_conds, source_in, sources_in}
use Rattle.lx_layout.specs.RuleEnds.{ending_of, endings_of}
use Rattle.lx_layout.specs.Writable.{CanBeWritten}
use Rattle.lx_layout.specs.declared.pieces.ScannerInput.{ScannerInput}
use Rattle.lx_layout.specs.declared.rule_ends.RuleEnd.{RuleEnd}
use Rattle.lx_layout.proofs.Jumps.ForgettingCodes.{any_tests-forgetting, each_forgets}
use Rattle.lx_layout.proofs.Jumps.ForgettingLayouts.{AllKeep, AllPartsKeep, forgetful_part, parts_blocks-forgetting}
use Rattle.lx_layout.proofs.PartLayouts.ClosedParts.{all_end}
use Rattle.lx_layout.proofs.PieceLaws.EachPart.{AreFitScanners}
use Rattle.lx_layout.proofs.PieceLaws.FitParts.{are_formed}
use Rattle.lx_layout.proofs.Validity.EachElement.{each-map}

-- ---- scanners that fit still do

module _ (blocks : List CodeBlock) where
  pub conds_of-in : (scanners : List Source) → conds_of (sources_in blocks scanners) ≡ conds_of scanners
  conds_of-in [] = refl
  conds_of-in (scanner ∷ scanners) = ap (λ l. onto_conds scanner.cond l) (conds_of-in scanners)

  written_in : (names : Spellings) (conds : List (List ℕ)) (forgets : Bool) (ending : Ending) → CanBeWritten names conds ending
      → CanBeWritten names conds (record ending { forgets = forgets })
  written_in names conds forgets ending can =
      record { tags = can.tags; groups = can.groups; goes = can.goes; acts = can.acts; line = can.line }

  accept_in : (names : Spellings) (conds : List (List ℕ)) (forgets : Bool) (endings : ℕ → Ending) (accept : Accept)
      → FitsAccept names conds endings accept → FitsAccept names conds (forgetting_by forgets endings) accept
  accept_in names conds forgets endings accept fits =
      record { short = fits.short; ending = written_in names conds forgets (endings accept.rule) fits.ending; values = fits.values }

  accepts_in : (names : Spellings) (conds : List (List ℕ)) (forgets : Bool) (endings : ℕ → Ending) (given : Option Accept)
      → IfSome given (FitsAccept names conds endings) → IfSome given (FitsAccept names conds (forgetting_by forgets endings))
  accepts_in names conds forgets endings None fits = tt
  accepts_in names conds forgets endings (Some accept) fits = accept_in names conds forgets endings accept fits

  end_in : (form : Form) (conds : List (List ℕ)) (scanner : Source) (end_rule : Option ℕ) → IfSome end_rule (FitsEnd form conds scanner)
      → IfSome end_rule (FitsEnd form conds (source_in blocks scanner))
  end_in form conds scanner None fits = tt
  end_in form conds scanner (Some rule) fits = record {
    short = fits.short;
    ending = written_in form.names conds (any_tests_kept blocks) (scanner.endings rule) fits.ending;
    tags = fits.tags;
    slash = fits.slash;
    groups = fits.groups;
    alone = fits.alone;
    unit = fits.unit;
  }

  scanner_in : (form : Form) (conds : List (List ℕ)) (scanner : Source) → IsFitScanner form conds scanner
      → IsFitScanner form conds (source_in blocks scanner)
  scanner_in form conds scanner fit = record {
    label = fit.label;
    formed = fit.formed;
    units = fit.units;
    agreed = fit.agreed;
    accepts = All-from_recursion _ scanner.auto.states
        (each-map (λ (state : State). IfSome state.accept (FitsAccept form.names conds scanner.endings))
        (λ (state : State). IfSome state.accept (FitsAccept form.names conds (forgetting_by (any_tests_kept blocks) scanner.endings)))
        (λ state fits. accepts_in form.names conds (any_tests_kept blocks) scanner.endings state.accept fits) scanner.auto.states
        (recursion_from_All _ scanner.auto.states fit.accepts));
    checks = fit.checks;
    tags = fit.tags;
    end = end_in form conds scanner scanner.end_rule fit.end;
  }

  scanners_in : (form : Form) (conds : List (List ℕ)) (scanners : List Source) → AreFitScanners form conds scanners
      → AreFitScanners form conds (sources_in blocks scanners)
  scanners_in form conds [] fit = tt
  scanners_in form conds (scanner ∷ scanners) fit = (scanner_in form conds scanner fit.0, scanners_in form conds scanners fit.1)

  others_in : (own : Option (List ℕ)) (scanners : List Source) → AllByRecursion (λ (other : Source). other.cond ≢ own) scanners
      → AllByRecursion (λ (other : Source). other.cond ≢ own) (sources_in blocks scanners)
  others_in own [] apart = tt
  others_in own (scanner ∷ scanners) apart = (apart.0, others_in own scanners apart.1)

  different_in : (scanners : List Source) → HaveDifferentConditions scanners → HaveDifferentConditions (sources_in blocks scanners)
  different_in [] apart = tt
  different_in (scanner ∷ scanners) apart = (others_in scanner.cond scanners apart.0, different_in scanners apart.1)

  pub fit_in : (form : Form) (scanners : List Source) → AreFit form scanners → AreFit form (sources_in blocks scanners)
  fit_in form scanners fit =
      let count : length scanners ≡ length (sources_in blocks scanners) = sym (length-map scanners (source_in blocks)) in
      let conds : conds_of scanners ≡ conds_of (sources_in blocks scanners) = sym (conds_of-in scanners) in
      record {
        some = subst (λ n. 0 < n) count fit.some;
        each = All-from_recursion _ (sources_in blocks scanners)
            (subst (λ list. AreFitScanners form list (sources_in blocks scanners)) conds
            (scanners_in form (conds_of scanners) scanners (recursion_from_All _ scanners fit.each)));
        conds = subst (λ n. (length (conds_of (sources_in blocks scanners)) ≡ n) ⊎ (n ≡ 1)) count
            (subst (λ list. (length list ≡ length scanners) ⊎ (length scanners ≡ 1)) conds fit.conds);
        different = different_in scanners fit.different;
        first_state = fit.first_state;
        eof = fit.eof;
        names = fit.names;
        names_differ = fit.names_differ;
        no_primitive = fit.no_primitive;
        no_table = fit.no_table;
        no_block_label = λ three. subst (λ list. list_any (is_like_block form.number form.names) list ≡ false) conds (fit.no_block_label three);
        line = fit.line;
      }

-- ---- the ends of rules as they are given forget nothing

keeps-given : (ends : List RuleEnd) → AllKeep (endings_of ends)
keeps-given [] number = refl
keeps-given (end ∷ ends) number = by (nat_eq number end.rule.now.number) (keeps-given ends number)
  where
    by : (t : Bool) → (endings_of ends number).forgets ≡ false → (if t then ending_of end else endings_of ends number).forgets ≡ false
    by true again = refl
    by false again = again

AllSourcesKeep : List Source → Type 0
AllSourcesKeep scanners = AllByRecursion (λ (scanner : Source). AllKeep scanner.endings) scanners

keep-given : (scanners : List ScannerInput) → AllSourcesKeep (seen_sources scanners)
unfolding AllSourcesKeep
keep-given [] = tt
keep-given (scanner ∷ scanners) = (keeps-given scanner.ends.now, keep-given scanners)

same_endings : (endings : ℕ → Ending) → AllKeep endings → forgetting_by false endings ≡ endings
same_endings endings keeps = fun_ext (λ rule. ap (λ t. record (endings rule) { forgets = t }) (sym (keeps rule)))

module _ (form : Form) (table : List ℕ) where
  -- ---- parts of scanners, where the ends of rules are told

  parts_same : (blocks : List CodeBlock) → any_tests_kept blocks ≡ false → (scanners : List Source) → AllSourcesKeep scanners
      → sources_in blocks scanners ≡ scanners
  unfolding AllSourcesKeep
  parts_same blocks none [] keep = refl
  parts_same blocks none (scanner ∷ scanners) keep =
      ap₂ (λ one all. one ∷ all)
      (ap (λ endings. record scanner { endings = endings })
      (ap (λ t. forgetting_by t scanner.endings) none ∙ same_endings scanner.endings keep.0))
      (parts_same blocks none scanners keep.1)

  forgetful_parts : (blocks : List CodeBlock) → any_tests_kept blocks ≡ true → (scanners : List Source) (parts : List Part)
      → ArePartsOf form table scanners parts → ArePartsOf form table (sources_in blocks scanners) (map forgetful_part parts)
  forgetful_parts blocks some [] [] are = tt
  forgetful_parts blocks some [] (part ∷ parts) are = absurd are
  forgetful_parts blocks some (scanner ∷ scanners) [] are = absurd are
  forgetful_parts blocks some (scanner ∷ scanners) (part ∷ parts) are = (
    record {
      is = ap {A = Given} (λ given. record given { endings = forgetting_by true given.endings }) are.0.is
          ∙ ap {B = Given} (λ t. record (given_of form table scanner) { endings = forgetting_by t scanner.endings }) (sym some);
      marked = are.0.marked;
      format = are.0.format;
      trees = are.0.trees;
    },
    forgetful_parts blocks some scanners parts are.1,
  )

  keep_parts : (scanners : List Source) (parts : List Part) → ArePartsOf form table scanners parts → AllSourcesKeep scanners → AllPartsKeep parts
  unfolding AllSourcesKeep
  keep_parts [] [] are keep = tt
  keep_parts [] (part ∷ parts) are keep = absurd are
  keep_parts (scanner ∷ scanners) [] are keep = tt
  keep_parts (scanner ∷ scanners) (part ∷ parts) are keep =
      (subst (λ given. AllKeep given.endings) (sym are.0.is) keep.0, keep_parts scanners parts are.1 keep.1)

  -- ---- the blocks of scanners

  module _ (is_table : IsTable table) (given : List ScannerInput) (fit : AreFit form (seen_sources given)) (laid blocks : List CodeBlock)
      (told : blocks ≡ forgetting_blocks (any_tests_kept laid) laid) (parts : List Part) (are : ArePartsOf form table (seen_sources given) parts)
      (same : laid ≡ parts_blocks 0 form.first_state parts) where
    formed : AreFormed (greatest_unit form.enc) parts
    formed = are_formed form table (conds_of (seen_sources given)) is_table (seen_sources given) parts (recursion_from_All _ (seen_sources given) fit.each) are

    abbrev AreLaid : Type 0
    AreLaid = (list : List Part) × ArePartsOf form table (sources_in blocks (seen_sources given)) list × (blocks ≡ parts_blocks 0 form.first_state list)

    pub forgetting_laid : (list : List Part) × ArePartsOf form table (sources_in blocks (seen_sources given)) list
        × (blocks ≡ parts_blocks 0 form.first_state list)
    forgetting_laid = by (any_tests_kept laid) refl told
      where
        by : (t : Bool) → any_tests_kept laid ≡ t → blocks ≡ forgetting_blocks t laid → AreLaid
        by false none is = (
          parts,
          subst (λ list. ArePartsOf form table list parts)
              (sym (parts_same blocks (ap any_tests_kept is ∙ none) (seen_sources given) (keep-given given))) are,
          is ∙ same,
        )
        by true some is = (
          map forgetful_part parts,
          forgetful_parts blocks (ap any_tests_kept is ∙ any_tests-forgetting laid ∙ some) (seen_sources given) parts are,
          is ∙ ap (λ l. map forgetting_block l) same
              ∙ sym (parts_blocks-forgetting (greatest_unit form.enc) 0 form.first_state parts formed
              (keep_parts (seen_sources given) parts are (keep-given given))),
        )

    pub laid_forgets : JumpsForget blocks
    laid_forgets tested = by (any_tests_kept laid) refl told
      where
        by : (t : Bool) → any_tests_kept laid ≡ t → blocks ≡ forgetting_blocks t laid
            → AllByRecursion (λ (block : CodeBlock). forgets_before_jumps false block.stmts ≡ true) blocks
        by false none is = absurd (true≢false (sym tested ∙ ap any_tests_kept is ∙ none))
        by true some is =
            subst (λ l. AllByRecursion (λ (block : CodeBlock). forgets_before_jumps false block.stmts ≡ true) l) (sym is)
            (each_forgets laid (all_end (greatest_unit form.enc) form.first_state parts laid formed same))
