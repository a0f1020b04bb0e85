-- Scanners one behind another, as they are laid one by one.
use Rattle.std.specs.Prelude.{◌≡◌, ℕ, suc, ◌+◌, ◌<◌, All, Option, Some, None, IfSome, is_some, List, [], ◌∷◌, ◌++◌, length, take, true, slice_index_or, refl}
use Rattle.std.proofs.Common.{sym, ap, ap₂, ◌∙◌, arith, subst, append_assoc, length-append}
use Rattle.std.proofs.lemmas.Bool.{false≢true}
use Rattle.std.specs.List.{AllByRecursion}
use Rattle.std.proofs.lemmas.List.{get_or-map, length-map, map-append, take_more}
use Rattle.lx_auto.specs.declared.automaton.Accept.{Accept}
use Rattle.lx_auto.specs.declared.automaton.State.{State}
use Rattle.lx_base.specs.Names.{Spellings}
use Rattle.lx_base.specs.Spelling.{greatest_unit}
use Rattle.lx_ccode.specs.declared.piece.CodeBlock.{CodeBlock}
use Rattle.lx_ccode.specs.declared.piece.Stmt.{Stmt}
use Rattle.lx_layout.specs.Endings.{Ending}
use Rattle.lx_layout.specs.FormedParts.{all_asked}
use Rattle.lx_layout.specs.LaidParts.{AcceptIsTold, EndIsTold}
use Rattle.lx_layout.specs.Parts.{Given, IsPartOf, Part, given_asked, labelled, part_blocks, part_codes, parts_blocks}
use Rattle.lx_layout.specs.Plans.{unlabelled}
use Rattle.lx_layout.specs.PieceViews.{seen_source, seen_sources}
use Rattle.lx_layout.specs.Pieces.{ArePartsOf, FitsAccept, FitsEnd, Form, IsFitScanner, Source, given_of}
use Rattle.lx_layout.specs.RuleEnds.{HasEnd, HasToldEnd, end_place, endings_of}
use Rattle.lx_layout.specs.Writable.{CanBeWritten}
use Rattle.lx_layout.specs.declared.pieces.ScannerInput.{ScannerInput}
use Rattle.lx_layout.specs.declared.rule_ends.RuleEnd.{RuleEnd}
use Rattle.lx_layout.proofs.Elements.{each-All}
use Rattle.lx_layout.proofs.Rules.EndPlaces.{end_place-none}

-- ---- one part more

unlabelled-length : (codes : List (List Stmt)) → length (unlabelled codes) ≡ length codes
unlabelled-length [] = refl
unlabelled-length (code ∷ codes) = ap suc (unlabelled-length codes)

labelled-length : (cond : Option (List ℕ)) (codes : List (List Stmt)) → length (labelled cond codes) ≡ length codes
labelled-length cond [] = refl
labelled-length cond (code ∷ codes) = ap suc (unlabelled-length codes)

pub parts_blocks-more : (begin first : ℕ) (parts : List Part) (part : Part)
    → parts_blocks begin first (parts ++ part ∷ [])
    ≡ parts_blocks begin first parts ++ part_blocks part (begin + length (parts_blocks begin first parts)) (first + all_asked parts)
parts_blocks-more begin first [] part =
    let at : begin ≡ begin + 0 = omega arith in
    let from : first ≡ first + 0 = omega arith in
    nil (part_blocks part begin first) ∙ ap₂ (λ b f. part_blocks part b f) at from
  where
    nil : (l : List CodeBlock) → l ++ [] ≡ l
    nil [] = refl
    nil (x ∷ l) = ap (λ m. x ∷ m) (nil l)
parts_blocks-more begin first (own ∷ parts) part =
    let blocks : List CodeBlock = part_blocks own begin first in
    let size : ℕ = length (part_codes own begin first) in
    let asked : ℕ = given_asked own.given in
    let rest : List CodeBlock = parts_blocks (begin + size) (first + asked) parts in
    let long : length blocks ≡ size = labelled-length own.given.cond (part_codes own begin first) in
    let both : length (blocks ++ rest) ≡ length blocks + length rest = length-append blocks rest in
    let at : begin + size + length rest ≡ begin + length (blocks ++ rest) = omega (arith, long, both) in
    let from : first + asked + all_asked parts ≡ first + (asked + all_asked parts) = omega arith in
    ap (λ l. blocks ++ l) (parts_blocks-more (begin + size) (first + asked) parts part)
    ∙ sym (append_assoc blocks rest (part_blocks part (begin + size + length rest) (first + asked + all_asked parts)))
    ∙ ap₂ (λ b f. (blocks ++ rest) ++ part_blocks part b f) at from

pub all_asked-more : (parts : List Part) (part : Part) → all_asked (parts ++ part ∷ []) ≡ all_asked parts + given_asked part.given
all_asked-more [] part = omega arith
all_asked-more (own ∷ parts) part = let more = all_asked-more parts part in omega (arith, more)

pub parts_of-more : (form : Form) (table : List ℕ) (scanners : List Source) (parts : List Part) (scanner : Source) (part : Part) → ArePartsOf form table scanners parts
    → IsPartOf (greatest_unit form.enc) (given_of form table scanner) part → ArePartsOf form table (scanners ++ scanner ∷ []) (parts ++ part ∷ [])
parts_of-more form table [] [] scanner part are is = (is, tt)
parts_of-more form table [] (own ∷ parts) scanner part are is = absurd are
parts_of-more form table (first ∷ scanners) [] scanner part are is = absurd are
parts_of-more form table (first ∷ scanners) (own ∷ parts) scanner part are is = (are.0, parts_of-more form table scanners parts scanner part are.1 is)

-- ---- what is told of ends

-- an ending that can be written is that of some rule
has_end : (names : Spellings) (conds : List (List ℕ)) (ends : List RuleEnd) (number : ℕ) → CanBeWritten names conds (endings_of ends number) → HasEnd ends number
has_end names conds ends number written = by (end_place ends number) refl
  where
    by : (place : Option ℕ) → end_place ends number ≡ place → is_some place ≡ true
    by None e = absurd (false≢true (subst (λ (ending : Ending). CanBeWritten names conds ending) (end_place-none ends number e) written).acts)
    by (Some place) e = refl

module _ (form : Form) (conds : List (List ℕ)) (ends : List RuleEnd) (scanner : Source) (fit : IsFitScanner form conds scanner)
    (is : scanner.endings ≡ endings_of ends) where
  accept_told : (accept : Accept) → FitsAccept form.names conds scanner.endings accept → HasToldEnd ends accept
  accept_told accept fits =
      let h = subst (λ (endings : ℕ → Ending). FitsAccept form.names conds endings accept) is fits in
      record { end = has_end form.names conds ends accept.rule h.ending; groups = h.ending.groups; values = h.values }

  option_told : (accept : Option Accept) → IfSome accept (FitsAccept form.names conds scanner.endings) → AcceptIsTold ends accept
  option_told None fits = tt
  option_told (Some accept) fits = accept_told accept fits

  states_told : (states : List State) → AllByRecursion (λ (state : State). IfSome state.accept (FitsAccept form.names conds scanner.endings)) states
      → AllByRecursion (λ (given : State). AcceptIsTold ends given.accept) states
  states_told [] fits = tt
  states_told (given ∷ states) fits = (option_told given.accept fits.0, states_told states fits.1)

  pub accepts_told : AllByRecursion (λ (given : State). AcceptIsTold ends given.accept) scanner.auto.states
  accepts_told =
      states_told scanner.auto.states
      (each-All (λ (state : State). IfSome state.accept (FitsAccept form.names conds scanner.endings)) scanner.auto.states fit.accepts)

  pub end_told : EndIsTold ends scanner.end_rule
  end_told = by scanner.end_rule fit.end
    where
      by : (rule : Option ℕ) → IfSome rule (FitsEnd form conds scanner) → EndIsTold ends rule
      by None fits = tt
      by (Some rule) fits =
          has_end form.names conds ends rule (subst (λ (endings : ℕ → Ending). CanBeWritten form.names conds (endings rule)) is fits.ending)

-- ---- a scanner of the list

module _ (form : Form) (conds : List (List ℕ)) (scanners : List ScannerInput) (index : ℕ) (scanner : ScannerInput) (within : index < length scanners)
    (is : scanner ≡ slice_index_or scanners index scanner) where
  pub fit_at : All (IsFitScanner form conds) (seen_sources scanners) → IsFitScanner form conds (seen_source scanner)
  fit_at fit =
      let long : index < length (seen_sources scanners) = subst (λ n. index < n) (sym (length-map scanners seen_source)) within in
      let same = get_or-map seen_source scanners index scanner (seen_source scanner) within ∙ ap seen_source (sym is) in
      subst (λ (s : Source). IsFitScanner form conds s) same (fit index (seen_source scanner) long)

  taken : seen_sources (take (index + 1) scanners) ≡ seen_sources (take index scanners) ++ seen_source scanner ∷ []
  taken =
      ap seen_sources (take_more scanners index scanner within) ∙ map-append seen_source (take index scanners) (slice_index_or scanners index scanner ∷ [])
      ∙ ap (λ (s : ScannerInput). seen_sources (take index scanners) ++ seen_source s ∷ []) (sym is)

  pub laid-more : (table : List ℕ) (first next after greatest : ℕ) (given : Given) (blocks new : List CodeBlock)
      → greatest ≡ greatest_unit form.enc → given ≡ given_of form table (seen_source scanner)
      → (parts : List Part) × ArePartsOf form table (seen_sources (take index scanners)) parts × (blocks ≡ parts_blocks 0 first parts) × (next ≡ first + all_asked parts)
      → (part : Part) × IsPartOf greatest given part × (new ≡ blocks ++ part_blocks part (length blocks) next)
      → after ≡ next + given_asked given
      → (parts : List Part) × ArePartsOf form table (seen_sources (take (index + 1) scanners)) parts × (new ≡ parts_blocks 0 first parts)
      × (after ≡ first + all_asked parts)
  laid-more table first next after greatest given blocks new greatest_is given_is before laid after_is =
      let parts = before.0 in
      let part = laid.0 in
      let chosen = subst (λ g. IsPartOf g (given_of form table (seen_source scanner)) part) greatest_is (subst (λ g. IsPartOf greatest g part) given_is laid.1) in
      let at : length blocks ≡ 0 + length (parts_blocks 0 first parts) =
      ap (λ (l : List CodeBlock). length l) before.2 ∙ (let e : length (parts_blocks 0 first parts) ≡ 0 + length (parts_blocks 0 first parts) = omega arith in e) in
      let own : given_asked given ≡ given_asked part.given = ap given_asked (sym laid.1.is) in
      let more = all_asked-more parts part in (
        parts ++ part ∷ [],
        subst (λ l. ArePartsOf form table l (parts ++ part ∷ [])) (sym taken)
            (parts_of-more form table (seen_sources (take index scanners)) parts (seen_source scanner) part before.1 chosen),
        laid.2 ∙ ap (λ l. l ++ part_blocks part (length blocks) next) before.2
            ∙ ap₂ (λ n f. parts_blocks 0 first parts ++ part_blocks part n f) at before.3
            ∙ sym (parts_blocks-more 0 first parts part),
        omega (arith, after_is, own, more, before.3),
      )
