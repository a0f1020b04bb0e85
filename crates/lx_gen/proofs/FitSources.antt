-- What a block resolves to fits a piece: its scanners with their automata, its conditions, and what it is beside them.
use Rattle.std.specs.Prelude.{◌≡◌, ◌≢◌, ◌⊎◌, ℕ, zero, suc, ◌*◌, ◌<◌, ◌≤◌, ◌^◌, ◌||◌, Bool, true, false, List, [], ◌∷◌, map, length, Option, Some, None, All, Contains, IfSome, IsSome, is_some, refl, slice_index_or}
use Rattle.std.proofs.Common.{inl, inr, sym, ap, ◌∙◌, subst, arith}
use Rattle.std.proofs.lemmas.Bool.{false≢true}
use Rattle.lx_ccode.specs.Heads.{is_format_three}
use Rattle.std.specs.List.{AllByRecursion, list_any}
use Rattle.lx_auto.specs.declared.automaton.Accept.{Accept}
use Rattle.lx_auto.specs.declared.automaton.Auto.{Auto}
use Rattle.lx_auto.specs.declared.automaton.Edge.{Edge}
use Rattle.lx_auto.specs.declared.automaton.State.{State}
use Rattle.lx_base.specs.Letters.{IsIdentifier, equal_words}
use Rattle.lx_base.specs.Names.{Spellings, begins_table}
use Rattle.lx_base.specs.Spelling.{greatest_unit}
use Rattle.lx_base.specs.declared.limits.TheConstants.{SOURCE_LIMIT}
use Rattle.lx_base.specs.declared.settings.Enc.{Enc}
use Rattle.lx_base.specs.declared.settings.Options.{Options}
use Rattle.lx_ccode.specs.Validity.{IsLabel, IsLine}
use Rattle.lx_ccode.specs.declared.piece.LineMark.{LineMark}
use Rattle.lx_ccode.proofs.Words.{equal_words-self}
use Rattle.lx_fill.specs.Checks.{AreChecks}
use Rattle.lx_regex.specs.Limits.{IsWithinLimits}
use Rattle.lx_regex.specs.Pattern.{end_rule, patterns_of}
use Rattle.lx_regex.specs.declared.rules.Rule.{Rule}
use Rattle.lx_rules.specs.FitScanners.{IsFit, IsShort}
use Rattle.lx_rules.specs.Linked as linked
use Rattle.lx_rules.specs.WellFormed.{HaveBareEnds, HaveTagNames, IsBareEnd, IsWellFormed, has_end}
use Rattle.lx_rules.specs.Within.{IsScannerWithin}
use Rattle.lx_rules.specs.declared.resolved.Act.{Act}
use Rattle.lx_rules.specs.declared.resolved.Resolved.{Resolved}
use Rattle.lx_rules.specs.declared.resolved.Scanner.{Scanner}
use Rattle.lx_tdfa.specs.Promise.{FitsRules}
use Rattle.lx_layout.specs.Endings.{Ending}
use Rattle.lx_layout.specs.Pieces.{AreFit, Form, HaveDifferentConditions, IsFitScanner, Source, conds_of, onto_conds}
use Rattle.lx_layout.specs.Writable.{ActsOrGoes, IsOneOf}
use Rattle.lx_gen.specs.Generated.{AreAutomata, Marks, endings_by, form_of, sources_of}
use Rattle.lx_gen.specs.Seen.{HaveShortLines}
use Rattle.lx_gen.proofs.Elements.{All-each, each-All}
use Rattle.lx_gen.proofs.EndRules.{end_fits}
use Rattle.lx_gen.proofs.FormatThree.{IsFreeOfTable, IsFreeOfTable-each, both_each, endings_without_table, is_format_three-three, labels_apart}
use Rattle.lx_gen.proofs.WrittenEnds.{EndsAs, IsWritableAct, accepts_fit, own-apart, rules_end}

module _ (enc : Enc) (marks : Marks) (acts : List Act) where
  abbrev source_of : Scanner → Auto → (checks : List ℕ) → Source
  source_of scanner auto list = record {
    cond = scanner.cond;
    auto = auto;
    checks = list;
    endings = endings_by marks acts scanner.set.rules;
    end_rule = end_rule (patterns_of scanner.set.rules);
  }

  -- what holds of each scanner with its automaton holds of each source
  each_source : (P : Source → Type 0) (Q : Scanner → Type 0)
      → ((scanner : Scanner) (auto : Auto) (list : List ℕ) → FitsRules enc (patterns_of scanner.set.rules) auto → AreChecks auto list → Q scanner
      → P (source_of scanner auto list))
      → (scanners : List Scanner) (autos : List Auto) (checks : List (List ℕ)) → AreAutomata enc scanners autos checks → AllByRecursion Q scanners
      → AllByRecursion P (sources_of marks acts scanners autos checks)
  each_source P Q f [] autos checks are each = tt
  each_source P Q f (scanner ∷ scanners) (auto ∷ autos) (list ∷ checks) are each = (
    f scanner auto list are.0 are.1 each.0,
    each_source P Q f scanners autos checks are.2 each.1,
  )
  each_source P Q f (scanner ∷ scanners) (auto ∷ autos) [] are each = absurd are
  each_source P Q f (scanner ∷ scanners) [] (list ∷ checks) are each = absurd are
  each_source P Q f (scanner ∷ scanners) [] [] are each = absurd are

  pub sources-length : (scanners : List Scanner) (autos : List Auto) (checks : List (List ℕ)) → AreAutomata enc scanners autos checks
      → length (sources_of marks acts scanners autos checks) ≡ length scanners
  sources-length [] autos checks are = refl
  sources-length (scanner ∷ scanners) (auto ∷ autos) (list ∷ checks) are = ap suc (sources-length scanners autos checks are.2)
  sources-length (scanner ∷ scanners) (auto ∷ autos) [] are = absurd are
  sources-length (scanner ∷ scanners) [] (list ∷ checks) are = absurd are
  sources-length (scanner ∷ scanners) [] [] are = absurd are

  -- ---- conditions

  -- a condition of a scanner is one of the piece
  condition_there : (cond : List ℕ) (scanners : List Scanner) (autos : List Auto) (checks : List (List ℕ)) → AreAutomata enc scanners autos checks
      → AllByRecursion (λ (scanner : Scanner). IfSome scanner.cond IsIdentifier) scanners
      → (k : ℕ) → k < length (map (λ (scanner : Scanner). scanner.cond) scanners)
      → slice_index_or (map (λ (scanner : Scanner). scanner.cond) scanners) k (Some cond) ≡ Some cond
      → IsOneOf (conds_of (sources_of marks acts scanners autos checks)) (Some cond)
  condition_there cond [] autos checks are named k lt is = absurd (omega (arith, lt))
  condition_there cond (scanner ∷ scanners) (auto ∷ autos) (list ∷ checks) are named zero lt is =
      by scanner.cond (conds_of (sources_of marks acts scanners autos checks)) is named.0
    where
      by : (o : Option (List ℕ)) (rest : List (List ℕ)) → o ≡ Some cond → IfSome o IsIdentifier → IsOneOf (onto_conds o rest) (Some cond)
      by None rest is named = absurd (let h = is in cc)
      by (Some own) rest is named =
          let same : own ≡ cond = cc in (
            subst IsIdentifier same named,
            ap (λ word. equal_words cond word || list_any (equal_words cond) rest) same
                ∙ ap (λ t. t || list_any (equal_words cond) rest) (equal_words-self cond),
          )
  condition_there cond (scanner ∷ scanners) (auto ∷ autos) (list ∷ checks) are named (suc k) lt is =
      by scanner.cond (conds_of (sources_of marks acts scanners autos checks))
      (condition_there cond scanners autos checks are.2 named.1 k (omega (arith, lt)) is)
    where
      onto : (t rest : Bool) → rest ≡ true → (t || rest) ≡ true
      onto true rest is = refl
      onto false rest is = is

      by : (o : Option (List ℕ)) (rest : List (List ℕ)) → IsOneOf rest (Some cond) → IsOneOf (onto_conds o rest) (Some cond)
      by None rest again = again
      by (Some own) rest again = (again.0, onto (equal_words cond own) (list_any (equal_words cond) rest) again.1)
  condition_there cond (scanner ∷ scanners) (auto ∷ autos) [] are named k lt is = absurd are
  condition_there cond (scanner ∷ scanners) [] (list ∷ checks) are named k lt is = absurd are
  condition_there cond (scanner ∷ scanners) [] [] are named k lt is = absurd are

  -- all have a condition
  all_named : (scanners : List Scanner) (autos : List Auto) (checks : List (List ℕ)) → AreAutomata enc scanners autos checks
      → AllByRecursion (λ (scanner : Scanner). is_some scanner.cond ≡ true) scanners
      → length (conds_of (sources_of marks acts scanners autos checks)) ≡ length (sources_of marks acts scanners autos checks)
  all_named [] autos checks are named = refl
  all_named (scanner ∷ scanners) (auto ∷ autos) (list ∷ checks) are named =
      by scanner.cond named.0 (all_named scanners autos checks are.2 named.1)
    where
      rest : List Source
      rest = sources_of marks acts scanners autos checks

      by : (o : Option (List ℕ)) → is_some o ≡ true → length (conds_of rest) ≡ length rest → length (onto_conds o (conds_of rest)) ≡ suc (length rest)
      by None is again = absurd (let h = is in cc)
      by (Some own) is again = ap suc again
  all_named (scanner ∷ scanners) (auto ∷ autos) [] are named = absurd are
  all_named (scanner ∷ scanners) [] (list ∷ checks) are named = absurd are
  all_named (scanner ∷ scanners) [] [] are named = absurd are

  -- or none, and then there is one scanner
  none_named : (scanners : List Scanner) → 0 < length scanners → AllByRecursion (λ (scanner : Scanner). is_some scanner.cond ≡ false) scanners
      → linked.HaveDifferentConditions scanners → length scanners ≡ 1
  none_named [] some named different = absurd (omega (arith, some))
  none_named (scanner ∷ []) some named different = refl
  none_named (scanner ∷ other ∷ scanners) some named different =
      absurd (different.0.0 (none other.cond named.1.0 ∙ sym (none scanner.cond named.0)))
    where
      none : (o : Option (List ℕ)) → is_some o ≡ false → o ≡ None
      none None is = refl
      none (Some own) is = absurd (let h = is in cc)

  conditions_fit : (conds : Bool) (scanners : List Scanner) (autos : List Auto) (checks : List (List ℕ)) → AreAutomata enc scanners autos checks
      → 0 < length scanners → AllByRecursion (λ (scanner : Scanner). is_some scanner.cond ≡ conds) scanners → linked.HaveDifferentConditions scanners
      → (length (conds_of (sources_of marks acts scanners autos checks)) ≡ length (sources_of marks acts scanners autos checks))
      ⊎ (length (sources_of marks acts scanners autos checks) ≡ 1)
  conditions_fit true scanners autos checks are some named different = inl (all_named scanners autos checks are named)
  conditions_fit false scanners autos checks are some named different =
      inr (sources-length scanners autos checks are ∙ none_named scanners some named different)

  different_sources : (scanners : List Scanner) (autos : List Auto) (checks : List (List ℕ)) → AreAutomata enc scanners autos checks
      → linked.HaveDifferentConditions scanners → HaveDifferentConditions (sources_of marks acts scanners autos checks)
  different_sources [] autos checks are different = tt
  different_sources (scanner ∷ scanners) (auto ∷ autos) (list ∷ checks) are different = (
    each_source (λ (other : Source). other.cond ≢ scanner.cond) (λ (other : Scanner). other.cond ≢ scanner.cond)
        (λ other one list fits checked differs. differs) scanners autos checks are.2 different.0,
    different_sources scanners autos checks are.2 different.1,
  )
  different_sources (scanner ∷ scanners) (auto ∷ autos) [] are different = absurd are
  different_sources (scanner ∷ scanners) [] (list ∷ checks) are different = absurd are
  different_sources (scanner ∷ scanners) [] [] are different = absurd are

  -- ---- acts

  acts_writable : (scanners : List Scanner) (autos : List Auto) (checks : List (List ℕ)) → AreAutomata enc scanners autos checks
      → AllByRecursion (λ (scanner : Scanner). IfSome scanner.cond IsIdentifier) scanners → (list : List Act)
      → AllByRecursion (λ (act : Act). IfSome act.goes (λ cond. Contains (map (λ (scanner : Scanner). scanner.cond) scanners) (Some cond))) list
      → AllByRecursion (λ (act : Act). act.code ≡ None → IsSome act.goes) list → AllByRecursion (λ (act : Act). IsShort act.code) list
      → AllByRecursion (IsWritableAct (conds_of (sources_of marks acts scanners autos checks))) list
  acts_writable scanners autos checks are named [] targets complete short = tt
  acts_writable scanners autos checks are named (act ∷ list) targets complete short = (
    record {
      goes = goes act.goes targets.0;
      acts = ends act.code act.goes complete.0 short.0;
    },
    acts_writable scanners autos checks are named list targets.1 complete.1 short.1,
  )
    where
      goes : (o : Option (List ℕ)) → IfSome o (λ cond. Contains (map (λ (scanner : Scanner). scanner.cond) scanners) (Some cond))
          → IsOneOf (conds_of (sources_of marks acts scanners autos checks)) o
      goes None there = tt
      goes (Some cond) there = condition_there cond scanners autos checks are named there.0 there.1 there.2

      ends : (code target : Option (List ℕ)) → (code ≡ None → IsSome target) → IsShort code → ActsOrGoes code target
      ends None target complete short = complete refl
      ends (Some code) target complete short = omega (arith, short)

-- ---- scanners

-- what is known of a scanner
pub record IsKnown (enc : Enc) (names : Spellings) (conds : List (List ℕ)) (eof : Option ℕ) (marks : Marks) (acts : List Act) (scanner : Scanner) : Type 0 where
  pub ends : AllByRecursion (EndsAs names conds (endings_by marks acts scanner.set.rules)) scanner.set.rules
  pub bare : AllByRecursion IsBareEnd scanner.set.rules
  pub limits : IsWithinLimits scanner.set.rules
  pub paired : has_end scanner ≡ is_some eof
  pub label : IfSome scanner.cond IsIdentifier

module _ (enc : Enc) (names : Spellings) (conds : List (List ℕ)) (eof : Option ℕ) (marks : Marks) (acts : List Act)
    (few : length acts ≤ 2 * SOURCE_LIMIT) (writable : AllByRecursion (IsWritableAct conds) acts) where
  pub all_known : (scanners : List Scanner) → AllByRecursion (IsFit (length acts)) scanners → AllByRecursion (IsScannerWithin enc) scanners
      → AllByRecursion (λ (scanner : Scanner). has_end scanner ≡ is_some eof) scanners
      → AllByRecursion (λ (scanner : Scanner). IfSome scanner.cond IsIdentifier) scanners
      → AllByRecursion (λ (scanner : Scanner). HaveTagNames names scanner.set.rules) scanners → HaveBareEnds scanners
      → AllByRecursion HaveShortLines (map (λ (scanner : Scanner). endings_by marks acts scanner.set.rules) scanners)
      → AllByRecursion (IsKnown enc names conds eof marks acts) scanners
  all_known [] fit within paired labels named bare lines = tt
  all_known (scanner ∷ scanners) fit within paired labels named bare lines = (
    record {
      ends = rules_end names conds (endings_by marks acts scanner.set.rules) marks acts few writable lines.0 scanner.set.rules
          (own-apart marks acts scanner.set.rules within.0.limits.numbers)
          (each-All (λ (rule : Rule). (0 < rule.number) × (rule.number ≤ length acts)) scanner.set.rules fit.0.numbers) named.0 within.0.limits.tags;
      bare = bare.0;
      limits = within.0.limits;
      paired = paired.0;
      label = labels.0;
    },
    all_known scanners fit.1 within.1 paired.1 labels.1 named.1 bare.1 lines.1,
  )

-- the condition of a scanner, if it has one, is an identifier
is_label : (cond : Option (List ℕ)) → IfSome cond IsIdentifier → IsLabel cond
is_label None is = tt
is_label (Some cond) is = is

-- a scanner with its automaton fits
scanner_fits : (enc : Enc) (form : Form) (conds : List (List ℕ)) (marks : Marks) (acts : List Act) (scanner : Scanner) (auto : Auto) (list : List ℕ)
    → form.enc ≡ enc → IsFreeOfTable form.format scanner → FitsRules enc (patterns_of scanner.set.rules) auto → AreChecks auto list
    → IsKnown enc form.names conds form.eof marks acts scanner → IsFitScanner form conds (source_of enc marks acts scanner auto list)
scanner_fits enc form conds marks acts scanner auto list same tables fits checks known =
    let endings : ℕ → Ending = endings_by marks acts scanner.set.rules in
    record {
      label = is_label scanner.cond known.label;
      formed = fits.formed;
      units = subst (λ (one : Enc). All (λ (state : State). All (λ (edge : Edge). edge.hi ≤ greatest_unit one) state.edges) auto.states) (sym same) fits.units;
      agreed = fits.agreed;
      accepts = accepts_fit form.names conds endings enc scanner.set.rules auto.states known.ends fits.rules;
      checks = checks;
      tags = λ three k d lt. tags (endings_without_table marks acts scanner.set.rules (tables three)) (slice_index_or auto.states k d).accept;
      end = end_fits form.names conds endings enc form (source_of enc marks acts scanner auto list) scanner.set.rules refl refl known.ends known.bare
          known.limits.numbers fits.rules known.paired;
    }
  where
    tags : ((number : ℕ) → list_any begins_table (endings_by marks acts scanner.set.rules number).tags ≡ false) → (accept : Option Accept)
        → IfSome accept (λ one. list_any begins_table (endings_by marks acts scanner.set.rules one.rule).tags ≡ false)
    tags none None = tt
    tags none (Some accept) = none accept.rule

-- ---- all

module _ (options : Options) (resolved : Resolved) (autos : List Auto) (checks : List (List ℕ)) (number first_state : ℕ) (own_switch : Bool) (line : Option LineMark) (marks : Marks)
    (formed : IsWellFormed options resolved) (are : AreAutomata options.enc resolved.scanners autos checks)
    (lines : AllByRecursion HaveShortLines (map (λ (scanner : Scanner). endings_by marks resolved.acts scanner.set.rules) resolved.scanners)) where
  abbrev sources : List Source
  sources = sources_of marks resolved.acts resolved.scanners autos checks

  writable : AllByRecursion (IsWritableAct (conds_of sources)) resolved.acts
  writable =
      acts_writable options.enc marks resolved.acts resolved.scanners autos checks are formed.linked.identifiers resolved.acts formed.linked.targets
      formed.linked.complete (each-All (λ (act : Act). IsShort act.code) resolved.acts formed.fits.acts)

  pub scanners_known : AllByRecursion (IsKnown options.enc resolved.config.names (conds_of sources) resolved.config.eof marks resolved.acts) resolved.scanners
  scanners_known =
      all_known options.enc resolved.config.names (conds_of sources) resolved.config.eof marks resolved.acts formed.fits.few writable resolved.scanners
      (each-All (IsFit (length resolved.acts)) resolved.scanners formed.fits.scanners) formed.scanners formed.ends formed.linked.identifiers formed.tags formed.bare lines

  known_and_free : AllByRecursion (λ (scanner : Scanner).
      IsKnown options.enc resolved.config.names (conds_of sources) resolved.config.eof marks resolved.acts scanner × IsFreeOfTable options.format scanner)
      resolved.scanners
  known_and_free =
      both_each (IsKnown options.enc resolved.config.names (conds_of sources) resolved.config.eof marks resolved.acts) (IsFreeOfTable options.format)
      resolved.scanners scanners_known (IsFreeOfTable-each options.format resolved.scanners formed.no_table)

  pub all_fit : number < 2 ^ 64 → 0 < length resolved.scanners → first_state ≤ 4611686018427387904 → IsLine line
      → AreFit (form_of options resolved number first_state own_switch line) sources
  all_fit short some few told =
      let form = form_of options resolved number first_state own_switch line in
      record {
        some = subst (λ count. 0 < count) (sym (sources-length options.enc marks resolved.acts resolved.scanners autos checks are)) some;
        each = All-each (IsFitScanner form (conds_of sources)) sources
            (each_source options.enc marks resolved.acts (IsFitScanner form (conds_of sources))
            (λ (scanner : Scanner).
            IsKnown options.enc resolved.config.names (conds_of sources) resolved.config.eof marks resolved.acts scanner × IsFreeOfTable options.format scanner)
            (λ scanner auto list fits checked known.
            scanner_fits options.enc form (conds_of sources) marks resolved.acts scanner auto list refl known.1 fits checked known.0)
            resolved.scanners autos checks are known_and_free);
        conds = conditions_fit options.enc marks resolved.acts options.conds resolved.scanners autos checks are some formed.linked.named formed.linked.different;
        different = different_sources options.enc marks resolved.acts resolved.scanners autos checks are formed.linked.different;
        first_state = few;
        eof = formed.eof;
        names = formed.spellings;
        names_differ = formed.differ.0;
        no_primitive = formed.differ.1;
        no_table = λ three. formed.differ.2 (is_format_three-three options.format three);
        no_block_label = λ three.
            labels_apart options.enc marks resolved.acts number resolved.config.names resolved.scanners autos checks short are
            (formed.labels (is_format_three-three options.format three));
        line = told;
      }
