-- The automata of a block's scanners, and their checks, one behind another.
use Rattle.std.proofs.Common.{◌≡◌, ◌≢◌, ℕ, suc, true, ◌<◌, ◌+◌, add-one, List, [], ◌∷◌, ◌++◌, length, drop, get_or, map, Option, Some, None, inl, inr, refl, sym, ap, subst, append_assoc, append-nil, ◌∙◌}
use Rattle.std.proofs.Math.Seq.{drop-cons}
use Rattle.std.specs.Prelude.{IfSome}
use Rattle.std.specs.List.{AllByRecursion}
use Rattle.lx_auto.specs.declared.automaton.Auto.{Auto}
use Rattle.lx_base.specs.declared.faults.Fault.{Fault}
use Rattle.lx_base.specs.declared.faults.Fault.TheVariants.{CoverTooLong}
use Rattle.lx_base.specs.declared.faults.Stop.{Stop}
use Rattle.lx_base.specs.declared.faults.Stop.TheVariants as stop
use Rattle.lx_base.specs.declared.places.Pos.{Pos}
use Rattle.lx_base.specs.declared.settings.Enc.{Enc}
use Rattle.lx_base.specs.declared.settings.Options.{Options}
use Rattle.lx_cover.specs.Cover.{IsFirstSumOver}
use Rattle.lx_cover.specs.declared.covering.TheConstants.{COVER_LIMIT}
use Rattle.lx_gen.proofs.SourceLists.{map-behind}
use Rattle.lx_gen.specs.Automata.{AreAlikeAmong, IsAlike, auto_by, checks_by, seen_autos, seen_checks}
use Rattle.lx_gen.specs.Generated.{AreAutomata, AreAutomataUnder}
use Rattle.lx_gen.specs.declared.automata.ScannerAuto.{ScannerAuto}
use Rattle.lx_gen.specs.declared.automata.ScannerAuto.TheVariants.{Own, AsFirst}
use Rattle.lx_fill.specs.Checks.{AreChecks}
use Rattle.lx_regex.specs.Order.{Policy}
use Rattle.lx_regex.specs.Pattern.{patterns_of, terms_of}
use Rattle.lx_regex.specs.declared.rules.Rule.{Rule}
use Rattle.lx_renumber.specs.Renumbered.{renumbered, renumbered_pattern}
use Rattle.lx_rules.specs.Within.{IsScannerWithin}
use Rattle.lx_rules.specs.declared.resolved.Act.{Act}
use Rattle.lx_rules.specs.declared.resolved.Scanner.{Scanner}
use Rattle.lx_tdfa.specs.Making.{StopsBy}
use Rattle.lx_compile.specs.Covering.{AreCoveredBy, IsCoveredWhere}
use Rattle.lx_compile.specs.Emittable.{AreAutosOf, AreChecksOf, IsMadeFor}
use Rattle.lx_compile.specs.Models.{AreMadeFor, BeginOwn, DiffersBy, HasFirst, IsFirst, IsItemFor, Serves, first_auto}
use Rattle.lx_compile.specs.Options.{asks_for_cover, policy_of}
use Rattle.lx_compile.specs.Reduced.{IsReduced}
use Rattle.lx_compile.specs.ScannerFaults.{AreFaultless, IsFaultOfScanners, IsFaultless, IsScannerFault, IsTooLarge, IsTooLong, StopsWithFault}
use Rattle.lx_compile.specs.declared.automata.Model.{Model}
use Rattle.lx_compile.proofs.RenumberedChecks.{AreChecks-renumbered}

-- the element at a place is the first one of those from there on
pub elements_from : {A : Type 0} (elements : List A) (i : ℕ) (element : A) → i < length elements → element ≡ get_or elements i element
    → drop i elements ≡ element ∷ drop (i + 1) elements
elements_from {A = A} elements i element lt at =
    rw add-one (drop-cons elements i element lt ∙ ap (λ (e : A). e ∷ drop (suc i) elements) (sym at))

-- ---- automata

-- the automaton of a scanner without a fault serves for its rules
pub Serves-of : (options : Options) (scanner : Scanner) (auto : Auto) → IsMadeFor options scanner auto → IsFaultless options scanner
    → Serves options scanner.set.rules auto
Serves-of options scanner auto is faultless = record { automaton = is.0; reduced = is.1; few = faultless.0 }

-- ---- one item more

-- the automaton and the checks of one item more, behind others
pub record StandsBehind (items : List ScannerAuto) (item : ScannerAuto) (auto : Auto) (list : List ℕ) : Type 0 where
  pub own : BeginOwn (items ++ item ∷ [])
  pub autos : seen_autos (items ++ item ∷ []) ≡ seen_autos items ++ auto ∷ []
  pub checks : seen_checks (items ++ item ∷ []) ≡ seen_checks items ++ list ∷ []

pub StandsBehind-own : (items : List ScannerAuto) (auto : Auto) (list : List ℕ) → BeginOwn items → StandsBehind items (Own auto list) auto list
StandsBehind-own [] auto list own = record { own = tt; autos = refl; checks = refl }
StandsBehind-own (Own first checks ∷ items) auto list own = record {
  own = tt;
  autos = ap (λ (autos : List Auto). first ∷ autos) (map-behind (auto_by first) items (Own auto list));
  checks = ap (λ (lists : List (List ℕ)). checks ∷ lists) (map-behind (checks_by checks) items (Own auto list));
}
StandsBehind-own (AsFirst by ∷ items) auto list own = absurd own

pub StandsBehind-first : (first : Auto) (checks : List ℕ) (items : List ScannerAuto) (by : ℕ)
    → StandsBehind (Own first checks ∷ items) (AsFirst by) (renumbered by first) checks
StandsBehind-first first checks items by = record {
  own = tt;
  autos = ap (λ (autos : List Auto). first ∷ autos) (map-behind (auto_by first) items (AsFirst by));
  checks = ap (λ (lists : List (List ℕ)). checks ∷ lists) (map-behind (checks_by checks) items (AsFirst by));
}

AreChecksOf-behind : (autos : List Auto) (checks : List (List ℕ)) (auto : Auto) (list : List ℕ) → AreChecksOf autos checks → AreChecks auto list
    → AreChecksOf (autos ++ auto ∷ []) (checks ++ list ∷ [])
AreChecksOf-behind [] [] auto list are is = (is, tt)
AreChecksOf-behind [] (one ∷ checks) auto list are is = absurd are
AreChecksOf-behind (other ∷ autos) [] auto list are is = absurd are
AreChecksOf-behind (other ∷ autos) (one ∷ checks) auto list are is = (are.0, AreChecksOf-behind autos checks auto list are.1 is)

-- the first automaton, where one stands behind others, which are none where its scanner is the first one
HasFirst-own : (options : Options) (scanners rest : List Scanner) (scanner : Scanner) (items : List ScannerAuto) (auto : Auto) (list : List ℕ)
    → HasFirst options scanners (first_auto items) → (items ≡ [] → scanner ∷ rest ≡ scanners) → Serves options scanner.set.rules auto
    → HasFirst options scanners (first_auto (items ++ Own auto list ∷ []))
HasFirst-own options scanners rest scanner [] auto list first begins serves =
    subst (λ all. HasFirst options all (Some auto)) (begins refl) serves
HasFirst-own options scanners rest scanner (Own one checks ∷ items) auto list first begins serves = first
HasFirst-own options scanners rest scanner (AsFirst by ∷ items) auto list first begins serves = first

some_behind : (items : List ScannerAuto) (item : ScannerAuto) → items ++ item ∷ [] ≢ []
some_behind [] item is = cc
some_behind (one ∷ items) item is = cc

module _ (options : Options) (number : ℕ) (at : Pos) (acts : List Act) where
  -- what holds behind some scanners, which have these automata and this text of covering words, where the others are left
  pub record HaveAutos (scanners rest : List Scanner) (items : List ScannerAuto) (text : List ℕ) : Type 0 where
    pub within : AllByRecursion (IsScannerWithin options.enc) rest
    pub own : BeginOwn items
    pub first : HasFirst options scanners (first_auto items)
    pub begins : items ≡ [] → rest ≡ scanners
    pub autos : (more : List Auto) → AreAutosOf options rest more → AreAutosOf options scanners (seen_autos items ++ more)
    pub checks : AreChecksOf (seen_autos items) (seen_checks items)
    pub alike : (more : List ScannerAuto) → AreAlikeAmong scanners rest more → AreAlikeAmong scanners scanners (items ++ more)
    pub covered : (more : List ℕ) → AreCoveredBy options number acts rest more → AreCoveredBy options number acts scanners (text ++ more)
    pub faultless : AreFaultless options rest → AreFaultless options scanners
    pub faults : (fault : Fault) → IsFaultOfScanners options at rest fault → IsFaultOfScanners options at scanners fault

  pub HaveAutos-start : (scanners : List Scanner) → AllByRecursion (IsScannerWithin options.enc) scanners → HaveAutos scanners scanners [] []
  HaveAutos-start scanners within = record {
    within = within;
    own = tt;
    first = tt;
    begins = λ none. refl;
    autos = λ more are. are;
    checks = tt;
    alike = λ more are. are;
    covered = λ more are. are;
    faultless = λ are. are;
    faults = λ fault is. is;
  }

  module _ (scanners : List Scanner) (scanner : Scanner) (rest : List Scanner) (items : List ScannerAuto) (text after own : List ℕ)
      (have : HaveAutos scanners (scanner ∷ rest) items text) (faultless : IsFaultless options scanner)
      (covered : IsCoveredWhere options acts scanner (asks_for_cover options) number own) (text_is : after ≡ text ++ own) where
    behind : (item : ScannerAuto) (auto : Auto) (list : List ℕ) → StandsBehind items item auto list → IsMadeFor options scanner auto → AreChecks auto list
        → IsAlike scanners scanner item → HasFirst options scanners (first_auto (items ++ item ∷ [])) → HaveAutos scanners rest (items ++ item ∷ []) after
    behind item auto list stands made checked alike first = record {
      within = have.within.1;
      own = stands.own;
      first = first;
      begins = λ none. absurd (some_behind items item none);
      autos = λ more are.
          subst (λ (autos : List Auto). AreAutosOf options scanners (autos ++ more)) (sym stands.autos)
          (rw append_assoc (have.autos (auto ∷ more) (made, are)));
      checks = rw (stands.autos, stands.checks)
          (AreChecksOf-behind (seen_autos items) (seen_checks items) auto list have.checks checked);
      alike = λ more are. rw append_assoc (have.alike (item ∷ more) (alike, are));
      covered = λ more are.
          subst (AreCoveredBy options number acts scanners) (sym (append_assoc text own more) ∙ ap (λ (front : List ℕ). front ++ more) (sym text_is))
          (have.covered (own ++ more) (own, more, covered, are, refl));
      faultless = λ others. have.faultless (faultless, others);
      faults = λ fault found. have.faults fault (inr (faultless, found));
    }

    by_first : (all : List Scanner) (items : List ScannerAuto) (model : Model) (by : ℕ) → IsFirst all items model → DiffersBy options model scanner by
        → AreChecksOf (seen_autos items) (seen_checks items)
        → (auto : Auto) × (list : List ℕ) × StandsBehind items (AsFirst by) auto list × IsMadeFor options scanner auto × AreChecks auto list
        × IsAlike all scanner (AsFirst by) × (first_auto (items ++ AsFirst by ∷ []) ≡ first_auto items)
    by_first [] items model by is differs checks = absurd is
    by_first (first ∷ all) [] model by is differs checks = absurd is
    by_first (first ∷ all) (AsFirst one ∷ items) model by is differs checks = absurd is
    by_first (first ∷ all) (Own auto list ∷ items) model by is differs checks = (
      renumbered by auto,
      list,
      StandsBehind-first auto list items by,
      subst (λ (one : Auto). IsMadeFor options scanner (renumbered by one)) is.1 differs.made,
      AreChecks-renumbered by auto list checks.0,
      subst (λ (rules : List Rule). patterns_of scanner.set.rules ≡ map (renumbered_pattern by) (patterns_of rules)) is.0 differs.alike,
      refl,
    )

    pub HaveAutos-next : (model : Option Model) (item : ScannerAuto) → IfSome model (IsFirst scanners items) → IsItemFor options model scanner item
        → HaveAutos scanners rest (items ++ item ∷ []) after
    HaveAutos-next model (Own auto list) first is =
        behind (Own auto list) auto list (StandsBehind-own items auto list have.own) is.0 is.1 tt
        (HasFirst-own options scanners rest scanner items auto list have.first have.begins (Serves-of options scanner auto is.0 faultless))
    HaveAutos-next None (AsFirst by) first is = absurd is
    HaveAutos-next (Some model) (AsFirst by) first is =
        let found = by_first scanners items model by first is have.checks in
        behind (AsFirst by) found.0 found.1 found.2 found.3 found.4 found.5
        (subst (HasFirst options scanners) (sym found.6) have.first)

  pub HaveAutos-end : (scanners : List Scanner) (items : List ScannerAuto) (text : List ℕ) → HaveAutos scanners [] items text
      → AreMadeFor options scanners items × AreFaultless options scanners × AreCoveredBy options number acts scanners text
  HaveAutos-end scanners items text have = (
    record {
      own = have.own;
      first = have.first;
      autos = subst (AreAutosOf options scanners) (append-nil (seen_autos items)) (have.autos [] tt);
      checks = have.checks;
      alike = subst (AreAlikeAmong scanners scanners) (append-nil items) (have.alike [] tt);
    },
    have.faultless tt,
    subst (AreCoveredBy options number acts scanners) (append-nil text) (have.covered [] refl),
  )

  -- what stops one of the scanners stops the block
  pub StopsWithFault-scanner : (scanners : List Scanner) (scanner : Scanner) (rest : List Scanner) (items : List ScannerAuto) (text : List ℕ) (stopped : Stop)
      → HaveAutos scanners (scanner ∷ rest) items text → StopsWithFault (IsScannerFault options at scanner) stopped
      → StopsWithFault (IsFaultOfScanners options at scanners) stopped
  StopsWithFault-scanner scanners scanner rest items text stop.Memory have stops = tt
  StopsWithFault-scanner scanners scanner rest items text (stop.Fault fault) have stops = have.faults fault (inl stops)

-- a scanner with too many kernels stops with that fault
pub StopsWithFault-kernels : (options : Options) (at : Pos) (scanner : Scanner) (stopped : Stop) → StopsBy at (IsTooLarge options scanner) stopped
    → StopsWithFault (IsScannerFault options at scanner) stopped
StopsWithFault-kernels options at scanner stop.Memory stops = tt
StopsWithFault-kernels options at scanner (stop.Fault fault) stops = inl (stops.1, stops.0)

-- covering words that are asked for, and are too long
pub StopsWithFault-long : (options : Options) (at : Pos) (scanner : Scanner) (stopped : Stop) → asks_for_cover options ≡ true
    → StopsWithFault
    (λ fault. (sum : ℕ) × IsFirstSumOver options.enc (terms_of (patterns_of scanner.set.rules)) COVER_LIMIT sum × (fault ≡ CoverTooLong at sum)) stopped
    → StopsWithFault (λ fault. (sum : ℕ) × IsTooLong options scanner sum × (fault ≡ CoverTooLong at sum)) stopped
StopsWithFault-long options at scanner stop.Memory asked stops = tt
StopsWithFault-long options at scanner (stop.Fault fault) asked stops = (stops.0, (asked, stops.1), stops.2)

-- one without stops with that of its covering words
pub StopsWithFault-cover : (options : Options) (at : Pos) (scanner : Scanner) (stopped : Stop) → (IsTooLarge options scanner → ⊥)
    → StopsWithFault (λ fault. (sum : ℕ) × IsTooLong options scanner sum × (fault ≡ CoverTooLong at sum)) stopped
    → StopsWithFault (IsScannerFault options at scanner) stopped
StopsWithFault-cover options at scanner stop.Memory small stops = tt
StopsWithFault-cover options at scanner (stop.Fault fault) small stops = inr (small, stops)

pub are_reduced : (options : Options) (scanners : List Scanner) (autos : List Auto) → AreAutosOf options scanners autos → AllByRecursion IsReduced autos
are_reduced options [] [] are = tt
are_reduced options [] (auto ∷ autos) are = absurd are
are_reduced options (scanner ∷ scanners) [] are = absurd are
are_reduced options (scanner ∷ scanners) (auto ∷ autos) are = (are.0.1, are_reduced options scanners autos are.1)

-- ---- automata and checks

pub AreAutomataUnder-of : (options : Options) (scanners : List Scanner) (autos : List Auto) (checks : List (List ℕ)) → AreAutosOf options scanners autos
    → AreChecksOf autos checks → AreAutomataUnder (policy_of options) options.enc scanners autos checks
AreAutomataUnder-of options [] [] [] are have = tt
AreAutomataUnder-of options [] [] (list ∷ checks) are have = absurd have
AreAutomataUnder-of options [] (auto ∷ autos) checks are have = absurd are
AreAutomataUnder-of options (scanner ∷ scanners) [] checks are have = absurd are
AreAutomataUnder-of options (scanner ∷ scanners) (auto ∷ autos) [] are have = absurd have
AreAutomataUnder-of options (scanner ∷ scanners) (auto ∷ autos) (list ∷ checks) are have =
    (are.0.0, have.0, AreAutomataUnder-of options scanners autos checks are.1 have.1)

-- automata of rules fit them
pub AreAutomata-of : (policy : Policy) (enc : Enc) (scanners : List Scanner) (autos : List Auto) (checks : List (List ℕ)) → AreAutomataUnder policy enc scanners autos checks
    → AreAutomata enc scanners autos checks
AreAutomata-of policy enc [] [] [] are = tt
AreAutomata-of policy enc [] [] (list ∷ checks) are = absurd are
AreAutomata-of policy enc [] (auto ∷ autos) checks are = absurd are
AreAutomata-of policy enc (scanner ∷ scanners) [] checks are = absurd are
AreAutomata-of policy enc (scanner ∷ scanners) (auto ∷ autos) [] are = absurd are
AreAutomata-of policy enc (scanner ∷ scanners) (auto ∷ autos) (list ∷ checks) are =
    (are.0.fits, are.1, AreAutomata-of policy enc scanners autos checks are.2)
