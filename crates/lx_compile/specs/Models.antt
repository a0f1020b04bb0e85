-- Automata of which those of other scanners are made, and what the automata of a block's scanners are.
use Rattle.std.specs.Prelude.{◌≡◌, ℕ, List, [], ◌∷◌, map, Option, Some, None, false}
use Rattle.lx_auto.specs.declared.automaton.Auto.{Auto}
use Rattle.lx_base.specs.declared.settings.Options.{Options}
use Rattle.lx_fill.specs.Checks.{AreChecks}
use Rattle.lx_gen.specs.Automata.{AreAlike, seen_autos, seen_checks}
use Rattle.lx_gen.specs.declared.automata.ScannerAuto.{ScannerAuto}
use Rattle.lx_gen.specs.declared.automata.ScannerAuto.TheVariants.{Own, AsFirst}
use Rattle.lx_regex.specs.Pattern.{patterns_of, terms_of}
use Rattle.lx_regex.specs.declared.rules.Rule.{Rule}
use Rattle.lx_renumber.specs.Renumbered.{renumbered, renumbered_pattern}
use Rattle.lx_rules.specs.declared.resolved.Scanner.{Scanner}
use Rattle.lx_tdfa.specs.Promise.{IsAutoUnder}
use Rattle.lx_compile.specs.Emittable.{AreAutosOf, AreChecksOf, IsMadeFor}
use Rattle.lx_compile.specs.Options.{asks_for_cover, policy_of}
use Rattle.lx_compile.specs.Reduced.{IsReduced}
use Rattle.lx_compile.specs.ScannerFaults.{AreTooManyFor, IsFaultless}
use Rattle.lx_compile.specs.declared.automata.Kept.{Kept}
use Rattle.lx_compile.specs.declared.automata.Model.{Model}

-- the first scanner, if there is one, has an automaton of its own
abbrev pub BeginOwn : List ScannerAuto → Type 0
BeginOwn [] = Unit {0}
BeginOwn (Own auto checks ∷ items) = Unit {0}
BeginOwn (AsFirst by ∷ items) = ⊥

-- which is this
abbrev pub first_auto : List ScannerAuto → Option Auto
first_auto [] = None
first_auto (Own auto checks ∷ items) = Some auto
first_auto (AsFirst by ∷ items) = None

-- a model is the first scanner with its automaton
abbrev pub IsFirst : List Scanner → List ScannerAuto → Model → Type 0
IsFirst (scanner ∷ scanners) (Own auto checks ∷ items) model = (model.rules.now ≡ scanner.set.rules) × (model.auto.now ≡ auto)
IsFirst scanners items model = ⊥

module _ (options : Options) where
  -- it is the automaton of rules that have not too many kernels, by the trees that are meant, with no more in it than has to be
  pub record Serves (rules : List Rule) (auto : Auto) : Type 0 where
    pub automaton : IsAutoUnder (policy_of options) options.enc (patterns_of rules) auto
    pub reduced : IsReduced auto
    pub few : AreTooManyFor options (terms_of (patterns_of rules)) → ⊥

  abbrev pub IsModel : Model → Type 0
  IsModel model = Serves model.rules.now model.auto.now

  abbrev pub IsKept : Kept → Type 0
  IsKept kept = Serves kept.scanner.set.rules kept.auto

  -- the first automaton serves for the rules of the first scanner, if there are both
  abbrev pub HasFirst : List Scanner → Option Auto → Type 0
  HasFirst scanners None = Unit {0}
  HasFirst [] (Some auto) = Unit {0}
  HasFirst (scanner ∷ scanners) (Some auto) = Serves scanner.set.rules auto

  -- the rules of a scanner are those of a model, with numbers that are greater by so much, and so its automaton is that of the model;
  -- it has no fault, and no covering words are asked for
  pub record DiffersBy (model : Model) (scanner : Scanner) (by : ℕ) : Type 0 where
    pub alike : patterns_of scanner.set.rules ≡ map (renumbered_pattern by) (patterns_of model.rules.now)
    pub made : IsMadeFor options scanner (renumbered by model.auto.now)
    pub faultless : IsFaultless options scanner
    pub unasked : asks_for_cover options ≡ false

  abbrev pub Differs : Option Model → Scanner → (by : ℕ) → Type 0
  Differs None scanner by = ⊥
  Differs (Some model) scanner by = DiffersBy model scanner by

  -- the scanner has an automaton of its own with its checks, or that of the first scanner, if there is a model of that
  abbrev pub IsItemFor : (first : Option Model) → Scanner → ScannerAuto → Type 0
  IsItemFor first scanner (Own auto checks) = IsMadeFor options scanner auto × AreChecks auto checks
  IsItemFor first scanner (AsFirst by) = Differs first scanner by

  -- the automata of a block's scanners with their checks
  pub record AreMadeFor (scanners : List Scanner) (items : List ScannerAuto) : Type 0 where
    pub own : BeginOwn items
    pub first : HasFirst scanners (first_auto items)
    pub autos : AreAutosOf options scanners (seen_autos items)
    pub checks : AreChecksOf (seen_autos items) (seen_checks items)
    pub alike : AreAlike scanners items
