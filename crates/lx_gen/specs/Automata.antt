-- The automata of the scanners of a block, of which some are that of the first scanner with greater numbers of rules.
use Rattle.std.specs.Prelude.{◌≡◌, ℕ, List, [], ◌∷◌, map, Option, Some, None}
use Rattle.lx_auto.specs.declared.automaton.Auto.{Auto}
use Rattle.lx_regex.specs.Pattern.{patterns_of}
use Rattle.lx_renumber.specs.Renumbered.{renumbered, renumbered_pattern}
use Rattle.lx_rules.specs.declared.resolved.Scanner.{Scanner}
use Rattle.lx_gen.specs.declared.automata.ScannerAuto.{ScannerAuto}
use Rattle.lx_gen.specs.declared.automata.ScannerAuto.TheVariants.{Own, AsFirst}

-- by how much the numbers of rules are greater, where the automaton is that of the first scanner
abbrev pub by_of : ScannerAuto → Option ℕ
by_of (Own auto checks) = None
by_of (AsFirst by) = Some by

-- the automaton of a scanner, by that of the first one
abbrev pub auto_by : (first : Auto) → ScannerAuto → Auto
auto_by first (Own auto checks) = auto
auto_by first (AsFirst by) = renumbered by first

-- its checks, by those of the first one
abbrev pub checks_by : (first : List ℕ) → ScannerAuto → List ℕ
checks_by first (Own auto checks) = checks
checks_by first (AsFirst by) = first

-- the automata of scanners, of which the first one has its own
abbrev pub seen_autos : List ScannerAuto → List Auto
seen_autos [] = []
seen_autos (Own auto checks ∷ items) = auto ∷ map (auto_by auto) items
seen_autos (AsFirst by ∷ items) = []

-- their checks
abbrev pub seen_checks : List ScannerAuto → List (List ℕ)
seen_checks [] = []
seen_checks (Own auto checks ∷ items) = checks ∷ map (checks_by checks) items
seen_checks (AsFirst by ∷ items) = []

-- the rules of a scanner that has the automaton of the first one are those of the first one, but for their numbers
abbrev pub IsAlike : (all : List Scanner) → Scanner → ScannerAuto → Type 0
IsAlike all scanner (Own auto checks) = Unit {0}
IsAlike [] scanner (AsFirst by) = ⊥
IsAlike (first ∷ others) scanner (AsFirst by) = patterns_of scanner.set.rules ≡ map (renumbered_pattern by) (patterns_of first.set.rules)

abbrev pub AreAlikeAmong : (all : List Scanner) → List Scanner → List ScannerAuto → Type 0
AreAlikeAmong all (scanner ∷ scanners) (item ∷ items) = IsAlike all scanner item × AreAlikeAmong all scanners items
AreAlikeAmong all scanners items = Unit {0}

-- so are those of each scanner
abbrev pub AreAlike : List Scanner → List ScannerAuto → Type 0
AreAlike scanners items = AreAlikeAmong scanners scanners items
