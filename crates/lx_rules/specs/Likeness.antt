-- When two results of blocks are alike: their expressions are compared as terms.
use Rattle.std.specs.Prelude.{◌≡◌, List, [], ◌∷◌, map}
use Rattle.lx_regex.specs.Pattern.{patterns_of}
use Rattle.lx_rules.specs.Blocks.{given_names}
use Rattle.lx_rules.specs.declared.resolved.Resolved.{Resolved}
use Rattle.lx_rules.specs.declared.resolved.Scanner.{Scanner}

-- two scanners have the same condition and the same rules, whose tags have the same names
pub record HasSameRules (scanner other : Scanner) : Type 0 where
  pub cond : scanner.cond ≡ other.cond
  pub patterns : patterns_of scanner.set.rules ≡ patterns_of other.set.rules
  pub names : map given_names scanner.set.rules ≡ map given_names other.set.rules

-- so it is with scanners, one by one
abbrev pub HaveSameRules : List Scanner → List Scanner → Type 0
HaveSameRules [] [] = Unit {0}
HaveSameRules [] (other ∷ others) = ⊥
HaveSameRules (scanner ∷ scanners) [] = ⊥
HaveSameRules (scanner ∷ scanners) (other ∷ others) = HasSameRules scanner other × HaveSameRules scanners others

-- what blocks resolve to is alike: the actions and the configurations are the same, and the scanners have the same rules
pub record AreAlike (resolved other : Resolved) : Type 0 where
  pub acts : resolved.acts ≡ other.acts
  pub config : resolved.config ≡ other.config
  pub scanners : HaveSameRules resolved.scanners other.scanners
