-- How the scanners of a block and the actions of its rules belong together, whatever the block says.
use Rattle.std.specs.Prelude.{◌≡◌, ◌≢◌, ℕ, ◌==◌, Bool, List, [], ◌∷◌, length, map, count_by, Contains, Some, None, IfSome, IsSome, is_some}
use Rattle.std.specs.List.{AllByRecursion, range_with_len}
use Rattle.lx_base.specs.Letters.{IsIdentifier}
use Rattle.lx_regex.specs.declared.rules.Rule.{Rule}
use Rattle.lx_rules.specs.declared.resolved.Act.{Act}
use Rattle.lx_rules.specs.declared.resolved.Resolved.{Resolved}
use Rattle.lx_rules.specs.declared.resolved.Scanner.{Scanner}

-- no two scanners have the same condition, and so at most one has none
abbrev pub HaveDifferentConditions : List Scanner → Type 0
HaveDifferentConditions [] = Unit {0}
HaveDifferentConditions (scanner ∷ scanners) =
    AllByRecursion (λ (other : Scanner). other.cond ≢ scanner.cond) scanners × HaveDifferentConditions scanners

-- exactly one of the actions has the number
abbrev pub HasOneAct : List Act → ℕ → Type 0
HasOneAct acts number = count_by (λ (act : Act). act.number == number) acts ≡ 1

-- Where conditions are in use, each scanner has one, and no two the same; and it is an identifier. The actions are numbered in
-- their order, and each rule of a scanner has exactly one. A rule without an action goes to another condition, and each condition
-- that a rule goes to is that of a scanner.
pub record AreLinked (conds : Bool) (resolved : Resolved) : Type 0 where
  pub named : AllByRecursion (λ (scanner : Scanner). is_some scanner.cond ≡ conds) resolved.scanners
  pub identifiers : AllByRecursion (λ (scanner : Scanner). IfSome scanner.cond IsIdentifier) resolved.scanners
  pub different : HaveDifferentConditions resolved.scanners
  pub numbered : map (λ (act : Act). act.number) resolved.acts ≡ range_with_len 1 (length resolved.acts)
  pub acts : AllByRecursion (λ (scanner : Scanner). AllByRecursion (λ (rule : Rule). HasOneAct resolved.acts rule.number) scanner.set.rules) resolved.scanners
  pub complete : AllByRecursion (λ (act : Act). act.code ≡ None → IsSome act.goes) resolved.acts
  pub targets : AllByRecursion (λ (act : Act). IfSome act.goes (λ cond. Contains (map (λ (scanner : Scanner). scanner.cond) resolved.scanners) (Some cond))) resolved.acts
