-- What holds of what blocks resolve to, whatever they say.
use Rattle.lx_base.specs.declared.limits.TheConstants.{SIZE_LIMIT, SOURCE_LIMIT}
use Rattle.lx_exprs.specs.FitDefinitions.{DefinitionsFit}
use Rattle.std.specs.Prelude.{ℕ, ◌+◌, ◌*◌, ◌<◌, ◌≤◌, List, length, All, Option, Some, None}
use Rattle.std.specs.List.{AllByRecursion}
use Rattle.lx_regex.specs.Kinds.{HasRightKinds}
use Rattle.lx_regex.specs.Limits.{end_count, sizes_of}
use Rattle.lx_regex.specs.declared.rules.Rule.{Rule}
use Rattle.lx_rules.specs.declared.environment.KeptBlock.{KeptBlock}
use Rattle.lx_rules.specs.declared.items.Known.{Known}
use Rattle.lx_rules.specs.declared.resolved.Act.{Act}
use Rattle.lx_rules.specs.declared.resolved.Scanner.{Scanner}
use Rattle.lx_rules.specs.declared.resolved.Resolved.{Resolved}

-- the definitions that are kept of a rules block are fit
abbrev pub KeptFits : Option KeptBlock → Type 0
KeptFits None = Unit {0}
KeptFits (Some block) = DefinitionsFit block.definitions

-- each definition that is known is fit
abbrev pub HasFitDefinitions : Known → Type 0
HasFitDefinitions known = KeptFits known.before.kept × DefinitionsFit known.before.definitions × DefinitionsFit known.own

-- a scanner is within the limit on its size, which each of its rules but `$` adds 1 to at least; its rules have acts, which are
-- as many as this; and the tags of their expressions are of the kinds that the rules say
pub record IsFit (acts : ℕ) (scanner : Scanner) : Type 0 where
  pub size : sizes_of scanner.set.rules ≤ SIZE_LIMIT
  pub few : length scanner.set.rules ≤ SIZE_LIMIT + end_count scanner.set.rules
  pub numbers : All (λ (rule : Rule). (0 < rule.number) × (rule.number ≤ acts)) scanner.set.rules
  pub kinds : AllByRecursion HasRightKinds scanner.set.rules

-- an action is no longer than a source
abbrev pub IsShort : Option (List ℕ) → Type 0
IsShort None = Unit {0}
IsShort (Some code) = length code ≤ SOURCE_LIMIT

-- what a block resolves to is within the limits of a scanner, and the rule of number k has the k-th action. It may have the rules
-- of two blocks.
pub record FitsLimits (resolved : Resolved) : Type 0 where
  pub scanners : All (IsFit (length resolved.acts)) resolved.scanners
  pub acts : All (λ (act : Act). IsShort act.code) resolved.acts
  pub few : length resolved.acts ≤ 2 * SOURCE_LIMIT
