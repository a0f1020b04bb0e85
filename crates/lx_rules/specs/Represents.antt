-- What the code keeps of what holds from block to block.
use Rattle.std.specs.Prelude.{◌≡◌, ◌≤◌, Bool, true, false, [], map, length, All, Option, Some, None}
use Rattle.lx_base.specs.declared.blocks.BlockKind.{BlockKind}
use Rattle.lx_base.specs.declared.blocks.BlockKind.TheVariants as block
use Rattle.lx_base.specs.declared.limits.TheConstants.{SOURCE_LIMIT}
use Rattle.lx_exprs.specs.FitDefinitions.{DefinitionsFit}
use Rattle.lx_exprs.specs.Seen.{definitions_view}
use Rattle.lx_rules.specs.declared.environment.Env.{Env}
use Rattle.lx_rules.specs.declared.environment.KeptBlock as code
use Rattle.lx_rules.specs.declared.resolved.Act.{Act}
use Rattle.lx_rules.specs.Environments.{Environment, KeptBlock}
use Rattle.lx_rules.specs.FitScanners.{IsShort}
use Rattle.lx_rules.specs.Kept.{AreKept}
use Rattle.lx_rules.specs.Rules.{RuleOf}
use Rattle.lx_rules.specs.Seen.{rules_view, settings_view}

-- this is kept of a rules block
pub record IsKeptOf (held : code.KeptBlock) (kept : KeptBlock) : Type 0 where
  pub definitions : definitions_view held.definitions ≡ kept.definitions
  pub settings : settings_view held.settings ≡ kept.settings
  pub acts : held.acts.items ≡ map (λ (rule : RuleOf). rule.act) kept.rules
  pub rules : AreKept kept.rules (rules_view held.rules) held.conds
  pub fit : DefinitionsFit held.definitions
  pub short : All (λ (act : Act). IsShort act.code) held.acts.items
  pub few : length held.acts.items ≤ SOURCE_LIMIT

abbrev pub MayBeKept : Option code.KeptBlock → Option KeptBlock → Type 0
MayBeKept None None = Unit {0}
MayBeKept None (Some kept) = ⊥
MayBeKept (Some held) None = ⊥
MayBeKept (Some held) (Some kept) = IsKeptOf held kept

-- this is kept of what holds behind a block
pub record Represents (env : Env) (environment : Environment) : Type 0 where
  pub definitions : definitions_view env.definitions ≡ environment.definitions
  pub settings : settings_view env.settings ≡ environment.settings
  pub kept : MayBeKept env.kept environment.kept
  pub fit : DefinitionsFit env.definitions

-- This is kept of what holds before a block of this kind, while its items are taken: a block that leaves what it knows takes the
-- definitions over.
abbrev pub IsBefore : BlockKind → Environment → Env → (is_use : Bool) → Type 0
IsBefore block.Rules environment before is_use = Represents before environment × (is_use ≡ false)
IsBefore block.Use environment before is_use = Represents before environment × (is_use ≡ true)
IsBefore kind environment before is_use =
    (definitions_view before.definitions ≡ []) × MayBeKept before.kept environment.kept × (is_use ≡ false)
