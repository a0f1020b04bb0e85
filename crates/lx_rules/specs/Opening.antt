-- What the code knows before the items of a block.
use Rattle.std.specs.Prelude.{ℕ, ◌≤◌, length, true}
use Rattle.lx_base.specs.declared.blocks.BlockKind.{BlockKind}
use Rattle.lx_base.specs.declared.blocks.BlockKind.TheVariants as block
use Rattle.lx_base.specs.declared.limits.TheConstants.{SOURCE_LIMIT}
use Rattle.lx_rules.specs.declared.environment.Env.{Env}
use Rattle.lx_rules.specs.declared.environment.KeptBlock.{KeptBlock}
use Rattle.lx_rules.specs.declared.items.Known.{Known}
use Rattle.lx_rules.specs.Environments.{Environment}
use Rattle.lx_rules.specs.Items.{first_state}
use Rattle.lx_rules.specs.Keeping.{Holds}
use Rattle.lx_rules.specs.Represents.{IsBefore}

-- what is known before the items of a block that takes this over from a rules block
abbrev pub known_over : (before : Env) → (taken : KeptBlock) → Known
known_over before taken = record {
  before = before;
  is_use = true;
  own = taken.definitions;
  settings = taken.settings;
  rules = taken.rules;
  acts = taken.acts;
  conds = taken.conds;
}

-- so many rules a block of this kind has at most before its items
abbrev pub most_before : BlockKind → ℕ
most_before block.Use = SOURCE_LIMIT
most_before kind = 0

-- a block of this kind is opened where this holds before it
pub record IsOpened (kind : BlockKind) (environment : Environment) (known : Known) : Type 0 where
  pub holds : Holds known (first_state kind environment)
  pub before : IsBefore kind environment known.before known.is_use
  pub few : length known.acts.items ≤ most_before kind
