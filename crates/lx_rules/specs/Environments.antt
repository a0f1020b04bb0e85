-- What holds from block to block.
use Rattle.std.specs.Prelude.{ℕ, zero, suc, Bool, true, List, [], ◌∷◌, Option, Some, None, slice_index_or, unwrap_or}
use Rattle.std.specs.Option.{option_or}
use Rattle.lx_base.specs.Names.{Spellings, usual_names}
use Rattle.lx_exprs.specs.Defined.{Definition}
use Rattle.lx_rules.specs.Rules.{RuleOf}
use Rattle.lx_rules.specs.declared.environment.Setting.{Setting}
use Rattle.lx_rules.specs.declared.environment.Setting.TheVariants as set
use Rattle.lx_rules.specs.declared.resolved.Config.{Config}

-- The configurations that are set, each with its last value: spellings in the order of the usual ones, where those behind the end
-- of the list are not set; the code unit at the end of the input, which may be set to none; and whether refills are enabled.
pub record Settings : Type 0 where
  pub names : List (Option (List ℕ))
  pub eof : Option (Option ℕ)
  pub fill : Option Bool

-- nothing is set
abbrev pub no_settings : Settings
no_settings = record { names = []; eof = None; fill = None }

-- the spellings that are set where the one at this place is this word
abbrev pub with_name : List (Option (List ℕ)) → (place : ℕ) → (word : List ℕ) → List (Option (List ℕ))
with_name [] zero word = Some word ∷ []
with_name [] (suc place) word = None ∷ with_name [] place word
with_name (name ∷ names) zero word = Some word ∷ names
with_name (name ∷ names) (suc place) word = name ∷ with_name names place word

-- what is set where one configuration more is
abbrev pub with_setting : Settings → Setting → Settings
with_setting settings (set.Spelling place word) =
    record { names = with_name settings.names place word; eof = settings.eof; fill = settings.fill }
with_setting settings (set.Eof unit) = record { names = settings.names; eof = Some unit; fill = settings.fill }
with_setting settings (set.Fill is_enabled) = record { names = settings.names; eof = settings.eof; fill = Some is_enabled }
with_setting settings set.Nothing = settings

-- the spellings that are set, and else the usual ones
abbrev pub spelled : List (Option (List ℕ)) → (usual : Spellings) → Spellings
spelled [] usual = usual
spelled (name ∷ names) [] = []
spelled (name ∷ names) (word ∷ usual) = unwrap_or name word ∷ spelled names usual

-- the spelling at a place, if one is set there, and else the usual one
abbrev pub name_at : (names : List (Option (List ℕ))) → (place : ℕ) → (usual : List ℕ) → List ℕ
name_at names place usual = unwrap_or (slice_index_or names place None) usual

-- the configuration with these settings: what is not set has its default
abbrev pub config_of : Settings → Config
config_of settings =
    record { names = spelled settings.names usual_names; eof = unwrap_or settings.eof None; fill = unwrap_or settings.fill true }

-- what is set here, and else there
abbrev pub names_over : (here there : List (Option (List ℕ))) → List (Option (List ℕ))
names_over [] there = there
names_over (name ∷ here) [] = name ∷ here
names_over (name ∷ here) (other ∷ there) = option_or name other ∷ names_over here there

abbrev pub settings_over : (here there : Settings) → Settings
settings_over here there =
    record { names = names_over here.names there.names; eof = option_or here.eof there.eof; fill = option_or here.fill there.fill }

-- what is kept of a rules block: its definitions, what it sets, and its rules
pub record KeptBlock : Type 0 where
  pub definitions : List Definition
  pub settings : Settings
  pub rules : List RuleOf

-- what holds behind a block for the blocks after it: its definitions, in order, what is set, and the last rules block
pub record Environment : Type 0 where
  pub definitions : List Definition
  pub settings : Settings
  pub kept : Option KeptBlock

-- what holds before the first block
abbrev pub first_environment : Environment
first_environment = record { definitions = []; settings = no_settings; kept = None }
