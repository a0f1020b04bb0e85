-- Environments whose configurations a scanner may have.
use Rattle.std.specs.Prelude.{◌≡◌, ℕ, suc, ◌≤◌, true, List, [], ◌∷◌, length, Option, Some, None, IfSome}
use Rattle.lx_base.specs.Allowed.{may_spell}
use Rattle.lx_base.specs.Spelling.{greatest_unit}
use Rattle.lx_base.specs.declared.limits.TheConstants.{SOURCE_LIMIT}
use Rattle.lx_base.specs.declared.settings.Enc.{Enc}
use Rattle.lx_rules.specs.Environments.{Environment, KeptBlock, Settings}

-- each spelling that is set is one that the name at its place, from this one on, may have; and it is no longer than a source
abbrev pub AreNamesAllowed : (place : ℕ) → List (Option (List ℕ)) → Type 0
AreNamesAllowed place [] = Unit {0}
AreNamesAllowed place (None ∷ names) = AreNamesAllowed (suc place) names
AreNamesAllowed place (Some word ∷ names) = (may_spell place word ≡ true) × (length word ≤ SOURCE_LIMIT) × AreNamesAllowed (suc place) names

-- the code unit at the end of the input, if there is one, is one of the encoding
abbrev pub IsUnitAtEnd : Enc → (eof : Option ℕ) → Type 0
IsUnitAtEnd enc eof = IfSome eof (λ unit. unit ≤ greatest_unit enc)

-- what is set is so
abbrev pub AreSettingsAllowed : Enc → Settings → Type 0
AreSettingsAllowed enc settings = AreNamesAllowed 0 settings.names × IfSome settings.eof (IsUnitAtEnd enc)

-- and so is what the last rules block sets
pub record HasAllowedSettings (enc : Enc) (environment : Environment) : Type 0 where
  pub own : AreSettingsAllowed enc environment.settings
  pub kept : IfSome environment.kept (λ (block : KeptBlock). AreSettingsAllowed enc block.settings)
