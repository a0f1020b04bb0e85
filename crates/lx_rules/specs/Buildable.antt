-- Environments whose definitions can stand in the expressions of rules.
use Rattle.std.specs.Prelude.{◌≡◌, ℕ, ◌+◌, ◌*◌, ◌<◌, ◌≤◌, ◌^◌}
use Rattle.std.specs.List.{AllByRecursion}
use Rattle.lx_base.specs.declared.settings.Options.{Options}
use Rattle.lx_regex.specs.Limits.{member_count}
use Rattle.lx_regex.specs.Term.{Term, Terms, empty, class, any_unit, cat, alt, repeat, tag, group, nil, cons}
use Rattle.lx_exprs.specs.Defined.{Definition}
use Rattle.lx_rules.specs.Environments.{Environment}
use Rattle.lx_exprs.specs.Meanings.{term_or_empty}
use Rattle.lx_exprs.specs.Within.{AreDefinedWithin}

-- An expression can stand for the term: each list of members has fewer than 2^63, which a vector can hold, and the ends of a
-- group are those of its number.
abbrev mutual
  pub IsExpressible : Term → Type 0
  IsExpressible empty = Unit {0}
  IsExpressible (class ranges) = Unit {0}
  IsExpressible any_unit = Unit {0}
  IsExpressible (cat members) = (member_count members < 2 ^ 63) × AreExpressible members
  IsExpressible (alt members) = (member_count members < 2 ^ 63) × AreExpressible members
  IsExpressible (repeat body low high) = IsExpressible body
  IsExpressible (tag number) = Unit {0}
  IsExpressible (group opening closing body) =
      (number : ℕ) × (opening ≡ 2 * number) × (closing ≡ 2 * number + 1) × IsExpressible body

  pub AreExpressible : Terms → Type 0
  AreExpressible nil = Unit {0}
  AreExpressible (cons member members) = IsExpressible member × AreExpressible members

-- a definition counts for something, and an expression can stand for what is kept of it
abbrev pub IsBuildable : Definition → Type 0
IsBuildable definition = (1 ≤ definition.size) × IsExpressible (term_or_empty definition.term)

-- the definitions of an environment can be copied within the limits, and expressions can stand for them
pub record HasBuildableDefinitions (options : Options) (environment : Environment) : Type 0 where
  pub within : AreDefinedWithin options environment.definitions
  pub buildable : AllByRecursion IsBuildable environment.definitions
