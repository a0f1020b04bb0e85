-- What the definitions see of the code's values.
use Rattle.std.specs.Prelude.{◌≡◌, ℕ, true, false, List, [], ◌++◌, map, nat_lt, Bool, Option, Some, None, if◌then◌else◌}
use Rattle.std.specs.List.{list_any}
use Rattle.std.specs.declared.rc.Rc.{Rc}
use Rattle.std.specs.Global.{Global, Vec}
use Rattle.lx_exprs.specs.Defined.{Definition}
use Rattle.lx_exprs.specs.Seen.{definitions_view}
use Rattle.lx_rules.specs.declared.environment.Env.{Env}
use Rattle.lx_rules.specs.declared.environment.KeptBlock.{KeptBlock}
use Rattle.lx_rules.specs.declared.environment.Settings as code
use Rattle.lx_rules.specs.declared.items.Known.{Known}
use Rattle.lx_rules.specs.declared.kept.KeptRule.{KeptRule}
use Rattle.lx_rules.specs.Environments.{Settings}

-- what is set
abbrev pub settings_view : code.Settings → Settings
settings_view settings = record { names = settings.names.items; eof = settings.eof; fill = settings.fill }

-- the bytes of code points, if each of them is one
abbrev pub bytes_of_points : List ℕ → Option (List ℕ)
bytes_of_points points = if list_any (λ point. nat_lt 255 point) points then None else Some points

-- the text of these code points, if each of them is a byte
abbrev pub IsSaid : (points : List ℕ) → Option (List ℕ) → Type 0
IsSaid points None = list_any (λ point. nat_lt 255 point) points ≡ true
IsSaid points (Some text) = text ≡ points

-- the rules that are shared
abbrev pub rules_view : Vec (Rc KeptRule Global) → List KeptRule
rules_view rules = map (λ one. one.value) rules.items

-- the definitions of the rules block that is used, if there is one
abbrev pub kept_definitions : Option KeptBlock → List Definition
kept_definitions None = []
kept_definitions (Some block) = definitions_view block.definitions

abbrev pub used_definitions : (is_use : Bool) → Env → List Definition
used_definitions false before = []
used_definitions true before = kept_definitions before.kept

-- the definitions that a block sees: those of the rules block that it uses, those before it, and its own
abbrev pub known_definitions : Known → List Definition
known_definitions known =
    used_definitions known.is_use known.before ++ (definitions_view known.before.definitions ++ definitions_view known.own)
