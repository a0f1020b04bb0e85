-- What a trailing context asks of the trees of its rule.
use Rattle.std.specs.Prelude.{◌≡◌, ℕ, Option, Some, None, IsSome, false, slice_get}
use Rattle.lx_base.specs.declared.settings.Enc.{Enc}
use Rattle.lx_regex.specs.Pattern.{Pattern, sorts_of}
use Rattle.lx_regex.specs.Script.{script}
use Rattle.lx_regex.specs.Tree.{Tree}
use Rattle.lx_regex.specs.Values.{last_event}

-- the tag of a trailing context is an s-tag that each tree of the rule sets at last
abbrev pub IsSetBy : Enc → Pattern → (slash : Option ℕ) → Type 0
IsSetBy enc pattern None = Unit {0}
IsSetBy enc pattern (Some slash) =
    (slice_get (sorts_of pattern) slash ≡ Some false)
    × ((start part : ℕ) (tree : Tree pattern.term) → IsSome (last_event slash start None (script enc part tree)))
