-- How registers and histories are spelled.
use Rattle.std.specs.Prelude.{ℕ, Bool, true, false, List, ◌∷◌, ◌++◌, ◌==◌, if◌then◌else◌}
use Rattle.std.specs.Fmt.{decimal}
use Rattle.lx_base.specs.Names.{Spellings, context_marker, tag_prefix}

-- the register that is spelled as the context marker, in a piece where register 1 is
abbrev pub is_context : (ctx : Bool) → ℕ → Bool
is_context ctx register = if ctx then register == 1 else false

-- the context marker, or the prefix and the number
abbrev pub register_by : Spellings → (as_context : Bool) → ℕ → List ℕ
register_by names true register = context_marker names
register_by names false register = tag_prefix names ++ decimal register

-- a register, counted from 1
abbrev pub register_text : Spellings → (ctx : Bool) → ℕ → List ℕ
register_text names ctx register = register_by names (is_context ctx register) register

-- a history, counted from 0: the prefix, `m` and the number
abbrev pub history_text : Spellings → ℕ → List ℕ
history_text names history = tag_prefix names ++ 109 ∷ decimal history

-- a history, or else a register that is not spelled as the context marker
abbrev pub variable_text : Spellings → (history : Bool) → ℕ → List ℕ
variable_text names true history = history_text names history
variable_text names false register = register_text names false register
