-- What the rule with a number does.
use Rattle.std.specs.Prelude.{ℕ, zero, suc, List, Option, None, slice_get}
use Rattle.lx_rules.specs.declared.resolved.Act.{Act}

-- rules are numbered from 1, in the order of their actions
abbrev pub numbered_act : List Act → (number : ℕ) → Option Act
numbered_act acts zero = None
numbered_act acts (suc place) = slice_get acts place
