-- The two orders of trees: by their choices, and by their lengths.
use Rattle.std.specs.Prelude.{ℕ}
use Rattle.lx_base.specs.declared.settings.Enc.{Enc}
use Rattle.lx_regex.specs.Term.{Term}
use Rattle.lx_regex.specs.Tree.{Tree}
use Rattle.lx_regex.specs.Script.{script, choices}
use Rattle.lx_regex.specs.Dictionary.{IsBefore}
use Rattle.lx_regex.specs.Posix.{IsLonger}

-- which of several trees of a word is meant: leftmost greedy, or POSIX
pub data Policy : Type 0 where
  greedy : Policy
  posix : Policy

-- the first tree comes before the second; their term is this part
abbrev pub TreePrecedes : Policy → Enc → (part : ℕ) → {e : Term} → Tree e → Tree e → Type 0
TreePrecedes greedy enc part tree other = IsBefore (choices (script enc part tree)) (choices (script enc part other))
TreePrecedes posix enc part tree other = IsLonger enc tree other
