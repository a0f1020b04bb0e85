-- All least trees of a word under one policy have one script.
use Rattle.std.specs.Prelude.{◌≡◌, ℕ, ◌<◌, List}
use Rattle.lx_base.specs.declared.settings.Enc.{Enc}
use Rattle.lx_regex.specs.Term.{Term}
use Rattle.lx_regex.specs.Tree.{Tree}
use Rattle.lx_regex.specs.Script.{script}
use Rattle.lx_regex.specs.Order.{Policy, greedy, posix}
use Rattle.lx_regex.specs.Least.{IsLeast}
use Rattle.lx_regex.proofs.Walks.Scripts.{greedy_script}
use Rattle.lx_regex.proofs.PosixTrees.PosixUnique.{posix_script}

pub least_script :
    (policy : Policy) (enc : Enc) (e : Term) (p : ℕ) → 0 < p → (w : List ℕ) (t t' : Tree e) → IsLeast policy enc p e w t
    → IsLeast policy enc p e w t' → script enc p t ≡ script enc p t'
least_script greedy enc e p lt w t t' is is' = greedy_script enc e p lt w t t' is is'
least_script posix enc e p lt w t t' is is' = posix_script enc e p w t t' is is'
