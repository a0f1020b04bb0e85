-- From which place of a kernel, and by which walk, the end of a rule is reached.
use Rattle.std.specs.Prelude.{◌≡◌, ℕ, ◌<◌, List, [], ◌∷◌, Option, Some, slice_get}
use Rattle.lx_base.specs.declared.settings.Enc.{Enc}
use Rattle.lx_regex.specs.Automaton.{automaton}
use Rattle.lx_regex.specs.Cut.{Cut, GoesOn}
use Rattle.lx_regex.specs.Dictionary.{IsBefore}
use Rattle.lx_regex.specs.Script.{Symbol, choices, units}
use Rattle.lx_regex.specs.Term.{Term}
use Rattle.lx_tnfa.specs.DepthFirst.{Found}
use Rattle.lx_tnfa.specs.Tnfa.{Tnfa}
use Rattle.lx_tdfa.specs.Accepts.{first_end}
use Rattle.lx_tdfa.specs.Graph.{graph_of}
use Rattle.lx_posix.specs.KernelLists.{posix_kernel_after}

-- the first place of a rule in a kernel from which a walk without a unit ends the rule, with the walk of the least choices
pub record IsFirstAccept (enc : Enc) (rules : List Term) (kernel : List Cut) (place : ℕ) (cut : Cut) (rest : List Symbol) : Type 0 where
  pub stands : slice_get kernel place ≡ Some cut
  pub without_unit : units rest ≡ []
  pub ends_rule : GoesOn enc rules cut rest
  pub first_place : (i : ℕ) (other : Cut) (more : List Symbol) → i < place → slice_get kernel i ≡ Some other → other.rule ≡ cut.rule
      → units more ≡ [] → GoesOn enc rules other more → ⊥
  pub first_walk : (more : List Symbol) → units more ≡ [] → GoesOn enc rules cut more → IsBefore (choices more) (choices rest) → ⊥

-- how the automaton of a rule list goes on to state 0, the end, after a word: by the first place of its kernel from which it does
abbrev pub posix_accept_after : Tnfa → List Term → (word : List ℕ) → Option Found
posix_accept_after tnfa rules word = first_end (graph_of (automaton rules)) (0 ∷ []) (posix_kernel_after tnfa rules word)
