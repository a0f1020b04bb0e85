-- Automata whose states are the kernels of words.
use Rattle.std.specs.Prelude.{◌≡◌, ◌↔◌, ℕ, List, Option, Some, None, IsSome}
use Rattle.lx_auto.specs.Automaton.{edge_on, state_of}
use Rattle.lx_auto.specs.declared.automaton.Auto.{Auto}
use Rattle.lx_auto.specs.declared.automaton.Edge.{Edge}
use Rattle.lx_base.specs.declared.settings.Enc.{Enc}
use Rattle.lx_regex.specs.Cut.{BeginsMatch, Cut, Precedes}
use Rattle.lx_regex.specs.Kernel.{IsKernel, IsWord, SamePlaces}
use Rattle.lx_regex.specs.Pattern.{Pattern, terms_of}
use Rattle.lx_regex.specs.Term.{Term}
use Rattle.lx_tdfa.specs.Searches.{walk}

-- the state to which an edge leads, if there is one
abbrev pub target_of : Option Edge → Option ℕ
target_of None = None
target_of (Some edge) = Some edge.to

module _ (auto : Auto) where
  -- the state behind a unit
  abbrev pub next : (state unit : ℕ) → Option ℕ
  next state unit = target_of (edge_on (state_of auto.states state).edges unit)

  -- the state behind a word, from the start on
  abbrev pub state_behind : (word : List ℕ) → Option ℕ
  state_behind word = walk next 0 word

-- two words have one kernel: that of the one has the same places in the same order as that of the other
pub record HaveOneKernel (enc : Enc) (rules : List Term) (word other : List ℕ) : Type 0 where
  pub kernel : List Cut
  pub others : List Cut
  pub of_word : IsKernel Precedes enc rules word kernel
  pub of_other : IsKernel Precedes enc rules other others
  pub same : SamePlaces enc rules kernel others

-- The states of an automaton are the kernels of words: a word leads to a state exactly where it begins a match, and two words lead
-- to one state, or both to none, exactly where they have one kernel.
pub record HasKernelStates (enc : Enc) (patterns : List Pattern) (auto : Auto) : Type 0 where
  pub leads : (word : List ℕ) → IsWord enc (terms_of patterns) word
      → IsSome (state_behind auto word) ↔ BeginsMatch enc (terms_of patterns) word
  pub same : (word other : List ℕ) → IsWord enc (terms_of patterns) word → IsWord enc (terms_of patterns) other
      → (state_behind auto word ≡ state_behind auto other) ↔ HaveOneKernel enc (terms_of patterns) word other
