-- What is accepted behind a word: the first way to the end from the places of its kernel. The trees that are meant are those of a
-- policy.
use Rattle.std.specs.Prelude.{◌≡◌, ℕ, ◌<◌, List, [], ◌∷◌, ◌++◌, Option, Some, None, slice_get}
use Rattle.lx_base.specs.declared.settings.Enc.{Enc}
use Rattle.lx_regex.specs.Automaton.{automaton}
use Rattle.lx_regex.specs.Cut.{rule_part}
use Rattle.lx_regex.specs.Least.{HasTree, IsLeast}
use Rattle.lx_regex.specs.Order.{Policy}
use Rattle.lx_regex.specs.Script.{Symbol, script}
use Rattle.lx_regex.specs.Term.{Term}
use Rattle.lx_regex.specs.Tree.{Tree}
use Rattle.lx_tnfa.specs.LeafReadings.{IsNth}
use Rattle.lx_tnfa.specs.Tnfa.{Tnfa}
use Rattle.lx_tnfa.specs.DepthFirst.{Found, decide_in, search_from}
use Rattle.lx_tdfa.specs.Graph.{graph_of, path_symbols}
use Rattle.lx_tdfa.specs.Kernels.{Entry, kernel_after, places, rule_of}

abbrev pub if_final : {A : Type 0} → Dec A → (this others : Option Found) → Option Found
if_final (yes is) this others = this
if_final (no not) this others = others

-- the first of the states that were found that is final
abbrev pub first_final : (finals : List ℕ) → List Found → Option Found
first_final finals [] = None
first_final finals (found ∷ others) = if_final (decide_in finals found.state) (Some found) (first_final finals others)

-- the first final state that a search from the places of a kernel finds, with the choices that lead there
abbrev pub first_end : (graph : List (List ℕ)) → (finals : List ℕ) → List Entry → Option Found
first_end graph finals entries = first_final finals (search_from graph [] (places entries))

-- how the automaton of a rule list goes on to state 0, the end, after a word
abbrev pub accept_after : Tnfa → List Term → (word : List ℕ) → Option Found
accept_after tnfa rules word = first_end (graph_of (automaton rules)) (0 ∷ []) (kernel_after tnfa rules word)

module _ (policy : Policy) (enc : Enc) (rules : List Term) (word : List ℕ) where
  -- These symbols are the script of the least tree that the rule has for the word. No earlier rule has a tree.
  pub record IsAccepted (rule : ℕ) (symbols : List Symbol) : Type 0 where
    pub term : Term
    pub tree : Tree term
    pub at : slice_get rules rule ≡ Some term
    pub says : script enc (rule_part rules rule) tree ≡ symbols
    pub least : IsLeast policy enc (rule_part rules rule) term word tree
    pub first : (earlier : ℕ) (e : Term) → earlier < rule → slice_get rules earlier ≡ Some e → HasTree enc (rule_part rules earlier) e word → ⊥

  -- What the kernel of the word accepts: nothing where no rule has a tree for it; else a way goes on from one of the places, and
  -- with the front of that place it is the script of the first rule's least tree.
  pub data Accepts (entries : List Entry) : Option Found → Type 0 where
    none : ((rule : ℕ) (e : Term) → slice_get rules rule ≡ Some e → HasTree enc (rule_part rules rule) e word → ⊥)
        → Accepts entries None
    some : (found : Found) (from : ℕ) (way : List ℕ) (entry : Entry) → found.choices ≡ from ∷ way → IsNth entries from entry
        → IsAccepted (rule_of entry.keys) (entry.front ++ path_symbols (automaton rules) entry.place way [])
        → Accepts entries (Some found)
