-- What the automaton of the program accepts behind a word, and the values there.
use Rattle.std.proofs.Common.{ap, ◌∙◌, subst}
use Rattle.std.proofs.lemmas.List.{length-reverse}
use Rattle.std.specs.Prelude.{◌≡◌, ℕ, List, [], ◌++◌, length, reverse, None}
use Rattle.lx_regex.specs.ClassLimits.{AllClassesFit}
use Rattle.lx_base.specs.declared.settings.Enc.{Enc}
use Rattle.lx_regex.specs.Automaton.{automaton}
use Rattle.lx_regex.specs.Cut.{rule_part}
use Rattle.lx_regex.specs.Order.{greedy}
use Rattle.lx_regex.specs.Pattern.{Pattern, terms_of}
use Rattle.lx_regex.specs.Script.{Symbol, script}
use Rattle.lx_regex.specs.Term.{Term}
use Rattle.lx_regex.specs.Values.{all_events, last_event}
use Rattle.lx_tnfa.specs.LeafReadings.{IsNth, NumbersLeaves}
use Rattle.lx_tnfa.specs.PlaceNumbers.{number_behind, numbers_after, symbols_added}
use Rattle.lx_tnfa.specs.Tnfa.{IsTnfaOf, Tnfa}
use Rattle.lx_tnfa.proofs.Leaves.LeafNumbering.{automaton_numbers}
use Rattle.lx_tdfa.specs.Accepts.{Accepts, IsAccepted, accept_after}
use Rattle.lx_tdfa.specs.Graph.{graph_of, path_symbols, rule_starts}
use Rattle.lx_tdfa.specs.Kernels.{Entry, kernel_after, rule_of, segment_symbols}
use Rattle.lx_tdfa.specs.Values.{all_values_after, last_values_after, value_at}
use Rattle.lx_tdfa.proofs.WordKernels.AcceptedTrees.{accepts_right}
use Rattle.lx_tdfa.proofs.WordKernels.KernelSteps.{kernel_list-first_runs}
use Rattle.lx_tdfa.proofs.WordKernels.ProgramKernels.{forwards-reverse}
use Rattle.lx_tdfa.proofs.Rules.StateOrder.{rule_starts-apart}
use Rattle.lx_tdfa.proofs.Values.ValuesKept.{all_values_on, last_value_on}

module _ (enc : Enc) (patterns : List Pattern) (tnfa : Tnfa) (of : IsTnfaOf enc patterns tnfa) (fits : AllClassesFit enc (terms_of patterns)) (word : List ℕ) where
  abbrev rules : List Term
  rules = terms_of patterns

  numbers : NumbersLeaves enc (terms_of patterns) (numbers_after tnfa) (symbols_added tnfa) (number_behind tnfa)
  numbers = automaton_numbers enc patterns tnfa of fits

  pub accept_after-accepts : Accepts greedy enc (terms_of patterns) word (kernel_after tnfa (terms_of patterns) word) (accept_after tnfa (terms_of patterns) word)
  accept_after-accepts =
      subst (λ l. Accepts greedy enc rules l (kernel_after tnfa rules word) (accept_after tnfa rules word)) (forwards-reverse word)
      (accepts_right enc rules (numbers_after tnfa) (symbols_added tnfa) (number_behind tnfa) numbers (reverse word) (kernel_after tnfa rules word)
      (kernel_list-first_runs (graph_of (automaton rules)) (numbers_after tnfa) (segment_symbols rules (symbols_added tnfa)) (rule_starts rules)
      (rule_starts-apart rules) (reverse word)))

  pub last_kept : (tag from : ℕ) (entry : Entry) (rest : List Symbol) → IsNth (kernel_after tnfa (terms_of patterns) word) from entry
      → last_event tag 0 None (entry.front ++ rest) ≡ last_event tag (length word) (value_at None (last_values_after tnfa (terms_of patterns) word tag) from) rest
  last_kept tag from entry rest nth =
      last_value_on enc rules (numbers_after tnfa) (symbols_added tnfa) (number_behind tnfa) numbers tag (reverse word) from entry rest nth
      ∙ ap (λ n. last_event tag n (value_at None (last_values_after tnfa rules word tag) from) rest) (length-reverse word)

  pub all_kept : (tag from : ℕ) (entry : Entry) (rest : List Symbol) → IsNth (kernel_after tnfa (terms_of patterns) word) from entry
      → all_events tag 0 (entry.front ++ rest) ≡ value_at [] (all_values_after tnfa (terms_of patterns) word tag) from ++ all_events tag (length word) rest
  all_kept tag from entry rest nth =
      all_values_on enc rules (numbers_after tnfa) (symbols_added tnfa) (number_behind tnfa) numbers tag (reverse word) from entry rest nth
      ∙ ap (λ n. value_at [] (all_values_after tnfa rules word tag) from ++ all_events tag n rest) (length-reverse word)

  module _ (tag from : ℕ) (way : List ℕ) (entry : Entry) (nth : IsNth (kernel_after tnfa (terms_of patterns) word) from entry)
      (accepted : IsAccepted greedy enc (terms_of patterns) word (rule_of entry.keys) (entry.front ++ path_symbols (automaton (terms_of patterns)) entry.place way [])) where
    pub last_accepted : last_event tag 0 None (script enc (rule_part (terms_of patterns) (rule_of entry.keys)) accepted.tree)
        ≡ last_event tag (length word) (value_at None (last_values_after tnfa (terms_of patterns) word tag) from)
        (path_symbols (automaton (terms_of patterns)) entry.place way [])
    last_accepted = ap (last_event tag 0 None) accepted.says ∙ last_kept tag from entry (path_symbols (automaton rules) entry.place way []) nth

    pub all_accepted : all_events tag 0 (script enc (rule_part (terms_of patterns) (rule_of entry.keys)) accepted.tree)
        ≡ value_at [] (all_values_after tnfa (terms_of patterns) word tag) from
        ++ all_events tag (length word) (path_symbols (automaton (terms_of patterns)) entry.place way [])
    all_accepted = ap (all_events tag 0) accepted.says ∙ all_kept tag from entry (path_symbols (automaton rules) entry.place way []) nth
