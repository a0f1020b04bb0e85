-- What a front and the symbols behind it leave in a tag, by the value that is kept beside the place of the front.
use Rattle.std.proofs.Common.{sym, ap, ◌∙◌, arith}
use Rattle.std.specs.Prelude.{◌≡◌, ℕ, ◌+◌, List, [], ◌++◌, length, Option, None, refl}
use Rattle.lx_base.specs.declared.settings.Enc.{Enc}
use Rattle.lx_regex.specs.Automaton.{automaton}
use Rattle.lx_regex.specs.Script.{Symbol, units}
use Rattle.lx_regex.specs.Term.{Term}
use Rattle.lx_regex.specs.Values.{all_events, last_event}
use Rattle.lx_tnfa.specs.LeafReadings.{IsNth, NumbersLeaves}
use Rattle.lx_tdfa.specs.Graph.{graph_of, rule_starts}
use Rattle.lx_tdfa.specs.Kernels.{Entry, kernel_list, segment_symbols}
use Rattle.lx_tdfa.specs.Values.{value_at, values_beside}
use Rattle.lx_tdfa.proofs.WordKernels.KernelSteps.{kernel_list-first_runs}
use Rattle.lx_tdfa.proofs.WordKernels.OrderedLists.{nth_member}
use Rattle.lx_tdfa.proofs.WordKernels.RunCuts.{IsRunOf, one_unit, run_word}
use Rattle.lx_tdfa.proofs.WordKernels.RunSteps.{entry_is}
use Rattle.lx_tdfa.proofs.Rules.StateOrder.{rule_starts-apart}
use Rattle.lx_tdfa.proofs.Values.ValueSteps.{all_events_append, all_values, forwards-length, last_event_append, last_values, value_front}

module _ (enc : Enc) (rules : List Term) (after : ℕ → ℕ → List ℕ) (added : ℕ → ℕ → ℕ → List Symbol) (number : ℕ → List Symbol → ℕ) (numbers : NumbersLeaves enc rules after added number) where
  -- the kernel of a word
  abbrev pub kernel_of : List ℕ → List Entry
  kernel_of w = kernel_list (graph_of (automaton rules)) after (segment_symbols rules added) (rule_starts rules) w

  -- one tag's values beside it
  abbrev pub last_values_beside : ℕ → List ℕ → List (Option ℕ)
  last_values_beside tag w = values_beside (Option ℕ) None (λ here v l. last_event tag here v l) (graph_of (automaton rules)) after (segment_symbols rules added) (rule_starts rules) w

  abbrev pub all_values_beside : ℕ → List ℕ → List (List (Option ℕ))
  all_values_beside tag w = values_beside (List (Option ℕ)) [] (λ here v l. v ++ all_events tag here l) (graph_of (automaton rules)) after (segment_symbols rules added) (rule_starts rules) w

  offset : (w : List ℕ) (f : Entry) → IsRunOf enc rules after added number numbers w f.keys f.front f.place → 0 + length (units f.front) ≡ length w
  offset w f r =
      let h : length (units f.front) ≡ length w = ap length (run_word enc rules after added number numbers w f.keys f.front f.place r) ∙ forwards-length w in
      omega arith

  run : (w : List ℕ) (i : ℕ) (f : Entry) → IsNth (kernel_of w) i f → IsRunOf enc rules after added number numbers w f.keys f.front f.place
  run w i f n =
      (kernel_list-first_runs (graph_of (automaton rules)) after (segment_symbols rules added) (rule_starts rules) (rule_starts-apart rules) w).sound f
      (nth_member (kernel_of w) i f n)

  -- beside the place with this index
  last_value_at : (tag : ℕ) (w : List ℕ) (i : ℕ) (f : Entry) → IsNth (kernel_of w) i f
      → value_at None (last_values_beside tag w) i ≡ last_event tag 0 None f.front
  last_value_at tag w i f n =
      ap (λ vs. value_at None vs i) (last_values (graph_of (automaton rules)) after (segment_symbols rules added) (rule_starts rules) (one_unit enc rules after added number numbers) (rule_starts-apart rules) tag w)
      ∙ value_front (Option ℕ) None (last_event tag 0 None) (λ here v l. last_event tag here v l) (graph_of (automaton rules)) after (segment_symbols rules added) (rule_starts rules) (kernel_of w) refl i
      ∙ ap (λ (e : Entry). last_event tag 0 None e.front) (entry_is (graph_of (automaton rules)) after (segment_symbols rules added) (rule_starts rules) (kernel_of w) i f n)

  all_values_at : (tag : ℕ) (w : List ℕ) (i : ℕ) (f : Entry) → IsNth (kernel_of w) i f
      → value_at [] (all_values_beside tag w) i ≡ all_events tag 0 f.front
  all_values_at tag w i f n =
      ap (λ vs. value_at [] vs i) (all_values (graph_of (automaton rules)) after (segment_symbols rules added) (rule_starts rules) (one_unit enc rules after added number numbers) (rule_starts-apart rules) tag w)
      ∙ value_front (List (Option ℕ)) [] (all_events tag 0) (λ here v l. v ++ all_events tag here l) (graph_of (automaton rules)) after (segment_symbols rules added) (rule_starts rules) (kernel_of w) refl i
      ∙ ap (λ (e : Entry). all_events tag 0 e.front) (entry_is (graph_of (automaton rules)) after (segment_symbols rules added) (rule_starts rules) (kernel_of w) i f n)

  -- what a front and more symbols leave in a tag is what its value and these symbols do
  pub last_value_on : (tag : ℕ) (w : List ℕ) (i : ℕ) (f : Entry) (l : List Symbol) → IsNth (kernel_of w) i f
      → last_event tag 0 None (f.front ++ l) ≡ last_event tag (length w) (value_at None (last_values_beside tag w) i) l
  last_value_on tag w i f l n =
      last_event_append tag 0 None f.front l
      ∙ ap (λ m. last_event tag m (last_event tag 0 None f.front) l) (offset w f (run w i f n)) ∙ ap (λ v. last_event tag (length w) v l) (sym (last_value_at tag w i f n))

  pub all_values_on : (tag : ℕ) (w : List ℕ) (i : ℕ) (f : Entry) (l : List Symbol) → IsNth (kernel_of w) i f
      → all_events tag 0 (f.front ++ l) ≡ value_at [] (all_values_beside tag w) i ++ all_events tag (length w) l
  all_values_on tag w i f l n =
      all_events_append tag 0 f.front l
      ∙ ap (λ m. all_events tag 0 f.front ++ all_events tag m l) (offset w f (run w i f n)) ∙ ap (λ v. v ++ all_events tag (length w) l) (sym (all_values_at tag w i f n))
