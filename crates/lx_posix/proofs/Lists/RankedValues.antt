-- The values that are kept beside the places of a kernel are those of their fronts.
use Rattle.std.proofs.Common.{inl, inr, sym, ap, ap₂, ◌∙◌, subst, arith}
use Rattle.std.specs.Prelude.{◌≡◌, ℕ, suc, ◌+◌, List, [], ◌∷◌, ◌++◌, map, length, Option, None, refl}
use Rattle.lx_base.specs.declared.settings.Enc.{Enc}
use Rattle.lx_regex.specs.Automaton.{automaton}
use Rattle.lx_regex.specs.Script.{Symbol, units}
use Rattle.lx_regex.specs.Term.{Term}
use Rattle.lx_regex.specs.Values.{all_events, last_event}
use Rattle.lx_tnfa.specs.LeafReadings.{IsNth, NumbersLeaves}
use Rattle.lx_tdfa.specs.Graph.{graph_of, rule_starts}
use Rattle.lx_tdfa.specs.Kernels.{Candidate, Entry, entry_at, first_entries, segment_symbols}
use Rattle.lx_tdfa.specs.Values.{value_at, values_on}
use Rattle.lx_tdfa.proofs.Values.ValueSteps.{all_events_append, forwards-length, last_event_append, value_front}
use Rattle.lx_tdfa.proofs.WordKernels.OrderedLists.{IsMember}
use Rattle.lx_tdfa.proofs.WordKernels.RunCuts.{run_word}
use Rattle.lx_tdfa.proofs.WordKernels.RunSteps.{entry_is}
use Rattle.lx_posix.specs.KernelValues.{values_beside}
use Rattle.lx_posix.proofs.Lists.RankedCuts.{AreRanked, Comes}
use Rattle.lx_posix.proofs.Lists.RankedKernels.{each_ranked, entries_of, ranks_of}
use Rattle.lx_posix.proofs.Lists.RankedSteps.{Run, chosen, chosen_in_order, entries_to}

module _ (enc : Enc) (rules : List Term) (next : ℕ → ℕ → List ℕ) (added : ℕ → ℕ → ℕ → List Symbol) (number : ℕ → List Symbol → ℕ)
    (numbers : NumbersLeaves enc rules next added number) where
  abbrev list_of : List ℕ → List Entry
  list_of w = entries_of enc rules next added number numbers w

  are : (w : List ℕ) → AreRanked enc rules next added number numbers w (list_of w) (ranks_of enc rules next added number numbers w)
  are w = each_ranked enc rules next added number numbers w

  -- `value` is the value of a front, `none` that of the empty one, and `act` goes on from a value over more symbols.
  module _ (X : Type 0) (none : X) (value : List Symbol → X) (act : ℕ → X → List Symbol → X) (empty : value [] ≡ none)
      (goes : (w : List ℕ) (e : Entry) (l : List Symbol) → Run enc rules next added number numbers w e.keys e.front e.place
      → value (e.front ++ l) ≡ act (length w) (value e.front) l) where
    abbrev beside : List ℕ → List X
    beside w = values_beside X none act (graph_of (automaton rules)) next (segment_symbols rules added) (rule_starts rules) w

    abbrev values : List Entry → List X
    values es = map (λ (e : Entry). value e.front) es

    begin_values : (i : ℕ) (qs : List ℕ) → map (λ (e : Entry). none) (first_entries i qs) ≡ values (first_entries i qs)
    begin_values i [] = refl
    begin_values i (q ∷ qs) = ap₂ (λ a b. a ∷ b) (sym empty) (begin_values (suc i) qs)

    step_values : (w : List ℕ) (u : ℕ) (ns : List Candidate)
        → ((n : Candidate) → IsMember ns n → Comes enc rules next added number numbers (list_of w) u n) → beside w ≡ values (list_of w)
        → values_on X none act (graph_of (automaton rules)) next (segment_symbols rules added) (rule_starts rules) (length w) (list_of w)
        (beside w) u ns
        ≡ values (entries_to enc rules next added number numbers w (list_of w) (ranks_of enc rules next added number numbers w) u
        (are w) ns)
    step_values w u [] f e = refl
    step_values w u (n ∷ ns) f e =
        let c = f n (inl refl) in
        let x : Entry = entry_at (list_of w) n.from in
        let same : entry_at (list_of w) n.from ≡ c.entry =
        entry_is (graph_of (automaton rules)) next (segment_symbols rules added) (rule_starts rules) (list_of w) n.from c.entry c.at in
        let run =
        subst (λ (y : Entry). Run enc rules next added number numbers w y.keys y.front y.place) (sym same)
        ((are w).run n.from c.entry c.at) in
        ap₂ (λ a b. a ∷ b)
        (ap (λ y. act (length w) y (segment_symbols rules added (entry_at (list_of w) n.from).place u n.key))
        (ap (λ vs. value_at none vs n.from) e
        ∙ value_front X none value act (graph_of (automaton rules)) next (segment_symbols rules added) (rule_starts rules)
        (list_of w) empty n.from)
        ∙ sym (goes w (entry_at (list_of w) n.from) (segment_symbols rules added (entry_at (list_of w) n.from).place u n.key) run))
        (step_values w u ns (λ m k. f m (inr k)) e)

    each_value : (w : List ℕ) → beside w ≡ values (list_of w)
    each_value [] = begin_values 0 (rule_starts rules)
    each_value (u ∷ w) =
        let ss = ranks_of enc rules next added number numbers w in
        let o = chosen_in_order enc rules next added number numbers w (list_of w) (ranks_of enc rules next added number numbers w) u
        (are w) in
        step_values w u
        (chosen enc rules next added number numbers w (list_of w) (ranks_of enc rules next added number numbers w) u (are w)) o.come
        (each_value w)

    pub kept_value : (w : List ℕ) (i : ℕ) (f : Entry) (l : List Symbol) → IsNth (list_of w) i f
        → value (f.front ++ l) ≡ act (length w) (value_at none (beside w) i) l
    kept_value w i f l n =
        goes w f l ((are w).run i f n)
        ∙ ap (λ v. act (length w) v l)
        (sym
        (ap (λ vs. value_at none vs i) (each_value w)
        ∙ value_front X none value act (graph_of (automaton rules)) next (segment_symbols rules added) (rule_starts rules)
        (list_of w) empty i
        ∙ ap (λ (e : Entry). value e.front)
        (entry_is (graph_of (automaton rules)) next (segment_symbols rules added) (rule_starts rules) (list_of w) i f n)))

  offset : (w : List ℕ) (f : Entry) → Run enc rules next added number numbers w f.keys f.front f.place → 0 + length (units f.front)
      ≡ length w
  offset w f r =
      let h : length (units f.front) ≡ length w = ap length (run_word enc rules next added number numbers w f.keys f.front f.place r)
      ∙ forwards-length w in
      omega arith

  pub last_kept : (tag : ℕ) (w : List ℕ) (i : ℕ) (f : Entry) (l : List Symbol) → IsNth (list_of w) i f
      → last_event tag 0 None (f.front ++ l)
      ≡ last_event tag (length w)
      (value_at None (values_beside (Option ℕ) None (λ here v l. last_event tag here v l) (graph_of (automaton rules)) next
      (segment_symbols rules added) (rule_starts rules) w) i) l
  last_kept tag w i f l n =
      kept_value (Option ℕ) None (last_event tag 0 None) (λ here v l. last_event tag here v l) refl
      (λ w e l r.
      last_event_append tag 0 None e.front l ∙ ap (λ m. last_event tag m (last_event tag 0 None e.front) l) (offset w e r)) w i f l n

  pub all_kept : (tag : ℕ) (w : List ℕ) (i : ℕ) (f : Entry) (l : List Symbol) → IsNth (list_of w) i f
      → all_events tag 0 (f.front ++ l)
      ≡ value_at [] (values_beside (List (Option ℕ)) [] (λ here v l. v ++ all_events tag here l) (graph_of (automaton rules)) next
      (segment_symbols rules added) (rule_starts rules) w) i
      ++ all_events tag (length w) l
  all_kept tag w i f l n =
      kept_value (List (Option ℕ)) [] (all_events tag 0) (λ here v l. v ++ all_events tag here l) refl
      (λ w e l r. all_events_append tag 0 e.front l ∙ ap (λ m. all_events tag 0 e.front ++ all_events tag m l) (offset w e r)) w i f l n
