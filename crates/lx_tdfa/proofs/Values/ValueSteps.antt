-- The values that are kept beside places, unit by unit, are those of the fronts of these places.
use Rattle.std.proofs.Common.{inl, inr, sym, ap, ap₂, ◌∙◌, subst, arith}
use Rattle.std.specs.Prelude.{◌≡◌, ℕ, zero, suc, ◌+◌, List, [], ◌∷◌, ◌++◌, map, length, Option, Some, None, Bool, true, false, ◌==◌, if◌then◌else◌, refl}
use Rattle.lx_regex.specs.Script.{Symbol, begins, ends, picks, reads, sets, units, unsets}
use Rattle.lx_regex.specs.Values.{all_events, last_event}
use Rattle.lx_regex.proofs.Walks.PlainWalk.{units_append}
use Rattle.lx_tnfa.specs.LeafReadings.{IsNth}
use Rattle.lx_tnfa.proofs.Construction.NthLists.{nth_unmap}
use Rattle.lx_tdfa.specs.Kernels.{Candidate, Entry, Key, entries, entry_at, first_entries, kernel_list, next_candidates, places}
use Rattle.lx_tdfa.specs.Values.{value_at, values_beside, values_on}
use Rattle.lx_tdfa.proofs.WordKernels.KernelSteps.{kernel_list-first_runs, next_candidates-first}
use Rattle.lx_tdfa.proofs.WordKernels.OrderedLists.{IsMember, IsRising, nth_member}
use Rattle.lx_tdfa.proofs.WordKernels.RunSteps.{IsRun, IsSegment, entry_is}

pub last_event_append : (tag here : ℕ) (last : Option ℕ) (a b : List Symbol)
    → last_event tag here last (a ++ b) ≡ last_event tag (here + length (units a)) (last_event tag here last a) b
last_event_append tag here last [] b = let e : here ≡ here + 0 = omega arith in ap (λ n. last_event tag n last b) e
last_event_append tag here last (reads u ∷ a) b = let e : suc here + length (units a) ≡ here + suc (length (units a)) = omega arith in last_event_append tag (suc here) last a b ∙ ap (λ n. last_event tag n (last_event tag (suc here) last a) b) e
last_event_append tag here last (sets t ∷ a) b = last_event_append tag here (if t == tag then Some here else last) a b
last_event_append tag here last (unsets t ∷ a) b = last_event_append tag here (if t == tag then None else last) a b
last_event_append tag here last (begins p ∷ a) b = last_event_append tag here last a b
last_event_append tag here last (ends p ∷ a) b = last_event_append tag here last a b
last_event_append tag here last (picks p ∷ a) b = last_event_append tag here last a b

if_append : (c : Bool) (x : Option ℕ) (xs ys zs : List (Option ℕ)) → zs ≡ xs ++ ys → (if c then x ∷ zs else zs) ≡ (if c then x ∷ xs else xs) ++ ys
if_append true x xs ys zs e = ap (λ k. x ∷ k) e
if_append false x xs ys zs e = e

pub all_events_append : (tag here : ℕ) (a b : List Symbol)
    → all_events tag here (a ++ b) ≡ all_events tag here a ++ all_events tag (here + length (units a)) b
all_events_append tag here [] b = let e : here ≡ here + 0 = omega arith in ap (λ n. all_events tag n b) e
all_events_append tag here (reads u ∷ a) b = let e : suc here + length (units a) ≡ here + suc (length (units a)) = omega arith in all_events_append tag (suc here) a b ∙ ap (λ n. all_events tag (suc here) a ++ all_events tag n b) e
all_events_append tag here (sets t ∷ a) b = if_append (t == tag) (Some here) (all_events tag here a) _ _ (all_events_append tag here a b)
all_events_append tag here (unsets t ∷ a) b = if_append (t == tag) None (all_events tag here a) _ _ (all_events_append tag here a b)
all_events_append tag here (begins p ∷ a) b = all_events_append tag here a b
all_events_append tag here (ends p ∷ a) b = all_events_append tag here a b
all_events_append tag here (picks p ∷ a) b = all_events_append tag here a b

abbrev pub forwards : List ℕ → List ℕ
forwards [] = []
forwards (u ∷ w) = forwards w ++ u ∷ []

length_snoc : (a : List ℕ) (u : ℕ) → length (a ++ u ∷ []) ≡ suc (length a)
length_snoc [] u = refl
length_snoc (x ∷ a) u = ap suc (length_snoc a u)

pub forwards-length : (w : List ℕ) → length (forwards w) ≡ length w
forwards-length [] = refl
forwards-length (u ∷ w) = length_snoc (forwards w) u ∙ ap suc (forwards-length w)

-- `value` is the value of a front, `none` that of the empty one, and `act` goes on from a value over more symbols.
module _ (X : Type 0) (none : X) (value : List Symbol → X) (act : ℕ → X → List Symbol → X) where
  module _ (graph : List (List ℕ)) (after : ℕ → ℕ → List ℕ) (said : ℕ → ℕ → Key → List Symbol) (starts : List ℕ) where
    pub value_front : (es : List Entry) → value [] ≡ none → (i : ℕ)
        → value_at none (map (λ (e : Entry). value e.front) es) i ≡ value (entry_at es i).front
    value_front [] z i = sym z
    value_front (e ∷ es) z zero = refl
    value_front (e ∷ es) z (suc i) = value_front es z i

    begin_values : value [] ≡ none → (i : ℕ) (qs : List ℕ)
        → map (λ (e : Entry). none) (first_entries i qs) ≡ map (λ (e : Entry). value e.front) (first_entries i qs)
    begin_values z i [] = refl
    begin_values z i (q ∷ qs) = ap₂ (λ a b. a ∷ b) (sym z) (begin_values z (suc i) qs)

    -- the values beside the kernel's places are those of their fronts
    pub values_are : value [] ≡ none → IsRising (λ a b. a ≡ b → ⊥) starts
        → ((w : List ℕ) (e : Entry) (l : List Symbol) → IsRun graph after said starts w e.keys e.front e.place → value (e.front ++ l) ≡ act (length w) (value e.front) l)
        → (w : List ℕ)
        → values_beside X none act graph after said starts w ≡ map (λ (e : Entry). value e.front) (kernel_list graph after said starts w)
    values_are z apart h [] = begin_values z 0 starts
    values_are z apart h (u ∷ w) = on (next_candidates graph after said starts (places (kernel_list graph after said starts w)) u) from (values_are z apart h w)
      where
        from : (n : Candidate) → IsMember (next_candidates graph after said starts (places (kernel_list graph after said starts w)) u) n
            → (e : Entry) × IsNth (kernel_list graph after said starts w) n.from e
        from n m =
            let s = (next_candidates-first graph after said starts (places (kernel_list graph after said starts w)) u).sound n m in
            let b = nth_unmap (λ (e : Entry). e.place) (kernel_list graph after said starts w) n.from s.0 s.1 in
            (b.0, b.1)

        run : (i : ℕ) (e : Entry) → IsNth (kernel_list graph after said starts w) i e → (x : Entry)
            → entry_at (kernel_list graph after said starts w) i ≡ x → IsRun graph after said starts w x.keys x.front x.place
        run i e k x q = subst (λ (y : Entry). IsRun graph after said starts w y.keys y.front y.place) (sym (entry_is graph after said starts (kernel_list graph after said starts w) i e k) ∙ q) ((kernel_list-first_runs graph after said starts apart w).sound e (nth_member (kernel_list graph after said starts w) i e k))

        on : (ns : List Candidate)
            → ((n : Candidate) → IsMember ns n → (e : Entry) × IsNth (kernel_list graph after said starts w) n.from e)
            → values_beside X none act graph after said starts w ≡ map (λ (e : Entry). value e.front) (kernel_list graph after said starts w)
            → values_on X none act graph after said starts (length w) (kernel_list graph after said starts w) (values_beside X none act graph after said starts w) u ns ≡ map (λ (e : Entry). value e.front) (entries graph after said starts (kernel_list graph after said starts w) u ns)
        on [] f e = refl
        on (n ∷ ns) f e =
            let x : Entry = entry_at (kernel_list graph after said starts w) n.from in
            let l : List Symbol = said x.place u n.key in
            let b = f n (inl refl) in
            ap₂ (λ a b. a ∷ b)
            (ap (λ y. act (length w) y l) (ap (λ vs. value_at none vs n.from) e ∙ value_front (kernel_list graph after said starts w) z n.from) ∙ sym (h w x l (run n.from b.0 b.1 x refl)))
            (on ns (λ m k. f m (inr k)) e)

module _ (graph : List (List ℕ)) (after : ℕ → ℕ → List ℕ) (said : ℕ → ℕ → Key → List Symbol) (starts : List ℕ) (single : (w : List ℕ) (ks : List Key) (E : List Symbol) (p : ℕ) → IsRun graph after said starts w ks E p → (u : ℕ) (k : Key) (q : ℕ) → IsSegment graph after said starts p u k q → units (said p u k) ≡ u ∷ []) where
  -- a run over a word has its units
  pub run_units : (w : List ℕ) (ks : List Key) (F : List Symbol) (q : ℕ) → IsRun graph after said starts w ks F q → units F ≡ forwards w
  run_units [] [] F q r = absurd r
  run_units [] (k ∷ ks) F q r = ap units r.3
  run_units (u ∷ w) [] F q r = absurd r
  run_units (u ∷ w) (k ∷ ks) F q r =
      ap units r.3 ∙ units_append r.1 (said r.0 u k) ∙ ap₂ (λ a b. a ++ b) (run_units w ks r.1 r.0 r.2) (single w ks r.1 r.0 r.2 u k q r.4)

  run_length : (w : List ℕ) (ks : List Key) (F : List Symbol) (q : ℕ) → IsRun graph after said starts w ks F q → length (units F) ≡ length w
  run_length w ks F q r = ap length (run_units w ks F q r) ∙ forwards-length w

  offset : (w : List ℕ) (ks : List Key) (F : List Symbol) (q : ℕ) → IsRun graph after said starts w ks F q → 0 + length (units F) ≡ length w
  offset w ks F q r = let h : length (units F) ≡ length w = run_length w ks F q r in omega arith

  -- the values of an s-tag, kept step by step, are those of the fronts
  pub last_values : IsRising (λ a b. a ≡ b → ⊥) starts → (tag : ℕ) (w : List ℕ)
      → values_beside (Option ℕ) None (λ here v l. last_event tag here v l) graph after said starts w ≡ map (λ (e : Entry). last_event tag 0 None e.front) (kernel_list graph after said starts w)
  last_values apart tag = values_are (Option ℕ) None (last_event tag 0 None) (λ here v l. last_event tag here v l) graph after said starts refl apart (λ w e l r.
      last_event_append tag 0 None e.front l ∙ ap (λ n. last_event tag n (last_event tag 0 None e.front) l) (offset w e.keys e.front e.place r))

  -- and those of an m-tag
  pub all_values : IsRising (λ a b. a ≡ b → ⊥) starts → (tag : ℕ) (w : List ℕ)
      → values_beside (List (Option ℕ)) [] (λ here v l. v ++ all_events tag here l) graph after said starts w ≡ map (λ (e : Entry). all_events tag 0 e.front) (kernel_list graph after said starts w)
  all_values apart tag = values_are (List (Option ℕ)) [] (all_events tag 0) (λ here v l. v ++ all_events tag here l) graph after said starts refl apart (λ w e l r.
      all_events_append tag 0 e.front l ∙ ap (λ n. all_events tag 0 e.front ++ all_events tag n l) (offset w e.keys e.front e.place r))
