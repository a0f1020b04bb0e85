-- The list that is computed for a word is the kernel of the word.
use Rattle.std.proofs.Common.{inl, inr, sym, ap, ap₂, ◌∙◌, subst, arith, ⊎_elim}
use Rattle.std.specs.Prelude.{◌≡◌, ℕ, zero, suc, ◌+◌, ◌*◌, ◌⊎◌, List, [], ◌∷◌, ◌++◌, map, Some, slice_get, refl}
use Rattle.lx_base.specs.declared.settings.Enc.{Enc}
use Rattle.lx_regex.specs.Automaton.{automaton}
use Rattle.lx_regex.specs.Cut.{Cut, Finishes, GoesOn, IsCut, Precedes, SamePlace, last_part}
use Rattle.lx_regex.specs.Kernel.{IsKernel}
use Rattle.lx_regex.specs.Script.{Symbol, choices, ends, reads}
use Rattle.lx_regex.specs.Term.{Term}
use Rattle.lx_regex.specs.Walk.{mark, symbols}
use Rattle.lx_regex.proofs.Walks.Exchange.{first_mark, reads_match}
use Rattle.lx_regex.proofs.KernelCuts.Kernels.{precedes_asym}
use Rattle.lx_regex.proofs.Walks.PlainWalk.{mark_tells}
use Rattle.lx_regex.proofs.PartTables.Rows.{mark_ends}
use Rattle.lx_regex.proofs.KernelCuts.RuleCuts.{cuts_one_rule}
use Rattle.lx_regex.proofs.Walks.Scripts.{differs_is_before}
use Rattle.lx_tnfa.specs.LeafReadings.{IsLeft, IsNth, NumbersLeaves}
use Rattle.lx_tnfa.proofs.Construction.NthLists.{nth_map, nth_unmap}
use Rattle.lx_tdfa.specs.Graph.{graph_of, rule_starts}
use Rattle.lx_tdfa.specs.Kernels.{Entry, Key, cut_of, kernel_list, rule_of, segment_symbols}
use Rattle.lx_tdfa.proofs.WordKernels.CutRuns.{cut_run}
use Rattle.lx_tdfa.proofs.WordKernels.KernelSteps.{kernel_list-first_runs}
use Rattle.lx_tdfa.proofs.WordKernels.OrderedLists.{IsLesser, member_nth, nth_member, rising_nth}
use Rattle.lx_tdfa.proofs.WordKernels.RunCuts.{IsRunOf, StandsInLeaf, leaf_goes_on, run_cut, run_in_leaf, run_rule}
use Rattle.lx_tdfa.proofs.WordKernels.RunOrder.{differs_self, run_cases, run_order, run_same}
use Rattle.lx_tdfa.proofs.WordKernels.RunSteps.{AreFirstRuns}
use Rattle.lx_tdfa.proofs.Rules.StateOrder.{rule_starts-apart}
use Rattle.lx_tdfa.proofs.Values.ValueSteps.{forwards}

nth_of_slice : {X : Type 0} (xs : List X) (i : ℕ) (x : X) → slice_get xs i ≡ Some x → IsNth xs i x
nth_of_slice [] i x h = cc
nth_of_slice (y ∷ xs) zero x h = cc
nth_of_slice (y ∷ xs) (suc i) x h = nth_of_slice xs i x h

slice_of_nth : {X : Type 0} (xs : List X) (i : ℕ) (x : X) → IsNth xs i x → slice_get xs i ≡ Some x
slice_of_nth [] i x h = absurd h
slice_of_nth (y ∷ xs) zero x h = ap Some h
slice_of_nth (y ∷ xs) (suc i) x h = slice_of_nth xs i x h

module _ (enc : Enc) (rules : List Term) (after : ℕ → ℕ → List ℕ) (added : ℕ → ℕ → ℕ → List Symbol) (number : ℕ → List Symbol → ℕ) (numbers : NumbersLeaves enc rules after added number) where
  abbrev IsInLeaf : ℕ → List Symbol → ℕ → Type 0
  IsInLeaf r F q = StandsInLeaf enc rules after added number numbers r F q

  -- one front has one run
  front_place : (u : ℕ) (w : List ℕ) (ks ls : List Key) (F : List Symbol) (q q' : ℕ)
      → IsRunOf enc rules after added number numbers (u ∷ w) ks F q → IsRunOf enc rules after added number numbers (u ∷ w) ls F q'
      → rule_of ks ≡ rule_of ls → q ≡ q'
  front_place u w ks ls F q q' r r' e =
      ⊎_elim
      (λ l. ⊎_elim (λ lt. absurd (omega arith)) (λ s. absurd (differs_self (choices F) s.1)) (run_order enc rules after added number numbers (u ∷ w) ks ls F F q q' r r' l))
      (λ s. ⊎_elim
      (λ k. (run_same enc rules after added number numbers (u ∷ w) ls F F q q' (subst (λ x. IsRunOf enc rules after added number numbers (u ∷ w) x F q) k r) r').1)
      (λ l. ⊎_elim (λ lt. absurd (omega arith)) (λ s. absurd (differs_self (choices F) s.1)) (run_order enc rules after added number numbers (u ∷ w) ls ks F F q' q r' r l))
      s)
      (run_cases enc rules after added number numbers (u ∷ w) ks ls F F q q' r r')

  -- what finishes a cut is what finishes its place
  finishes_rest : (u : ℕ) (w : List ℕ) (ks : List Key) (F : List Symbol) (q : ℕ)
      → IsRunOf enc rules after added number numbers (u ∷ w) ks F q → (H : IsInLeaf (rule_of ks) F q) → (v : List ℕ)
      → Finishes enc rules (record { rule = rule_of ks; front = F }) v → IsLeft enc rules H.leaf H.tail v
  finishes_rest u w ks F q r H v f =
      let is = run_cut enc rules after added number numbers u w ks F q r in
      let A = cut_run enc rules after added number numbers u w (record { rule = rule_of ks; front = F }) (map reads v ++ ends (last_part 0 F) ∷ f.0) H.unit is.reads_word f.1 in
      let m = first_mark enc (automaton rules) 0 A.walk (λ e. absurd (omega arith)) in
      let e : map reads v ++ ends (last_part 0 F) ∷ f.0 ≡ map reads A.left ++ mark (A.leaf + 1) ∷ m.0 = A.on ∙ ap (λ n. map reads A.left ++ n) m.1 in
      let d = reads_match v A.left (ends (last_part 0 F)) (mark (A.leaf + 1)) (2 * last_part 0 F + 1) (A.leaf + 1) f.0 m.0 refl (mark_tells (A.leaf + 1)) e in
      let same : number A.leaf A.tail ≡ number H.leaf H.tail = sym A.numbered ∙ front_place u w A.keys ks F A.place q A.run r A.rule ∙ H.place in
      (numbers.same A.leaf H.leaf A.tail H.tail A.left H.left A.fits H.rest A.begun H.begun same).1 v (subst (λ n. IsLeft enc rules A.leaf A.tail n) (sym d.0) A.fits)

  rest_finishes : (u : ℕ) (w : List ℕ) (ks : List Key) (F : List Symbol) (q : ℕ)
      → IsRunOf enc rules after added number numbers (u ∷ w) ks F q → (H : IsInLeaf (rule_of ks) F q) → (v : List ℕ)
      → IsLeft enc rules H.leaf H.tail v → Finishes enc rules (record { rule = rule_of ks; front = F }) v
  rest_finishes u w ks F q r H v rs =
      let e = run_rule enc rules after added number numbers (u ∷ w) ks F q r in
      let h = leaf_goes_on enc rules after added number numbers (rule_of ks) e.0 F q e.1 H v rs in
      let m = first_mark enc (automaton rules) 0 h.0 (λ e. absurd (omega arith)) in
      let k : symbols enc h.0 [] ≡ ends (last_part 0 F) ∷ m.0 = m.1 ∙ ap (λ n. mark (n + 1) ∷ m.0) H.part ∙ ap (λ n. n ∷ m.0) (mark_ends (last_part 0 F)) in
      (m.0, subst (λ n. GoesOn enc rules (record { rule = rule_of ks; front = F }) (map reads v ++ n)) k h.1)

  -- one number is one place, also behind different words
  pub same_place : (u : ℕ) (w : List ℕ) (x : ℕ) (z : List ℕ) (ks ls : List Key) (F F' : List Symbol) (q q' : ℕ)
      → IsRunOf enc rules after added number numbers (u ∷ w) ks F q → IsRunOf enc rules after added number numbers (x ∷ z) ls F' q' → q ≡ q'
      → SamePlace enc rules (record { rule = rule_of ks; front = F }) (record { rule = rule_of ls; front = F' })
  same_place u w x z ks ls F F' q q' r r' e =
      let H = run_in_leaf enc rules after added number numbers u w ks F q r in
      let K = run_in_leaf enc rules after added number numbers x z ls F' q' r' in
      let n : number H.leaf H.tail ≡ number K.leaf K.tail = sym H.place ∙ e ∙ K.place in
      let a = numbers.same H.leaf K.leaf H.tail K.tail H.left K.left H.rest K.rest H.begun K.begun n in
      let b = numbers.same K.leaf H.leaf K.tail H.tail K.left H.left K.rest H.rest K.begun H.begun (sym n) in
      let part : last_part 0 F ≡ last_part 0 F' = let h : 2 * last_part 0 F ≡ 2 * last_part 0 F' = sym H.part ∙ a.0 ∙ K.part in omega arith in
      let j = run_cut enc rules after added number numbers u w ks F q r in
      let k = run_cut enc rules after added number numbers x z ls F' q' r' in
      record {
        rule = cuts_one_rule enc rules (record { rule = rule_of ks; front = F }) (record { rule = rule_of ls; front = F' }) j.possible.0 k.possible.0 H.unit K.unit j.possible.1 k.possible.1 part;
        part = part;
        left = λ v. (
          (λ f. rest_finishes x z ls F' q' r' K v (a.1 v (finishes_rest u w ks F q r H v f))),
          (λ f. rest_finishes u w ks F q r H v (b.1 v (finishes_rest x z ls F' q' r' K v f))),
        );
      }

  -- and one place, one number
  pub same_number : (u : ℕ) (w : List ℕ) (x : ℕ) (z : List ℕ) (ks ls : List Key) (F F' : List Symbol) (q q' : ℕ)
      → IsRunOf enc rules after added number numbers (u ∷ w) ks F q → IsRunOf enc rules after added number numbers (x ∷ z) ls F' q'
      → SamePlace enc rules (record { rule = rule_of ks; front = F }) (record { rule = rule_of ls; front = F' }) → q ≡ q'
  same_number u w x z ks ls F F' q q' r r' s =
      let H = run_in_leaf enc rules after added number numbers u w ks F q r in
      let K = run_in_leaf enc rules after added number numbers x z ls F' q' r' in
      let leaf : K.leaf ≡ H.leaf = K.part ∙ ap (λ n. 2 * n) (sym s.part) ∙ sym H.part in
      H.place ∙ numbers.exact H.leaf H.tail K.tail H.left K.left H.rest (subst (λ n. IsLeft enc rules n K.tail K.left) leaf K.rest) H.begun K.begun
      (λ v. (
        (λ i. subst (λ n. IsLeft enc rules n K.tail v) leaf (finishes_rest x z ls F' q' r' K v ((s.left v).0 (rest_finishes u w ks F q r H v i)))),
        (λ i. finishes_rest u w ks F q r H v ((s.left v).1 (rest_finishes x z ls F' q' r' K v (subst (λ n. IsLeft enc rules n K.tail v) (sym leaf) i)))),
      ))
      ∙ ap (λ n. number n K.tail) (sym leaf) ∙ sym K.place

  precedes_self : (k : Cut) → Precedes k k → ⊥
  precedes_self k p = precedes_asym k k p p

  precedes : (w : List ℕ) (ks ls : List Key) (F F' : List Symbol) (q q' : ℕ) → IsRunOf enc rules after added number numbers w ks F q
      → IsRunOf enc rules after added number numbers w ls F' q' → IsLesser ks ls
      → Precedes (record { rule = rule_of ks; front = F }) (record { rule = rule_of ls; front = F' })
  precedes w ks ls F F' q q' r r' l =
      ⊎_elim (λ lt. inl lt) (λ s. inr (s.0, differs_is_before (choices F) (choices F') s.1)) (run_order enc rules after added number numbers w ks ls F F' q q' r r' l)

  pub kernel_of_runs : (u : ℕ) (w : List ℕ) (es : List Entry)
      → AreFirstRuns (graph_of (automaton rules)) after (segment_symbols rules added) (rule_starts rules) (u ∷ w) es
      → IsKernel Precedes enc rules (forwards (u ∷ w)) (map cut_of es)
  kernel_of_runs u w es K = record {
    start = λ e. absurd (none (forwards w) e);
    cuts = λ i k ne at.
        let b = nth_unmap cut_of es i k (nth_of_slice (map cut_of es) i k at) in
        subst (λ c. IsCut enc rules (forwards (u ∷ w)) c) b.2 (run_cut enc rules after added number numbers u w b.0.keys b.0.front b.0.place (K.sound b.0 (nth_member es i b.0 b.1)));
    every = λ k ne is. every k is;
    ordered = λ i j x y lt a b.
        let p = nth_unmap cut_of es i x (nth_of_slice (map cut_of es) i x a) in
        let q = nth_unmap cut_of es j y (nth_of_slice (map cut_of es) j y b) in
        let rp = K.sound p.0 (nth_member es i p.0 p.1) in
        let rq = K.sound q.0 (nth_member es j q.0 q.1) in
        let l : IsLesser p.0.keys q.0.keys = rising_nth (λ (e f : Entry). IsLesser e.keys f.keys) es i j p.0 q.0 K.order p.1 q.1 lt in
        let o : p.0.place ≡ q.0.place → ⊥ = rising_nth (λ (e f : Entry). e.place ≡ f.place → ⊥) es i j p.0 q.0 K.once p.1 q.1 lt in (
          subst (λ c. Precedes c y) p.2 (subst (λ c. Precedes (cut_of p.0) c) q.2 (precedes (u ∷ w) p.0.keys q.0.keys p.0.front q.0.front p.0.place q.0.place rp rq l)),
          λ s. o (same_number u w u w p.0.keys q.0.keys p.0.front q.0.front p.0.place q.0.place rp rq (subst (λ c. SamePlace enc rules (cut_of p.0) c) (sym q.2) (subst (λ c. SamePlace enc rules c y) (sym p.2) s))),
        );
  }
    where
      none : (l : List ℕ) → l ++ u ∷ [] ≡ [] → ⊥
      none [] e = cc
      none (x ∷ l) e = cc

      every : (k : Cut) → IsCut enc rules (forwards (u ∷ w)) k
          → (i : ℕ) × (j : Cut) × (slice_get (map cut_of es) i ≡ Some j) × SamePlace enc rules j k × (Precedes k j → ⊥)
      every k is =
          let A = cut_run enc rules after added number numbers u w k is.possible.0 is.after_unit is.reads_word is.possible.1 in
          let e = K.complete A.keys k.front A.place A.run in
          let i = member_nth es e.0 e.1 in
          let r = K.sound e.0 e.1 in
          let c : record { rule = rule_of A.keys; front = k.front } ≡ k = ap (λ n. record { rule = n; front = k.front }) A.rule in (
            i.0,
            cut_of e.0,
            slice_of_nth (map cut_of es) i.0 (cut_of e.0) (nth_map cut_of es i.0 e.0 i.1),
            subst (λ x. SamePlace enc rules (cut_of e.0) x) c (same_place u w u w e.0.keys A.keys e.0.front k.front e.0.place A.place r A.run e.2),
            λ p. first A.keys A.place A.run c e.0 r e.3 (run_cases enc rules after added number numbers (u ∷ w) A.keys e.0.keys k.front e.0.front A.place e.0.place A.run r) p,
          )
        where
          first : (ks : List Key) (q : ℕ) → IsRunOf enc rules after added number numbers (u ∷ w) ks k.front q
              → record { rule = rule_of ks; front = k.front } ≡ k → (e : Entry)
              → IsRunOf enc rules after added number numbers (u ∷ w) e.keys e.front e.place → (IsLesser ks e.keys → ⊥)
              → IsLesser ks e.keys ⊎ ((ks ≡ e.keys) ⊎ IsLesser e.keys ks) → Precedes k (cut_of e) → ⊥
          first ks q run c e r least (inl l) p = least l
          first ks q run c e r least (inr (inl s)) p =
              let f : k.front ≡ e.front = (run_same enc rules after added number numbers (u ∷ w) e.keys k.front e.front q e.place (subst (λ x. IsRunOf enc rules after added number numbers (u ∷ w) x k.front q) s run) r).0 in
              let d : k ≡ cut_of e = sym c ∙ ap₂ (λ a b. record { rule = rule_of a; front = b }) s f in
              precedes_self (cut_of e) (subst (λ x. Precedes x (cut_of e)) d p)
          first ks q run c e r least (inr (inr l)) p =
              precedes_asym (cut_of e) k (subst (λ x. Precedes (cut_of e) x) c (precedes (u ∷ w) e.keys ks e.front k.front e.place q r run l)) p

  -- of each word that is not empty, given with its last unit first
  pub kernel_is_listed : (u : ℕ) (w : List ℕ)
      → IsKernel Precedes enc rules (forwards (u ∷ w)) (map cut_of (kernel_list (graph_of (automaton rules)) after (segment_symbols rules added) (rule_starts rules) (u ∷ w)))
  kernel_is_listed u w = kernel_of_runs u w (kernel_list (graph_of (automaton rules)) after (segment_symbols rules added) (rule_starts rules) (u ∷ w)) (kernel_list-first_runs (graph_of (automaton rules)) after (segment_symbols rules added) (rule_starts rules) (rule_starts-apart rules) (u ∷ w))
