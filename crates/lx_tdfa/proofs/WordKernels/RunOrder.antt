-- The order of runs by their keys is the order of their cuts by rules and choices.
use Rattle.std.proofs.Common.{inl, inr, sym, ap, ap₂, ◌∙◌, subst, arith, ⊎_elim}
use Rattle.std.proofs.lemmas.Bool.{cases_lt}
use Rattle.std.specs.Prelude.{◌≡◌, ℕ, ◌<◌, ◌≤◌, ◌⊎◌, List, [], ◌∷◌, ◌++◌, length, refl}
use Rattle.lx_base.specs.declared.settings.Enc.{Enc}
use Rattle.lx_regex.specs.Automaton.{State, automaton, label, target}
use Rattle.lx_regex.specs.Dictionary.{IsBefore}
use Rattle.lx_regex.specs.Script.{Symbol, choices}
use Rattle.lx_regex.specs.Term.{Term}
use Rattle.lx_regex.specs.Walk.{mark}
use Rattle.lx_regex.proofs.Walks.Clear.{picked}
use Rattle.lx_regex.proofs.Walks.Fronts.{DiffersBefore, choices_append, choices_label, choices_mark, pick_list}
use Rattle.lx_tnfa.specs.LeafReadings.{IsNth, NumbersLeaves}
use Rattle.lx_tnfa.specs.DepthFirst.{successors}
use Rattle.lx_tnfa.proofs.Searching.SimplePaths.{IsAt, SimplePath}
use Rattle.lx_tdfa.specs.Graph.{graph_of, move_at, path_end, path_symbols, rule_starts}
use Rattle.lx_tdfa.specs.Kernels.{Key, rule_of, segment_symbols}
use Rattle.lx_tdfa.proofs.WordKernels.OrderedLists.{IsLesser, IsLesserKey, key_cases, nth_same}
use Rattle.lx_tdfa.proofs.WordKernels.RunCuts.{IsRunOf, IsSegmentOf, StandsAtState, StandsInLeaf, begin_at_state, leaf_at_state, path_within, segment_within, rule_more, run_in_leaf}
use Rattle.lx_tdfa.proofs.Rules.StateOrder.{automaton_in_order}
use Rattle.lx_tdfa.proofs.Walks.StatePaths.{MovesInOrder, at_move, leaf_edge, path_end-is, path_symbols-append}

pub differs_behind : (xs ys p q : List ℕ) → DiffersBefore xs ys → DiffersBefore (xs ++ p) (ys ++ q)
differs_behind [] ys p q h = absurd h
differs_behind (x ∷ xs) [] p q h = absurd h
differs_behind (x ∷ xs) (y ∷ ys) p q h = ⊎_elim (λ l. inl l) (λ k. inr (k.0, differs_behind xs ys p q k.1)) h

pub differs_under : (a xs ys : List ℕ) → DiffersBefore xs ys → DiffersBefore (a ++ xs) (a ++ ys)
differs_under [] xs ys h = h
differs_under (x ∷ a) xs ys h = inr (refl, differs_under a xs ys h)

pub differs_self : (xs : List ℕ) → DiffersBefore xs xs → ⊥
differs_self [] h = h
differs_self (x ∷ xs) h = ⊎_elim (λ l. absurd (omega arith)) (λ k. differs_self xs k.1) h

module _ (states : List State) (rows : MovesInOrder states) where
  step_choices : (s i : ℕ) (l : List Symbol)
      → choices (mark s ∷ (label (move_at states s i) ++ l)) ≡ pick_list (picked (move_at states s i)) ++ choices l
  step_choices s i l = choices_mark s _ ∙ choices_label (move_at states s i) l

  pub path_order : (avoided V' : List ℕ) (s : ℕ) (ws ws' : List ℕ) (t t' : ℕ)
      → ((i c : ℕ) → IsAt 0 (successors (graph_of states) t) i c → ⊥) → SimplePath (graph_of states) avoided s ws t
      → SimplePath (graph_of states) V' s ws' t' → IsBefore ws ws' → (Z Z' : List Symbol)
      → DiffersBefore (choices (path_symbols states s ws Z)) (choices (path_symbols states s ws' Z'))
  path_order avoided V' s [] [] t t' blind p p' b Z Z' = absurd b
  path_order avoided V' s [] (j ∷ ws') t t' blind p p' b Z Z' = absurd (blind j p'.1.0 (subst (λ n. IsAt 0 (successors (graph_of states) n) j p'.1.0) p.1 p'.1.1))
  path_order avoided V' s (i ∷ ws) [] t t' blind p p' b Z Z' = absurd b
  path_order avoided V' s (i ∷ ws) (j ∷ ws') t t' blind p p' b Z Z' =
      let m = at_move states s i p.1.0 p.1.1 in
      let n = at_move states s j p'.1.0 p'.1.1 in
      let L : List ℕ = choices (path_symbols states (target (move_at states s i)) ws Z) in
      let M : List ℕ = choices (path_symbols states (target (move_at states s j)) ws' Z') in
      subst (λ y. DiffersBefore y (choices (path_symbols states s (j ∷ ws') Z'))) (sym (step_choices s i _)) (subst (λ y. DiffersBefore (pick_list (picked (move_at states s i)) ++ L) y) (sym (step_choices s j _))
      (⊎_elim
      (λ l.
      let r = rows s i j p.1.0 p'.1.0 p.1.1 p'.1.1 l in
      subst (λ y. DiffersBefore (pick_list y ++ L) (pick_list (picked (move_at states s j)) ++ M)) (sym r.2) (subst (λ y. DiffersBefore (r.0 ∷ L) (pick_list y ++ M)) (sym r.3) (inl r.4)))
      (λ k.
      let q : SimplePath (graph_of states) (s ∷ avoided) (target (move_at states s i)) ws t = subst (λ c. SimplePath (graph_of states) (s ∷ avoided) c ws t) (sym m.2) p.1.2 in
      let q' : SimplePath (graph_of states) (s ∷ V') (target (move_at states s i)) ws' t' = subst (λ c. SimplePath (graph_of states) (s ∷ V') c ws' t') (sym (ap (λ y. target (move_at states s y)) k.0 ∙ n.2)) p'.1.2 in
      subst (λ y. DiffersBefore (pick_list (picked (move_at states s i)) ++ L) (pick_list (picked (move_at states s y)) ++ choices (path_symbols states (target (move_at states s y)) ws' Z'))) k.0
      (differs_under (pick_list (picked (move_at states s i))) L (choices (path_symbols states (target (move_at states s i)) ws' Z')) (path_order (s ∷ avoided) (s ∷ V') (target (move_at states s i)) ws ws' t t' blind q q' k.1 Z Z')))
      b))

path_choices : (states : List State) (s : ℕ) (ws : List ℕ) (y : List Symbol)
    → choices (path_symbols states s ws y) ≡ choices (path_symbols states s ws []) ++ choices y
path_choices states s ws y = ap choices (path_symbols-append states s ws [] y) ∙ choices_append (path_symbols states s ws []) y

module _ (enc : Enc) (rules : List Term) (after : ℕ → ℕ → List ℕ) (added : ℕ → ℕ → ℕ → List Symbol) (number : ℕ → List Symbol → ℕ) (numbers : NumbersLeaves enc rules after added number) where
  -- runs with the same keys are the same
  pub run_same : (w : List ℕ) (ks : List Key) (F F' : List Symbol) (q q' : ℕ) → IsRunOf enc rules after added number numbers w ks F q
      → IsRunOf enc rules after added number numbers w ks F' q' → (F ≡ F') × (q ≡ q')
  run_same [] [] F F' q q' r r' = absurd r
  run_same [] (k ∷ ks) F F' q q' r r' = (r.3 ∙ sym r'.3, nth_same (rule_starts rules) k.pick q q' r.2 r'.2)
  run_same (u ∷ w) [] F F' q q' r r' = absurd r
  run_same (u ∷ w) (k ∷ ks) F F' q q' r r' =
      let i = run_same w ks r.1 r'.1 r.0 r'.0 r.2 r'.2 in
      let t : r.4.0 ≡ r'.4.0 = sym (path_end-is (automaton rules) [] r.0 k.way r.4.0 r.4.1) ∙ ap (λ p. path_end (automaton rules) p k.way) i.1 ∙ path_end-is (automaton rules) [] r'.0 k.way r'.4.0 r'.4.1 in
      (r.3 ∙ ap₂ (λ E p. E ++ segment_symbols rules added p u k) i.0 i.1 ∙ sym r'.3, nth_same (after r'.4.0 u) k.pick q q' (subst (λ n. IsNth (after n u) k.pick q) t r.4.2) r'.4.2)

  pub run_cases : (w : List ℕ) (ks ls : List Key) (F F' : List Symbol) (q q' : ℕ) → IsRunOf enc rules after added number numbers w ks F q
      → IsRunOf enc rules after added number numbers w ls F' q' → IsLesser ks ls ⊎ ((ks ≡ ls) ⊎ IsLesser ls ks)
  run_cases [] [] ls F F' q q' r r' = absurd r
  run_cases [] (k ∷ ks) [] F F' q q' r r' = absurd r'
  run_cases [] (k ∷ ks) (l ∷ ls) F F' q q' r r' =
      let e : ks ≡ ls = r.0 ∙ sym r'.0 in
      ⊎_elim (λ a. inl (inr (e, a))) (λ b. ⊎_elim (λ f. inr (inl (ap₂ (λ x y. x ∷ y) f e))) (λ c. inr (inr (inr (sym e, c)))) b) (key_cases k l)
  run_cases (u ∷ w) [] ls F F' q q' r r' = absurd r
  run_cases (u ∷ w) (k ∷ ks) [] F F' q q' r r' = absurd r'
  run_cases (u ∷ w) (k ∷ ks) (l ∷ ls) F F' q q' r r' =
      ⊎_elim
      (λ a. inl (inl a))
      (λ s. ⊎_elim
      (λ e. ⊎_elim (λ a. inl (inr (e, a))) (λ b. ⊎_elim (λ f. inr (inl (ap₂ (λ x y. x ∷ y) f e))) (λ c. inr (inr (inr (sym e, c)))) b) (key_cases k l))
      (λ b. inr (inr (inl b)))
      s)
      (run_cases w ks ls r.1 r'.1 r.0 r'.0 r.2 r'.2)

  order_from_state : (r : ℕ) (E : List Symbol) (p u : ℕ) (k l : Key) (q q' : ℕ) → StandsAtState enc rules after added number numbers r E p
      → IsSegmentOf enc rules after added number numbers p u k q → IsSegmentOf enc rules after added number numbers p u l q'
      → IsLesserKey k l → DiffersBefore (choices (segment_symbols rules added p u k)) (choices (segment_symbols rules added p u l))
  order_from_state r E p u k l q q' Fr s s' h =
      let states : List State = automaton rules in
      let L = numbers.leaf_sound s.0 u k.pick q (path_within enc rules after added number numbers [] p k.way s.0 Fr.low s.1) s.2 in
      ⊎_elim
      (λ b. path_order states (automaton_in_order rules) [] [] p k.way l.way s.0 s'.0 (leaf_edge enc states s.0 L.0 L.3 L.4) s.1 s'.1 b _ _)
      (λ e.
      let t : path_end states p k.way ≡ s.0 = path_end-is states [] p k.way s.0 s.1 in
      let t' : path_end states p k.way ≡ s'.0 = ap (path_end states p) e.0 ∙ path_end-is states [] p l.way s'.0 s'.1 in
      let o = numbers.order (path_end states p k.way) u k.pick l.pick q q' (subst (λ n. IsNth (after n u) k.pick q) (sym t) s.2) (subst (λ n. IsNth (after n u) l.pick q') (sym t') s'.2) e.1 in
      let A : List ℕ = choices (path_symbols states p k.way []) in
      let z : DiffersBefore (choices (added (path_end states p k.way) u k.pick)) (choices (added (path_end states p k.way) u l.pick)) = subst (λ y. DiffersBefore y (choices (added (path_end states p k.way) u l.pick))) (sym o.4) (subst (λ y. DiffersBefore (o.0 ∷ o.2) y) (sym o.5) (inl o.6)) in
      let y : DiffersBefore (choices (path_symbols states p k.way (added (path_end states p k.way) u k.pick))) (choices (path_symbols states p k.way (added (path_end states p k.way) u l.pick))) =
      subst (λ y. DiffersBefore y (choices (path_symbols states p k.way (added (path_end states p k.way) u l.pick)))) (sym (path_choices states p k.way _)) (subst (λ y. DiffersBefore (A ++ choices (added (path_end states p k.way) u k.pick)) y) (sym (path_choices states p k.way _)) (differs_under A _ _ z)) in
      subst (λ ws. DiffersBefore (choices (segment_symbols rules added p u k)) (choices (path_symbols states p ws (added (path_end states p ws) u l.pick)))) e.0 y)
      h

  order_within : (r : ℕ) (E : List Symbol) (p u : ℕ) (k l : Key) (q q' : ℕ) → StandsInLeaf enc rules after added number numbers r E p
      → length (automaton rules) ≤ p → IsSegmentOf enc rules after added number numbers p u k q
      → IsSegmentOf enc rules after added number numbers p u l q' → IsLesserKey k l → ⊥
  order_within r E p u k l q q' H h s s' c =
      let h' : length (automaton rules) ≤ number H.leaf H.tail = subst (λ n. length (automaton rules) ≤ n) H.place h in
      let m = segment_within enc rules after added number numbers H.leaf H.tail H.left u k q H.rest H.begun h' (subst (λ n. IsSegmentOf enc rules after added number numbers n u k q) H.place s) in
      let n = segment_within enc rules after added number numbers H.leaf H.tail H.left u l q' H.rest H.begun h' (subst (λ n. IsSegmentOf enc rules after added number numbers n u l q') H.place s') in
      ⊎_elim (λ (b : IsBefore k.way l.way). subst (λ y. IsBefore y []) m.4 (subst (λ y. IsBefore k.way y) n.4 b)) (λ e. omega (arith, m.5, n.5, e.1)) c

  -- the order of runs
  pub run_order : (w : List ℕ) (ks ls : List Key) (F F' : List Symbol) (q q' : ℕ) → IsRunOf enc rules after added number numbers w ks F q
      → IsRunOf enc rules after added number numbers w ls F' q' → IsLesser ks ls
      → (rule_of ks < rule_of ls) ⊎ ((rule_of ks ≡ rule_of ls) × DiffersBefore (choices F) (choices F'))
  run_order [] [] ls F F' q q' r r' h = absurd r
  run_order [] (k ∷ ks) [] F F' q q' r r' h = absurd r'
  run_order [] (k ∷ ks) (l ∷ ls) F F' q q' r r' h =
      ⊎_elim
      (λ a. absurd (subst (λ y. IsLesser y ls) r.0 a))
      (λ e. ⊎_elim
      (λ b. absurd (subst (λ y. IsBefore y []) r.1 (subst (λ y. IsBefore k.way y) r'.1 b)))
      (λ c. inl (subst (λ y. rule_of (k ∷ y) < rule_of (l ∷ ls)) (sym r.0) (subst (λ y. k.pick < rule_of (l ∷ y)) (sym r'.0) c.1)))
      e.1)
      h
  run_order (u ∷ w) [] ls F F' q q' r r' h = absurd r
  run_order (u ∷ w) (k ∷ ks) [] F F' q q' r r' h = absurd r'
  run_order (u ∷ w) (k ∷ ks) (l ∷ ls) F F' q q' r r' h =
      let a : rule_of (k ∷ ks) ≡ rule_of ks = rule_more enc rules after added number numbers w k ks r.1 r.0 r.2 in
      let b : rule_of (l ∷ ls) ≡ rule_of ls = rule_more enc rules after added number numbers w l ls r'.1 r'.0 r'.2 in
      let A : List Symbol = segment_symbols rules added r.0 u k in
      let B : List Symbol = segment_symbols rules added r'.0 u l in
      let c : choices F ≡ choices r.1 ++ choices A = ap choices r.3 ∙ choices_append r.1 A in
      let d : choices F' ≡ choices r'.1 ++ choices B = ap choices r'.3 ∙ choices_append r'.1 B in
      ⊎_elim
      (λ x. ⊎_elim
      (λ lt. inl (omega (arith, a, b, lt)))
      (λ e. inr (a ∙ e.0 ∙ sym b, subst (λ y. DiffersBefore y (choices F')) (sym c) (subst (λ y. DiffersBefore (choices r.1 ++ choices A) y) (sym d) (differs_behind (choices r.1) (choices r'.1) (choices A) (choices B) e.1))))
      (run_order w ks ls r.1 r'.1 r.0 r'.0 r.2 r'.2 x))
      (λ e.
      let i = run_same w ks r.1 r'.1 r.0 r'.0 r.2 (subst (λ y. IsRunOf enc rules after added number numbers w y r'.1 r'.0) (sym e.0) r'.2) in
      let s : DiffersBefore (choices A) (choices B) = seg w ks r.1 r.0 r.2 (subst (λ p. IsSegmentOf enc rules after added number numbers p u l q') (sym i.1) r'.4) i.1 e.1 r.4 in
      inr (a ∙ ap rule_of e.0 ∙ sym b, subst (λ y. DiffersBefore y (choices F')) (sym c) (subst (λ y. DiffersBefore (choices r.1 ++ choices A) y) (sym d) (subst (λ y. DiffersBefore (choices r.1 ++ choices A) (choices y ++ choices B)) i.0 (differs_under (choices r.1) (choices A) (choices B) s)))))
      h
    where
      seg : (w : List ℕ) (ks : List Key) (E : List Symbol) (p : ℕ) → IsRunOf enc rules after added number numbers w ks E p → {p' : ℕ}
          → IsSegmentOf enc rules after added number numbers p u l q' → p ≡ p' → IsLesserKey k l
          → IsSegmentOf enc rules after added number numbers p u k q
          → DiffersBefore (choices (segment_symbols rules added p u k)) (choices (segment_symbols rules added p' u l))
      seg [] ks E p r {p'} s' e h s = subst (λ y. DiffersBefore (choices (segment_symbols rules added p u k)) (choices (segment_symbols rules added y u l))) e (order_from_state (rule_of ks) E p u k l q q' (begin_at_state enc rules after added number numbers ks E p r) s s' h)
      seg (x ∷ w) ks E p r {p'} s' e h s =
          let H = run_in_leaf enc rules after added number numbers x w ks E p r in
          subst (λ y. DiffersBefore (choices (segment_symbols rules added p u k)) (choices (segment_symbols rules added y u l))) e
          (⊎_elim
          (λ lt. order_from_state (rule_of ks) E p u k l q q' (leaf_at_state enc rules after added number numbers (rule_of ks) E p H lt) s s' h)
          (λ le. absurd (order_within (rule_of ks) E p u k l q q' H le s s' h))
          (cases_lt p (length (automaton rules))))
