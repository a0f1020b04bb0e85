-- The list that is computed for a word is the kernel of the word, and what is kept is right of it.
use Rattle.std.proofs.Common.{inl, inr, sym, ap, ap₂, ◌∙◌, subst, arith}
use Rattle.std.specs.Prelude.{◌≡◌, ℕ, zero, suc, ◌+◌, ◌<◌, ◌⊎◌, List, [], ◌∷◌, ◌++◌, map, Some, slice_get, refl}
use Rattle.lx_base.specs.declared.settings.Enc.{Enc}
use Rattle.lx_regex.specs.Automaton.{automaton}
use Rattle.lx_regex.specs.Cut.{Cut, IsCut, SamePlace}
use Rattle.lx_regex.specs.Script.{Symbol}
use Rattle.lx_regex.specs.Term.{Term, parts}
use Rattle.lx_tnfa.specs.DepthFirst.{IsIn}
use Rattle.lx_tnfa.specs.LeafReadings.{IsNth, NumbersLeaves}
use Rattle.lx_tnfa.proofs.Construction.NthLists.{nth_map, nth_unmap}
use Rattle.lx_tdfa.specs.Graph.{graph_of, rule_starts, starts_behind}
use Rattle.lx_tdfa.specs.Kernels.{Candidate, Entry, Key, cut_of, first_entries, places, rule_of, segment_symbols}
use Rattle.lx_tdfa.proofs.Values.ValueSteps.{forwards}
use Rattle.lx_tdfa.proofs.WordKernels.CutRuns.{cut_run}
use Rattle.lx_tdfa.proofs.WordKernels.KernelsListed.{same_number, same_place}
use Rattle.lx_tdfa.proofs.WordKernels.OrderedLists.{IsMember, member_nth, rising_nth}
use Rattle.lx_tdfa.proofs.WordKernels.RunCuts.{IsSegmentOf, run_word}
use Rattle.lx_tdfa.proofs.WordKernels.RunSteps.{AreApart}
use Rattle.lx_posix.specs.Comparing.{Ranked, ranked_at}
use Rattle.lx_posix.specs.KernelLists.{entry_list, first_ranks, in_order, places_of, rank_list}
use Rattle.lx_posix.specs.KernelSteps.{IsStepOf, beginnings}
use Rattle.lx_posix.specs.Numbers.{PosixPrecedes}
use Rattle.lx_posix.specs.PosixKernel.{IsPosixKernel}
use Rattle.lx_posix.specs.Walks.{after, depth}
use Rattle.lx_posix.proofs.Kernels.FirstUnit.{first_kernel}
use Rattle.lx_posix.proofs.Kernels.ListedKernels.{precedes_asym}
use Rattle.lx_posix.proofs.Kernels.PosixKernels.{posix_from_walks}
use Rattle.lx_posix.proofs.Lists.AllSegments.{segments_have}
use Rattle.lx_posix.proofs.Lists.FirstOnes.{Kept, first_has}
use Rattle.lx_posix.proofs.Lists.InOrder.{order_has}
use Rattle.lx_posix.proofs.Lists.RankedCuts.{AreRanked, next_cut, next_entry, next_run, said}
use Rattle.lx_posix.proofs.Lists.RankedNumbers.{cut_is, strict}
use Rattle.lx_posix.proofs.Lists.RankedSteps.{By, From, Run, chosen, chosen_at, chosen_in_order, entries_back, entries_have, entries_to, entry_to, every_segment, front_of_run, in_order_rises, next_ranked, nth_of_slice, one_front, one_source, slice_of_nth, to_cut, words}

module _ (enc : Enc) (rules : List Term) (next : ℕ → ℕ → List ℕ) (added : ℕ → ℕ → ℕ → List Symbol) (number : ℕ → List Symbol → ℕ)
    (numbers : NumbersLeaves enc rules next added number) (w : List ℕ) (es : List Entry) (ss : List Ranked) (u : ℕ)
    (are : AreRanked enc rules next added number numbers w es ss) where
  abbrev Comes : Candidate → Type 0
  Comes n = From enc rules next added number numbers w es ss u are n

  abbrev Precede : Candidate → Candidate → Type 0
  Precede n m = By enc rules next added number numbers w es ss u are n m

  abbrev cut_to : Candidate → Cut
  cut_to n = to_cut enc rules next added number numbers w es ss u are n

  abbrev firsts : List Candidate
  firsts = chosen enc rules next added number numbers w es ss u are

  abbrev cuts_to : List Cut
  cuts_to = map cut_of (entries_to enc rules next added number numbers w es ss u are firsts)

  -- a first cut for that of a segment
  abbrev HasFirst : Cut → Type 0
  HasFirst k =
      (j : ℕ) × (first : Cut) × (slice_get cuts_to j ≡ Some first) × SamePlace enc rules first k × (PosixPrecedes enc rules k first → ⊥)

  precedes_self : (k : Cut) → IsCut enc rules (forwards w ++ u ∷ []) k → PosixPrecedes enc rules k k → ⊥
  precedes_self k is p = precedes_asym enc rules (forwards w ++ u ∷ []) k k is is p p

  -- a segment that is first for the place of another is not behind it
  not_behind : (m n : Candidate) → Comes m → Comes n → (m ≡ n) ⊎ Precede m n → PosixPrecedes enc rules (cut_to n) (cut_to m) → ⊥
  not_behind m n cm cn (inl e) p =
      precedes_self (cut_to n) (cut_is enc rules next added number numbers w es ss u are n cn)
      (subst (λ x. PosixPrecedes enc rules (cut_to n) (cut_to x)) e p)
  not_behind m n cm cn (inr (inl e)) p =
      precedes_self (cut_to n) (cut_is enc rules next added number numbers w es ss u are n cn)
      (subst (λ x. PosixPrecedes enc rules (cut_to n) x) e p)
  not_behind m n cm cn (inr (inr q)) p =
      precedes_asym enc rules (forwards w ++ u ∷ []) (cut_to m) (cut_to n) (cut_is enc rules next added number numbers w es ss u are m cm)
      (cut_is enc rules next added number numbers w es ss u are n cn) q p

  -- a segment whose cut is that of a walk from an entry
  record Walked (e : Entry) (walk : List Symbol) : Type 0 where
    candidate : Candidate
    comes : Comes candidate
    listed : IsMember (every_segment enc rules next added number numbers w es ss u are) candidate
    same : cut_to candidate ≡ after (cut_of e) walk

  rule_of_tail : (v : List ℕ) (k : Key) (ls : List Key) (E : List Symbol) (p : ℕ) → Run enc rules next added number numbers v ls E p
      → rule_of (k ∷ ls) ≡ rule_of ls
  rule_of_tail [] k [] E p r = absurd r
  rule_of_tail (x ∷ v) k [] E p r = absurd r
  rule_of_tail v k (l ∷ ls) E p r = refl

  walked : (i : ℕ) (e : Entry) (walk : List Symbol) → IsNth es i e → (keys : List Key) (q : ℕ)
      → Run enc rules next added number numbers (u ∷ w) keys (e.front ++ walk) q → rule_of keys ≡ rule_of e.keys → Walked e walk
  walked i e walk at [] q r same = absurd r
  walked i e walk at (k ∷ ks) q r same =
      let er = are.run i e at in
      let front : r.1 ≡ e.front =
      one_front enc r.1 e.front (segment_symbols rules added r.0 u k) walk (sym r.3)
      (run_word enc rules next added number numbers w ks r.1 r.0 r.2
      ∙ sym (run_word enc rules next added number numbers w e.keys e.front e.place er))
      (front_of_run enc rules next added number numbers w ks r.1 r.0 r.2)
      (front_of_run enc rules next added number numbers w e.keys e.front e.place er) in
      let source : r.0 ≡ e.place =
      one_source enc rules next added number numbers w ks e.keys e.front r.0 e.place
      (subst (λ E. Run enc rules next added number numbers w ks E r.0) front r.2) er (sym (rule_of_tail w k ks r.1 r.0 r.2) ∙ same) in
      let segment = subst (λ p. IsSegmentOf enc rules next added number numbers p u k q) source r.4 in
      let c : Comes (record { from = i; key = k; to = q }) = record { entry = e; at = at; segment = segment } in
      record {
        candidate = record { from = i; key = k; to = q };
        comes = c;
        listed =
            segments_have (graph_of (automaton rules)) next (segment_symbols rules added) (rule_starts rules) ss u
            (record { from = i; key = k; to = q }) e.place
            (subst (λ l. IsNth l i e.place) (sym are.places) (nth_map (λ (x : Entry). x.place) es i e at)) segment;
        same =
            next_cut enc rules next added number numbers w es ss u are (record { from = i; key = k; to = q }) c
            ∙ ap (λ l. record { rule = rule_of e.keys; front = l })
            (ap₂ (λ E p. E ++ segment_symbols rules added p u k) (sym front) (sym source) ∙ sym r.3);
      }

  abbrev cut_said : (n : Candidate) → Comes n → Cut
  cut_said n c =
      record { rule = rule_of (n.key ∷ c.entry.keys); front = c.entry.front ++ said enc rules next added number numbers w es ss u are n c }

  cut_is_said : (n : Candidate) (c : Comes n) → cut_to n ≡ cut_said n c
  cut_is_said n c = ap cut_of (next_entry enc rules next added number numbers w es ss u are n c)

  -- segments to one place lead to cuts at one place
  same_places : (m n : Candidate) → Comes m → Comes n → m.to ≡ n.to → SamePlace enc rules (cut_to m) (cut_to n)
  same_places m n cm cn e =
      let p =
      same_place enc rules next added number numbers u w u w (m.key ∷ cm.entry.keys) (n.key ∷ cn.entry.keys)
      (cm.entry.front ++ said enc rules next added number numbers w es ss u are m cm)
      (cn.entry.front ++ said enc rules next added number numbers w es ss u are n cn) m.to n.to
      (next_run enc rules next added number numbers w es ss u are m cm)
      (next_run enc rules next added number numbers w es ss u are n cn) e in
      subst (λ k. SamePlace enc rules k (cut_to n)) (sym (cut_is_said m cm))
      (subst (λ k. SamePlace enc rules (cut_said m cm) k) (sym (cut_is_said n cn)) p)

  cut_at : (j : ℕ) (m : Candidate) → IsNth firsts j m → slice_get cuts_to j ≡ Some (cut_to m)
  cut_at j m h =
      slice_of_nth cuts_to j (cut_to m)
      (nth_map cut_of (entries_to enc rules next added number numbers w es ss u are firsts) j
      (entry_to enc rules next added number numbers w es ss u are m)
      (entries_have enc rules next added number numbers w es ss u are firsts j m h))

  first_of_segment : (n : Candidate) → Comes n → IsMember (every_segment enc rules next added number numbers w es ss u are) n
      → HasFirst (cut_to n)
  first_of_segment n c listed =
      by
      (first_has Precede [] (in_order (words enc rules next added number numbers w es ss u are)
      (every_segment enc rules next added number numbers w es ss u are))
      (in_order_rises enc rules next added number numbers w es ss u are) n
      (order_has (words enc rules next added number numbers w es ss u are)
      (every_segment enc rules next added number numbers w es ss u are) n listed))
    where
      by : IsIn [] n.to ⊎ Kept Precede firsts n → HasFirst (cut_to n)
      by (inl h) = absurd h
      by (inr k) =
          let m = k.0 in
          let at = member_nth firsts m k.1 in
          let cm = chosen_at enc rules next added number numbers w es ss u are at.0 m at.1 in
          (at.0, cut_to m, cut_at at.0 m at.1, same_places m n cm c k.2, not_behind m n cm c k.3)

  has_first : (i : ℕ) (e : Entry) (walk : List Symbol) → IsNth es i e → IsCut enc rules (forwards w ++ u ∷ []) (after (cut_of e) walk)
      → HasFirst (after (cut_of e) walk)
  has_first i e walk at own =
      let r =
      cut_run enc rules next added number numbers u w (after (cut_of e) walk) own.possible.0 own.after_unit own.reads_word own.possible.1 in
      let v = walked i e walk at r.keys r.place r.run r.rule in
      subst (λ k. HasFirst k) v.same (first_of_segment v.candidate v.comes v.listed)

  -- the entry and the segment of a cut of the list
  cut_back : (j : ℕ) (cut : Cut) → slice_get cuts_to j ≡ Some cut → (n : Candidate) × IsNth firsts j n × (cut_to n ≡ cut)
  cut_back j cut h =
      let b = nth_unmap cut_of (entries_to enc rules next added number numbers w es ss u are firsts) j cut (nth_of_slice cuts_to j cut h) in
      let r = entries_back enc rules next added number numbers w es ss u are firsts j b.0 b.1 in
      (r.0, r.1, ap cut_of r.2 ∙ b.2)

  pub is_step : IsStepOf (PosixPrecedes enc rules) enc rules (forwards w) (map cut_of es) u cuts_to
  is_step = record {
    listed = record {
      cuts = λ j cut h.
          let b = cut_back j cut h in
          subst (λ k. IsCut enc rules (forwards w ++ u ∷ []) k) b.2
          (cut_is enc rules next added number numbers w es ss u are b.0
          (chosen_at enc rules next added number numbers w es ss u are j b.0 b.1));
      every = λ i cut walk h is reads own.
          let b = nth_unmap cut_of es i cut (nth_of_slice (map cut_of es) i cut h) in
          subst (λ k. HasFirst (after k walk)) b.2
          (has_first i b.0 walk b.1 (subst (λ k. IsCut enc rules (forwards w ++ u ∷ []) (after k walk)) (sym b.2) own));
    };
    ordered = λ i j cut other lt h k. ordered i j cut other lt (cut_back i cut h) (cut_back j other k);
  }
    where
      ordered : (i j : ℕ) (cut other : Cut) → i < j → (n : Candidate) × IsNth firsts i n × (cut_to n ≡ cut)
          → (n : Candidate) × IsNth firsts j n × (cut_to n ≡ other) → PosixPrecedes enc rules cut other
          × (SamePlace enc rules cut other → ⊥)
      ordered i j cut other lt a b =
          let o = chosen_in_order enc rules next added number numbers w es ss u are in
          let ca = chosen_at enc rules next added number numbers w es ss u are i a.0 a.1 in
          let cb = chosen_at enc rules next added number numbers w es ss u are j b.0 b.1 in
          let by = rising_nth Precede firsts i j a.0 b.0 o.rise a.1 b.1 lt in
          let apart = rising_nth AreApart firsts i j a.0 b.0 o.once a.1 b.1 lt in
          let p = strict enc rules next added number numbers w es ss u are a.0 b.0 ca cb apart by in (
            subst (λ k. PosixPrecedes enc rules k other) a.2 (subst (λ k. PosixPrecedes enc rules (cut_to a.0) k) b.2 p),
            λ s. apart
                (same_number enc rules next added number numbers u w u w (a.0.key ∷ ca.entry.keys) (b.0.key ∷ cb.entry.keys)
                (ca.entry.front ++ said enc rules next added number numbers w es ss u are a.0 ca)
                (cb.entry.front ++ said enc rules next added number numbers w es ss u are b.0 cb) a.0.to b.0.to
                (next_run enc rules next added number numbers w es ss u are a.0 ca)
                (next_run enc rules next added number numbers w es ss u are b.0 cb)
                (subst (λ k. SamePlace enc rules (cut_said a.0 ca) k) (sym b.2 ∙ cut_is_said b.0 cb)
                (subst (λ k. SamePlace enc rules k other) (sym a.2 ∙ cut_is_said a.0 ca) s))),
          )

module _ (enc : Enc) (rules : List Term) (next : ℕ → ℕ → List ℕ) (added : ℕ → ℕ → ℕ → List Symbol) (number : ℕ → List Symbol → ℕ)
    (numbers : NumbersLeaves enc rules next added number) where
  abbrev pub entries_of : List ℕ → List Entry
  entries_of w = entry_list (graph_of (automaton rules)) next (segment_symbols rules added) (rule_starts rules) w

  abbrev pub ranks_of : List ℕ → List Ranked
  ranks_of w = rank_list (graph_of (automaton rules)) next (segment_symbols rules added) (rule_starts rules) w

  -- the beginnings of rules, of which the first has this number
  begin_at : (n : ℕ) (starts : List ℕ) (i : ℕ) (e : Entry) → IsNth (first_entries n starts) i e
      → (p : ℕ) × IsNth starts i p × (record { place = p; keys = record { way = []; pick = n + i } ∷ []; front = [] } ≡ e)
      × (ranked_at (first_ranks n starts) i ≡ record { rule = n + i; place = p; depth = 0; number = 0 })
  begin_at n [] i e h = absurd h
  begin_at n (x ∷ starts) zero e h =
      let z : n + 0 ≡ n = omega arith in (
        x,
        refl,
        ap (λ m. record { place = x; keys = record { way = []; pick = m } ∷ []; front = [] }) z ∙ h,
        ap (λ m. record { rule = m; place = x; depth = 0; number = 0 }) (sym z),
      )
  begin_at n (x ∷ starts) (suc i) e h =
      let r = begin_at (suc n) starts i e h in
      let z : n + suc i ≡ suc n + i = omega arith in (
        r.0,
        r.1,
        ap (λ m. record { place = r.0; keys = record { way = []; pick = m } ∷ []; front = [] }) z ∙ r.2,
        r.3 ∙ ap (λ m. record { rule = m; place = r.0; depth = 0; number = 0 }) (sym z),
      )

  first_places : (n : ℕ) (starts : List ℕ) → places_of (first_ranks n starts) ≡ places (first_entries n starts)
  first_places n [] = refl
  first_places n (x ∷ starts) = ap (λ l. x ∷ l) (first_places (suc n) starts)

  first_numbers : (n : ℕ) (starts : List ℕ) (i : ℕ) → (ranked_at (first_ranks n starts) i).number ≡ 0
  first_numbers n [] i = refl
  first_numbers n (x ∷ starts) zero = refl
  first_numbers n (x ∷ starts) (suc i) = first_numbers (suc n) starts i

  first_ranked : AreRanked enc rules next added number numbers [] (entries_of []) (ranks_of [])
  first_ranked = record {
    run = λ i e h.
        let b = begin_at 0 (rule_starts rules) i e h in
        let z : 0 + i ≡ i = omega arith in
        subst (λ (x : Entry). Run enc rules next added number numbers [] x.keys x.front x.place) b.2
        (refl, refl, subst (λ n. IsNth (rule_starts rules) n b.0) (sym z) b.1, refl);
    place = λ i e h.
        let b = begin_at 0 (rule_starts rules) i e h in ap (λ (s : Ranked). s.place) b.3 ∙ ap (λ (x : Entry). x.place) b.2;
    rule = λ i e h.
        let b = begin_at 0 (rule_starts rules) i e h in ap (λ (s : Ranked). s.rule) b.3 ∙ ap (λ (x : Entry). rule_of x.keys) b.2;
    depth = λ i e h.
        let b = begin_at 0 (rule_starts rules) i e h in ap (λ (s : Ranked). s.depth) b.3 ∙ ap (λ (x : Entry). depth 0 x.front) b.2;
    places = first_places 0 (rule_starts rules);
    order = λ i j e f lt h k.
        let b = begin_at 0 (rule_starts rules) i e h in
        let c = begin_at 0 (rule_starts rules) j f k in
        let x : 0 + i ≡ rule_of e.keys = ap (λ (y : Entry). rule_of y.keys) b.2 in
        let y : 0 + j ≡ rule_of f.keys = ap (λ (y : Entry). rule_of y.keys) c.2 in
        inl (omega arith);
    first = first_numbers 0 (rule_starts rules) 0;
    alone = λ i e f h k lt. first_numbers 0 (rule_starts rules) (suc i);
  }

  pub each_ranked : (w : List ℕ) → AreRanked enc rules next added number numbers w (entries_of w) (ranks_of w)
  each_ranked [] = first_ranked
  each_ranked (u ∷ w) = next_ranked enc rules next added number numbers w (entries_of w) (ranks_of w) u (each_ranked w)

  first_cuts : (n c : ℕ) (terms : List Term) → map cut_of (first_entries n (starts_behind c terms)) ≡ beginnings n terms
  first_cuts n c [] = refl
  first_cuts n c (e ∷ terms) = ap (λ l. record { rule = n; front = [] } ∷ l) (first_cuts (suc n) (c + parts e) terms)

  begins_so : (w : List ℕ) (u : ℕ) → (x : ℕ) × (v : List ℕ) × (forwards (u ∷ w) ≡ x ∷ v)
  begins_so w u = go (forwards w)
    where
      go : (l : List ℕ) → (x : ℕ) × (v : List ℕ) × (l ++ u ∷ [] ≡ x ∷ v)
      go [] = (u, [], refl)
      go (y ∷ l) = (y, l ++ u ∷ [], refl)

  pub each_kernel : (u : ℕ) (w : List ℕ) → IsPosixKernel enc rules (forwards (u ∷ w)) (map cut_of (entries_of (u ∷ w)))
  each_kernel u [] =
      first_kernel enc rules u (map cut_of (entries_of (u ∷ [])))
      (subst (λ l. IsStepOf (PosixPrecedes enc rules) enc rules [] l u (map cut_of (entries_of (u ∷ [])))) (first_cuts 0 0 rules)
      (is_step enc rules next added number numbers [] (entries_of []) (ranks_of []) u first_ranked))
  each_kernel u (x ∷ w) =
      let b = begins_so w x in
      let step = is_step enc rules next added number numbers (x ∷ w) (entries_of (x ∷ w)) (ranks_of (x ∷ w)) u (each_ranked (x ∷ w)) in
      let kernel = each_kernel x w in
      subst (λ l. IsPosixKernel enc rules (l ++ u ∷ []) (map cut_of (entries_of (u ∷ x ∷ w)))) (sym b.2)
      (posix_from_walks enc rules b.0 b.1 u (map cut_of (entries_of (x ∷ w))) (map cut_of (entries_of (u ∷ x ∷ w)))
      (subst (λ l. IsPosixKernel enc rules l (map cut_of (entries_of (x ∷ w)))) b.2 kernel)
      (subst (λ l. IsStepOf (PosixPrecedes enc rules) enc rules l (map cut_of (entries_of (x ∷ w))) u
      (map cut_of (entries_of (u ∷ x ∷ w)))) b.2 step))
