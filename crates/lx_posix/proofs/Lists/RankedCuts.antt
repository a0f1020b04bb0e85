-- What is kept of the places of a kernel, and the cuts to which segments from them lead.
use Rattle.std.proofs.Common.{inl, inr, sym, ap, ap₂, ◌∙◌, subst, arith, ⊎_elim}
use Rattle.std.specs.Prelude.{◌≡◌, ℕ, suc, ◌<◌, ◌⊎◌, List, [], ◌∷◌, ◌++◌, true, false, refl}
use Rattle.std.proofs.lemmas.Bool.{false≢true, true≢false}
use Rattle.lx_base.specs.declared.settings.Enc.{Enc}
use Rattle.lx_regex.specs.Automaton.{automaton}
use Rattle.lx_regex.specs.Cut.{Cut, EndsInUnit, IsCut}
use Rattle.lx_regex.specs.Script.{Symbol, units}
use Rattle.lx_regex.specs.Term.{Term}
use Rattle.lx_regex.proofs.KernelCuts.Kernels.{ends_behind}
use Rattle.lx_tnfa.specs.LeafReadings.{IsNth, NumbersLeaves}
use Rattle.lx_tnfa.proofs.Construction.NthLists.{nth_unmap}
use Rattle.lx_tdfa.specs.Graph.{graph_of, rule_starts}
use Rattle.lx_tdfa.specs.Kernels.{Candidate, Entry, Key, cut_of, entry_at, entry_of, places, rule_of, segment_symbols}
use Rattle.lx_tdfa.proofs.Values.ValueSteps.{forwards}
use Rattle.lx_tdfa.proofs.WordKernels.OrderedLists.{nth_same}
use Rattle.lx_tdfa.proofs.WordKernels.RunCuts.{IsRunOf, IsSegmentOf, one_unit, rule_more, run_cut}
use Rattle.lx_tdfa.proofs.WordKernels.RunSteps.{entry_is}
use Rattle.lx_posix.specs.Comparing.{Comparison, Ranked, compared_in_rule, forked, number_between, ranked_at, weighed}
use Rattle.lx_posix.specs.KernelLists.{comparison_of, places_of, walk_of}
use Rattle.lx_posix.specs.Numbers.{IsFirstOf, PosixPrecedes}
use Rattle.lx_posix.specs.Parting.{events}
use Rattle.lx_posix.specs.Walks.{after, depth, kept, lowest}
use Rattle.lx_posix.proofs.Counted.NumbersOfCuts.{before_of, first_of}
use Rattle.lx_posix.proofs.Lists.Comparisons.{IsRight, by_order-each, forked_right, turned_right, weighed_right}
use Rattle.lx_posix.proofs.Orders.CutOrder.{across}

module _ (enc : Enc) (rules : List Term) (next : ℕ → ℕ → List ℕ) (added : ℕ → ℕ → ℕ → List Symbol) (number : ℕ → List Symbol → ℕ)
    (numbers : NumbersLeaves enc rules next added number) where
  abbrev Run : List ℕ → List Key → List Symbol → ℕ → Type 0
  Run w ks F q = IsRunOf enc rules next added number numbers w ks F q

  abbrev Segment : ℕ → ℕ → Key → ℕ → Type 0
  Segment p u k q = IsSegmentOf enc rules next added number numbers p u k q

  -- the cut of an entry after a further segment over a unit
  abbrev pub cut_after : List Entry → (u : ℕ) → Candidate → Cut
  cut_after es u n = cut_of (entry_of (graph_of (automaton rules)) next (segment_symbols rules added) (rule_starts rules) es u n)

  abbrev pub compare : List Ranked → (u : ℕ) → Candidate → Candidate → Comparison
  compare ss u n m = comparison_of (graph_of (automaton rules)) next (segment_symbols rules added) (rule_starts rules) ss u n m

  abbrev pub walk_over : List Ranked → (u : ℕ) → Candidate → List Symbol
  walk_over ss u n = walk_of (graph_of (automaton rules)) next (segment_symbols rules added) (rule_starts rules) ss u n

  -- two entries in order: of two rules, or of one with their number
  abbrev pub InOrder : List ℕ → Entry → Entry → (number : ℕ) → Type 0
  InOrder w e f n =
      (rule_of e.keys < rule_of f.keys)
      ⊎ ((rule_of e.keys ≡ rule_of f.keys) × IsCut enc rules (forwards w) (cut_of e) × IsCut enc rules (forwards w) (cut_of f)
      × IsFirstOf enc rules (cut_of e) (cut_of f) n)

  -- what is kept is right of the entries of a word, whose last unit comes first
  pub record AreRanked (w : List ℕ) (es : List Entry) (ss : List Ranked) : Type 0 where
    pub run : (i : ℕ) (e : Entry) → IsNth es i e → Run w e.keys e.front e.place
    pub place : (i : ℕ) (e : Entry) → IsNth es i e → (ranked_at ss i).place ≡ e.place
    pub rule : (i : ℕ) (e : Entry) → IsNth es i e → (ranked_at ss i).rule ≡ rule_of e.keys
    pub depth : (i : ℕ) (e : Entry) → IsNth es i e → (ranked_at ss i).depth ≡ depth 0 e.front
    pub places : places_of ss ≡ places es
    pub order : (i j : ℕ) (e f : Entry) → i < j → IsNth es i e → IsNth es j f → InOrder w e f (number_between ss i j)
    pub first : (ranked_at ss 0).number ≡ 0
    pub alone : (i : ℕ) (e f : Entry) → IsNth es i e → IsNth es (suc i) f → rule_of e.keys < rule_of f.keys
        → (ranked_at ss (suc i)).number ≡ 0

  -- a segment from an entry
  pub record Comes (es : List Entry) (u : ℕ) (n : Candidate) : Type 0 where
    pub entry : Entry
    pub at : IsNth es n.from entry
    pub segment : Segment entry.place u n.key n.to

  module _ (w : List ℕ) (es : List Entry) (ss : List Ranked) (u : ℕ) (are : AreRanked w es ss) where
    pub comes : (n : Candidate) (p : ℕ) → IsNth (places_of ss) n.from p → Segment p u n.key n.to → Comes es u n
    comes n p at s =
        let o = nth_unmap (λ (e : Entry). e.place) es n.from p (subst (λ l. IsNth l n.from p) are.places at) in
        record { entry = o.0; at = o.1; segment = subst (λ x. Segment x u n.key n.to) (sym o.2) s }

    -- the symbols of the segment
    abbrev pub said : (n : Candidate) → Comes es u n → List Symbol
    said n c = segment_symbols rules added c.entry.place u n.key

    pub walk_said : (n : Candidate) (c : Comes es u n) → walk_over ss u n ≡ said n c
    walk_said n c = ap (λ p. segment_symbols rules added p u n.key) (are.place n.from c.entry c.at)

    pub next_run : (n : Candidate) (c : Comes es u n) → Run (u ∷ w) (n.key ∷ c.entry.keys) (c.entry.front ++ said n c) n.to
    next_run n c = (c.entry.place, c.entry.front, are.run n.from c.entry c.at, refl, c.segment)

    same_entry : (n : Candidate) (c : Comes es u n) → entry_at es n.from ≡ c.entry
    same_entry n c =
        entry_is (graph_of (automaton rules)) next (segment_symbols rules added) (rule_starts rules) es n.from c.entry c.at

    pub next_rule : (n : Candidate) (c : Comes es u n) → rule_of (n.key ∷ c.entry.keys) ≡ rule_of c.entry.keys
    next_rule n c =
        rule_more enc rules next added number numbers w n.key c.entry.keys c.entry.front c.entry.place (are.run n.from c.entry c.at)

    -- the entry of the segment
    pub next_entry : (n : Candidate) (c : Comes es u n)
        → entry_of (graph_of (automaton rules)) next (segment_symbols rules added) (rule_starts rules) es u n
        ≡ record { place = n.to; keys = n.key ∷ c.entry.keys; front = c.entry.front ++ said n c }
    next_entry n c =
        ap
        (λ (e : Entry). record { place = n.to; keys = n.key ∷ e.keys; front = e.front ++ segment_symbols rules added e.place u n.key })
        (same_entry n c)

    pub next_cut : (n : Candidate) (c : Comes es u n) → cut_after es u n ≡ after (cut_of c.entry) (said n c)
    next_cut n c =
        ap cut_of (next_entry n c) ∙ ap (λ r. record { rule = r; front = c.entry.front ++ said n c }) (next_rule n c)

    pub after_is_cut : (n : Candidate) (c : Comes es u n) → IsCut enc rules (forwards w ++ u ∷ []) (after (cut_of c.entry) (said n c))
    after_is_cut n c =
        subst (λ r. IsCut enc rules (forwards w ++ u ∷ []) (record { rule = r; front = c.entry.front ++ said n c })) (next_rule n c)
        (run_cut enc rules next added number numbers u w (n.key ∷ c.entry.keys) (c.entry.front ++ said n c) n.to (next_run n c))

    pub is_cut : (n : Candidate) → Comes es u n → IsCut enc rules (forwards w ++ u ∷ []) (cut_after es u n)
    is_cut n c = subst (λ k. IsCut enc rules (forwards w ++ u ∷ []) k) (sym (next_cut n c)) (after_is_cut n c)

    pub one : (n : Candidate) (c : Comes es u n) → units (said n c) ≡ u ∷ []
    one n c =
        one_unit enc rules next added number numbers w c.entry.keys c.entry.front c.entry.place (are.run n.from c.entry c.at)
        u n.key n.to c.segment

    pub ends : (n : Candidate) (c : Comes es u n) → EndsInUnit (said n c)
    ends n c =
        let is = (after_is_cut n c).after_unit in
        ends_behind c.entry.front (said n c) is.0 is.1 is.2 (λ e. some (sym (one n c) ∙ e))
      where
        some : u ∷ [] ≡ [] → ⊥
        some e = cc

    -- the rule of a segment
    pub rule_after : (n : Candidate) (c : Comes es u n) → (cut_after es u n).rule ≡ (ranked_at ss n.from).rule
    rule_after n c = ap (λ (k : Cut). k.rule) (next_cut n c) ∙ sym (are.rule n.from c.entry c.at)

    deep : (n : Candidate) (c : Comes es u n) → lowest (ranked_at ss n.from).depth (ranked_at ss n.from).depth (walk_over ss u n)
        ≡ kept (cut_of c.entry) (said n c)
    deep n c = ap₂ (λ d l. lowest d d l) (are.depth n.from c.entry c.at) (walk_said n c)

    -- from two places of one rule
    abbrev right : Candidate → Candidate → Comparison → Type 0
    right n m c = IsRight enc rules (cut_after es u n) (cut_after es u m) c

    right_across : (n m : Candidate) → Comes es u n → Comes es u m → (ranked_at ss n.from).rule ≡ (ranked_at ss m.from).rule
        → n.from < m.from → right n m
        (weighed (number_between ss n.from m.from)
        (lowest (ranked_at ss n.from).depth (ranked_at ss n.from).depth (walk_over ss u n))
        (lowest (ranked_at ss m.from).depth (ranked_at ss m.from).depth (walk_over ss u m)))
    right_across n m c d same lt =
        subst (λ h. right n m (weighed (number_between ss n.from m.from) h
        (lowest (ranked_at ss m.from).depth (ranked_at ss m.from).depth (walk_over ss u m)))) (sym (deep n c))
        (subst (λ h. right n m (weighed (number_between ss n.from m.from) (kept (cut_of c.entry) (said n c)) h)) (sym (deep m d))
        (subst (λ k. IsRight enc rules k (cut_after es u m) x) (sym (next_cut n c))
        (subst (λ k. IsRight enc rules (after (cut_of c.entry) (said n c)) k x) (sym (next_cut m d))
        (go (are.order n.from m.from c.entry d.entry lt c.at d.at)))))
      where
        x : Comparison
        x = weighed (number_between ss n.from m.from) (kept (cut_of c.entry) (said n c)) (kept (cut_of d.entry) (said m d))

        go : InOrder w c.entry d.entry (number_between ss n.from m.from)
            → IsRight enc rules (after (cut_of c.entry) (said n c)) (after (cut_of d.entry) (said m d)) x
        go (inl less) =
            let a = are.rule n.from c.entry c.at in
            let b = are.rule m.from d.entry d.at in
            absurd (omega arith)
        go (inr o) =
            let a = o.1 in
            let b = o.2 in
            let ia = after_is_cut n c in
            let ib = after_is_cut m d in
            let s =
            across enc rules (cut_of c.entry) (cut_of d.entry) (said n c) (said m d) ia.possible.0 ib.possible.0 u u
            (number_between ss n.from m.from) a.after_unit b.after_unit (a.reads_word ∙ sym b.reads_word) (ends n c) (ends m d)
            (one n c) (one m d) ia.possible.1 ib.possible.1
            (before_of enc rules (forwards w) (cut_of c.entry) (cut_of d.entry) (number_between ss n.from m.from) a b o.3) in
            weighed_right enc rules (after (cut_of c.entry) (said n c)) (after (cut_of d.entry) (said m d))
            (number_between ss n.from m.from) (kept (cut_of c.entry) (said n c)) (kept (cut_of d.entry) (said m d))
            (λ lt. first_of enc rules (forwards w ++ u ∷ []) _ _ _ ib ia (s.0 lt))
            (λ ge. first_of enc rules (forwards w ++ u ∷ []) _ _ _ ia ib (s.1 ge))

    right_within : (n m : Candidate) → Comes es u n → Comes es u m → n.from ≡ m.from
        → right n m (forked (ranked_at ss n.from).depth (events (walk_over ss u n)) (events (walk_over ss u m)))
    right_within n m c d e =
        let f : c.entry ≡ d.entry = nth_same es n.from c.entry d.entry c.at (subst (λ i. IsNth es i d.entry) (sym e) d.at) in
        let d' : Comes es u m =
        record {
          entry = c.entry;
          at = subst (λ i. IsNth es i c.entry) e c.at;
          segment = subst (λ (x : Entry). Segment x.place u m.key m.to) (sym f) d.segment;
        } in
        subst (λ h. right n m (forked h (events (walk_over ss u n)) (events (walk_over ss u m)))) (sym (are.depth n.from c.entry c.at))
        (subst (λ l. right n m (forked (depth 0 c.entry.front) (events l) (events (walk_over ss u m)))) (sym (walk_said n c))
        (subst (λ l. right n m (forked (depth 0 c.entry.front) (events (said n c)) (events l))) (sym (walk_said m d'))
        (subst (λ k. IsRight enc rules k (cut_after es u m) (forked (depth 0 c.entry.front) (events (said n c)) (events (said m d'))))
        (sym (next_cut n c))
        (subst (λ k. IsRight enc rules (after (cut_of c.entry) (said n c)) k
        (forked (depth 0 c.entry.front) (events (said n c)) (events (said m d'))))
        (sym (next_cut m d'))
        (forked_right enc rules (forwards w) u (cut_of c.entry) (said n c) (said m d') (one n c) (one m d') (after_is_cut n c)
        (after_is_cut m d'))))))

    pub right_in_rule : (n m : Candidate) → Comes es u n → Comes es u m → (ranked_at ss n.from).rule ≡ (ranked_at ss m.from).rule
        → right n m (compared_in_rule ss n.from (walk_over ss u n) m.from (walk_over ss u m))
    right_in_rule n m c d same =
        by_order-each (λ x. right n m x) n.from m.from _ _ _
        (λ lt. right_across n m c d same lt)
        (λ e. right_within n m c d e)
        (λ gt. turned_right enc rules (cut_after es u m) (cut_after es u n) _ (right_across m n d c (sym same) gt))

    -- the cuts of two segments are one, or the first comes first
    abbrev pub Precede : Candidate → Candidate → Type 0
    Precede n m = (cut_after es u n ≡ cut_after es u m) ⊎ PosixPrecedes enc rules (cut_after es u n) (cut_after es u m)

    -- the comparison of two segments tells their order, and their number
    pub record IsCompared (n m : Candidate) (c : Comparison) : Type 0 where
      pub yes_first : c.is_first ≡ true → Precede n m
      pub not_first : c.is_first ≡ false → Precede m n
      pub one_rule : (ranked_at ss n.from).rule ≡ (ranked_at ss m.from).rule → right n m c
      pub no_number : (ranked_at ss n.from).rule < (ranked_at ss m.from).rule → c.number ≡ 0

    pub compared_right : (n m : Candidate) → Comes es u n → Comes es u m → IsCompared n m (compare ss u n m)
    compared_right n m c d =
        by_order-each (λ x. IsCompared n m x) (ranked_at ss n.from).rule (ranked_at ss m.from).rule _ _ _
        (λ lt. record {
          yes_first = λ e. inr (inl (omega (arith, rule_after n c, rule_after m d, lt)));
          not_first = λ e. absurd (true≢false e);
          one_rule = λ e. absurd (omega arith);
          no_number = λ l. refl;
        })
        (λ same.
        let r = right_in_rule n m c d same in
        record {
          yes_first = λ e. ⊎_elim (λ q. inl q) (λ f. inr (inr (_, f))) (r.yes_first e);
          not_first = λ e. ⊎_elim (λ q. inl (sym q)) (λ f. inr (inr (_, f))) (r.not_first e);
          one_rule = λ e. r;
          no_number = λ l. absurd (omega arith);
        })
        (λ gt. record {
          yes_first = λ e. absurd (false≢true e);
          not_first = λ e. inr (inl (omega (arith, rule_after n c, rule_after m d, gt)));
          one_rule = λ e. absurd (omega arith);
          no_number = λ l. absurd (omega arith);
        })
