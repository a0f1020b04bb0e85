-- One more unit: the list that is computed is the kernel after it, and what is kept is right of it.
use Rattle.std.proofs.Common.{inl, inr, sym, ap, ap₂, ◌∙◌, subst, arith, ⊎_elim}
use Rattle.std.proofs.lemmas.Bool.{cases_lt}
use Rattle.std.specs.Prelude.{◌≡◌, ℕ, zero, suc, ◌<◌, ◌⊎◌, List, [], ◌∷◌, ◌++◌, length, Some, slice_get, Bool, refl}
use Rattle.lx_base.specs.declared.settings.Enc.{Enc}
use Rattle.lx_regex.specs.Automaton.{automaton}
use Rattle.lx_regex.specs.Cut.{Cut, EndsInUnit, IsCut, SamePlace}
use Rattle.lx_regex.specs.Script.{Symbol, begins, ends, picks, reads, sets, units, unsets}
use Rattle.lx_regex.specs.Term.{Term}
use Rattle.lx_tnfa.specs.LeafReadings.{IsNth, NumbersLeaves}
use Rattle.lx_tdfa.specs.Graph.{graph_of, rule_starts}
use Rattle.lx_tdfa.specs.Kernels.{Candidate, Entry, Key, cut_of, entries, entry_of, places, rule_of, segment_symbols}
use Rattle.lx_tdfa.proofs.Values.ValueSteps.{forwards}
use Rattle.lx_tdfa.proofs.WordKernels.KernelsListed.{same_number}
use Rattle.lx_tdfa.proofs.WordKernels.OrderedLists.{IsMember, IsRising, nth_member, nth_same, rising_nth}
use Rattle.lx_tdfa.proofs.WordKernels.RunCuts.{IsRunOf, run_in_leaf}
use Rattle.lx_posix.specs.Comparing.{Ranked, number_between}
use Rattle.lx_posix.specs.KernelLists.{all_segments, first_segments, in_order, places_of}
use Rattle.lx_posix.specs.Numbers.{IsFirstOf}
use Rattle.lx_posix.specs.Walks.{depth}
use Rattle.lx_posix.proofs.Counted.NumbersOfCuts.{unit_some}
use Rattle.lx_posix.proofs.Fronts.PartDepth.{depth_append}
use Rattle.lx_posix.proofs.Lists.AllSegments.{segments_sound}
use Rattle.lx_posix.proofs.Lists.FirstOnes.{first_back, first_once, first_rising}
use Rattle.lx_posix.proofs.Lists.InOrder.{order_back, order_rising}
use Rattle.lx_posix.proofs.Lists.RankedCuts.{AreRanked, InOrder, comes, compare, compared_right, next_entry, next_run, rule_after, said, walk_said}
use Rattle.lx_posix.proofs.Lists.RankedNumbers.{AreInOrder, ComesFrom, PrecedeBy, all_behind, alone_all, behind, between_all, cut_is, cut_on, first_alone, kept_all, precede_trans, rule_at, rules_rise}

pub nth_of_slice : {X : Type 0} (xs : List X) (i : ℕ) (x : X) → slice_get xs i ≡ Some x → IsNth xs i x
nth_of_slice [] i x h = cc
nth_of_slice (y ∷ xs) zero x h = cc
nth_of_slice (y ∷ xs) (suc i) x h = nth_of_slice xs i x h

pub slice_of_nth : {X : Type 0} (xs : List X) (i : ℕ) (x : X) → IsNth xs i x → slice_get xs i ≡ Some x
slice_of_nth [] i x h = absurd h
slice_of_nth (y ∷ xs) zero x h = ap Some h
slice_of_nth (y ∷ xs) (suc i) x h = slice_of_nth xs i x h

-- a front ends in a unit, or is empty
abbrev pub IsFront : List Symbol → Type 0
IsFront l = EndsInUnit l ⊎ (l ≡ [])

front_tail : (x : Symbol) (a : List Symbol) → IsFront (x ∷ a) → IsFront a
front_tail x a (inl is) = go is.0 is.2
  where
    go : (b : List Symbol) → x ∷ a ≡ b ++ reads is.1 ∷ [] → IsFront a
    go [] e = inr (cc)
    go (y ∷ b) e = inl (b, is.1, cc)
front_tail x a (inr e) = cc

units_tail : (x : Symbol) (a b : List Symbol) → units (x ∷ a) ≡ units (x ∷ b) → units a ≡ units b
units_tail (begins p) a b e = e
units_tail (ends p) a b e = e
units_tail (reads u) a b e = cc
units_tail (sets t) a b e = e
units_tail (unsets t) a b e = e
units_tail (picks t) a b e = e

module _ (enc : Enc) where
  no_units : (x : Symbol) (b : List Symbol) → IsFront (x ∷ b) → [] ≡ units (x ∷ b) → ⊥
  no_units x b (inl is) e =
      let lt = unit_some enc [] (x ∷ b) is in
      let z : 0 ≡ length (units (x ∷ b)) = ap length e in
      omega arith
  no_units x b (inr q) e = cc

  -- two fronts of one list that read the same units are one
  pub one_front : (a b y z : List Symbol) → a ++ y ≡ b ++ z → units a ≡ units b → IsFront a → IsFront b → a ≡ b
  one_front [] [] y z e q f g = refl
  one_front [] (x ∷ b) y z e q f g = absurd (no_units x b g q)
  one_front (x ∷ a) [] y z e q f g = absurd (no_units x a f (sym q))
  one_front (x ∷ a) (x' ∷ b) y z e q f g =
      let h : x ≡ x' = cc in
      let q' : units (x ∷ a) ≡ units (x ∷ b) = q ∙ ap (λ s. units (s ∷ b)) (sym h) in
      ap₂ (λ s l. s ∷ l) h (one_front a b y z (cc) (units_tail x a b q') (front_tail x a f) (front_tail x' b g))

module _ (enc : Enc) (rules : List Term) (next : ℕ → ℕ → List ℕ) (added : ℕ → ℕ → ℕ → List Symbol) (number : ℕ → List Symbol → ℕ)
    (numbers : NumbersLeaves enc rules next added number) where
  abbrev pub Run : List ℕ → List Key → List Symbol → ℕ → Type 0
  Run w ks F q = IsRunOf enc rules next added number numbers w ks F q

  pub front_of_run : (w : List ℕ) (ks : List Key) (F : List Symbol) (q : ℕ) → Run w ks F q → IsFront F
  front_of_run [] [] F q r = absurd r
  front_of_run [] (k ∷ ks) F q r = inr r.3
  front_of_run (u ∷ w) ks F q r = inl (run_in_leaf enc rules next added number numbers u w ks F q r).unit

  pub place_self : (k : Cut) → SamePlace enc rules k k
  place_self k = record { rule = refl; part = refl; left = λ v. ((λ f. f), (λ f. f)) }

  -- runs of one rule with one front end at one place
  pub one_source : (w : List ℕ) (ks ls : List Key) (F : List Symbol) (p q : ℕ) → Run w ks F p → Run w ls F q → rule_of ks ≡ rule_of ls → p
      ≡ q
  one_source [] [] ls F p q r r' e = absurd r
  one_source [] (k ∷ ks) [] F p q r r' e = absurd r'
  one_source [] (k ∷ ks) (l ∷ ls) F p q r r' e =
      let f : k.pick ≡ l.pick = ap (λ x. rule_of (k ∷ x)) (sym r.0) ∙ e ∙ ap (λ x. rule_of (l ∷ x)) r'.0 in
      nth_same (rule_starts rules) k.pick p q r.2 (subst (λ n. IsNth (rule_starts rules) n q) (sym f) r'.2)
  one_source (u ∷ w) ks ls F p q r r' e =
      same_number enc rules next added number numbers u w u w ks ls F F p q r r'
      (subst (λ n. SamePlace enc rules (record { rule = rule_of ks; front = F }) (record { rule = n; front = F })) e (place_self _))

module _ (enc : Enc) (rules : List Term) (next : ℕ → ℕ → List ℕ) (added : ℕ → ℕ → ℕ → List Symbol) (number : ℕ → List Symbol → ℕ)
    (numbers : NumbersLeaves enc rules next added number) (w : List ℕ) (es : List Entry) (ss : List Ranked) (u : ℕ)
    (are : AreRanked enc rules next added number numbers w es ss) where
  abbrev pub From : Candidate → Type 0
  From n = ComesFrom enc rules next added number numbers w es ss u are n

  abbrev pub By : Candidate → Candidate → Type 0
  By n m = PrecedeBy enc rules next added number numbers w es ss u are n m

  abbrev pub to_cut : Candidate → Cut
  to_cut n = cut_on enc rules next added number numbers w es ss u are n

  abbrev pub words : Candidate → Candidate → Bool
  words n m = (compare enc rules next added number numbers ss u n m).is_first

  abbrev pub every_segment : List Candidate
  every_segment = all_segments (graph_of (automaton rules)) next (segment_symbols rules added) (rule_starts rules) ss u

  abbrev pub chosen : List Candidate
  chosen = first_segments (graph_of (automaton rules)) next (segment_symbols rules added) (rule_starts rules) ss u

  abbrev pub entries_to : List Candidate → List Entry
  entries_to ns = entries (graph_of (automaton rules)) next (segment_symbols rules added) (rule_starts rules) es u ns

  abbrev pub entry_to : Candidate → Entry
  entry_to n = entry_of (graph_of (automaton rules)) next (segment_symbols rules added) (rule_starts rules) es u n

  each_comes : (n : Candidate) → IsMember every_segment n → From n
  each_comes n m =
      let s = segments_sound (graph_of (automaton rules)) next (segment_symbols rules added) (rule_starts rules) ss u n m in
      comes enc rules next added number numbers w es ss u are n s.0 s.1 s.2

  pub in_order_rises : IsRising By (in_order words every_segment)
  in_order_rises =
      order_rising words From By
      (λ x y p q e. (compared_right enc rules next added number numbers w es ss u are x y p q).yes_first e)
      (λ x y p q e. (compared_right enc rules next added number numbers w es ss u are x y p q).not_first e)
      (λ x y z p q r a b. precede_trans enc rules next added number numbers w es ss u are x y z p q r a b)
      every_segment each_comes

  pub chosen_in_order : AreInOrder enc rules next added number numbers w es ss u are chosen
  chosen_in_order = record {
    come = λ n m. each_comes n (order_back words every_segment n (first_back [] (in_order words every_segment) n m));
    rise = first_rising By [] (in_order words every_segment) in_order_rises;
    once = first_once [] (in_order words every_segment);
  }

  pub entries_back : (ns : List Candidate) (i : ℕ) (e : Entry) → IsNth (entries_to ns) i e → (n : Candidate) × IsNth ns i n
      × (entry_to n ≡ e)
  entries_back [] i e h = absurd h
  entries_back (n ∷ ns) zero e h = (n, refl, h)
  entries_back (n ∷ ns) (suc i) e h = entries_back ns i e h

  pub entries_have : (ns : List Candidate) (i : ℕ) (n : Candidate) → IsNth ns i n → IsNth (entries_to ns) i (entry_to n)
  entries_have [] i n h = absurd h
  entries_have (m ∷ ns) zero n h = ap entry_to h
  entries_have (m ∷ ns) (suc i) n h = entries_have ns i n h

  places_behind : (n : Candidate) (ns : List Candidate)
      → places_of (behind enc rules next added number numbers w es ss u are n ns) ≡ places (entries_to ns)
  places_behind n [] = refl
  places_behind n (m ∷ ns) = ap (λ l. m.to ∷ l) (places_behind m ns)

  places_all : (ns : List Candidate) → places_of (all_behind enc rules next added number numbers w es ss u are ns) ≡ places (entries_to ns)
  places_all [] = refl
  places_all (n ∷ ns) = ap (λ l. n.to ∷ l) (places_behind n ns)

  -- a chosen segment, by its index
  pub chosen_at : (i : ℕ) (n : Candidate) → IsNth chosen i n → From n
  chosen_at i n h = chosen_in_order.come n (nth_member chosen i n h)

  pub next_ranked : AreRanked enc rules next added number numbers (u ∷ w) (entries_to chosen)
      (all_behind enc rules next added number numbers w es ss u are chosen)
  next_ranked = record {
    run = λ i e h.
        let b = entries_back chosen i e h in
        let c = chosen_at i b.0 b.1 in
        subst (λ (x : Entry). IsRunOf enc rules next added number numbers (u ∷ w) x.keys x.front x.place)
        (sym (next_entry enc rules next added number numbers w es ss u are b.0 c) ∙ b.2)
        (next_run enc rules next added number numbers w es ss u are b.0 c);
    place = λ i e h.
        let b = entries_back chosen i e h in
        let k = kept_all enc rules next added number numbers w es ss u are chosen i b.0 b.1 in
        ap (λ (s : Ranked). s.place) k.1 ∙ ap (λ (x : Entry). x.place) b.2;
    rule = λ i e h.
        let b = entries_back chosen i e h in
        let c = chosen_at i b.0 b.1 in
        let k = kept_all enc rules next added number numbers w es ss u are chosen i b.0 b.1 in
        ap (λ (s : Ranked). s.rule) k.1 ∙ sym (rule_after enc rules next added number numbers w es ss u are b.0 c)
        ∙ ap (λ (x : Entry). rule_of x.keys) b.2;
    depth = λ i e h.
        let b = entries_back chosen i e h in
        let c = chosen_at i b.0 b.1 in
        let k = kept_all enc rules next added number numbers w es ss u are chosen i b.0 b.1 in
        let s = said enc rules next added number numbers w es ss u are b.0 c in
        ap (λ (s : Ranked). s.depth) k.1
        ∙ ap₂ (λ d l. depth d l) (are.depth b.0.from c.entry c.at) (walk_said enc rules next added number numbers w es ss u are b.0 c)
        ∙ sym (depth_append enc c.entry.front (said enc rules next added number numbers w es ss u are b.0 c) 0)
        ∙ ap (λ (x : Entry). depth 0 x.front) (sym (next_entry enc rules next added number numbers w es ss u are b.0 c) ∙ b.2);
    places = places_all chosen;
    order = λ i j e f lt h k. ordered i j e f lt (entries_back chosen i e h) (entries_back chosen j f k);
    first = first_alone enc rules next added number numbers w es ss u are chosen;
    alone = λ i e f h k lt.
        let a = entries_back chosen i e h in
        let b = entries_back chosen (suc i) f k in
        let x = rule_after enc rules next added number numbers w es ss u are a.0 (chosen_at i a.0 a.1) in
        let y = rule_after enc rules next added number numbers w es ss u are b.0 (chosen_at (suc i) b.0 b.1) in
        let p = ap (λ (c : Entry). rule_of c.keys) a.2 in
        let q = ap (λ (c : Entry). rule_of c.keys) b.2 in
        alone_all enc rules next added number numbers w es ss u are chosen chosen_in_order i a.0 b.0 a.1 b.1 (omega arith);
  }
    where
      ordered : (i j : ℕ) (e f : Entry) → i < j → (n : Candidate) × IsNth chosen i n × (entry_to n ≡ e)
          → (n : Candidate) × IsNth chosen j n × (entry_to n ≡ f)
          → InOrder enc rules next added number numbers (u ∷ w) e f
          (number_between (all_behind enc rules next added number numbers w es ss u are chosen) i j)
      ordered i j e f lt a b =
          let all : List Ranked = all_behind enc rules next added number numbers w es ss u are chosen in
          let ca = chosen_at i a.0 a.1 in
          let cb = chosen_at j b.0 b.1 in
          let p = rising_nth By chosen i j a.0 b.0 chosen_in_order.rise a.1 b.1 lt in
          let le = rules_rise enc rules next added number numbers w es ss u are a.0 b.0 ca cb p in
          let x : rule_of e.keys ≡ rule_at enc rules next added number numbers w es ss u are a.0 =
          ap (λ (y : Entry). rule_of y.keys) (sym a.2) ∙ rule_after enc rules next added number numbers w es ss u are a.0 ca in
          let y : rule_of f.keys ≡ rule_at enc rules next added number numbers w es ss u are b.0 =
          ap (λ (y : Entry). rule_of y.keys) (sym b.2) ∙ rule_after enc rules next added number numbers w es ss u are b.0 cb in
          ⊎_elim
          (λ less. inl (omega arith))
          (λ more.
          let first = between_all enc rules next added number numbers w es ss u are chosen chosen_in_order i j a.0 b.0 lt a.1 b.1
          (omega arith) in
          let here : rule_of e.keys ≡ rule_of f.keys = omega arith in
          inr (
            here,
            subst (λ k. IsCut enc rules (forwards w ++ u ∷ []) k) (ap cut_of a.2)
                (cut_is enc rules next added number numbers w es ss u are a.0 ca),
            subst (λ k. IsCut enc rules (forwards w ++ u ∷ []) k) (ap cut_of b.2)
                (cut_is enc rules next added number numbers w es ss u are b.0 cb),
            subst (λ k. IsFirstOf enc rules k (cut_of f) (number_between all i j)) (ap cut_of a.2)
                (subst (λ k. IsFirstOf enc rules (to_cut a.0) k (number_between all i j)) (ap cut_of b.2) first),
          ))
          (cases_lt (rule_at enc rules next added number numbers w es ss u are a.0)
          (rule_at enc rules next added number numbers w es ss u are b.0))
