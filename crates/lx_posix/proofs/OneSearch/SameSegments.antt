-- One search from all places over states and levels lists the first segments.
use Rattle.std.proofs.Common.{inl, inr, sym, ap, ap₂, ◌∙◌, subst, arith, ⊎_elim}
use Rattle.std.proofs.lemmas.Bool.{eqb-false, eqb-true}
use Rattle.std.specs.Prelude.{◌≡◌, ℕ, suc, ◌+◌, ◌/◌, ◌%◌, ◌<◌, ◌⊎◌, List, [], ◌∷◌, ◌++◌, Bool, true, false, nat_eq, if◌then◌else◌, refl}
use Rattle.lx_base.specs.declared.settings.Enc.{Enc}
use Rattle.lx_regex.specs.Automaton.{automaton}
use Rattle.lx_regex.specs.Cut.{Cut, IsCut}
use Rattle.lx_regex.specs.Dictionary.{IsBefore}
use Rattle.lx_regex.specs.Script.{Symbol}
use Rattle.lx_regex.specs.Term.{Term}
use Rattle.lx_tnfa.specs.DepthFirst.{Found}
use Rattle.lx_tnfa.specs.LeafReadings.{IsNth, NumbersLeaves}
use Rattle.lx_tnfa.proofs.Construction.NthLists.{nth_map, nth_unmap}
use Rattle.lx_tnfa.proofs.Searching.SearchLaws.{IsAscending}
use Rattle.lx_tnfa.proofs.Searching.SearchUnique.{IsBefore-cases}
use Rattle.lx_tdfa.specs.Graph.{graph_of, rule_starts}
use Rattle.lx_tdfa.specs.Kernels.{Candidate, Entry, Key, candidates, candidates_at, candidates_by, first_of_each, segment_symbols}
use Rattle.lx_tdfa.proofs.Values.ValueSteps.{forwards}
use Rattle.lx_tdfa.proofs.Walks.Closures.{search_from-list}
use Rattle.lx_tdfa.proofs.WordKernels.OrderedLists.{IsMember, IsRising, each_from, each_member, rising_append}
use Rattle.lx_tdfa.proofs.WordKernels.RunSteps.{AreApart}
use Rattle.lx_posix.specs.Comparing.{Ranked}
use Rattle.lx_posix.specs.KernelLists.{in_order}
use Rattle.lx_posix.specs.LevelPaths.{AreDepths, PlainPath}
use Rattle.lx_posix.specs.LevelSearch.{ArePlaceDepths, level_graph, start_nodes, way_from, ways_found}
use Rattle.lx_posix.specs.Numbers.{PosixPrecedes}
use Rattle.lx_posix.specs.Starts.{Start}
use Rattle.lx_posix.proofs.Kernels.ListedKernels.{precedes_asym, precedes_trans}
use Rattle.lx_posix.proofs.Lists.AllSegments.{all_back, all_has, at_back, by_back, segments_have, segments_sound}
use Rattle.lx_posix.proofs.Lists.FirstOnes.{first_back, first_has, first_once, first_rising}
use Rattle.lx_posix.proofs.Lists.InOrder.{order_back, order_has}
use Rattle.lx_posix.proofs.Lists.RankedCuts.{AreRanked, Comes, comes}
use Rattle.lx_posix.proofs.Lists.RankedNumbers.{cut_is, strict}
use Rattle.lx_posix.proofs.Lists.RankedSteps.{By, chosen, chosen_in_order, every_segment, in_order_rises, to_cut, words}
use Rattle.lx_posix.proofs.OneSearch.FoundWays.{FoundWay, IsMet, all_found, begins, found_way, way_met}
use Rattle.lx_posix.proofs.OneSearch.LevelGraphs.{node_level, node_one, node_state}
use Rattle.lx_posix.proofs.OneSearch.PickOrder.{by_picks, segment_of}
use Rattle.lx_posix.proofs.OneSearch.WayOrder.{CodedSegment, Codes, by_codes, flat_places, graph_within, one_way_of, plain_of, simple_of}

-- a list of candidates that rises strictly
module _ (P : Candidate → Type 0) (R : Candidate → Candidate → Type 0) (asym : (n m : Candidate) → P n → P m → R n m → R m n → ⊥) where
  pub rising_same : (ns ms : List Candidate) → IsRising R ns → IsRising R ms → ((n : Candidate) → IsMember ns n → P n)
      → ((n : Candidate) → IsMember ms n → P n) → ((n : Candidate) → IsMember ns n → IsMember ms n)
      → ((n : Candidate) → IsMember ms n → IsMember ns n) → ns ≡ ms
  rising_same [] [] a b p q f g = refl
  rising_same [] (m ∷ ms) a b p q f g = absurd (g m (inl refl))
  rising_same (n ∷ ns) [] a b p q f g = absurd (f n (inl refl))
  rising_same (n ∷ ns) (m ∷ ms) a b p q f g =
      let same : n ≡ m = heads (f n (inl refl)) (g m (inl refl)) in
      ap₂ (λ x y. x ∷ y) same
      (rising_same ns ms a.1 b.1 (λ x k. p x (inr k)) (λ x k. q x (inr k)) (λ x k. forth same x k (f x (inr k)))
      (λ x k. back same x k (g x (inr k))))
    where
      heads : IsMember (m ∷ ms) n → IsMember (n ∷ ns) m → n ≡ m
      heads (inl e) k = sym e
      heads (inr h) (inl e) = e
      heads (inr h) (inr k) =
          absurd (asym n m (p n (inl refl)) (q m (inl refl)) (each_member (R n) ns m a.0 k) (each_member (R m) ms n b.0 h))

      self : (x : Candidate) → P x → R x x → ⊥
      self x px r = asym x x px px r r

      forth : n ≡ m → (x : Candidate) → IsMember ns x → IsMember (m ∷ ms) x → IsMember ms x
      forth same x k (inr l) = l
      forth same x k (inl e) = absurd (self x (p x (inr k)) (subst (λ y. R y x) (same ∙ e) (each_member (R n) ns x a.0 k)))

      back : n ≡ m → (x : Candidate) → IsMember ms x → IsMember (n ∷ ns) x → IsMember ns x
      back same x k (inr l) = l
      back same x k (inl e) = absurd (self x (q x (inr k)) (subst (λ y. R y x) (sym same ∙ e) (each_member (R m) ms x b.0 k)))

pub once_same : (ns : List Candidate) (n m : Candidate) → IsRising AreApart ns → IsMember ns n → IsMember ns m → n.to ≡ m.to → n ≡ m
once_same [] n m r k l e = absurd k
once_same (x ∷ ns) n m r (inl p) (inl q) e = sym p ∙ q
once_same (x ∷ ns) n m r (inl p) (inr l) e = absurd (subst (λ y. AreApart y m) p (each_member (AreApart x) ns m r.0 l) e)
once_same (x ∷ ns) n m r (inr k) (inl q) e = absurd (subst (λ y. AreApart y n) q (each_member (AreApart x) ns n r.0 k) (sym e))
once_same (x ∷ ns) n m r (inr k) (inr l) e = once_same ns n m r.1 k l e

module _ (graph : List (List ℕ)) (deep : ℕ → ℕ) (width : ℕ) (starts : List Start) where
  abbrev IsTop : Found → Type 0
  IsTop e = e.state % width ≡ deep (e.state / width)

  abbrev way_of : Found → Found
  way_of e = record { state = e.state / width; choices = way_from starts e.choices }

  ways_back : (es : List Found) (x : Found) → IsMember (ways_found graph deep width starts es) x
      → (e : Found) × IsMember es e × IsTop e × (way_of e ≡ x)
  ways_back [] x m = absurd m
  ways_back (e ∷ es) x m = go (nat_eq (e.state % width) (deep (e.state / width))) refl m (λ k. ways_back es x k)
    where
      go : (b : Bool) → nat_eq (e.state % width) (deep (e.state / width)) ≡ b
          → IsMember (if b then way_of e ∷ ways_found graph deep width starts es else ways_found graph deep width starts es) x
          → (IsMember (ways_found graph deep width starts es) x → (e : Found) × IsMember es e × IsTop e × (way_of e ≡ x))
          → (f : Found) × IsMember (e ∷ es) f × IsTop f × (way_of f ≡ x)
      go true q (inl h) f = (e, inl refl, eqb-true _ _ q, h)
      go true q (inr k) f = let r = f k in (r.0, inr r.1, r.2, r.3)
      go false q k f = let r = f k in (r.0, inr r.1, r.2, r.3)

  ways_have : (es : List Found) (e : Found) → IsMember es e → IsTop e → IsMember (ways_found graph deep width starts es) (way_of e)
  ways_have [] e m t = absurd m
  ways_have (x ∷ es) e m t = go (nat_eq (x.state % width) (deep (x.state / width))) refl m (λ k. ways_have es e k t)
    where
      go : (b : Bool) → nat_eq (x.state % width) (deep (x.state / width)) ≡ b → IsMember (x ∷ es) e
          → (IsMember es e → IsMember (ways_found graph deep width starts es) (way_of e))
          → IsMember (if b then way_of x ∷ ways_found graph deep width starts es else ways_found graph deep width starts es) (way_of e)
      go true q (inl h) f = inl (ap way_of h)
      go true q (inr k) f = inr (f k)
      go false q (inl h) f = absurd (no_top (subst IsTop (sym h) t) q)
        where
          no_top : IsTop x → nat_eq (x.state % width) (deep (x.state / width)) ≡ false → ⊥
          no_top a b = eqb-false _ _ b a
      go false q (inr k) f = f k

-- a list of candidates that goes up by its picks
module _ (R : Candidate → Candidate → Type 0) (from : ℕ) (way : List ℕ) where
  picks_rise : (qs : List ℕ) (j : ℕ)
      → ((d e q r : ℕ) → IsNth qs d q → IsNth qs e r → d < e → R (segment_of from way (j + d) q) (segment_of from way (j + e) r))
      → IsRising R (candidates_at from way j qs)
  picks_rise [] j f = tt
  picks_rise (q ∷ qs) j f = (
    each_from (R (segment_of from way j q)) (candidates_at from way (suc j) qs) (λ n m. head n (at_back from way (suc j) qs n m)),
    picks_rise qs (suc j) (λ d e x y h k lt.
        let z : j + suc d ≡ suc j + d = omega arith in
        let z' : j + suc e ≡ suc j + e = omega arith in
        subst (λ i. R (segment_of from way i x) (segment_of from way (suc j + e) y)) z
        (subst (λ i. R (segment_of from way (j + suc d) x) (segment_of from way i y)) z' (f (suc d) (suc e) x y h k (omega arith)))),
  )
    where
      head : (n : Candidate) → (n.from ≡ from) × (n.key.way ≡ way) × (d : ℕ) × (n.key.pick ≡ suc j + d) × IsNth qs d n.to
          → R (segment_of from way j q) n
      head n b =
          let z : j + 0 ≡ j = omega arith in
          let y : j + suc b.2 ≡ n.key.pick = let k = b.3 in omega arith in
          let same : segment_of from way (j + suc b.2) n.to ≡ n =
          ap₂ (λ (i : ℕ) (k : Key). record { from = i; key = k; to = n.to }) (sym b.0)
          (ap₂ (λ v k. record { way = v; pick = k }) (sym b.1) y) in
          subst (λ i. R (segment_of from way i q) n) z
          (subst (λ m. R (segment_of from way (j + 0) q) m) same (f 0 (suc b.2) q n.to refl b.4 (omega arith)))

module _ (enc : Enc) (rules : List Term) (next : ℕ → ℕ → List ℕ) (added : ℕ → ℕ → ℕ → List Symbol) (number : ℕ → List Symbol → ℕ)
    (numbers : NumbersLeaves enc rules next added number) (w : List ℕ) (es : List Entry) (ss : List Ranked) (u : ℕ)
    (are : AreRanked enc rules next added number numbers w es ss) (deep : ℕ → ℕ) (depths : AreDepths (automaton rules) deep)
    (placed : ArePlaceDepths (automaton rules) ss deep) (width : ℕ) (small : (s : ℕ) → deep s < width) where
  abbrev starts : List Start
  starts = begins (graph_of (automaton rules)) deep width small (graph_within rules) ss (flat_places rules ss deep placed)

  abbrev found : List Found
  found = all_found (graph_of (automaton rules)) deep width small (graph_within rules) ss (flat_places rules ss deep placed)

  abbrev Way : Found → Type 0
  Way e = FoundWay (graph_of (automaton rules)) deep width small (graph_within rules) ss (flat_places rules ss deep placed) e

  abbrev CodedBy : Candidate → List ℕ → Type 0
  CodedBy n cs = CodedSegment enc rules next added number numbers w es ss u are deep depths placed width small n cs

  abbrev From : Candidate → Type 0
  From n = Comes enc rules next added number numbers es u n

  abbrev cut_to : Candidate → Cut
  cut_to n = to_cut enc rules next added number numbers w es ss u are n

  abbrev First : Candidate → Candidate → Type 0
  First n m = PosixPrecedes enc rules (cut_to n) (cut_to m)

  abbrev nexts : ℕ → List ℕ
  nexts s = next s u

  abbrev ways : List Found → List Found
  ways fs = ways_found (graph_of (automaton rules)) deep width starts fs

  abbrev is_top : Found → Type 0
  is_top e = e.state % width ≡ deep (e.state / width)

  way_at : (e : Found) → IsMember found e → is_top e → Way e
  way_at e m top =
      found_way (graph_of (automaton rules)) deep width small (graph_within rules) ss (flat_places rules ss deep placed) e m top

  state_is : (e : Found) (v : Way e) → e.state / width ≡ v.to
  state_is e v =
      ap (λ n. n / width) v.state ∙ node_state (graph_of (automaton rules)) deep width v.to (deep v.to) (small v.to)

  -- a segment by a way that is found
  segment_found : (e : Found) (v : Way e) (n : Candidate) → way_from starts e.choices ≡ n.from ∷ n.key.way
      → IsNth (nexts (e.state / width)) n.key.pick n.to → CodedBy n e.choices
  segment_found e v n ch goes =
      let both = sym v.decoded ∙ ch in
      let from : v.from ≡ n.from = cc in
      let way : v.way ≡ n.key.way = cc in
      record {
        to = v.to;
        coded =
            subst
            (λ i. Codes enc rules next added number numbers w es ss u are deep depths placed width small e.choices v.to i n.key.way) from
            (subst
            (λ l. Codes enc rules next added number numbers w es ss u are deep depths placed width small e.choices v.to v.from l) way
            v.coded);
        goes = subst (λ s. IsNth (next s u) n.key.pick n.to) (state_is e v) goes;
      }

  -- what is found of a segment
  record FoundSegment (fs : List Found) (n : Candidate) : Type 0 where
    by : Found
    member : IsMember fs by
    coded : CodedBy n by.choices

  segment_back : (fs : List Found) → ((e : Found) → IsMember fs e → IsMember found e) → (n : Candidate)
      → IsMember (candidates nexts (ways fs)) n → FoundSegment fs n
  segment_back fs within n m =
      let b = all_back nexts (ways fs) n m in
      let f = ways_back (graph_of (automaton rules)) deep width starts fs b.0 b.1 in
      record {
        by = f.0;
        member = f.1;
        coded =
            segment_found f.0 (way_at f.0 (within f.0 f.1) f.2) n (ap (λ (x : Found). x.choices) f.3 ∙ b.2)
            (subst (λ (x : Found). IsNth (nexts x.state) n.key.pick n.to) (sym f.3) b.3);
      }

  ways_rise : (e : Found) → Way e → IsRising First (candidates_by (way_from starts e.choices) (nexts (e.state / width)))
  ways_rise e v =
      subst (λ l. IsRising First (candidates_by l (nexts (e.state / width)))) (sym v.decoded)
      (subst (λ s. IsRising First (candidates_by (v.from ∷ v.way) (nexts s))) (sym (state_is e v))
      (picks_rise First v.from v.way (nexts v.to) 0 (λ d k q r h h' lt.
      let z : d ≡ 0 + d = omega arith in
      let z' : k ≡ 0 + k = omega arith in
      subst (λ i. First (segment_of v.from v.way i q) (segment_of v.from v.way (0 + k) r)) z
      (subst (λ i. First (segment_of v.from v.way d q) (segment_of v.from v.way i r)) z'
      (by_picks enc rules next added number numbers w es ss u are deep depths placed width small e.choices v.to v.from v.way v.coded
      d k q r h h' lt)))))

  found_rise : (fs : List Found) → IsAscending fs → ((e : Found) → IsMember fs e → IsMember found e)
      → IsRising First (candidates nexts (ways fs))
  found_rise [] a within = tt
  found_rise (e ∷ fs) a within =
      go (nat_eq (e.state % width) (deep (e.state / width))) refl (found_rise fs a.1 (λ f m. within f (inr m)))
    where
      before : (top : is_top e) (n m : Candidate)
          → IsMember (candidates_by (way_from starts e.choices) (nexts (e.state / width))) n
          → IsMember (candidates nexts (ways fs)) m → First n m
      before top n m h k =
          let v = way_at e (within e (inl refl)) top in
          let b = by_back (way_from starts e.choices) (nexts (e.state / width)) n h in
          let s = segment_back fs (λ f l. within f (inr l)) m k in
          by_codes enc rules next added number numbers w es ss u are deep depths placed width small n m e.choices s.by.choices
          (segment_found e v n b.0 b.1) s.coded
          (each_member (λ (f : Found). IsBefore e.choices f.choices) fs s.by a.0 s.member)

      go : (b : Bool) → nat_eq (e.state % width) (deep (e.state / width)) ≡ b → IsRising First (candidates nexts (ways fs))
          → IsRising First (candidates nexts (if b
          then (record { state = e.state / width; choices = way_from starts e.choices }) ∷ ways fs else ways fs))
      go true q r =
          rising_append First (candidates_by (way_from starts e.choices) (nexts (e.state / width))) (candidates nexts (ways fs))
          (ways_rise e (way_at e (within e (inl refl)) (eqb-true _ _ q))) r (λ n m h k. before (eqb-true _ _ q) n m h k)
      go false q r = r

  abbrev pub searched : List Candidate
  searched = candidates nexts (ways found)

  searched_rise : IsRising First searched
  searched_rise =
      found_rise found
      (search_from-list (level_graph (graph_of (automaton rules)) deep width)
      (start_nodes (graph_of (automaton rules)) deep width ss starts)).order (λ e m. m)

  abbrev every : List Candidate
  every = every_segment enc rules next added number numbers w es ss u are

  searched_back : (n : Candidate) → IsMember searched n → IsMember every n
  searched_back n m =
      let s = segment_back found (λ e k. k) n m in
      let c = s.coded.coded in
      segments_have (graph_of (automaton rules)) next (segment_symbols rules added) (rule_starts rules) ss u n c.ranked.place
      (nth_map (λ (r : Ranked). r.place) ss n.from c.ranked c.stands)
      (s.coded.to, simple_of (graph_of (automaton rules)) deep n.key.way [] c.ranked.place s.coded.to c.path, s.coded.goes)

  -- for the place of each segment one is found that is no later
  abbrev HasFound : Candidate → Type 0
  HasFound n = (m : Candidate) × IsMember searched m × (m.to ≡ n.to) × ((m ≡ n) ⊎ First m n)

  searched_has : (n : Candidate) → IsMember every n → HasFound n
  searched_has n m =
      let s = segments_sound (graph_of (automaton rules)) next (segment_symbols rules added) (rule_starts rules) ss u n m in
      let r = nth_unmap (λ (r : Ranked). r.place) ss n.from s.0 s.1 in
      let p : PlainPath (graph_of (automaton rules)) deep [] r.0.place n.key.way s.2.0 =
      subst (λ q. PlainPath (graph_of (automaton rules)) deep [] q n.key.way s.2.0) (sym r.2)
      (plain_of (graph_of (automaton rules)) deep n.key.way [] s.0 s.2.0 s.2.1) in
      at s.2.0 s.2.2
      (way_met (graph_of (automaton rules)) deep width small (graph_within rules) ss (flat_places rules ss deep placed) n.from r.0 n.key.way
      s.2.0 r.1 p)
    where
      at : (t : ℕ) → IsNth (next t u) n.key.pick n.to
          → IsMet (graph_of (automaton rules)) deep width small (graph_within rules) ss (flat_places rules ss deep placed) n.from n.key.way
          t
          → HasFound n
      at t goes k = (
        segment_of v.from v.way n.key.pick n.to,
        all_has nexts (ways found) v.from v.way v.to n.key.pick n.to
            (subst (λ x. IsMember (ways found) (record { state = x; choices = v.from ∷ v.way })) (state_is k.found v)
            (subst (λ l. IsMember (ways found) (record { state = k.found.state / width; choices = l })) v.decoded
            (ways_have (graph_of (automaton rules)) deep width starts found k.found k.member top)))
            goes_found,
        refl,
        by (IsBefore-cases k.found.choices k.code),
      )
        where
          top : is_top k.found
          top =
              ap (λ x. x % width) k.state ∙ node_level (graph_of (automaton rules)) deep width t (deep t) (small t)
              ∙ ap deep (sym (ap (λ x. x / width) k.state ∙ node_state (graph_of (automaton rules)) deep width t (deep t) (small t)))

          v : Way k.found
          v = way_at k.found k.member top

          to : v.to ≡ t
          to =
              (node_one (graph_of (automaton rules)) deep width v.to (deep v.to) t (deep t) (small v.to) (small t)
              (sym v.state ∙ k.state)).0

          goes_found : IsNth (next v.to u) n.key.pick n.to
          goes_found = subst (λ x. IsNth (next x u) n.key.pick n.to) (sym to) goes

          mine : CodedBy (segment_of v.from v.way n.key.pick n.to) k.found.choices
          mine = record { to = v.to; coded = v.coded; goes = goes_found }

          own : CodedBy n k.code
          own = record { to = t; coded = k.coded; goes = goes }

          by : IsBefore k.found.choices k.code ⊎ ((k.found.choices ≡ k.code) ⊎ IsBefore k.code k.found.choices)
              → (segment_of v.from v.way n.key.pick n.to ≡ n) ⊎ First (segment_of v.from v.way n.key.pick n.to) n
          by (inl b) =
              inr (by_codes enc rules next added number numbers w es ss u are deep depths placed width small
              (segment_of v.from v.way n.key.pick n.to) n k.found.choices k.code mine own b)
          by (inr (inr b)) = absurd (k.first b)
          by (inr (inl e)) =
              let q =
              one_way_of enc rules next added number numbers w es ss u are deep depths placed width small
              (segment_of v.from v.way n.key.pick n.to) n k.found.choices k.code
              (record { to = v.to; coded = v.coded; goes = goes_found }) (record { to = t; coded = k.coded; goes = goes }) e to in
              inl (ap₂ (λ i l. segment_of i l n.key.pick n.to) q.0 q.1)

  each_comes : (n : Candidate) → IsMember every n → From n
  each_comes n m =
      let s = segments_sound (graph_of (automaton rules)) next (segment_symbols rules added) (rule_starts rules) ss u n m in
      comes enc rules next added number numbers w es ss u are n s.0 s.1 s.2

  abbrev Is : Candidate → Type 0
  Is n = IsCut enc rules (forwards w ++ u ∷ []) (cut_to n)

  is_cut : (n : Candidate) → IsMember every n → Is n
  is_cut n m = cut_is enc rules next added number numbers w es ss u are n (each_comes n m)

  never_both : (n m : Candidate) → Is n → Is m → First n m → First m n → ⊥
  never_both n m i j a b = precedes_asym enc rules (forwards w ++ u ∷ []) (cut_to n) (cut_to m) i j a b

  abbrev Precede : Candidate → Candidate → Type 0
  Precede n m = By enc rules next added number numbers w es ss u are n m

  -- two of which neither comes first
  tied : (n m : Candidate) → Is n → Is m → (m ≡ n) ⊎ First m n → (n ≡ m) ⊎ Precede n m → m ≡ n
  tied n m i j (inl e) b = e
  tied n m i j (inr a) (inl e) = sym e
  tied n m i j (inr a) (inr (inl e)) = absurd (never_both m m j j (subst (λ k. PosixPrecedes enc rules (cut_to m) k) e a)
      (subst (λ k. PosixPrecedes enc rules (cut_to m) k) e a))
  tied n m i j (inr a) (inr (inr b)) = absurd (never_both m n j i a b)

  abbrev firsts : List Candidate
  firsts = chosen enc rules next added number numbers w es ss u are

  abbrev ordered : List Candidate
  ordered = in_order (words enc rules next added number numbers w es ss u are) every

  firsts_back : (n : Candidate) → IsMember firsts n → IsMember every n
  firsts_back n m =
      order_back (words enc rules next added number numbers w es ss u are) every n (first_back [] ordered n m)

  -- the first of all for the place of a segment
  firsts_have : (n : Candidate) → IsMember every n → (k : Candidate) × IsMember firsts k × (k.to ≡ n.to) × ((k ≡ n) ⊎ Precede k n)
  firsts_have n m =
      ⊎_elim (λ h. absurd h) (λ k. k)
      (first_has Precede [] ordered (in_order_rises enc rules next added number numbers w es ss u are) n
      (order_has (words enc rules next added number numbers w es ss u are) every n m))

  abbrev pub listed : List Candidate
  listed = first_of_each [] searched

  listed_have : (n : Candidate) → IsMember searched n → (k : Candidate) × IsMember listed k × (k.to ≡ n.to) × ((k ≡ n) ⊎ First k n)
  listed_have n m = ⊎_elim (λ h. absurd h) (λ k. k) (first_has First [] searched searched_rise n m)

  -- the first that is found is no later than any segment
  met : (n : Candidate) → IsMember every n → (b : Candidate) × IsMember listed b × (b.to ≡ n.to) × ((b ≡ n) ⊎ First b n)
  met n m =
      let y = searched_has n m in
      let b = listed_have y.0 y.1 in
      let i = is_cut b.0 (searched_back b.0 (first_back [] searched b.0 b.1)) in
      let j = is_cut y.0 (searched_back y.0 y.1) in
      (b.0, b.1, b.2 ∙ y.2, joined b.0 y.0 i j b.3 y.3)
    where
      joined : (b y : Candidate) → Is b → Is y → (b ≡ y) ⊎ First b y → (y ≡ n) ⊎ First y n → (b ≡ n) ⊎ First b n
      joined b y i j (inl e) (inl f) = inl (e ∙ f)
      joined b y i j (inl e) (inr f) = inr (subst (λ k. First k n) (sym e) f)
      joined b y i j (inr e) (inl f) = inr (subst (λ k. First b k) f e)
      joined b y i j (inr e) (inr f) =
          inr (precedes_trans enc rules (forwards w ++ u ∷ []) (cut_to b) (cut_to y) (cut_to n) i j (is_cut n m) e f)

  forth : (n : Candidate) → IsMember firsts n → IsMember listed n
  forth n m =
      let all = firsts_back n m in
      let b = met n all in
      let every_b = searched_back b.0 (first_back [] searched b.0 b.1) in
      let k = firsts_have b.0 every_b in
      let same : k.0 ≡ n =
      once_same firsts k.0 n (chosen_in_order enc rules next added number numbers w es ss u are).once k.1 m (k.2 ∙ b.2) in
      subst (λ x. IsMember listed x)
      (tied n b.0 (is_cut n all) (is_cut b.0 every_b) b.3 (subst (λ x. (x ≡ b.0) ⊎ Precede x b.0) same k.3)) b.1

  back : (n : Candidate) → IsMember listed n → IsMember firsts n
  back n m =
      let all = searched_back n (first_back [] searched n m) in
      let k = firsts_have n all in
      let every_k = firsts_back k.0 k.1 in
      let b = met k.0 every_k in
      let same : b.0 ≡ n = once_same listed b.0 n (first_once [] searched) b.1 m (b.2 ∙ k.2) in
      subst (λ x. IsMember firsts x)
      (sym (tied k.0 n (is_cut k.0 every_k) (is_cut n all) (subst (λ x. (x ≡ k.0) ⊎ First x k.0) same b.3) k.3)) k.1

  firsts_strict : (ns : List Candidate) → ((n : Candidate) → IsMember ns n → From n) → IsRising Precede ns → IsRising AreApart ns
      → IsRising First ns
  firsts_strict [] come r o = tt
  firsts_strict (n ∷ ns) come r o = (
    each_from (First n) ns (λ m k.
        strict enc rules next added number numbers w es ss u are n m (come n (inl refl)) (come m (inr k))
        (each_member (AreApart n) ns m o.0 k)
        (each_member (Precede n) ns m r.0 k)),
    firsts_strict ns (λ m k. come m (inr k)) r.1 o.1,
  )

  -- the search lists the first segments
  pub same_segments : listed ≡ firsts
  same_segments =
      let o = chosen_in_order enc rules next added number numbers w es ss u are in
      rising_same Is First never_both listed firsts (first_rising First [] searched searched_rise)
      (firsts_strict firsts o.come o.rise o.once)
      (λ n m. is_cut n (searched_back n (first_back [] searched n m))) (λ n m. is_cut n (firsts_back n m)) back forth
