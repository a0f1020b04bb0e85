-- The codes of ways from places are in the order of the cuts to which the ways lead.
use Rattle.std.proofs.Common.{inl, inr, sym, ap, ap₂, ◌∙◌, subst, arith, ⊎_elim}
use Rattle.std.proofs.lemmas.Bool.{cases_lt, cases_order}
use Rattle.std.specs.Prelude.{◌≡◌, ℕ, zero, suc, ◌-◌, ◌<◌, ◌≤◌, ◌⊎◌, min, List, [], ◌∷◌, ◌++◌, length, Some, slice_get, refl}
use Rattle.lx_base.specs.declared.settings.Enc.{Enc}
use Rattle.lx_regex.specs.Automaton.{State, automaton}
use Rattle.lx_regex.specs.Cut.{Cut}
use Rattle.lx_regex.specs.Dictionary.{IsBefore}
use Rattle.lx_regex.specs.Reading.{IsReading}
use Rattle.lx_regex.specs.Script.{Symbol, reads}
use Rattle.lx_regex.specs.Term.{Term}
use Rattle.lx_regex.specs.Walk.{mark}
use Rattle.lx_regex.proofs.Walks.Scripts.{differs_is_before}
use Rattle.lx_tnfa.specs.DepthFirst.{successors}
use Rattle.lx_tnfa.specs.LeafReadings.{IsNth, NumbersLeaves}
use Rattle.lx_tnfa.proofs.Construction.NthLists.{nth_map}
use Rattle.lx_tnfa.proofs.Searching.SearchUnique.{IsBefore-irrefl}
use Rattle.lx_tnfa.proofs.Searching.SimplePaths.{SimplePath}
use Rattle.lx_tdfa.specs.Graph.{graph_of, path_symbols}
use Rattle.lx_tdfa.specs.Kernels.{Candidate, Entry, Key, cut_of, segment_symbols}
use Rattle.lx_tdfa.proofs.Rules.StateOrder.{automaton_in_order}
use Rattle.lx_tdfa.proofs.Rules.WithinStates.{moves_stay_within}
use Rattle.lx_tdfa.proofs.Values.ValueSteps.{forwards}
use Rattle.lx_tdfa.proofs.Walks.StatePaths.{graph_of-length, leaf_edge, path_end-is}
use Rattle.lx_tdfa.proofs.WordKernels.OrderedLists.{at_zero_nth, nth_at_zero, nth_same, rising_nth}
use Rattle.lx_tdfa.proofs.WordKernels.RunCuts.{IsRunOf, IsSegmentOf, begin_at_state, path_within, run_in_leaf, segment_within}
use Rattle.lx_posix.specs.Comparing.{Ranked, number_between, ranked_at}
use Rattle.lx_posix.specs.LevelPaths.{AreDepths, PlainPath, level_choices, lowest_on, next_state}
use Rattle.lx_posix.specs.LevelSearch.{ArePlaceDepths}
use Rattle.lx_posix.specs.Levels.{level_of, levelled, raised}
use Rattle.lx_posix.specs.Numbers.{IsFirstOf, PosixPrecedes}
use Rattle.lx_posix.specs.Parting.{events}
use Rattle.lx_posix.specs.Starts.{Start, level_from}
use Rattle.lx_posix.specs.Walks.{after, depth, lowest}
use Rattle.lx_posix.proofs.Lists.PlacesWeighed.{entries_weighed}
use Rattle.lx_posix.proofs.Lists.RankedCuts.{AreRanked, Comes, after_is_cut, comes, cut_after, ends, next_cut, one, rule_after, said}
use Rattle.lx_posix.proofs.OneSearch.FoundWays.{Coded, begins, ranked_is}
use Rattle.lx_posix.proofs.OneSearch.StartOrder.{InOrder, InRule, starts_rise}
use Rattle.lx_posix.proofs.Searches.DroppedBranches.{keep_lowest}
use Rattle.lx_posix.proofs.Searches.LevelledWalks.{levels_order}
use Rattle.lx_posix.proofs.Searches.LevelOrder.{IsBlind, IsFlat, before_differs, choices_lower, flat_reading, link, one_way, path_level}
use Rattle.lx_posix.proofs.Searches.LevelSearches.{low_least, raised_before}

pub plain_of : (graph : List (List ℕ)) (deep : ℕ → ℕ) (ws avoided : List ℕ) (s t : ℕ) → SimplePath graph avoided s ws t
    → PlainPath graph deep avoided s ws t
plain_of graph deep [] avoided s t p = p
plain_of graph deep (i ∷ ws) avoided s t p =
    (p.0, (p.1.0, at_zero_nth (successors graph s) i p.1.0 p.1.1, plain_of graph deep ws (s ∷ avoided) p.1.0 t p.1.2))

pub simple_of : (graph : List (List ℕ)) (deep : ℕ → ℕ) (ws avoided : List ℕ) (s t : ℕ) → PlainPath graph deep avoided s ws t
    → SimplePath graph avoided s ws t
simple_of graph deep [] avoided s t p = p
simple_of graph deep (i ∷ ws) avoided s t p =
    (p.0, (p.1.0, nth_at_zero (successors graph s) i p.1.0 p.1.1, simple_of graph deep ws (s ∷ avoided) p.1.0 t p.1.2))

raised_first : (k : ℕ) (r s : List ℕ) → IsBefore r s → IsBefore (raised k r) (raised k s)
raised_first zero r s b = b
raised_first (suc k) r s b = inr (refl, raised_first k r s b)

pub graph_within : (rules : List Term) (s i y : ℕ) → IsNth (successors (graph_of (automaton rules)) s) i y
    → y < length (graph_of (automaton rules))
graph_within rules s i y h =
    subst (λ n. y < n) (sym (graph_of-length (automaton rules)))
    (moves_stay_within rules s i y (nth_at_zero (successors (graph_of (automaton rules)) s) i y h))

pub flat_places : (rules : List Term) (ss : List Ranked) (deep : ℕ → ℕ) → ArePlaceDepths (automaton rules) ss deep → (i : ℕ) (r : Ranked)
    → IsNth ss i r → length (graph_of (automaton rules)) ≤ r.place → deep r.place ≡ r.depth
flat_places rules ss deep placed i r at le =
    (placed i r at).1 (subst (λ n. n ≤ r.place) (graph_of-length (automaton rules)) le)

module _ (enc : Enc) (rules : List Term) (next : ℕ → ℕ → List ℕ) (added : ℕ → ℕ → ℕ → List Symbol) (number : ℕ → List Symbol → ℕ)
    (numbers : NumbersLeaves enc rules next added number) (deep : ℕ → ℕ) (depths : AreDepths (automaton rules) deep) where
  abbrev graph : List (List ℕ)
  graph = graph_of (automaton rules)

  abbrev Segment : ℕ → ℕ → Key → ℕ → Type 0
  Segment p u k q = IsSegmentOf enc rules next added number numbers p u k q

  -- a segment from a state
  pub record Shape (p u : ℕ) (k : Key) (t : ℕ) : Type 0 where
    pub row : State
    pub choice : List Symbol
    pub left : List ℕ
    pub at : slice_get (automaton rules) t ≡ Some row
    pub reading : IsReading enc row choice (u ∷ left)
    pub adds : added t u k.pick ≡ mark t ∷ (choice ++ reads u ∷ [])
    pub says : segment_symbols rules added p u k ≡ path_symbols (automaton rules) p k.way (mark t ∷ (choice ++ reads u ∷ []))

  pub shaped : (p u : ℕ) (k : Key) (q : ℕ) → p < length (automaton rules) → (s : Segment p u k q) → Shape p u k s.0
  shaped p u k q lt s =
      let l = numbers.leaf_sound s.0 u k.pick q (path_within enc rules next added number numbers [] p k.way s.0 lt s.1) s.2 in
      record {
        row = l.0;
        choice = l.1;
        left = l.2;
        at = l.3;
        reading = l.4;
        adds = l.6;
        says =
            ap (λ n. path_symbols (automaton rules) p k.way (added n u k.pick)) (path_end-is (automaton rules) [] p k.way s.0 s.1)
            ∙ ap (λ l. path_symbols (automaton rules) p k.way l) l.6;
      }

  module _ (p u : ℕ) (k : Key) (t : ℕ) (h : Shape p u k t) where
    pub blind : IsBlind (automaton rules) (automaton_in_order rules) deep depths t
    blind i y a = leaf_edge enc (automaton rules) t h.row h.at h.reading i y (nth_at_zero (successors graph t) i y a)

    pub flat : IsFlat (automaton rules) (automaton_in_order rules) deep depths (h.choice ++ reads u ∷ [])
    flat d = flat_reading enc h.row h.choice (u ∷ h.left) u h.reading d

    pub level_in : (d : ℕ) → PlainPath graph deep [] p k.way t → deep p ≡ depth d (mark p ∷ [])
        → lowest d d (segment_symbols rules added p u k) ≡ min d (lowest_on graph deep p k.way)
    level_in d path e =
        sym (keep_lowest (segment_symbols rules added p u k) d d) ∙ ap (λ l. level_of d (events l)) h.says
        ∙ path_level (automaton rules) (automaton_in_order rules) deep depths k.way [] p t d (h.choice ++ reads u ∷ []) flat path e

module _ (enc : Enc) (rules : List Term) (next : ℕ → ℕ → List ℕ) (added : ℕ → ℕ → ℕ → List Symbol) (number : ℕ → List Symbol → ℕ)
    (numbers : NumbersLeaves enc rules next added number) (w : List ℕ) (es : List Entry) (ss : List Ranked) (u : ℕ)
    (are : AreRanked enc rules next added number numbers w es ss) (deep : ℕ → ℕ) (depths : AreDepths (automaton rules) deep)
    (placed : ArePlaceDepths (automaton rules) ss deep) (width : ℕ) (small : (s : ℕ) → deep s < width) where
  abbrev pub Codes : List ℕ → ℕ → ℕ → List ℕ → Type 0
  Codes cs t from way =
      Coded (graph_of (automaton rules)) deep width small (graph_within rules) ss (flat_places rules ss deep placed) cs t from way

  abbrev starts : List Start
  starts = begins (graph_of (automaton rules)) deep width small (graph_within rules) ss (flat_places rules ss deep placed)

  -- a segment over the unit with the code of its way
  pub record CodedSegment (n : Candidate) (cs : List ℕ) : Type 0 where
    pub to : ℕ
    pub coded : Codes cs to n.from n.key.way
    pub goes : IsNth (next to u) n.key.pick n.to

  abbrev From : Candidate → Type 0
  From n = Comes enc rules next added number numbers es u n

  abbrev to_cut : Candidate → Cut
  to_cut n = cut_after enc rules next added number numbers es u n

  pub comes_by : (n : Candidate) (cs : List ℕ) → CodedSegment n cs → From n
  comes_by n cs a =
      comes enc rules next added number numbers w es ss u are n a.coded.ranked.place
      (nth_map (λ (r : Ranked). r.place) ss n.from a.coded.ranked a.coded.stands)
      (a.to, simple_of (graph_of (automaton rules)) deep n.key.way [] a.coded.ranked.place a.to a.coded.path, a.goes)

  pub same_place : (n : Candidate) (cs : List ℕ) (a : CodedSegment n cs) → a.coded.ranked.place ≡ (comes_by n cs a).entry.place
  same_place n cs a =
      let c = comes_by n cs a in
      ap (λ (r : Ranked). r.place) (sym (ranked_is ss n.from a.coded.ranked a.coded.stands)) ∙ are.place n.from c.entry c.at

  same_depth : (n : Candidate) (cs : List ℕ) (a : CodedSegment n cs) → a.coded.ranked.depth ≡ depth 0 (comes_by n cs a).entry.front
  same_depth n cs a =
      let c = comes_by n cs a in
      ap (λ (r : Ranked). r.depth) (sym (ranked_is ss n.from a.coded.ranked a.coded.stands)) ∙ are.depth n.from c.entry c.at

  -- the symbols of a segment from the place as it is kept
  abbrev walk : (n : Candidate) (cs : List ℕ) → CodedSegment n cs → List Symbol
  walk n cs a = segment_symbols rules added a.coded.ranked.place u n.key

  abbrev pub segment_by : (n : Candidate) (cs : List ℕ) (a : CodedSegment n cs)
      → IsSegmentOf enc rules next added number numbers a.coded.ranked.place u n.key n.to
  segment_by n cs a = (a.to, simple_of (graph_of (automaton rules)) deep n.key.way [] a.coded.ranked.place a.to a.coded.path, a.goes)

  abbrev Run : List ℕ → List Key → List Symbol → ℕ → Type 0
  Run w ks F q = IsRunOf enc rules next added number numbers w ks F q

  -- within a leaf
  pub one_symbol : (n : Candidate) (cs : List ℕ) (a : CodedSegment n cs) → length (automaton rules) ≤ a.coded.ranked.place
      → (walk n cs a ≡ reads u ∷ []) × (n.key.way ≡ []) × (n.key.pick ≡ 0)
  one_symbol n cs a le =
      by w (subst (λ p. Run w c.entry.keys c.entry.front p) (sym (same_place n cs a)) (are.run n.from c.entry c.at))
    where
      c : From n
      c = comes_by n cs a

      by : (w : List ℕ) → Run w c.entry.keys c.entry.front a.coded.ranked.place
          → (walk n cs a ≡ reads u ∷ []) × (n.key.way ≡ []) × (n.key.pick ≡ 0)
      by [] r =
          let s = begin_at_state enc rules next added number numbers c.entry.keys c.entry.front a.coded.ranked.place r in
          let lt = s.low in
          absurd (omega arith)
      by (x ∷ v) r =
          let h = run_in_leaf enc rules next added number numbers x v c.entry.keys c.entry.front a.coded.ranked.place r in
          let m =
          segment_within enc rules next added number numbers h.leaf h.tail h.left u n.key n.to h.rest h.begun
          (subst (λ k. length (automaton rules) ≤ k) h.place le)
          (subst (λ k. IsSegmentOf enc rules next added number numbers k u n.key n.to) h.place (segment_by n cs a)) in
          (ap (λ k. segment_symbols rules added k u n.key) h.place ∙ m.3, m.4, m.5)

  -- the level of a segment is that of its start
  level_is : (n : Candidate) (cs : List ℕ) (a : CodedSegment n cs)
      → lowest a.coded.ranked.depth a.coded.ranked.depth (walk n cs a) ≡ a.coded.level
  level_is n cs a =
      ⊎_elim inside outside (cases_lt a.coded.ranked.place (length (automaton rules)))
    where
      inside : a.coded.ranked.place < length (automaton rules)
          → lowest a.coded.ranked.depth a.coded.ranked.depth (walk n cs a) ≡ a.coded.level
      inside lt =
          level_in enc rules next added number numbers deep depths a.coded.ranked.place u n.key a.to
          (shaped enc rules next added number numbers deep depths a.coded.ranked.place u n.key n.to lt (segment_by n cs a))
          a.coded.ranked.depth a.coded.path ((placed n.from a.coded.ranked a.coded.stands).0 lt)
          ∙ sym a.coded.keeps

      outside : length (automaton rules) ≤ a.coded.ranked.place
          → lowest a.coded.ranked.depth a.coded.ranked.depth (walk n cs a) ≡ a.coded.level
      outside ge =
          let o = one_symbol n cs a ge in
          let f = (placed n.from a.coded.ranked a.coded.stands).1 ge in
          let e : min a.coded.ranked.depth (deep a.coded.ranked.place) ≡ a.coded.ranked.depth = omega arith in
          ap (λ l. lowest a.coded.ranked.depth a.coded.ranked.depth l) o.0
          ∙ sym (a.coded.keeps
          ∙ ap (λ ws. min a.coded.ranked.depth (lowest_on (graph_of (automaton rules)) deep a.coded.ranked.place ws)) o.1 ∙ e)

  -- two ways from one place whose choices, from the least level on, are in order
  lesser : (n m : Candidate) (cs ds : List ℕ) (a : CodedSegment n cs) (b : CodedSegment m ds) → a.coded.ranked.place ≡ b.coded.ranked.place
      → (b.coded.level < a.coded.level)
      ⊎ ((a.coded.level ≡ b.coded.level)
      × IsBefore (level_choices (graph_of (automaton rules)) deep a.coded.ranked.place a.coded.level n.key.way)
      (level_choices (graph_of (automaton rules)) deep b.coded.ranked.place b.coded.level m.key.way))
      → a.coded.ranked.depth ≡ b.coded.ranked.depth
      → IsBefore (level_choices (graph_of (automaton rules)) deep a.coded.ranked.place 0 n.key.way)
      (level_choices (graph_of (automaton rules)) deep a.coded.ranked.place 0 m.key.way)
  lesser n m cs ds a b e h f = lower b.coded.level ka kb (level_at h)
    where
      own : b.coded.level ≡ min a.coded.ranked.depth (lowest_on (graph_of (automaton rules)) deep a.coded.ranked.place m.key.way)
      own =
          b.coded.keeps
          ∙ ap₂ (λ d q. min d (lowest_on (graph_of (automaton rules)) deep q m.key.way)) (sym f) (sym e)

      kb : b.coded.level ≤ lowest_on (graph_of (automaton rules)) deep a.coded.ranked.place m.key.way
      kb = let o = own in omega arith

      ka : b.coded.level ≤ lowest_on (graph_of (automaton rules)) deep a.coded.ranked.place n.key.way
      ka = let k = a.coded.keeps in ⊎_elim (λ lt. omega arith) (λ q. let z = q.0 in omega arith) h

      lower : (l : ℕ) → l ≤ lowest_on (graph_of (automaton rules)) deep a.coded.ranked.place n.key.way
          → l ≤ lowest_on (graph_of (automaton rules)) deep a.coded.ranked.place m.key.way
          → IsBefore (level_choices (graph_of (automaton rules)) deep a.coded.ranked.place l n.key.way)
          (level_choices (graph_of (automaton rules)) deep a.coded.ranked.place l m.key.way)
          → IsBefore (level_choices (graph_of (automaton rules)) deep a.coded.ranked.place 0 n.key.way)
          (level_choices (graph_of (automaton rules)) deep a.coded.ranked.place 0 m.key.way)
      lower l le le' before =
          subst
          (λ x. IsBefore x (level_choices (graph_of (automaton rules)) deep a.coded.ranked.place 0 m.key.way))
          (sym (choices_lower (automaton rules) (automaton_in_order rules) deep depths a.coded.ranked.place 0 l n.key.way (omega arith) le))
          (subst
          (λ x. IsBefore (raised (l - 0) (level_choices (graph_of (automaton rules)) deep a.coded.ranked.place l n.key.way)) x)
          (sym
          (choices_lower (automaton rules) (automaton_in_order rules) deep depths a.coded.ranked.place 0 l m.key.way (omega arith) le'))
          (raised_first (l - 0) (level_choices (graph_of (automaton rules)) deep a.coded.ranked.place l n.key.way)
          (level_choices (graph_of (automaton rules)) deep a.coded.ranked.place l m.key.way) before))

      -- a greater level is raised where the other goes on
      greater : (l : ℕ) (ws vs : List ℕ) → l < lowest_on (graph_of (automaton rules)) deep a.coded.ranked.place ws
          → lowest_on (graph_of (automaton rules)) deep a.coded.ranked.place vs ≡ l
          → IsBefore (level_choices (graph_of (automaton rules)) deep a.coded.ranked.place l ws)
          (level_choices (graph_of (automaton rules)) deep a.coded.ranked.place l vs)
      greater l ws [] lt q =
          let z = low_least (graph_of (automaton rules)) deep a.coded.ranked.place ws in absurd (omega arith)
      greater l ws (j ∷ vs) lt q =
          let z : lowest_on (graph_of (automaton rules)) deep a.coded.ranked.place (j ∷ vs) - l ≡ 0 = omega arith in
          subst
          (λ k. IsBefore (level_choices (graph_of (automaton rules)) deep a.coded.ranked.place l ws)
          (raised k (suc j ∷ level_choices (graph_of (automaton rules)) deep
          (next_state (graph_of (automaton rules)) deep a.coded.ranked.place j)
          (lowest_on (graph_of (automaton rules)) deep a.coded.ranked.place (j ∷ vs)) vs))) (sym z)
          (raised_before (graph_of (automaton rules)) deep a.coded.ranked.place l j ws
          (level_choices (graph_of (automaton rules)) deep (next_state (graph_of (automaton rules)) deep a.coded.ranked.place j)
          (lowest_on (graph_of (automaton rules)) deep a.coded.ranked.place (j ∷ vs)) vs) lt)

      level_at : (b.coded.level < a.coded.level)
          ⊎ ((a.coded.level ≡ b.coded.level)
          × IsBefore (level_choices (graph_of (automaton rules)) deep a.coded.ranked.place a.coded.level n.key.way)
          (level_choices (graph_of (automaton rules)) deep b.coded.ranked.place b.coded.level m.key.way))
          → IsBefore (level_choices (graph_of (automaton rules)) deep a.coded.ranked.place b.coded.level n.key.way)
          (level_choices (graph_of (automaton rules)) deep a.coded.ranked.place b.coded.level m.key.way)
      level_at (inl lt) =
          let k = a.coded.keeps in
          let o = own in
          greater b.coded.level n.key.way m.key.way (omega arith) (omega arith)
      level_at (inr q) =
          subst
          (λ l. IsBefore (level_choices (graph_of (automaton rules)) deep a.coded.ranked.place l n.key.way)
          (level_choices (graph_of (automaton rules)) deep a.coded.ranked.place b.coded.level m.key.way)) q.0
          (subst
          (λ x. IsBefore (level_choices (graph_of (automaton rules)) deep a.coded.ranked.place a.coded.level n.key.way)
          (level_choices (graph_of (automaton rules)) deep x b.coded.level m.key.way)) (sym e) q.1)

  abbrev IsLesserWay : (n m : Candidate) (cs ds : List ℕ) → CodedSegment n cs → CodedSegment m ds → Type 0
  IsLesserWay n m cs ds a b =
      (b.coded.level < a.coded.level)
      ⊎ ((a.coded.level ≡ b.coded.level)
      × IsBefore (level_choices (graph_of (automaton rules)) deep a.coded.ranked.place a.coded.level n.key.way)
      (level_choices (graph_of (automaton rules)) deep b.coded.ranked.place b.coded.level m.key.way))

  one_ranked : (n m : Candidate) (cs ds : List ℕ) (a : CodedSegment n cs) (b : CodedSegment m ds) → n.from ≡ m.from
      → a.coded.ranked ≡ b.coded.ranked
  one_ranked n m cs ds a b e =
      nth_same ss n.from a.coded.ranked b.coded.ranked a.coded.stands
      (subst (λ i. IsNth ss i b.coded.ranked) (sym e) b.coded.stands)

  -- within a leaf there is one way
  within_leaf : (n m : Candidate) (cs ds : List ℕ) (a : CodedSegment n cs) (b : CodedSegment m ds) → n.from ≡ m.from
      → length (automaton rules) ≤ a.coded.ranked.place → IsLesserWay n m cs ds a b → ⊥
  within_leaf n m cs ds a b e ge h =
      let r = one_ranked n m cs ds a b e in
      let x = (one_symbol n cs a ge).1 in
      let y = (one_symbol m ds b (subst (λ (k : Ranked). length (automaton rules) ≤ k.place) r ge)).1 in
      let way : n.key.way ≡ m.key.way = x ∙ sym y in
      let level : a.coded.level ≡ b.coded.level =
      a.coded.keeps
      ∙ ap₂ (λ (k : Ranked) ws. min k.depth (lowest_on (graph_of (automaton rules)) deep k.place ws)) r way ∙ sym b.coded.keeps in
      ⊎_elim (λ lt. omega arith)
      (λ q. IsBefore-irrefl _
      (subst
      (λ l. IsBefore l (level_choices (graph_of (automaton rules)) deep b.coded.ranked.place b.coded.level m.key.way))
      (ap₂ (λ (k : Ranked) ws. level_choices (graph_of (automaton rules)) deep k.place a.coded.level ws) r way
      ∙ ap (λ l. level_choices (graph_of (automaton rules)) deep b.coded.ranked.place l m.key.way) level) q.1)) h

  -- segments from one state
  within_state : (n m : Candidate) (cs ds : List ℕ) (a : CodedSegment n cs) (b : CodedSegment m ds) → n.from ≡ m.from
      → a.coded.ranked.place < length (automaton rules) → IsLesserWay n m cs ds a b
      → PosixPrecedes enc rules (to_cut n) (to_cut m)
  within_state n m cs ds a b e lt h =
      let f =
      levels_order enc rules (forwards w) u (cut_of c.entry) (said enc rules next added number numbers w es ss u are n c)
      (said enc rules next added number numbers w es ss u are m d) (one enc rules next added number numbers w es ss u are n c)
      (one enc rules next added number numbers w es ss u are m d) (after_is_cut enc rules next added number numbers w es ss u are n c)
      (after_is_cut enc rules next added number numbers w es ss u are m d)
      (subst (λ l. IsBefore (levelled (depth 0 c.entry.front) 0 (events l))
      (levelled (depth 0 c.entry.front) 0 (events (said enc rules next added number numbers w es ss u are m d)))) (sym says_first)
      (subst (λ l. IsBefore (levelled (depth 0 c.entry.front) 0
      (events (path_symbols (automaton rules) a.coded.ranked.place n.key.way (mark a.to ∷ (sa.choice ++ reads u ∷ [])))))
      (levelled (depth 0 c.entry.front) 0 (events l))) (sym says_second) linked)) in
      inr (
        f.0,
        subst (λ k. IsFirstOf enc rules k (to_cut m) f.0) (sym (next_cut enc rules next added number numbers w es ss u are n c))
            (subst
            (λ k. IsFirstOf enc rules (after (cut_of c.entry) (said enc rules next added number numbers w es ss u are n c)) k f.0)
            (sym (next_cut enc rules next added number numbers w es ss u are m d)) f.1),
      )
    where
      c : From n
      c = comes_by n cs a

      place : a.coded.ranked.place ≡ b.coded.ranked.place
      place = ap (λ (r : Ranked). r.place) (one_ranked n m cs ds a b e)

      depth_is : a.coded.ranked.depth ≡ b.coded.ranked.depth
      depth_is = ap (λ (r : Ranked). r.depth) (one_ranked n m cs ds a b e)

      path : PlainPath (graph_of (automaton rules)) deep [] a.coded.ranked.place m.key.way b.to
      path = subst (λ p. PlainPath (graph_of (automaton rules)) deep [] p m.key.way b.to) (sym place) b.coded.path

      segment : IsSegmentOf enc rules next added number numbers a.coded.ranked.place u m.key m.to
      segment = (b.to, simple_of (graph_of (automaton rules)) deep m.key.way [] a.coded.ranked.place b.to path, b.goes)

      d : From m
      d = record {
        entry = c.entry;
        at = subst (λ i. IsNth es i c.entry) e c.at;
        segment = subst (λ p. IsSegmentOf enc rules next added number numbers p u m.key m.to) (same_place n cs a) segment;
      }

      sa : Shape enc rules next added number numbers deep depths a.coded.ranked.place u n.key a.to
      sa = shaped enc rules next added number numbers deep depths a.coded.ranked.place u n.key n.to lt (segment_by n cs a)

      sb : Shape enc rules next added number numbers deep depths a.coded.ranked.place u m.key b.to
      sb = shaped enc rules next added number numbers deep depths a.coded.ranked.place u m.key m.to lt segment

      says_first : said enc rules next added number numbers w es ss u are n c
          ≡ path_symbols (automaton rules) a.coded.ranked.place n.key.way (mark a.to ∷ (sa.choice ++ reads u ∷ []))
      says_first = ap (λ p. segment_symbols rules added p u n.key) (sym (same_place n cs a)) ∙ sa.says

      says_second : said enc rules next added number numbers w es ss u are m d
          ≡ path_symbols (automaton rules) a.coded.ranked.place m.key.way (mark b.to ∷ (sb.choice ++ reads u ∷ []))
      says_second = ap (λ p. segment_symbols rules added p u m.key) (sym (same_place n cs a)) ∙ sb.says

      linked : IsBefore
          (levelled (depth 0 c.entry.front) 0
          (events (path_symbols (automaton rules) a.coded.ranked.place n.key.way (mark a.to ∷ (sa.choice ++ reads u ∷ [])))))
          (levelled (depth 0 c.entry.front) 0
          (events (path_symbols (automaton rules) a.coded.ranked.place m.key.way (mark b.to ∷ (sb.choice ++ reads u ∷ [])))))
      linked =
          let blind_a = blind enc rules next added number numbers deep depths a.coded.ranked.place u n.key a.to sa in
          let blind_b = blind enc rules next added number numbers deep depths a.coded.ranked.place u m.key b.to sb in
          differs_is_before _ _
          (link (automaton rules) (automaton_in_order rules) deep depths n.key.way m.key.way [] [] a.coded.ranked.place a.to b.to
          (depth 0 c.entry.front) 0 (sa.choice ++ reads u ∷ []) (sb.choice ++ reads u ∷ [])
          (flat enc rules next added number numbers deep depths a.coded.ranked.place u n.key a.to sa)
          (flat enc rules next added number numbers deep depths a.coded.ranked.place u m.key b.to sb) blind_a blind_b a.coded.path path
          ((placed n.from a.coded.ranked a.coded.stands).0 lt
          ∙ ap (λ x. depth x (mark a.coded.ranked.place ∷ [])) (same_depth n cs a))
          (omega arith) (omega arith) (omega arith)
          (before_differs (automaton rules) (automaton_in_order rules) deep depths n.key.way m.key.way [] [] a.coded.ranked.place a.to b.to
          0 blind_a blind_b a.coded.path path (omega arith) (omega arith) (lesser n m cs ds a b place h depth_is)))

  within_place : (n m : Candidate) (cs ds : List ℕ) (a : CodedSegment n cs) (b : CodedSegment m ds) → n.from ≡ m.from
      → IsLesserWay n m cs ds a b → PosixPrecedes enc rules (to_cut n) (to_cut m)
  within_place n m cs ds a b e h =
      ⊎_elim (λ lt. within_state n m cs ds a b e lt h) (λ ge. absurd (within_leaf n m cs ds a b e ge h))
      (cases_lt a.coded.ranked.place (length (automaton rules)))

  -- segments from two places of one rule
  level_said : (n : Candidate) (cs : List ℕ) (a : CodedSegment n cs)
      → level_from ss n.from (said enc rules next added number numbers w es ss u are n (comes_by n cs a)) ≡ a.coded.level
  level_said n cs a =
      ap₂ (λ (r : Ranked) l. lowest r.depth r.depth l) (ranked_is ss n.from a.coded.ranked a.coded.stands)
      (ap (λ p. segment_symbols rules added p u n.key) (sym (same_place n cs a)))
      ∙ level_is n cs a

  across_places : (n m : Candidate) (cs ds : List ℕ) (a : CodedSegment n cs) (b : CodedSegment m ds) → n.from < m.from
      → (ranked_at ss n.from).rule ≡ (ranked_at ss m.from).rule
      → (min (number_between ss n.from m.from) b.coded.level ≤ a.coded.level → PosixPrecedes enc rules (to_cut n) (to_cut m))
      × (a.coded.level < min (number_between ss n.from m.from) b.coded.level → PosixPrecedes enc rules (to_cut m) (to_cut n))
  across_places n m cs ds a b lt same =
      let c = comes_by n cs a in
      let d = comes_by m ds b in
      let p = sym (next_cut enc rules next added number numbers w es ss u are n c) in
      let q = sym (next_cut enc rules next added number numbers w es ss u are m d) in
      let x = level_said n cs a in
      let y = level_said m ds b in
      let r =
      (entries_weighed enc rules next added number numbers w es ss are u n.from m.from c.entry d.entry
      (said enc rules next added number numbers w es ss u are n c) (said enc rules next added number numbers w es ss u are m d) lt c.at d.at
      (ends enc rules next added number numbers w es ss u are n c) (ends enc rules next added number numbers w es ss u are m d)
      (after_is_cut enc rules next added number numbers w es ss u are n c)
      (after_is_cut enc rules next added number numbers w es ss u are m d)).1 same in (
        λ le.
            subst (λ k. PosixPrecedes enc rules k (to_cut m)) p
            (subst (λ k. PosixPrecedes enc rules (after (cut_of c.entry) (said enc rules next added number numbers w es ss u are n c)) k) q
            (r.0.1 (omega arith))),
        λ less.
            subst (λ k. PosixPrecedes enc rules k (to_cut n)) q
            (subst (λ k. PosixPrecedes enc rules (after (cut_of d.entry) (said enc rules next added number numbers w es ss u are m d)) k) p
            (r.1.1 (omega arith))),
      )

  abbrev start_of : (n : Candidate) (cs : List ℕ) → CodedSegment n cs → Start
  start_of n cs a = record { from = n.from; level = a.coded.level }

  by_rules : (n m : Candidate) (cs ds : List ℕ) (a : CodedSegment n cs) (b : CodedSegment m ds)
      → (ranked_at ss n.from).rule < (ranked_at ss m.from).rule → PosixPrecedes enc rules (to_cut n) (to_cut m)
  by_rules n m cs ds a b lt =
      let x = rule_after enc rules next added number numbers w es ss u are n (comes_by n cs a) in
      let y = rule_after enc rules next added number numbers w es ss u are m (comes_by m ds b) in
      inl (omega arith)

  -- from the start that stands first
  by_starts : (n m : Candidate) (cs ds : List ℕ) (a : CodedSegment n cs) (b : CodedSegment m ds) → a.coded.index < b.coded.index
      → PosixPrecedes enc rules (to_cut n) (to_cut m)
  by_starts n m cs ds a b lt =
      by
      (rising_nth (InOrder ss) starts a.coded.index b.coded.index (record { from = n.from; level = a.coded.level })
      (record { from = m.from; level = b.coded.level }) (starts_rise ss deep) a.coded.at b.coded.at lt)
    where
      in_rule : (ranked_at ss n.from).rule ≡ (ranked_at ss m.from).rule
          → InRule ss (record { from = n.from; level = a.coded.level }) (record { from = m.from; level = b.coded.level })
          → PosixPrecedes enc rules (to_cut n) (to_cut m)
      in_rule same r =
          ⊎_elim
          (λ e.
          let le = r.from_one e in
          ⊎_elim
          (λ less. within_place n m cs ds a b e (inl less))
          (λ ge.
          let z : a.coded.level ≡ b.coded.level = omega arith in
          absurd (b.coded.before a.coded.index lt
          (subst (λ s. IsNth starts a.coded.index s) (ap₂ (λ i l. record { from = i; level = l }) e z) a.coded.at)))
          (cases_lt b.coded.level a.coded.level))
          (λ d. ⊎_elim
          (λ l. (across_places n m cs ds a b l same).0 (r.from_first l))
          (λ l. (across_places m n ds cs b a l (sym same)).1 (r.from_second l)) d)
          (cases_order n.from m.from)

      by : InOrder ss (record { from = n.from; level = a.coded.level }) (record { from = m.from; level = b.coded.level })
          → PosixPrecedes enc rules (to_cut n) (to_cut m)
      by o =
          let le = o.rules in
          ⊎_elim (λ less. by_rules n m cs ds a b less)
          (λ ge. let same : (ranked_at ss n.from).rule ≡ (ranked_at ss m.from).rule = omega arith in in_rule same (o.within same))
          (cases_lt (ranked_at ss n.from).rule (ranked_at ss m.from).rule)

  -- codes are in the order of cuts
  pub by_codes : (n m : Candidate) (cs ds : List ℕ) (a : CodedSegment n cs) (b : CodedSegment m ds) → IsBefore cs ds
      → PosixPrecedes enc rules (to_cut n) (to_cut m)
  by_codes n m cs ds a b before =
      by
      (subst
      (λ l. IsBefore l (b.coded.index ∷ level_choices (graph_of (automaton rules)) deep b.coded.ranked.place b.coded.level m.key.way))
      a.coded.choices (subst (λ l. IsBefore cs l) b.coded.choices before))
    where
      by : (a.coded.index < b.coded.index)
          ⊎ ((a.coded.index ≡ b.coded.index)
          × IsBefore (level_choices (graph_of (automaton rules)) deep a.coded.ranked.place a.coded.level n.key.way)
          (level_choices (graph_of (automaton rules)) deep b.coded.ranked.place b.coded.level m.key.way))
          → PosixPrecedes enc rules (to_cut n) (to_cut m)
      by (inl lt) = by_starts n m cs ds a b lt
      by (inr q) =
          let s =
          nth_same starts a.coded.index (record { from = n.from; level = a.coded.level }) (record { from = m.from; level = b.coded.level })
          a.coded.at
          (subst (λ i. IsNth starts i (record { from = m.from; level = b.coded.level })) (sym q.0) b.coded.at) in
          within_place n m cs ds a b (ap (λ (x : Start). x.from) s) (inr (ap (λ (x : Start). x.level) s, q.1))

  -- one code is that of one way
  pub one_way_of : (n m : Candidate) (cs ds : List ℕ) (a : CodedSegment n cs) (b : CodedSegment m ds) → cs ≡ ds → a.to ≡ b.to
      → (n.from ≡ m.from) × (n.key.way ≡ m.key.way)
  one_way_of n m cs ds a b e to = (from, way)
    where
      codes : a.coded.index ∷ level_choices (graph_of (automaton rules)) deep a.coded.ranked.place a.coded.level n.key.way
          ≡ b.coded.index ∷ level_choices (graph_of (automaton rules)) deep b.coded.ranked.place b.coded.level m.key.way
      codes = sym a.coded.choices ∙ e ∙ b.coded.choices

      index : a.coded.index ≡ b.coded.index
      index = let q = codes in cc

      rest : level_choices (graph_of (automaton rules)) deep a.coded.ranked.place a.coded.level n.key.way
          ≡ level_choices (graph_of (automaton rules)) deep b.coded.ranked.place b.coded.level m.key.way
      rest = let q = codes in cc

      start : start_of n cs a ≡ start_of m ds b
      start =
          nth_same starts a.coded.index (record { from = n.from; level = a.coded.level }) (record { from = m.from; level = b.coded.level })
          a.coded.at (subst (λ i. IsNth starts i (record { from = m.from; level = b.coded.level })) (sym index) b.coded.at)

      from : n.from ≡ m.from
      from = ap (λ (x : Start). x.from) start

      level : a.coded.level ≡ b.coded.level
      level = ap (λ (x : Start). x.level) start

      ranked : a.coded.ranked ≡ b.coded.ranked
      ranked = one_ranked n m cs ds a b from

      inside : a.coded.ranked.place < length (automaton rules) → n.key.way ≡ m.key.way
      inside lt =
          let shape = shaped enc rules next added number numbers deep depths a.coded.ranked.place u n.key n.to lt (segment_by n cs a) in
          let path : PlainPath (graph_of (automaton rules)) deep [] a.coded.ranked.place m.key.way a.to =
          subst (λ t. PlainPath (graph_of (automaton rules)) deep [] a.coded.ranked.place m.key.way t) (sym to)
          (subst (λ (r : Ranked). PlainPath (graph_of (automaton rules)) deep [] r.place m.key.way b.to) (sym ranked) b.coded.path) in
          let ka = a.coded.keeps in
          let kb = b.coded.keeps in
          let low = ap (λ (r : Ranked). min r.depth (lowest_on (graph_of (automaton rules)) deep r.place m.key.way)) ranked in
          one_way (automaton rules) (automaton_in_order rules) deep depths n.key.way m.key.way [] [] a.coded.ranked.place a.to a.coded.level
          (blind enc rules next added number numbers deep depths a.coded.ranked.place u n.key a.to shape) a.coded.path path
          (omega arith) (let z = level in omega arith)
          (rest
          ∙ ap₂ (λ (r : Ranked) l. level_choices (graph_of (automaton rules)) deep r.place l m.key.way) (sym ranked) (sym level))

      outside : length (automaton rules) ≤ a.coded.ranked.place → n.key.way ≡ m.key.way
      outside ge =
          (one_symbol n cs a ge).1 ∙ sym (one_symbol m ds b (subst (λ (r : Ranked). length (automaton rules) ≤ r.place) ranked ge)).1

      way : n.key.way ≡ m.key.way
      way = ⊎_elim (λ lt. inside lt) (λ ge. outside ge) (cases_lt a.coded.ranked.place (length (automaton rules)))
