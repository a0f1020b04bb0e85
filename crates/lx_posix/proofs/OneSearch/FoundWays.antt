-- What the search over states and levels finds: to each state from the places the first way, by its code.
use Rattle.std.proofs.Common.{inl, inr, sym, ap, ap₂, ◌∙◌, subst, arith, ⊎_elim}
use Rattle.std.proofs.lemmas.Bool.{cases_lt}
use Rattle.std.specs.Prelude.{◌≡◌, ℕ, zero, suc, ◌-◌, ◌/◌, ◌%◌, ◌<◌, ◌≤◌, ◌⊎◌, min, List, [], ◌∷◌, length, refl}
use Rattle.lx_regex.specs.Dictionary.{IsBefore}
use Rattle.lx_tnfa.specs.DepthFirst.{Found, search_from, successors}
use Rattle.lx_tnfa.specs.LeafReadings.{IsNth}
use Rattle.lx_tnfa.proofs.Construction.NthLists.{nth_map, nth_unmap}
use Rattle.lx_tnfa.proofs.Searching.SearchBounds.{search_from-is_search}
use Rattle.lx_tnfa.proofs.Searching.SearchPaths.{Avoids, Each-from_all, IsSimple, PathFrom, PathFrom-from_simple}
use Rattle.lx_tnfa.proofs.Searching.SimplePaths.{SimplePath, SimplePathFrom}
use Rattle.lx_tdfa.proofs.Walks.Closures.{search_from-list}
use Rattle.lx_tdfa.proofs.WordKernels.OrderedLists.{IsMember, at_zero_nth, each_member, member_nth, nth_at_zero, nth_member}
use Rattle.lx_posix.specs.Comparing.{Ranked, ranked_at}
use Rattle.lx_posix.specs.LevelPaths.{LevelPath, PlainPath, level_choices, lowest_on, next_state}
use Rattle.lx_posix.specs.LevelSearch.{level_graph, moves_taken, start_at, start_nodes, way_from}
use Rattle.lx_posix.specs.Levels.{raised}
use Rattle.lx_posix.specs.Starts.{Start, level_starts}
use Rattle.lx_posix.proofs.OneSearch.LevelGraphs.{from_levels, node, node_level, node_past, node_state, to_levels}
use Rattle.lx_posix.proofs.OneSearch.StartOrder.{first_at, greater_first, start_has, start_place}
use Rattle.lx_posix.proofs.Searches.LevelSearches.{least_path, low_least, plain_goes}

pub start_is : (xs : List Start) (i : ℕ) (s : Start) → IsNth xs i s → start_at xs i ≡ s
start_is [] i s h = absurd h
start_is (x ∷ xs) zero s h = h
start_is (x ∷ xs) (suc i) s h = start_is xs i s h

pub ranked_is : (ss : List Ranked) (i : ℕ) (r : Ranked) → IsNth ss i r → ranked_at ss i ≡ r
ranked_is [] i r h = absurd h
ranked_is (x ∷ ss) zero r h = h
ranked_is (x ∷ ss) (suc i) r h = ranked_is ss i r h

module _ (graph : List (List ℕ)) (deep : ℕ → ℕ) (width : ℕ) (small : (s : ℕ) → deep s < width)
    (within : (s i y : ℕ) → IsNth (successors graph s) i y → y < length graph) (ss : List Ranked)
    (flat : (i : ℕ) (r : Ranked) → IsNth ss i r → length graph ≤ r.place → deep r.place ≡ r.depth) where
  abbrev pub begins : List Start
  begins = level_starts deep ss

  abbrev levels : List (List ℕ)
  levels = level_graph graph deep width

  abbrev at_node : ℕ → ℕ → ℕ
  at_node s l = node graph deep width s l

  abbrev nodes : List ℕ
  nodes = start_nodes graph deep width ss begins

  abbrev pub all_found : List Found
  all_found = search_from levels [] nodes

  abbrev pub low : ℕ → List ℕ → ℕ
  low s ws = lowest_on graph deep s ws

  -- the choices of a way from a place, by the search: from the start of the level that it keeps
  pub record Coded (cs : List ℕ) (t from : ℕ) (way : List ℕ) : Type 0 where
    pub index : ℕ
    pub level : ℕ
    pub at : IsNth begins index (record { from = from; level = level })
    pub before : (j : ℕ) → j < index → IsNth begins j (record { from = from; level = level }) → ⊥
    pub ranked : Ranked
    pub stands : IsNth ss from ranked
    pub path : PlainPath graph deep [] ranked.place way t
    pub keeps : level ≡ min ranked.depth (lowest_on graph deep ranked.place way)
    pub choices : cs ≡ index ∷ level_choices graph deep ranked.place level way

  -- no path comes before that which is found
  found_least : (e : Found) → IsMember all_found e → (ws : List ℕ) → SimplePathFrom levels [] 0 nodes ws e.state → IsBefore ws e.choices → ⊥
  found_least e m ws p b =
      let q = PathFrom-from_simple levels [] nodes ws e.state p in
      each_member
      (λ (e : Found). (ws ss : List ℕ) → PathFrom levels nodes ws ss e.state → IsSimple ss → Avoids [] ss → IsBefore ws e.choices → ⊥)
      all_found e
      (Each-from_all
      (λ (e : Found). (ws ss : List ℕ) → PathFrom levels nodes ws ss e.state → IsSimple ss → Avoids [] ss → IsBefore ws e.choices → ⊥)
      all_found (search_from-is_search levels [] nodes).least)
      m ws q.0 q.1 q.2 q.3 b

  -- a path from a start
  start_path : (i : ℕ) (s : Start) (r : Ranked) (cs : List ℕ) (n : ℕ) → IsNth begins i s → IsNth ss s.from r
      → SimplePath levels [] (at_node r.place s.level) cs n → SimplePathFrom levels [] 0 nodes (i ∷ cs) n
  start_path i s r cs n at place p = (
    at_node r.place s.level,
    nth_at_zero nodes i (at_node r.place s.level)
        (subst (λ (x : Ranked). IsNth nodes i (at_node x.place s.level)) (ranked_is ss s.from r place)
        (nth_map (λ (x : Start). at_node (ranked_at ss x.from).place x.level) begins i s at)),
    p,
  )

  level_goes : (r : Ranked) (i l t : ℕ) (cs : List ℕ) → IsNth ss i r → l ≤ deep r.place → (r.place < length graph) ⊎ (cs ≡ [])
      → LevelPath graph deep [] r.place l cs t (deep t) → SimplePath levels [] (at_node r.place l) cs (at_node t (deep t))
  level_goes r i l t cs at le is p =
      from_levels graph deep width small within cs [] [] r.place l t (deep t) le is (λ n m. absurd m) p

  plain_level : (r : Ranked) (l t : ℕ) (way : List ℕ) → PlainPath graph deep [] r.place way t → l ≤ lowest_on graph deep r.place way
      → LevelPath graph deep [] r.place l (level_choices graph deep r.place l way) t (deep t)
  plain_level r l t way p le = plain_goes graph deep way [] [] r.place l t p le (λ x k m. absurd m)

  taken_raised : (k : ℕ) (cs : List ℕ) → moves_taken (raised k cs) ≡ moves_taken cs
  taken_raised zero cs = refl
  taken_raised (suc k) cs = taken_raised k cs

  taken_is : (ws : List ℕ) (s l : ℕ) → moves_taken (level_choices graph deep s l ws) ≡ ws
  taken_is [] s l = taken_raised (deep s - l) []
  taken_is (i ∷ ws) s l =
      taken_raised (lowest_on graph deep s (i ∷ ws) - l)
      (suc i ∷ level_choices graph deep (next_state graph deep s i) (lowest_on graph deep s (i ∷ ws)) ws)
      ∙ ap (λ l. i ∷ l) (taken_is ws (next_state graph deep s i) (lowest_on graph deep s (i ∷ ws)))

  -- a way that is found at the depth of its state
  pub record FoundWay (e : Found) : Type 0 where
    pub to : ℕ
    pub from : ℕ
    pub way : List ℕ
    pub coded : Coded e.choices to from way
    pub state : e.state ≡ node graph deep width to (deep to)
    pub decoded : way_from begins e.choices ≡ from ∷ way

  abbrev one_more : Start → Start
  one_more s = record { from = s.from; level = suc s.level }

  -- by its level, its way, and that no greater level is kept
  found_by : (e : Found) → IsMember all_found e → (i : ℕ) (s : Start) (r : Ranked) (cs : List ℕ) (t : ℕ) (way : List ℕ)
      → e.choices ≡ i ∷ cs → IsNth begins i s → IsNth ss s.from r → s.level ≤ min r.depth (deep r.place)
      → e.state ≡ at_node t (deep t) → SimplePath levels [] (at_node r.place s.level) cs e.state → PlainPath graph deep [] r.place way t
      → s.level ≤ lowest_on graph deep r.place way → level_choices graph deep r.place s.level way ≡ cs
      → (s.level < min r.depth (lowest_on graph deep r.place way) → r.place < length graph) → FoundWay e
  found_by e m i s r cs t way ch at stands le is p path low same inside = record {
    to = t;
    from = s.from;
    way = way;
    coded = record {
      index = i;
      level = s.level;
      at = at;
      before = λ j lt h.
          found_least e m (j ∷ cs) (start_path j s r cs e.state h stands p) (subst (λ l. IsBefore (j ∷ cs) l) (sym ch) (inl lt));
      ranked = r;
      stands = stands;
      path = path;
      keeps = ⊎_elim (λ lt. absurd (greater lt (inside lt))) (λ ge. omega arith)
          (cases_lt s.level (min r.depth (lowest_on graph deep r.place way)));
      choices = ch ∙ ap (λ l. i ∷ l) (sym same);
    };
    state = is;
    decoded =
        ap (way_from begins) ch
        ∙ ap₂ (λ (x : Start) l. x.from ∷ l) (start_is begins i s at) (ap moves_taken (sym same) ∙ taken_is way r.place s.level);
  }
    where
      greater : s.level < min r.depth (lowest_on graph deep r.place way) → r.place < length graph → ⊥
      greater lt inside =
          let most = low_least graph deep r.place way in
          let k = member_nth begins (one_more s) (start_has ss deep s.from (suc s.level) r stands (omega arith)) in
          let first = greater_first ss deep k.0 i (one_more s) s k.1 at refl (omega arith) in
          found_least e m (k.0 ∷ level_choices graph deep r.place (suc s.level) way)
          (start_path k.0 (one_more s) r (level_choices graph deep r.place (suc s.level) way) e.state k.1 stands
          (subst (λ n. SimplePath levels [] (at_node r.place (suc s.level)) (level_choices graph deep r.place (suc s.level) way) n) (sym is)
          (level_goes r s.from (suc s.level) t (level_choices graph deep r.place (suc s.level) way) stands (omega arith) (inl inside)
          (plain_level r (suc s.level) t way path (omega arith)))))
          (subst (λ l. IsBefore (k.0 ∷ level_choices graph deep r.place (suc s.level) way) l) (sym ch) (inl first))

  found_at : (e : Found) → IsMember all_found e → (i : ℕ) (s : Start) (r : Ranked) (cs : List ℕ) → e.choices ≡ i ∷ cs → IsNth begins i s
      → IsNth ss s.from r → s.level ≤ min r.depth (deep r.place) → SimplePath levels [] (at_node r.place s.level) cs e.state
      → e.state % width ≡ deep (e.state / width) → FoundWay e
  found_at e m i s r cs ch at stands le path top =
      let lands = to_levels graph deep width small cs [] [] r.place s.level e.state (omega arith) (λ x k m. absurd m) path in
      by lands.to lands.last lands.path lands.is lands.low
    where
      past : length graph ≤ r.place → (cs : List ℕ) (n : ℕ) → SimplePath levels [] (at_node r.place s.level) cs n → cs ≡ []
      past ge [] n p = refl
      past ge (c ∷ cs) n p =
          absurd (subst (λ l. IsNth l c p.1.0) (node_past graph deep width r.place s.level ge)
          (at_zero_nth (successors levels (at_node r.place s.level)) c p.1.0 p.1.1))

      least : (t : ℕ) → e.state ≡ at_node t (deep t) → r.place < length graph → (other : List ℕ)
          → LevelPath graph deep [] r.place s.level other t (deep t) → IsBefore other cs → ⊥
      least t is lt other p b =
          found_least e m (i ∷ other)
          (start_path i s r other e.state at stands
          (subst (λ n. SimplePath levels [] (at_node r.place s.level) other n) (sym is)
          (level_goes r s.from s.level t other stands (omega arith) (inl lt) p)))
          (subst (λ l. IsBefore (i ∷ other) l) (sym ch) (inr (refl, b)))

      outside : (t : ℕ) → length graph ≤ r.place → e.state ≡ at_node t (deep t)
          → LevelPath graph deep [] r.place s.level cs t (deep t) → FoundWay e
      outside t ge is p =
          let none = past ge cs e.state path in
          let q = subst (λ l. LevelPath graph deep [] r.place s.level l t (deep t)) none p in
          let f = flat s.from r stands ge in
          let z = ap deep q.1 in
          let level = q.2 in
          let y : deep r.place - s.level ≡ 0 = omega arith in
          found_by e m i s r cs t [] ch at stands le is path (λ n. n, q.1) (omega arith) (ap (λ k. raised k []) y ∙ sym none)
          (λ lt. absurd (omega arith))

      inside : (t : ℕ) → r.place < length graph → e.state ≡ at_node t (deep t)
          → LevelPath graph deep [] r.place s.level cs t (deep t) → FoundWay e
      inside t lt is p =
          let q = least_path graph deep r.place s.level cs t (omega arith) p (least t is lt) in
          found_by e m i s r cs t q.0 ch at stands le is path q.1 q.2 q.3 (λ k. lt)

      by : (t b : ℕ) → LevelPath graph deep [] r.place s.level cs t b → e.state ≡ at_node t b → b ≤ deep t → FoundWay e
      by t b p is low =
          let d = small t in
          let x = ap (λ n. n % width) is ∙ node_level graph deep width t b (omega arith) in
          let y = ap (λ n. n / width) is ∙ node_state graph deep width t b (omega arith) in
          let z : b ≡ deep t = sym x ∙ top ∙ ap deep y in
          let here : e.state ≡ at_node t (deep t) = is ∙ ap (λ k. at_node t k) z in
          let goes : LevelPath graph deep [] r.place s.level cs t (deep t) =
          subst (λ k. LevelPath graph deep [] r.place s.level cs t k) z p in
          ⊎_elim (λ lt. inside t lt here goes) (λ ge. outside t ge here goes) (cases_lt r.place (length graph))

  pub found_way : (e : Found) → IsMember all_found e → e.state % width ≡ deep (e.state / width) → FoundWay e
  found_way e m top = go e.choices refl ((search_from-list levels nodes).sound e m)
    where
      go : (cs : List ℕ) → e.choices ≡ cs → SimplePathFrom levels [] 0 nodes e.choices e.state → FoundWay e
      go [] ch p = absurd (subst (λ l. SimplePathFrom levels [] 0 nodes l e.state) ch p)
      go (i ∷ cs) ch p =
          let q : SimplePathFrom levels [] 0 nodes (i ∷ cs) e.state = subst (λ l. SimplePathFrom levels [] 0 nodes l e.state) ch p in
          let u = nth_unmap (λ (x : Start). at_node (ranked_at ss x.from).place x.level) begins i q.0 (at_zero_nth nodes i q.0 q.1) in
          let b = start_place ss deep u.0 (nth_member begins i u.0 u.1) in
          let f = b.from in
          let from : b.index ≡ u.0.from = omega arith in
          let stands : IsNth ss u.0.from b.ranked = subst (λ n. IsNth ss n b.ranked) from b.at in
          let path : SimplePath levels [] (at_node b.ranked.place u.0.level) cs e.state =
          subst (λ (x : Ranked). SimplePath levels [] (at_node x.place u.0.level) cs e.state) (ranked_is ss u.0.from b.ranked stands)
          (subst (λ n. SimplePath levels [] n cs e.state) (sym u.2) q.2) in
          found_at e m i u.0 b.ranked cs ch u.1 stands b.level path top

  -- each way from a place is found, or one before it to the same state
  pub record IsMet (from : ℕ) (way : List ℕ) (t : ℕ) : Type 0 where
    pub code : List ℕ
    pub coded : Coded code t from way
    pub found : Found
    pub member : IsMember all_found found
    pub state : found.state ≡ node graph deep width t (deep t)
    pub first : IsBefore code found.choices → ⊥

  no_moves : (s : ℕ) (way : List ℕ) (t : ℕ) → length graph ≤ s → PlainPath graph deep [] s way t → way ≡ []
  no_moves s [] t ge p = refl
  no_moves s (i ∷ way) t ge p = absurd (nothing (row s ge) p.1.1)
    where
      row : (s : ℕ) → length graph ≤ s → successors graph s ≡ []
      row s le = past graph s le
        where
          past : (rows : List (List ℕ)) (s : ℕ) → length rows ≤ s → successors rows s ≡ []
          past [] s le = refl
          past (r ∷ rows) zero le = absurd (omega arith)
          past (r ∷ rows) (suc s) le = past rows s (omega arith)

      nothing : successors graph s ≡ [] → IsNth (successors graph s) i p.1.0 → ⊥
      nothing e h = subst (λ l. IsNth l i p.1.0) e h

  -- the level that a way keeps
  abbrev kept : Ranked → List ℕ → ℕ
  kept r way = min r.depth (lowest_on graph deep r.place way)

  abbrev code_of : Ranked → List ℕ → List ℕ
  code_of r way = level_choices graph deep r.place (kept r way) way

  still : (i : ℕ) (r : Ranked) (way : List ℕ) (t : ℕ) → IsNth ss i r → length graph ≤ r.place
      → PlainPath graph deep [] r.place way t → code_of r way ≡ []
  still i r way t stands ge path =
      let none = no_moves r.place way t ge path in
      let z = flat i r stands ge in
      let y : deep r.place - min r.depth (deep r.place) ≡ 0 = omega arith in
      ap (λ ws. code_of r ws) none ∙ ap (λ k. raised k []) y

  pub way_met : (from : ℕ) (r : Ranked) (way : List ℕ) (t : ℕ) → IsNth ss from r → PlainPath graph deep [] r.place way t
      → IsMet from way t
  way_met from r way t stands path =
      let most = low_least graph deep r.place way in
      let f =
      first_at begins (record { from = from; level = kept r way }) (start_has ss deep from (kept r way) r stands (omega arith)) in
      let goes =
      level_goes r from (kept r way) t (code_of r way) stands (omega arith)
      (⊎_elim (λ lt. inl lt) (λ ge. inr (still from r way t stands ge path)) (cases_lt r.place (length graph)))
      (plain_level r (kept r way) t way path (omega arith)) in
      let e =
      (search_from-list levels nodes).complete (f.index ∷ code_of r way) (at_node t (deep t))
      (start_path f.index (record { from = from; level = kept r way }) r (code_of r way) (at_node t (deep t)) f.at stands goes) in
      record {
        code = f.index ∷ code_of r way;
        coded = record {
          index = f.index;
          level = kept r way;
          at = f.at;
          before = f.before;
          ranked = r;
          stands = stands;
          path = path;
          keeps = refl;
          choices = refl;
        };
        found = e.0;
        member = e.1;
        state = e.2;
        first = e.3;
      }
