-- The graph of states and levels: its paths are those of a search over states and levels.
use Rattle.std.proofs.Common.{inl, inr, sym, ap, ap₂, ◌∙◌, subst, arith, ⊎_elim}
use Rattle.std.proofs.Math.Nat.{suc-mul}
use Rattle.std.proofs.lemmas.Bool.{cases_lt, leb-false, leb-true, ltb-false, ltb-true}
use Rattle.std.proofs.lemmas.Nat.{div-mul-add, mod-mul-add}
use Rattle.std.specs.Prelude.{◌≡◌, ℕ, zero, suc, ◌+◌, ◌*◌, ◌/◌, ◌%◌, ◌<◌, ◌≤◌, ◌⊎◌, List, [], ◌∷◌, ◌++◌, length, map, get_or, Bool, true, false, nat_le, nat_lt, if◌then◌else◌, refl}
use Rattle.lx_tnfa.specs.DepthFirst.{IsIn, successors}
use Rattle.lx_tnfa.specs.LeafReadings.{IsNth}
use Rattle.lx_tnfa.proofs.Construction.NthLists.{nth_map, nth_unmap}
use Rattle.lx_tnfa.proofs.Searching.SearchBasics.{SimplePath-start}
use Rattle.lx_tnfa.proofs.Searching.SimplePaths.{IsAt, SimplePath}
use Rattle.lx_tdfa.proofs.WordKernels.OrderedLists.{at_zero_nth, nth_at_zero}
use Rattle.lx_posix.specs.LevelPaths.{IsPassed, LevelPath}
use Rattle.lx_posix.specs.LevelSearch.{level_graph, node_of, nodes_after, rows_of_state, rows_of_states}

read_left : {X : Type 0} (xs ys : List X) (n : ℕ) (d : X) → n < length xs → get_or (xs ++ ys) n d ≡ get_or xs n d
read_left [] ys n d lt = absurd (omega arith)
read_left (x ∷ xs) ys zero d lt = refl
read_left (x ∷ xs) ys (suc n) d lt = read_left xs ys n d (omega arith)

read_right : {X : Type 0} (xs ys : List X) (n k : ℕ) (d : X) → n ≡ length xs + k → get_or (xs ++ ys) n d ≡ get_or ys k d
read_right [] ys n k d e = let z : n ≡ k = omega arith in ap (λ i. get_or ys i d) z
read_right (x ∷ xs) ys zero k d e = absurd (omega arith)
read_right (x ∷ xs) ys (suc n) k d e = read_right xs ys n k d (omega arith)

module _ (graph : List (List ℕ)) (deep : ℕ → ℕ) (width : ℕ) where
  abbrev pub node : ℕ → ℕ → ℕ
  node s l = node_of graph deep width s l

  pub node_state : (s l : ℕ) → l < width → node s l / width ≡ s
  node_state s l lt = div-mul-add s width l lt

  pub node_level : (s l : ℕ) → l < width → node s l % width ≡ l
  node_level s l lt = mod-mul-add s width l lt

  pub node_one : (s l x k : ℕ) → l < width → k < width → node s l ≡ node x k → (s ≡ x) × (l ≡ k)
  node_one s l x k lt lt' e = (
    sym (node_state s l lt) ∙ ap (λ n. n / width) e ∙ node_state x k lt',
    sym (node_level s l lt) ∙ ap (λ n. n % width) e ∙ node_level x k lt',
  )

  abbrev steps : ℕ → ℕ → List ℕ → List ℕ
  steps s l ns = nodes_after graph deep width s l ns

  row_length : (s l c : ℕ) (ns : List ℕ) → length (rows_of_state graph deep width s l c ns) ≡ c
  row_length s l zero ns = refl
  row_length s l (suc c) ns = ap suc (row_length s (suc l) c ns)

  row_at : (s l c i : ℕ) (ns : List ℕ) → i < c → get_or (rows_of_state graph deep width s l c ns) i [] ≡ steps s (l + i) ns
  row_at s l zero i ns lt = absurd (omega arith)
  row_at s l (suc c) zero ns lt = let z : l ≡ l + 0 = omega arith in ap (λ k. steps s k ns) z
  row_at s l (suc c) (suc i) ns lt =
      let z : suc l + i ≡ l + suc i = omega arith in row_at s (suc l) c i ns (omega arith) ∙ ap (λ k. steps s k ns) z

  behind_row : (k l : ℕ) → suc k * width + l ≡ width + (k * width + l)
  behind_row k l = omega (arith, suc-mul k width)

  rows_at : (rows : List (List ℕ)) (s k l : ℕ) → l < width → k < length rows
      → get_or (rows_of_states graph deep width s rows) (k * width + l) [] ≡ steps (s + k) l (get_or rows k [])
  rows_at [] s k l lt lt' = absurd (omega arith)
  rows_at (ns ∷ rows) s zero l lt lt' =
      let n = row_length s 0 width ns in
      let z : s ≡ s + 0 = omega arith in
      let y : 0 + l ≡ l = omega arith in
      let first : 0 * width + l ≡ l = omega arith in
      ap (λ i. get_or (rows_of_state graph deep width s 0 width ns ++ rows_of_states graph deep width (suc s) rows) i []) first
      ∙ read_left (rows_of_state graph deep width s 0 width ns) (rows_of_states graph deep width (suc s) rows) l [] (omega arith)
      ∙ row_at s 0 width l ns lt ∙ ap₂ (λ x k. steps x k ns) z y
  rows_at (ns ∷ rows) s (suc k) l lt lt' =
      let n = row_length s 0 width ns in
      let z : suc s + k ≡ s + suc k = omega arith in
      read_right (rows_of_state graph deep width s 0 width ns) (rows_of_states graph deep width (suc s) rows) (suc k * width + l)
      (k * width + l) [] (behind_row k l ∙ ap (λ x. x + (k * width + l)) (sym n))
      ∙ rows_at rows (suc s) k l lt (omega arith) ∙ ap (λ x. steps x l (get_or rows k [])) z

  rows_past : (rows : List (List ℕ)) (s k l : ℕ) → length rows ≤ k → get_or (rows_of_states graph deep width s rows) (k * width + l) [] ≡ []
  rows_past [] s k l le = refl
  rows_past (ns ∷ rows) s zero l le = absurd (omega arith)
  rows_past (ns ∷ rows) s (suc k) l le =
      let n = row_length s 0 width ns in
      read_right (rows_of_state graph deep width s 0 width ns) (rows_of_states graph deep width (suc s) rows) (suc k * width + l)
      (k * width + l) [] (behind_row k l ∙ ap (λ x. x + (k * width + l)) (sym n))
      ∙ rows_past rows (suc s) k l (omega arith)

  abbrev pub levels : List (List ℕ)
  levels = level_graph graph deep width

  pub node_after : (s l : ℕ) → l < width → s < length graph → successors levels (node s l) ≡ steps s l (successors graph s)
  node_after s l lt lt' = let z : 0 + s ≡ s = omega arith in rows_at graph 0 s l lt lt' ∙ ap (λ x. steps x l (successors graph s)) z

  pub node_past : (s l : ℕ) → length graph ≤ s → successors levels (node s l) ≡ []
  node_past s l le = rows_past graph 0 s l le

  -- what is avoided has what was passed
  abbrev Has : List ℕ → List (ℕ × ℕ) → Type 0
  Has avoided passed = (x k : ℕ) → IsPassed passed x k → IsIn avoided (node x k)

  has_more : (avoided : List ℕ) (passed : List (ℕ × ℕ)) (s l : ℕ) → Has avoided passed → Has (node s l ∷ avoided) ((s, l) ∷ passed)
  has_more avoided passed s l h x k (inl q) = inl (ap₂ (λ a b. node a b) q.0 q.1)
  has_more avoided passed s l h x k (inr m) = inr (h x k m)

  -- where a path of the graph leads
  pub record Lands (passed : List (ℕ × ℕ)) (s l : ℕ) (cs : List ℕ) (n : ℕ) : Type 0 where
    pub to : ℕ
    pub last : ℕ
    pub path : LevelPath graph deep passed s l cs to last
    pub is : n ≡ node to last
    pub low : last ≤ deep to

  module _ (small : (s : ℕ) → deep s < width) where
    -- the steps from a node that lead on
    rise_step : (s l c : ℕ) (avoided : List ℕ) (cs : List ℕ) (n : ℕ) → l ≤ deep s → IsAt 0 (successors levels (node s l)) 0 c
        → SimplePath levels (node s l ∷ avoided) c cs n → (l < deep s) × (c ≡ node s (suc l))
    rise_step s l c avoided cs n le at p =
        ⊎_elim
        (λ lt. by (nat_lt l (deep s)) refl
        (subst (λ r. IsNth r 0 c) (node_after s l (let d = small s in omega arith) lt) (at_zero_nth (successors levels (node s l)) 0 c at)))
        (λ ge. absurd (subst (λ r. IsNth r 0 c) (node_past s l ge) (at_zero_nth (successors levels (node s l)) 0 c at)))
        (cases_lt s (length graph))
      where
        by : (b : Bool) → nat_lt l (deep s) ≡ b → (if b then node s (suc l) else node s l) ≡ c → (l < deep s) × (c ≡ node s (suc l))
        by true e q = (ltb-true l (deep s) e, sym q)
        by false e q = absurd (SimplePath-start levels (node s l ∷ avoided) c cs n p (inl q))

    move_step : (s l i c : ℕ) (avoided : List ℕ) (cs : List ℕ) (n : ℕ) → l ≤ deep s → IsAt 0 (successors levels (node s l)) (suc i) c
        → SimplePath levels (node s l ∷ avoided) c cs n
        → (y : ℕ) × IsNth (successors graph s) i y × (l ≤ deep y) × (c ≡ node y l)
    move_step s l i c avoided cs n le at p =
        ⊎_elim
        (λ lt.
        let r =
        nth_unmap (λ y. if nat_le l (deep y) then node y l else node s l) (successors graph s) i c
        (subst (λ r. IsNth r (suc i) c) (node_after s l (let d = small s in omega arith) lt)
        (at_zero_nth (successors levels (node s l)) (suc i) c at)) in
        by r.0 r.1 (nat_le l (deep r.0)) refl r.2)
        (λ ge. absurd (subst (λ r. IsNth r (suc i) c) (node_past s l ge) (at_zero_nth (successors levels (node s l)) (suc i) c at)))
        (cases_lt s (length graph))
      where
        by : (y : ℕ) → IsNth (successors graph s) i y → (b : Bool) → nat_le l (deep y) ≡ b → (if b then node y l else node s l) ≡ c
            → (y : ℕ) × IsNth (successors graph s) i y × (l ≤ deep y) × (c ≡ node y l)
        by y h true e q = (y, h, leb-true l (deep y) e, sym q)
        by y h false e q = absurd (SimplePath-start levels (node s l ∷ avoided) c cs n p (inl q))

    -- a path of the graph is one of the search
    pub to_levels : (cs : List ℕ) (avoided : List ℕ) (passed : List (ℕ × ℕ)) (s l n : ℕ) → l ≤ deep s → Has avoided passed
        → SimplePath levels avoided (node s l) cs n → Lands passed s l cs n
    to_levels [] avoided passed s l n le h p =
        record { to = s; last = l; path = (λ m. p.0 (h s l m), refl, refl); is = sym p.1; low = le }
    to_levels (zero ∷ cs) avoided passed s l n le h p =
        let r = rise_step s l p.1.0 avoided cs n le p.1.1 p.1.2 in
        let q =
        to_levels cs (node s l ∷ avoided) ((s, l) ∷ passed) s (suc l) n (omega (arith, r.0)) (has_more avoided passed s l h)
        (subst (λ c. SimplePath levels (node s l ∷ avoided) c cs n) r.1 p.1.2) in
        record { to = q.to; last = q.last; path = (λ m. p.0 (h s l m), r.0, q.path); is = q.is; low = q.low }
    to_levels (suc i ∷ cs) avoided passed s l n le h p =
        let r = move_step s l i p.1.0 avoided cs n le p.1.1 p.1.2 in
        let q =
        to_levels cs (node s l ∷ avoided) ((s, l) ∷ passed) r.0 l n r.2 (has_more avoided passed s l h)
        (subst (λ c. SimplePath levels (node s l ∷ avoided) c cs n) r.3 p.1.2) in
        record { to = q.to; last = q.last; path = (λ m. p.0 (h s l m), (r.0, r.1, r.2, q.path)); is = q.is; low = q.low }

    -- what is avoided was passed
    abbrev Was : List ℕ → List (ℕ × ℕ) → Type 0
    Was avoided passed = (n : ℕ) → IsIn avoided n → (x : ℕ) × (k : ℕ) × IsPassed passed x k × (k < width) × (node x k ≡ n)

    was_more : (avoided : List ℕ) (passed : List (ℕ × ℕ)) (s l : ℕ) → l < width → Was avoided passed
        → Was (node s l ∷ avoided) ((s, l) ∷ passed)
    was_more avoided passed s l lt h n (inl q) = (s, l, inl (refl, refl), lt, q)
    was_more avoided passed s l lt h n (inr m) = let r = h n m in (r.0, r.1, inr r.2, r.3, r.4)

    new_node : (avoided : List ℕ) (passed : List (ℕ × ℕ)) (s l : ℕ) → l < width → Was avoided passed → (IsPassed passed s l → ⊥)
        → IsIn avoided (node s l) → ⊥
    new_node avoided passed s l lt h new m =
        let r = h (node s l) m in
        let q = node_one r.0 r.1 s l r.3 lt r.4 in
        new (subst (λ x. IsPassed passed x l) q.0 (subst (λ k. IsPassed passed r.0 k) q.1 r.2))

    rise_on : (s l : ℕ) → s < length graph → l < deep s → IsAt 0 (successors levels (node s l)) 0 (node s (suc l))
    rise_on s l lt le =
        nth_at_zero (successors levels (node s l)) 0 (node s (suc l))
        (subst (λ r. IsNth r 0 (node s (suc l))) (sym (node_after s l (let d = small s in omega arith) lt)) (by (nat_lt l (deep s)) refl))
      where
        by : (b : Bool) → nat_lt l (deep s) ≡ b → (if b then node s (suc l) else node s l) ≡ node s (suc l)
        by true e = refl
        by false e = absurd (let g = ltb-false l (deep s) e in omega arith)

    move_on : (s l i y : ℕ) → l < width → s < length graph → IsNth (successors graph s) i y → l ≤ deep y
        → IsAt 0 (successors levels (node s l)) (suc i) (node y l)
    move_on s l i y low lt h le =
        nth_at_zero (successors levels (node s l)) (suc i) (node y l)
        (subst (λ r. IsNth r (suc i) (node y l)) (sym (node_after s l low lt))
        (by (nat_le l (deep y)) refl
        (nth_map (λ x. if nat_le l (deep x) then node x l else node s l) (successors graph s) i y h)))
      where
        by : (b : Bool) → nat_le l (deep y) ≡ b
            → IsNth (map (λ x. if nat_le l (deep x) then node x l else node s l) (successors graph s)) i (if b then node y l else node s l)
            → IsNth (map (λ x. if nat_le l (deep x) then node x l else node s l) (successors graph s)) i (node y l)
        by true e q = q
        by false e q = absurd (let g = leb-false l (deep y) e in omega arith)

    -- a path of the search is one of the graph
    pub from_levels : ((s i y : ℕ) → IsNth (successors graph s) i y → y < length graph) → (cs : List ℕ) (avoided : List ℕ)
        (passed : List (ℕ × ℕ)) (s l t b : ℕ) → l ≤ deep s → (s < length graph) ⊎ (cs ≡ []) → Was avoided passed
        → LevelPath graph deep passed s l cs t b → SimplePath levels avoided (node s l) cs (node t b)
    from_levels within [] avoided passed s l t b le is h p =
        let d = small s in
        (new_node avoided passed s l (omega arith) h p.0, ap₂ (λ x k. node x k) p.1 p.2)
    from_levels within (zero ∷ cs) avoided passed s l t b le (inr e) h p = cc
    from_levels within (suc i ∷ cs) avoided passed s l t b le (inr e) h p = cc
    from_levels within (zero ∷ cs) avoided passed s l t b le (inl is) h p =
        let d = small s in (
          new_node avoided passed s l (omega arith) h p.0,
          (
            node s (suc l),
            rise_on s l is p.1,
            from_levels within cs (node s l ∷ avoided) ((s, l) ∷ passed) s (suc l) t b (omega (arith, p.1)) (inl is)
                (was_more avoided passed s l (omega arith) h) p.2,
          ),
        )
    from_levels within (suc i ∷ cs) avoided passed s l t b le (inl is) h p =
        let d = small s in (
          new_node avoided passed s l (omega arith) h p.0,
          (
            node p.1.0 l,
            move_on s l i p.1.0 (omega arith) is p.1.1 p.1.2,
            from_levels within cs (node s l ∷ avoided) ((s, l) ∷ passed) p.1.0 l t b p.1.2 (inl (within s i p.1.0 p.1.1))
                (was_more avoided passed s l (omega arith) h) p.1.3,
          ),
        )
