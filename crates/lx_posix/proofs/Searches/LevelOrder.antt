-- The choices of a search over the states of an automaton and levels are in the order of the walks.
use Rattle.std.proofs.Common.{inl, inr, sym, ap, ap₂, ◌∙◌, subst, arith, ⊎_elim}
use Rattle.std.proofs.lemmas.Bool.{cases_lt, cases_order}
use Rattle.std.specs.Prelude.{◌≡◌, ℕ, zero, suc, ◌-◌, ◌/◌, ◌%◌, ◌<◌, ◌≤◌, ◌⊎◌, min, List, [], ◌∷◌, ◌++◌, map, Option, Some, None, Bool, true, false, ◌&&◌, nat_eq, if◌then◌else◌, slice_get, refl}
use Rattle.lx_base.specs.declared.settings.Enc.{Enc}
use Rattle.lx_base.specs.declared.settings.Enc.TheVariants.{Byte, Ucs2, Utf16, Utf32, Utf8}
use Rattle.lx_regex.specs.Automaton.{Move, State, automaton, label, move, target}
use Rattle.lx_regex.specs.Cut.{Cut, IsCut}
use Rattle.lx_regex.specs.Dictionary.{IsBefore}
use Rattle.lx_regex.specs.Reading.{IsReading, of_point, of_unit}
use Rattle.lx_regex.specs.Script.{Symbol, begins, ends, has_long, has_short, leaf_choice, picks, reads, sets, units, unsets}
use Rattle.lx_regex.specs.Term.{Term}
use Rattle.lx_regex.specs.Walk.{mark}
use Rattle.lx_regex.proofs.KernelCuts.Kernels.{before_asym}
use Rattle.lx_regex.proofs.Walks.Clear.{picked}
use Rattle.lx_regex.proofs.Walks.Fronts.{DiffersBefore, before_self}
use Rattle.lx_regex.proofs.Walks.PlainWalk.{units_append, units_mark}
use Rattle.lx_regex.proofs.Walks.Readings.{code_quiet}
use Rattle.lx_regex.proofs.Walks.Scripts.{differs_is_before}
use Rattle.lx_tnfa.specs.DepthFirst.{successors}
use Rattle.lx_tnfa.specs.LeafReadings.{IsNth}
use Rattle.lx_tnfa.proofs.Searching.SearchUnique.{IsBefore-cases}
use Rattle.lx_tdfa.specs.Graph.{graph_of, move_at, path_symbols}
use Rattle.lx_tdfa.proofs.Rules.StateOrder.{automaton_in_order}
use Rattle.lx_tdfa.proofs.Walks.StatePaths.{MovesInOrder, at_move, leaf_edge, path_symbols-units}
use Rattle.lx_tdfa.proofs.WordKernels.OrderedLists.{nth_at_zero, nth_same}
use Rattle.lx_posix.specs.LevelPaths.{AreDepths, LevelPath, PlainPath, level_choices, lowest_on, next_state}
use Rattle.lx_posix.specs.Levels.{level_of, levelled, raised}
use Rattle.lx_posix.specs.Numbers.{IsFirstOf}
use Rattle.lx_posix.specs.Parting.{Event, digit, events}
use Rattle.lx_posix.specs.Walks.{after, depth}
use Rattle.lx_posix.proofs.Lists.Comparisons.{keep_most}
use Rattle.lx_posix.proofs.Searches.LevelSearches.{least_path, next_is}
use Rattle.lx_posix.proofs.Searches.LevelledWalks.{keep_least, levels_order, raised_more, raised_on, raised_same}

pub mark_either : (s : ℕ) (P : Symbol → Type 0) → ((p : ℕ) → P (begins p)) → ((p : ℕ) → P (ends p)) → P (mark s)
mark_either s P f g = go (nat_eq (s % 2) 0)
  where
    go : (b : Bool) → P (if b then begins (s / 2) else ends (s / 2))
    go true = f (s / 2)
    go false = g (s / 2)

-- over the symbol of a state
mark_level : (s d : ℕ) (l : List Symbol) → level_of d (events (mark s ∷ l)) ≡ min d (level_of (depth d (mark s ∷ [])) (events l))
mark_level s d l =
    mark_either s (λ x. level_of d (events (x ∷ l)) ≡ min d (level_of (depth d (x ∷ [])) (events l)))
    (λ p. keep_least 1 (suc d) d (events l) (omega arith))
    (λ p.
    let a = keep_least 1 (d - 1) (min d (d - 1)) (events l) (omega arith) in
    let b = keep_most 1 (d - 1) (d - 1) (events l) in
    omega arith)

mark_levelled : (s d c : ℕ) (l : List Symbol)
    → levelled d c (events (mark s ∷ l))
    ≡ raised (level_of d (events (mark s ∷ l)) - c) (1 ∷ levelled (depth d (mark s ∷ [])) (level_of d (events (mark s ∷ l))) (events l))
mark_levelled s d c l =
    mark_either s
    (λ x. levelled d c (events (x ∷ l)) ≡ raised (level_of d (events (x ∷ l)) - c)
    (1 ∷ levelled (depth d (x ∷ [])) (level_of d (events (x ∷ l))) (events l)))
    (λ p. refl) (λ p. refl)

-- the digit of a move before events
abbrev digits : Option ℕ → List Event → List Event
digits None l = l
digits (Some a) l = digit a ∷ l

label_events : (m : Move) (l : List Symbol) → events (label m ++ l) ≡ digits (picked m) (events l)
label_events (move None set unset to) l = quiet set unset
  where
    unset_only : (us : List ℕ) → events (map unsets us ++ l) ≡ events l
    unset_only [] = refl
    unset_only (x ∷ us) = unset_only us

    quiet : (ss us : List ℕ) → events ((map sets ss ++ map unsets us) ++ l) ≡ events l
    quiet [] us = unset_only us
    quiet (x ∷ ss) us = quiet ss us
label_events (move (Some a) set unset to) l = ap (λ k. digit a ∷ k) (quiet set unset)
  where
    unset_only : (us : List ℕ) → events (map unsets us ++ l) ≡ events l
    unset_only [] = refl
    unset_only (x ∷ us) = unset_only us

    quiet : (ss us : List ℕ) → events ((map sets ss ++ map unsets us) ++ l) ≡ events l
    quiet [] us = unset_only us
    quiet (x ∷ ss) us = quiet ss us

digits_level : (o : Option ℕ) (d : ℕ) (l : List Event) → level_of d (digits o l) ≡ level_of d l
digits_level None d l = refl
digits_level (Some a) d l = refl

no_differs : (k : ℕ) → DiffersBefore (raised k []) (raised k []) → ⊥
no_differs zero h = h
no_differs (suc k) h = ⊎_elim (λ lt. omega arith) (λ q. no_differs k q.1) h

raised_back : (k : ℕ) (r s : List ℕ) → DiffersBefore (raised k r) (raised k s) → DiffersBefore r s
raised_back zero r s h = h
raised_back (suc k) r s h = ⊎_elim (λ lt. absurd (omega arith)) (λ q. raised_back k r s q.1) h

digit_head : (D e l' a : ℕ) (o : Option ℕ) (l : List Event) → o ≡ Some a → level_of D l ≡ l'
    → levelled D e (digits o l) ≡ raised (l' - e) (suc a ∷ levelled D l' l)
digit_head D e l' a o l q r =
    ap (λ x. levelled D e (digits x l)) q ∙ ap (λ n. raised (n - e) (suc a ∷ levelled D n l)) r

two_digits : (D e m n a b : ℕ) (o o' : Option ℕ) (l l' : List Event) → o ≡ Some a → o' ≡ Some b → level_of D l ≡ m → level_of D l' ≡ n
    → e ≤ m → e ≤ n → n ≤ m → (m ≡ n → DiffersBefore (suc a ∷ levelled D m l) (suc b ∷ levelled D n l'))
    → DiffersBefore (levelled D e (digits o l)) (levelled D e (digits o' l'))
two_digits D e m n a b o o' l l' q q' r r' le le' ge f =
    subst (λ x. DiffersBefore x (levelled D e (digits o' l'))) (sym (digit_head D e m a o l q r))
    (subst (λ x. DiffersBefore (raised (m - e) (suc a ∷ levelled D m l)) x) (sym (digit_head D e n b o' l' q' r'))
    (raised_on e m n m n a b (levelled D m l) (levelled D n l') m (omega arith) (omega arith) le le' ge f))

same_move : (D e m n : ℕ) (o : Option ℕ) (l l' : List Event) (B B' : List ℕ) → level_of D l ≡ m → level_of D l' ≡ n
    → levelled D e l ≡ raised (m - e) (1 ∷ B) → levelled D e l' ≡ raised (n - e) (1 ∷ B') → e ≤ m → e ≤ n → n ≤ m
    → (m ≡ n → (k : ℕ) → k ≤ m → DiffersBefore (levelled D k l) (levelled D k l'))
    → DiffersBefore (levelled D e (digits o l)) (levelled D e (digits o l'))
same_move D e m n None l l' B B' r r' b b' le le' ge f =
    ⊎_elim
    (λ lt.
    subst (λ x. DiffersBefore x (levelled D e l')) (sym b)
    (subst (λ x. DiffersBefore (raised (m - e) (1 ∷ B)) x) (sym b') (raised_more (m - e) (n - e) 0 (1 ∷ B) B' (omega arith))))
    (λ le'. f (omega arith) e le)
    (cases_lt n m)
same_move D e m n (Some a) l l' B B' r r' b b' le le' ge f =
    two_digits D e m n a a (Some a) (Some a) l l' refl refl r r' le le' ge
    (λ q. inr (refl, subst (λ k. DiffersBefore (levelled D m l) (levelled D k l')) q (f q m (omega arith))))

abbrev HasHead : (D : ℕ) → List Event → Type 0
HasHead D l = (k : ℕ) → (B : List ℕ) × (levelled D k l ≡ raised (level_of D l - k) (1 ∷ B))

-- one move on
link_step : (d c D m n i j : ℕ) (o o' : Option ℕ) (l l' : List Event) (X X' : List ℕ) → level_of D l ≡ m → level_of D l' ≡ n
    → HasHead D l → HasHead D l' → c ≤ d → c ≤ m → c ≤ n
    → (i < j → (a : ℕ) × (b : ℕ) × (o ≡ Some a) × (o' ≡ Some b) × (a < b))
    → (j < i → (b : ℕ) × (a : ℕ) × (o' ≡ Some b) × (o ≡ Some a) × (b < a))
    → (i ≡ j → o ≡ o')
    → (i ≡ j → m ≡ n → DiffersBefore X X' → (k : ℕ) → k ≤ m → DiffersBefore (levelled D k l) (levelled D k l'))
    → DiffersBefore (raised (m - c) (suc i ∷ X)) (raised (n - c) (suc j ∷ X'))
    → DiffersBefore (raised (min d m - c) (1 ∷ levelled D (min d m) (digits o l)))
    (raised (min d n - c) (1 ∷ levelled D (min d n) (digits o' l')))
link_step d c D m n i j o o' l l' X X' r r' head head' cd cm cn less more same rec h =
    ⊎_elim
    (λ lt. absurd
    (before_asym _ _ (differs_is_before _ _ h) (differs_is_before _ _ (raised_more (n - c) (m - c) i (suc j ∷ X') X (omega arith)))))
    (λ ge.
    raised_on c (min d m) (min d n) m n 0 0 (levelled D (min d m) (digits o l)) (levelled D (min d n) (digits o' l')) d refl refl
    (omega arith) (omega arith) ge
    (λ q. inr (
      refl,
      subst (λ e. DiffersBefore (levelled D (min d m) (digits o l)) (levelled D e (digits o' l'))) q
          (inner (min d m) (omega arith) (omega arith) ge),
    )))
    (cases_lt m n)
  where
    heads : m ≡ n → DiffersBefore (suc i ∷ X) (suc j ∷ X')
    heads e =
        raised_back (m - c) (suc i ∷ X) (suc j ∷ X')
        (subst (λ k. DiffersBefore (raised (m - c) (suc i ∷ X)) (raised (k - c) (suc j ∷ X'))) (sym e) h)

    inner : (e : ℕ) → e ≤ m → e ≤ n → n ≤ m → DiffersBefore (levelled D e (digits o l)) (levelled D e (digits o' l'))
    inner e le le' ge =
        ⊎_elim
        (λ ij.
        let b = head e in
        let b' = head' e in
        subst (λ x. DiffersBefore (levelled D e (digits o l)) (levelled D e (digits x l'))) (same ij)
        (same_move D e m n o l l' b.0 b'.0 r r' (b.1 ∙ ap (λ k. raised (k - e) (1 ∷ b.0)) r)
        (b'.1 ∙ ap (λ k. raised (k - e) (1 ∷ b'.0)) r') le le' ge
        (λ q k le. ⊎_elim (λ lt. absurd (omega arith)) (λ x. rec ij q x.1 k le) (heads q))))
        (λ d. ⊎_elim
        (λ lt.
        let q = less lt in
        two_digits D e m n q.0 q.1 o o' l l' q.2 q.3 r r' le le' ge (λ z. let lt' = q.4 in inl (omega arith)))
        (λ gt.
        let q = more gt in
        two_digits D e m n q.1 q.0 o o' l l' q.3 q.2 r r' le le' ge
        (λ z. absurd (⊎_elim (λ lt. omega arith) (λ x. let y = x.0 in omega arith) (heads z)))) d)
        (cases_order i j)

module _ (states : List State) (rows : MovesInOrder states) (deep : ℕ → ℕ) (are : AreDepths states deep) where
  abbrev low : ℕ → List ℕ → ℕ
  low s ws = lowest_on (graph_of states) deep s ws

  target_is : (s i y : ℕ) → IsNth (successors (graph_of states) s) i y → target (move_at states s i) ≡ y
  target_is s i y h = (at_move states s i y (nth_at_zero (successors (graph_of states) s) i y h)).2

  -- nothing is closed in the leaf
  abbrev pub IsFlat : List Symbol → Type 0
  IsFlat Z = (d : ℕ) → level_of d (events Z) ≡ d

  abbrev pub IsBlind : ℕ → Type 0
  IsBlind t = (i y : ℕ) → IsNth (successors (graph_of states) t) i y → ⊥

  -- the level behind the symbol of a state is the lowest depth on the path
  pub path_level : (ws : List ℕ) (avoided : List ℕ) (s t d : ℕ) (Z : List Symbol) → IsFlat Z → PlainPath (graph_of states) deep avoided s ws t
      → deep s ≡ depth d (mark s ∷ []) → level_of d (events (path_symbols states s ws (mark t ∷ Z)))
      ≡ min d (lowest_on (graph_of states) deep s ws)
  path_level [] avoided s t d Z flat p e =
      let f : level_of (depth d (mark t ∷ [])) (events Z) ≡ deep s = flat (depth d (mark t ∷ []))
      ∙ ap (λ x. depth d (mark x ∷ [])) (sym p.1) ∙ sym e in
      mark_level t d Z ∙ ap (λ n. min d n) f
  path_level (i ∷ ws) avoided s t d Z flat p e =
      let y : ℕ = p.1.0 in
      let rest : List Symbol = label (move_at states s i) ++ path_symbols states (target (move_at states s i)) ws (mark t ∷ Z) in
      let k = path_level ws (s ∷ avoided) p.1.0 t (deep s) Z flat p.1.2 (are s i p.1.0 p.1.1) in
      mark_level s d (label (move_at states s i) ++ path_symbols states (target (move_at states s i)) ws (mark t ∷ Z))
      ∙ ap (λ n. min d (level_of n (events
      (label (move_at states s i) ++ path_symbols states (target (move_at states s i)) ws (mark t ∷ Z))))) (sym e)
      ∙ ap (λ n. min d n)
      (ap (λ l. level_of (deep s) l) (label_events (move_at states s i) (path_symbols states (target (move_at states s i)) ws (mark t ∷ Z)))
      ∙ digits_level (picked (move_at states s i)) (deep s) _
      ∙ ap (λ x. level_of (deep s) (events (path_symbols states x ws (mark t ∷ Z)))) (target_is s i p.1.0 p.1.1)
      ∙ k ∙ ap (λ x. min (deep s) (lowest_on (graph_of states) deep x ws)) (sym (next_is (graph_of states) deep s i p.1.0 p.1.1)))

  -- the choices at another level
  choices_cons : (s c i y : ℕ) (ws : List ℕ) → IsNth (successors (graph_of states) s) i y
      → level_choices (graph_of states) deep s c (i ∷ ws)
      ≡ raised (min (deep s) (lowest_on (graph_of states) deep y ws) - c)
      (suc i ∷ level_choices (graph_of states) deep y (min (deep s) (lowest_on (graph_of states) deep y ws)) ws)
  choices_cons s c i y ws h =
      ap
      (λ x. raised (min (deep s) (lowest_on (graph_of states) deep x ws) - c)
      (suc i ∷ level_choices (graph_of states) deep x (min (deep s) (lowest_on (graph_of states) deep x ws)) ws))
      (next_is (graph_of states) deep s i y h)

  raised_add : (k m n : ℕ) (r : List ℕ) → (n - k ≡ m) → k ≤ n → raised n r ≡ raised k (raised m r)
  raised_add zero m n r e le = let z : n ≡ m = omega arith in ap (λ x. raised x r) z
  raised_add (suc k) m zero r e le = absurd (omega arith)
  raised_add (suc k) m (suc n) r e le = ap (λ l. 0 ∷ l) (raised_add k m n r (omega arith) (omega arith))

  -- a lower level raises both choices as much
  pub choices_lower : (y e l : ℕ) (ws : List ℕ) → e ≤ l → l ≤ lowest_on (graph_of states) deep y ws
      → level_choices (graph_of states) deep y e ws ≡ raised (l - e) (level_choices (graph_of states) deep y l ws)
  choices_lower y e l [] le ge = raised_add (l - e) (deep y - l) (deep y - e) [] (omega arith) (omega arith)
  choices_lower y e l (i ∷ ws) le ge =
      raised_add (l - e) (min (deep y) (lowest_on (graph_of states) deep (next_state (graph_of states) deep y i) ws) - l)
      (min (deep y) (lowest_on (graph_of states) deep (next_state (graph_of states) deep y i) ws) - e) _ (omega arith) (omega arith)

  walk_head : (ws : List ℕ) (y t D : ℕ) (Z : List Symbol) → HasHead D (events (path_symbols states y ws (mark t ∷ Z)))
  walk_head [] y t D Z k = (_, mark_levelled t D k Z)
  walk_head (i ∷ ws) y t D Z k = (_, mark_levelled y D k _)

  walk_cons : (s d c i y : ℕ) (ws avoided : List ℕ) (t : ℕ) (Z : List Symbol) → IsFlat Z → IsNth (successors (graph_of states) s) i y
      → PlainPath (graph_of states) deep avoided s (i ∷ ws) t → deep s ≡ depth d (mark s ∷ [])
      → levelled d c (events (path_symbols states s (i ∷ ws) (mark t ∷ Z)))
      ≡ raised (min d (min (deep s) (lowest_on (graph_of states) deep y ws)) - c)
      (1 ∷ levelled (deep s) (min d (min (deep s) (lowest_on (graph_of states) deep y ws)))
      (digits (picked (move_at states s i)) (events (path_symbols states y ws (mark t ∷ Z)))))
  walk_cons s d c i y ws avoided t Z flat h p e =
      let l : List Symbol = label (move_at states s i) ++ path_symbols states (target (move_at states s i)) ws (mark t ∷ Z) in
      mark_levelled s d c (label (move_at states s i) ++ path_symbols states (target (move_at states s i)) ws (mark t ∷ Z))
      ∙ ap (λ n. raised (n - c) (1 ∷ levelled (depth d (mark s ∷ [])) n
      (events (label (move_at states s i) ++ path_symbols states (target (move_at states s i)) ws (mark t ∷ Z)))))
      (path_level (i ∷ ws) avoided s t d Z flat p e
      ∙ ap (λ x. min d (min (deep s) (lowest_on (graph_of states) deep x ws))) (next_is (graph_of states) deep s i y h))
      ∙ ap₂ (λ D l. raised (min d (min (deep s) (lowest_on (graph_of states) deep y ws)) - c)
      (1 ∷ levelled D (min d (min (deep s) (lowest_on (graph_of states) deep y ws))) l)) (sym e)
      (label_events (move_at states s i) (path_symbols states (target (move_at states s i)) ws (mark t ∷ Z))
      ∙ ap (λ x. digits (picked (move_at states s i)) (events (path_symbols states x ws (mark t ∷ Z)))) (target_is s i y h))

  pub link : (ws vs : List ℕ) (avoided others : List ℕ) (s t t' d c : ℕ) (Z Z' : List Symbol) → IsFlat Z → IsFlat Z' → IsBlind t
      → IsBlind t'
      → PlainPath (graph_of states) deep avoided s ws t → PlainPath (graph_of states) deep others s vs t'
      → deep s ≡ depth d (mark s ∷ []) → c ≤ d → c ≤ lowest_on (graph_of states) deep s ws → c ≤ lowest_on (graph_of states) deep s vs
      → DiffersBefore (level_choices (graph_of states) deep s c ws) (level_choices (graph_of states) deep s c vs)
      → DiffersBefore (levelled d c (events (path_symbols states s ws (mark t ∷ Z))))
      (levelled d c (events (path_symbols states s vs (mark t' ∷ Z'))))
  link [] [] avoided others s t t' d c Z Z' flat flat' blind blind' p p' e cd cw cv h = absurd (no_differs (deep s - c) h)
  link [] (j ∷ vs) avoided others s t t' d c Z Z' flat flat' blind blind' p p' e cd cw cv h =
      absurd (blind j p'.1.0 (subst (λ x. IsNth (successors (graph_of states) x) j p'.1.0) p.1 p'.1.1))
  link (i ∷ ws) [] avoided others s t t' d c Z Z' flat flat' blind blind' p p' e cd cw cv h =
      absurd (blind' i p.1.0 (subst (λ x. IsNth (successors (graph_of states) x) i p.1.0) p'.1 p.1.1))
  link (i ∷ ws) (j ∷ vs) avoided others s t t' d c Z Z' flat flat' blind blind' p p' e cd cw cv h =
      let y : ℕ = p.1.0 in
      let x : ℕ = p'.1.0 in
      let m : ℕ = min (deep s) (lowest_on (graph_of states) deep p.1.0 ws) in
      let n : ℕ = min (deep s) (lowest_on (graph_of states) deep p'.1.0 vs) in
      let ny = next_is (graph_of states) deep s i p.1.0 p.1.1 in
      let nx = next_is (graph_of states) deep s j p'.1.0 p'.1.1 in
      let at = nth_at_zero (successors (graph_of states) s) i p.1.0 p.1.1 in
      let at' = nth_at_zero (successors (graph_of states) s) j p'.1.0 p'.1.1 in
      let cm : c ≤ min (deep s) (lowest_on (graph_of states) deep p.1.0 ws) =
      subst (λ q. c ≤ min (deep s) (lowest_on (graph_of states) deep q ws)) ny cw in
      let cn : c ≤ min (deep s) (lowest_on (graph_of states) deep p'.1.0 vs) =
      subst (λ q. c ≤ min (deep s) (lowest_on (graph_of states) deep q vs)) nx cv in
      let one : i ≡ j → p.1.0 ≡ p'.1.0 = λ ij.
      nth_same (successors (graph_of states) s) i p.1.0 p'.1.0 p.1.1
      (subst (λ k. IsNth (successors (graph_of states) s) k p'.1.0) (sym ij) p'.1.1) in
      subst (λ q. DiffersBefore q (levelled d c (events (path_symbols states s (j ∷ vs) (mark t' ∷ Z')))))
      (sym (walk_cons s d c i p.1.0 ws avoided t Z flat p.1.1 p e))
      (subst (λ q. DiffersBefore (raised (min d m - c)
      (1 ∷ levelled (deep s) (min d m) (digits (picked (move_at states s i)) (events (path_symbols states p.1.0 ws (mark t ∷ Z)))))) q)
      (sym (walk_cons s d c j p'.1.0 vs others t' Z' flat' p'.1.1 p' e))
      (link_step d c (deep s) m n i j (picked (move_at states s i)) (picked (move_at states s j))
      (events (path_symbols states p.1.0 ws (mark t ∷ Z))) (events (path_symbols states p'.1.0 vs (mark t' ∷ Z')))
      (level_choices (graph_of states) deep p.1.0 m ws) (level_choices (graph_of states) deep p'.1.0 n vs)
      (path_level ws (s ∷ avoided) p.1.0 t (deep s) Z flat p.1.2 (are s i p.1.0 p.1.1))
      (path_level vs (s ∷ others) p'.1.0 t' (deep s) Z' flat' p'.1.2 (are s j p'.1.0 p'.1.1))
      (walk_head ws p.1.0 t (deep s) Z) (walk_head vs p'.1.0 t' (deep s) Z') cd cm cn
      (λ lt. rows s i j p.1.0 p'.1.0 at at' lt) (λ gt. rows s j i p'.1.0 p.1.0 at' at gt)
      (λ ij. ap (λ k. picked (move_at states s k)) ij)
      (λ ij q less k le.
      let lower = choices_lower p.1.0 k m ws le (omega arith) in
      let lower' = choices_lower p'.1.0 k n vs (subst (λ z. k ≤ z) q le) (omega arith) in
      let both : DiffersBefore (level_choices (graph_of states) deep p.1.0 k ws) (level_choices (graph_of states) deep p'.1.0 k vs) =
      subst (λ r. DiffersBefore r (level_choices (graph_of states) deep p'.1.0 k vs)) (sym lower)
      (subst (λ r. DiffersBefore (raised (m - k) (level_choices (graph_of states) deep p.1.0 m ws)) r) (sym lower')
      (subst (λ z. DiffersBefore (raised (m - k) (level_choices (graph_of states) deep p.1.0 m ws))
      (raised (z - k) (level_choices (graph_of states) deep p'.1.0 n vs))) q
      (raised_same (m - k) (level_choices (graph_of states) deep p.1.0 m ws) (level_choices (graph_of states) deep p'.1.0 n vs) less))) in
      subst (λ z. DiffersBefore (levelled (deep s) k (events (path_symbols states p.1.0 ws (mark t ∷ Z))))
      (levelled (deep s) k (events (path_symbols states z vs (mark t' ∷ Z'))))) (one ij)
      (link ws vs (s ∷ avoided) (s ∷ others) p.1.0 t t' (deep s) k Z Z' flat flat' blind blind' p.1.2
      (subst (λ z. PlainPath (graph_of states) deep (s ∷ others) z vs t') (sym (one ij)) p'.1.2) (are s i p.1.0 p.1.1) (omega arith)
      (omega arith)
      (subst (λ z. k ≤ lowest_on (graph_of states) deep z vs) (sym (one ij)) (omega (arith, q, le)))
      (subst (λ z. DiffersBefore (level_choices (graph_of states) deep p.1.0 k ws) (level_choices (graph_of states) deep z k vs))
      (sym (one ij)) both)))
      (subst (λ r. DiffersBefore r (raised (n - c) (suc j ∷ level_choices (graph_of states) deep p'.1.0 n vs)))
      (choices_cons s c i p.1.0 ws p.1.1)
      (subst (λ r. DiffersBefore (level_choices (graph_of states) deep s c (i ∷ ws)) r) (choices_cons s c j p'.1.0 vs p'.1.1) h))))

  raised_before : (k : ℕ) (r s : List ℕ) → IsBefore (raised k r) (raised k s) → IsBefore r s
  raised_before zero r s h = h
  raised_before (suc k) r s h = ⊎_elim (λ lt. absurd (omega arith)) (λ q. raised_before k r s q.1) h

  -- choices of which one comes first differ before either's end
  pub before_differs : (ws vs : List ℕ) (avoided others : List ℕ) (s t t' c : ℕ) → IsBlind t → IsBlind t'
      → PlainPath (graph_of states) deep avoided s ws t → PlainPath (graph_of states) deep others s vs t'
      → c ≤ lowest_on (graph_of states) deep s ws → c ≤ lowest_on (graph_of states) deep s vs
      → IsBefore (level_choices (graph_of states) deep s c ws) (level_choices (graph_of states) deep s c vs)
      → DiffersBefore (level_choices (graph_of states) deep s c ws) (level_choices (graph_of states) deep s c vs)
  before_differs [] [] avoided others s t t' c blind blind' p p' cw cv h = absurd (before_self _ h)
  before_differs [] (j ∷ vs) avoided others s t t' c blind blind' p p' cw cv h =
      absurd (blind j p'.1.0 (subst (λ x. IsNth (successors (graph_of states) x) j p'.1.0) p.1 p'.1.1))
  before_differs (i ∷ ws) [] avoided others s t t' c blind blind' p p' cw cv h =
      absurd (blind' i p.1.0 (subst (λ x. IsNth (successors (graph_of states) x) i p.1.0) p'.1 p.1.1))
  before_differs (i ∷ ws) (j ∷ vs) avoided others s t t' c blind blind' p p' cw cv h =
      let m : ℕ = min (deep s) (lowest_on (graph_of states) deep p.1.0 ws) in
      let n : ℕ = min (deep s) (lowest_on (graph_of states) deep p'.1.0 vs) in
      let X : List ℕ = level_choices (graph_of states) deep p.1.0 m ws in
      let Y : List ℕ = level_choices (graph_of states) deep p'.1.0 n vs in
      let a = choices_cons s c i p.1.0 ws p.1.1 in
      let b = choices_cons s c j p'.1.0 vs p'.1.1 in
      let k : IsBefore (raised (m - c) (suc i ∷ X)) (raised (n - c) (suc j ∷ Y)) =
      subst (λ r. IsBefore r (raised (n - c) (suc j ∷ Y))) a
      (subst (λ r. IsBefore (level_choices (graph_of states) deep s c (i ∷ ws)) r) b h) in
      subst (λ r. DiffersBefore r (level_choices (graph_of states) deep s c (j ∷ vs))) (sym a)
      (subst (λ r. DiffersBefore (raised (m - c) (suc i ∷ X)) r) (sym b)
      (⊎_elim
      (λ lt. raised_more (m - c) (n - c) j (suc i ∷ X) Y lt)
      (λ le. ⊎_elim
      (λ lt. absurd (before_asym _ _ k (differs_is_before _ _ (raised_more (n - c) (m - c) i (suc j ∷ Y) X lt))))
      (λ ge.
      let q : n - c ≡ m - c = omega arith in
      subst (λ z. DiffersBefore (raised (m - c) (suc i ∷ X)) (raised z (suc j ∷ Y))) (sym q)
      (raised_same (m - c) (suc i ∷ X) (suc j ∷ Y)
      (tails m n X Y q
      (raised_before (m - c) (suc i ∷ X) (suc j ∷ Y) (subst (λ z. IsBefore (raised (m - c) (suc i ∷ X)) (raised z (suc j ∷ Y))) q k))
      (λ ij less.
      let one : p.1.0 ≡ p'.1.0 =
      nth_same (successors (graph_of states) s) i p.1.0 p'.1.0 p.1.1
      (subst (λ k. IsNth (successors (graph_of states) s) k p'.1.0) (sym ij) p'.1.1) in
      let cm : c ≤ m = subst (λ q. c ≤ min (deep s) (lowest_on (graph_of states) deep q ws))
      (next_is (graph_of states) deep s i p.1.0 p.1.1) cw in
      let cn : c ≤ n = subst (λ q. c ≤ min (deep s) (lowest_on (graph_of states) deep q vs))
      (next_is (graph_of states) deep s j p'.1.0 p'.1.1) cv in
      let mn : n ≡ m = omega arith in
      let less' : IsBefore X (level_choices (graph_of states) deep p.1.0 m vs) =
      subst (λ z. IsBefore X (level_choices (graph_of states) deep z m vs)) (sym one)
      (subst (λ z. IsBefore X (level_choices (graph_of states) deep p'.1.0 z vs)) mn less) in
      let r =
      before_differs ws vs (s ∷ avoided) (s ∷ others) p.1.0 t t' m blind blind' p.1.2
      (subst (λ z. PlainPath (graph_of states) deep (s ∷ others) z vs t') (sym one) p'.1.2) (omega arith)
      (subst (λ z. m ≤ lowest_on (graph_of states) deep z vs) (sym one) (omega (arith, mn))) less' in
      subst (λ z. DiffersBefore X (level_choices (graph_of states) deep p'.1.0 z vs)) (sym mn)
      (subst (λ z. DiffersBefore X (level_choices (graph_of states) deep z m vs)) one r)))))
      (cases_lt (m - c) (n - c)))
      (cases_lt (n - c) (m - c))))
    where
      tails : (m n : ℕ) (X Y : List ℕ) → n - c ≡ m - c → IsBefore (suc i ∷ X) (suc j ∷ Y) → (i ≡ j → IsBefore X Y → DiffersBefore X Y)
          → DiffersBefore (suc i ∷ X) (suc j ∷ Y)
      tails m n X Y q (inl lt) f = inl lt
      tails m n X Y q (inr r) f = inr (r.0, f (let z = r.0 in omega arith) r.1)

  raised_one : (k m x y : ℕ) (r s : List ℕ) → raised k (suc x ∷ r) ≡ raised m (suc y ∷ s) → (k ≡ m) × (x ≡ y) × (r ≡ s)
  raised_one zero zero x y r s e = let z : suc x ≡ suc y = cc in (refl, omega arith, cc)
  raised_one zero (suc m) x y r s e = let z : suc x ≡ 0 = cc in absurd (omega arith)
  raised_one (suc k) zero x y r s e = let z : 0 ≡ suc y = cc in absurd (omega arith)
  raised_one (suc k) (suc m) x y r s e = let q = raised_one k m x y r s (cc) in (ap suc q.0, q.1, q.2)

  -- the choices tell the path
  pub one_way : (ws vs : List ℕ) (avoided others : List ℕ) (s t c : ℕ) → IsBlind t
      → PlainPath (graph_of states) deep avoided s ws t → PlainPath (graph_of states) deep others s vs t
      → c ≤ lowest_on (graph_of states) deep s ws → c ≤ lowest_on (graph_of states) deep s vs
      → level_choices (graph_of states) deep s c ws ≡ level_choices (graph_of states) deep s c vs → ws ≡ vs
  one_way [] [] avoided others s t c blind p p' cw cv h = refl
  one_way [] (j ∷ vs) avoided others s t c blind p p' cw cv h =
      absurd (blind j p'.1.0 (subst (λ x. IsNth (successors (graph_of states) x) j p'.1.0) p.1 p'.1.1))
  one_way (i ∷ ws) [] avoided others s t c blind p p' cw cv h =
      absurd (blind i p.1.0 (subst (λ x. IsNth (successors (graph_of states) x) i p.1.0) p'.1 p.1.1))
  one_way (i ∷ ws) (j ∷ vs) avoided others s t c blind p p' cw cv h =
      let m : ℕ = min (deep s) (lowest_on (graph_of states) deep p.1.0 ws) in
      let n : ℕ = min (deep s) (lowest_on (graph_of states) deep p'.1.0 vs) in
      let q =
      raised_one (m - c) (n - c) i j (level_choices (graph_of states) deep p.1.0 m ws) (level_choices (graph_of states) deep p'.1.0 n vs)
      (sym (choices_cons s c i p.1.0 ws p.1.1) ∙ h ∙ choices_cons s c j p'.1.0 vs p'.1.1) in
      let d = q.0 in
      let one : p.1.0 ≡ p'.1.0 =
      nth_same (successors (graph_of states) s) i p.1.0 p'.1.0 p.1.1
      (subst (λ k. IsNth (successors (graph_of states) s) k p'.1.0) (sym q.1) p'.1.1) in
      let cm : c ≤ m = subst (λ q. c ≤ min (deep s) (lowest_on (graph_of states) deep q ws))
      (next_is (graph_of states) deep s i p.1.0 p.1.1) cw in
      let cn : c ≤ n = subst (λ q. c ≤ min (deep s) (lowest_on (graph_of states) deep q vs))
      (next_is (graph_of states) deep s j p'.1.0 p'.1.1) cv in
      let mn : n ≡ m = omega arith in
      ap₂ (λ a b. a ∷ b) q.1
      (one_way ws vs (s ∷ avoided) (s ∷ others) p.1.0 t m blind p.1.2
      (subst (λ z. PlainPath (graph_of states) deep (s ∷ others) z vs t) (sym one) p'.1.2) (omega arith)
      (subst (λ z. m ≤ lowest_on (graph_of states) deep z vs) (sym one) (omega (arith, mn)))
      (q.2 ∙ ap (λ z. level_choices (graph_of states) deep p'.1.0 z vs) mn
      ∙ ap (λ z. level_choices (graph_of states) deep z m vs) (sym one)))

-- nothing is closed where a leaf is read
pub flat_reading : (enc : Enc) (row : State) (choice : List Symbol) (us : List ℕ) (u : ℕ) → IsReading enc row choice us
    → (d : ℕ) → level_of d (events (choice ++ reads u ∷ [])) ≡ d
flat_reading enc row choice us u (of_point {ranges} c i) d = by enc
  where
    picked_or : (b : Bool) (n : ℕ) → level_of d (events ((if b then picks n ∷ [] else []) ++ reads u ∷ [])) ≡ d
    picked_or true n = refl
    picked_or false n = refl

    by : (enc : Enc) → level_of d (events (leaf_choice enc ranges c ++ reads u ∷ [])) ≡ d
    by Byte = refl
    by Ucs2 = refl
    by Utf8 = refl
    by Utf16 = picked_or (has_short ranges && has_long ranges) _
    by Utf32 = refl
flat_reading enc row choice us u (of_unit x) d = refl

module _ (enc : Enc) (rules : List Term) (deep : ℕ → ℕ) (are : AreDepths (automaton rules) deep) where
  -- the least path of a search over states and levels to a leaf is that of the first walk to it
  pub first_walk :
      (w : List ℕ) (u : ℕ) (j : Cut) (s t : ℕ) (cs : List ℕ) (row : State) (choice : List Symbol) (left : List ℕ)
      → deep s ≡ depth (depth 0 j.front) (mark s ∷ []) → slice_get (automaton rules) t ≡ Some row → IsReading enc row choice (u ∷ left)
      → LevelPath (graph_of (automaton rules)) deep [] s 0 cs t (deep t)
      → ((other : List ℕ) → LevelPath (graph_of (automaton rules)) deep [] s 0 other t (deep t) → IsBefore other cs → ⊥)
      → (way : List ℕ) × PlainPath (graph_of (automaton rules)) deep [] s way t
      × (level_choices (graph_of (automaton rules)) deep s 0 way ≡ cs)
      × ((other : List ℕ) → PlainPath (graph_of (automaton rules)) deep [] s other t
      → IsCut enc rules (w ++ u ∷ []) (after j (path_symbols (automaton rules) s way (mark t ∷ (choice ++ reads u ∷ []))))
      → IsCut enc rules (w ++ u ∷ []) (after j (path_symbols (automaton rules) s other (mark t ∷ (choice ++ reads u ∷ []))))
      → (way ≡ other) ⊎ ((n : ℕ) × IsFirstOf enc rules (after j (path_symbols (automaton rules) s way (mark t ∷ (choice ++ reads u ∷ []))))
      (after j (path_symbols (automaton rules) s other (mark t ∷ (choice ++ reads u ∷ [])))) n))
  first_walk w u j s t cs row choice left e at reading path least =
      let r = least_path (graph_of (automaton rules)) deep s 0 cs t (omega arith) path least in (
        r.0,
        r.1,
        r.3,
        λ other p iw io.
            ⊎_elim
            (λ b. absurd (r.4 other p (omega arith)
            (subst (λ l. IsBefore (level_choices (graph_of (automaton rules)) deep s 0 other) l) r.3 b)))
            (λ d. ⊎_elim
            (λ q. inl (one_way (automaton rules) (automaton_in_order rules) deep are r.0 other [] [] s t 0 blind r.1 p (omega arith)
            (omega arith) (sym q)))
            (λ b. inr (levels_order enc rules w u j _ _ (one r.0) (one other) iw io
            (differs_is_before _ _
            (link (automaton rules) (automaton_in_order rules) deep are r.0 other [] [] s t t (depth 0 j.front) 0 (choice ++ reads u ∷ [])
            (choice ++ reads u ∷ [])
            flat flat blind blind r.1 p e (omega arith) (omega arith) (omega arith)
            (before_differs (automaton rules) (automaton_in_order rules) deep are r.0 other [] [] s t t 0 blind blind r.1 p (omega arith)
            (omega arith) b))))) d)
            (IsBefore-cases (level_choices (graph_of (automaton rules)) deep s 0 other)
            (level_choices (graph_of (automaton rules)) deep s 0 r.0)),
      )
    where
      flat : (d : ℕ) → level_of d (events (choice ++ reads u ∷ [])) ≡ d
      flat d = flat_reading enc row choice (u ∷ left) u reading d

      blind : (i y : ℕ) → IsNth (successors (graph_of (automaton rules)) t) i y → ⊥
      blind i y h = leaf_edge enc (automaton rules) t row at reading i y (nth_at_zero (successors (graph_of (automaton rules)) t) i y h)

      one : (ws : List ℕ) → units (path_symbols (automaton rules) s ws (mark t ∷ (choice ++ reads u ∷ []))) ≡ u ∷ []
      one ws =
          path_symbols-units (automaton rules) s ws (mark t ∷ (choice ++ reads u ∷ [])) ∙ units_mark t (choice ++ reads u ∷ [])
          ∙ units_append choice (reads u ∷ []) ∙ ap (λ l. l ++ u ∷ []) (code_quiet enc reading)
