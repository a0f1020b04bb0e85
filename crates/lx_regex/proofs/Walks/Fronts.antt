-- Fronts of walks, each up to a unit: over the same units their choices tell them apart, and go on telling.
use Rattle.std.specs.Prelude.{◌≡◌, ℕ, ◌+◌, ◌/◌, ◌%◌, ◌<◌, ◌⊎◌, List, [], ◌∷◌, ◌++◌, map, Option, Some, None, Bool, true, false, nat_eq, if◌then◌else◌, slice_get, refl}
use Rattle.std.proofs.Common.{sym, ap, ap₂, ◌∙◌, subst, arith, append_assoc, append-nil, inl, inr, ⊎_elim}
use Rattle.std.proofs.lemmas.Bool.{cases_order}
use Rattle.lx_base.specs.declared.settings.Enc.{Enc}
use Rattle.lx_regex.specs.Automaton.{Move, State, label, move, moves, target}
use Rattle.lx_regex.specs.Dictionary.{IsBefore}
use Rattle.lx_regex.specs.Script.{Symbol, begins, choices, ends, picks, reads, sets, units, unsets}
use Rattle.lx_regex.specs.Walk.{IsAmong, mark}
use Rattle.lx_regex.proofs.Walks.Clear.{AllAreClear, AreClear, clear_at, picked}
use Rattle.lx_regex.proofs.Walks.PlainWalk.{units_append, units_label, units_mark}
use Rattle.lx_regex.proofs.Walks.Readings.{code_choice, code_free, code_quiet, code_row, code_some}
use Rattle.lx_regex.specs.Reading.{IsReading}

-- The symbols of a walk from a state up to a unit, after which it stands in the leaf at f; the units v may finish it there.
pub data Front (enc : Enc) (states : List State) (f : ℕ) (v : List ℕ) : ℕ → List Symbol → Type 0 where
  by_move : {s : ℕ} {l : List Symbol} → (ms : List Move) (m : Move) → slice_get states s ≡ Some (moves ms) → IsAmong m ms
      → Front enc states f v (target m) l → Front enc states f v s (mark s ∷ (label m ++ l))
  by_code :
      {s : ℕ} {l : List Symbol} →
      (r : State) (d : List Symbol) (us : List ℕ) → slice_get states s ≡ Some r → IsReading enc r d us
      → Front enc states f v (s + 1) l → Front enc states f v s (mark s ∷ (d ++ (map reads us ++ l)))
  within : {s : ℕ} → s ≡ f → (r : State) (d : List Symbol) (u : ℕ) (us : List ℕ) → slice_get states s ≡ Some r
      → IsReading enc r d (u ∷ (us ++ v)) → Front enc states f v s (mark s ∷ (d ++ map reads (u ∷ us)))

pub units_reads : (us : List ℕ) (l : List Symbol) → units (map reads us ++ l) ≡ us ++ units l
units_reads [] l = refl
units_reads (u ∷ us) l = ap (λ k. u ∷ k) (units_reads us l)

units_reads_all : (us : List ℕ) → units (map reads us) ≡ us
units_reads_all [] = refl
units_reads_all (u ∷ us) = ap (λ k. u ∷ k) (units_reads_all us)

pub choices_append : (a b : List Symbol) → choices (a ++ b) ≡ choices a ++ choices b
choices_append [] b = refl
choices_append (begins p ∷ a) b = choices_append a b
choices_append (ends p ∷ a) b = choices_append a b
choices_append (reads u ∷ a) b = choices_append a b
choices_append (sets t ∷ a) b = choices_append a b
choices_append (unsets t ∷ a) b = choices_append a b
choices_append (picks d ∷ a) b = ap (λ k. d ∷ k) (choices_append a b)

choices_reads : (us : List ℕ) (l : List Symbol) → choices (map reads us ++ l) ≡ choices l
choices_reads [] l = refl
choices_reads (u ∷ us) l = choices_reads us l

choices_reads_all : (us : List ℕ) → choices (map reads us) ≡ []
choices_reads_all [] = refl
choices_reads_all (u ∷ us) = choices_reads_all us

choices_if : (b : Bool) (p q : ℕ) (l : List Symbol) → choices ((if b then begins p else ends q) ∷ l) ≡ choices l
choices_if true p q l = refl
choices_if false p q l = refl

pub choices_mark : (s : ℕ) (l : List Symbol) → choices (mark s ∷ l) ≡ choices l
choices_mark s l = choices_if (nat_eq (s % 2) 0) (s / 2) (s / 2) l

choices_sets : (ts : List ℕ) (l : List Symbol) → choices (map sets ts ++ l) ≡ choices l
choices_sets [] l = refl
choices_sets (t ∷ ts) l = choices_sets ts l

choices_unsets : (ts : List ℕ) (l : List Symbol) → choices (map unsets ts ++ l) ≡ choices l
choices_unsets [] l = refl
choices_unsets (t ∷ ts) l = choices_unsets ts l

abbrev pub pick_list : Option ℕ → List ℕ
pick_list None = []
pick_list (Some d) = d ∷ []

pub choices_label : (m : Move) (l : List Symbol) → choices (label m ++ l) ≡ pick_list (picked m) ++ choices l
choices_label (move None set unset to) l =
    ap choices (append_assoc (map sets set) (map unsets unset) l) ∙ choices_sets set (map unsets unset ++ l)
    ∙ choices_unsets unset l
choices_label (move (Some d) set unset to) l =
    ap
    (λ k. d ∷ k)
    (ap choices (append_assoc (map sets set) (map unsets unset) l) ∙ choices_sets set (map unsets unset ++ l)
    ∙ choices_unsets unset l)

-- which of two moves is taken, by lists of choices of which one begins the other
pub same_pick : (ms : List Move) (a b : Move) → AreClear ms → IsAmong a ms → IsAmong b ms → (x w : List ℕ)
    → pick_list (picked b) ++ x ≡ pick_list (picked a) ++ w → a ≡ b
same_pick ms (move None s t p) b c i j x w e = c _ _ i j (inl refl)
same_pick ms (move (Some d) s t p) (move None s' t' q) c i j x w e = sym (c _ _ j i (inl refl))
same_pick ms (move (Some d) s t p) (move (Some d') s' t' q) c i j x w e = let k : d ≡ d' = cc in c _ _ i j (inr (ap Some k))

pub drop_picks : (d : Option ℕ) (x w : List ℕ) → pick_list d ++ x ≡ pick_list d ++ w → x ≡ w
drop_picks None x w e = e
drop_picks (Some d) x w e = cc

module _ (enc : Enc) (states : List State) where
  -- a front has a unit
  front_some :
      (f : ℕ) (v : List ℕ) {s : ℕ} {l : List Symbol} → Front enc states f v s l → (u : ℕ) × (us : List ℕ)
      × (units l ≡ u ∷ us)
  front_some f v (by_move {s} {l} ms m h i a) =
      let r = front_some f v a in (r.0, r.1, units_mark s (label m ++ l) ∙ units_label m l ∙ r.2)
  front_some f v (by_code {s} {l} r d us h c a) =
      let k = code_some enc c in (
        k.0,
        k.1 ++ units l,
        units_mark s _ ∙ units_append d _ ∙ ap₂ (λ p q. p ++ q) (code_quiet enc c) (units_reads us l)
            ∙ ap (λ p. p ++ units l) k.2,
      )
  front_some f v (within {s} at r d u us h c) =
      (u, us, units_mark s _ ∙ units_append d _ ∙ ap₂ (λ p q. p ++ q) (code_quiet enc c) (units_reads_all (u ∷ us)))

  pub units_code : (s : ℕ) (r : State) (d : List Symbol) (us : List ℕ) (l : List Symbol) → IsReading enc r d us
      → units (mark s ∷ (d ++ (map reads us ++ l))) ≡ us ++ units l
  units_code s r d us l c = units_mark s _ ∙ units_append d _ ∙ ap₂ (λ p q. p ++ q) (code_quiet enc c) (units_reads us l)

  units_within : (s : ℕ) (r : State) (d : List Symbol) (us v : List ℕ) → IsReading enc r d (us ++ v)
      → units (mark s ∷ (d ++ map reads us)) ≡ us
  units_within s r d us v c =
      units_mark s _ ∙ units_append d _ ∙ ap₂ (λ p q. p ++ q) (code_quiet enc c) (units_reads_all us)

  pub choices_code : (s : ℕ) (d : List Symbol) (us : List ℕ) (l : List Symbol)
      → choices (mark s ∷ (d ++ (map reads us ++ l))) ≡ choices d ++ choices l
  choices_code s d us l = choices_mark s _ ∙ choices_append d _ ∙ ap (λ k. choices d ++ k) (choices_reads us l)

  choices_within : (s : ℕ) (d : List Symbol) (us : List ℕ) → choices (mark s ∷ (d ++ map reads us)) ≡ choices d ++ []
  choices_within s d us = choices_mark s _ ∙ choices_append d _ ∙ ap (λ k. choices d ++ k) (choices_reads_all us)

  pub no_rows : (s : ℕ) (ms : List Move) (r : State) {d : List Symbol} {us : List ℕ} → slice_get states s ≡ Some (moves ms)
      → slice_get states s ≡ Some r → IsReading enc r d us → ⊥
  no_rows s ms r h h' c = code_row enc c ms (cc)

  -- fronts over the same units, of which the choices of one begin those of the other, are the same, and stand in one leaf
  pub front_same :
      AllAreClear states →
      (f f' : ℕ) (v v' : List ℕ) {s : ℕ} {l l' : List Symbol} → Front enc states f v s l → Front enc states f' v' s l'
      → units l ≡ units l' → (rest : List ℕ) → choices l' ≡ choices l ++ rest → (l ≡ l') × (f ≡ f')
  front_same clear f f' v v' (by_move {s} {l} ms m h i a) (by_move {l = l'} ms' m' h' i' b) u rest c =
      let k : ms' ≡ ms = cc in
      let j : IsAmong m' ms = subst (λ n. IsAmong m' n) k i' in
      let c0 : pick_list (picked m') ++ choices l' ≡ pick_list (picked m) ++ (choices l ++ rest) =
      sym (choices_mark s _ ∙ choices_label m' l') ∙ c ∙ ap (λ n. n ++ rest) (choices_mark s _ ∙ choices_label m l)
      ∙ append_assoc (pick_list (picked m)) (choices l) rest in
      let e : m ≡ m' = same_pick ms m m' (clear_at states s (moves ms) clear h) i j _ _ c0 in
      let c1 : choices l' ≡ choices l ++ rest =
      drop_picks (picked m) _ _ (ap (λ n. pick_list (picked n) ++ choices l') e ∙ c0) in
      let u1 : units l ≡ units l' = sym (units_mark s _ ∙ units_label m l) ∙ u ∙ (units_mark s _ ∙ units_label m' l') in
      let r = front_same clear f f' v v' a (subst (λ n. Front enc states f' v' (target n) l') (sym e) b) u1 rest c1 in
      (ap₂ (λ n k. mark s ∷ (label n ++ k)) e r.0, r.1)
  front_same clear f f' v v' (by_move {s} ms m h i a) (by_code r d us h' k b) u rest c = absurd (no_rows s ms r h h' k)
  front_same clear f f' v v' (by_move {s} ms m h i a) (within at r d x us h' k) u rest c = absurd (no_rows s ms r h h' k)
  front_same clear f f' v v' (by_code {s} r d us h' k a) (by_move ms m h i b) u rest c = absurd (no_rows s ms r h h' k)
  front_same clear f f' v v' (within {s} at r d x us h' k) (by_move ms m h i b) u rest c = absurd (no_rows s ms r h h' k)
  front_same clear f f' v v' (by_code {s} {l} r d us h k a) (by_code {l = l'} r' d' us' h' k' b) u rest c =
      let e : r' ≡ r = cc in
      let k'' : IsReading enc r d' us' = subst (λ n. IsReading enc n d' us') e k' in
      let c0 : choices d' ++ choices l' ≡ choices d ++ (choices l ++ rest) =
      sym (choices_code s d' us' l') ∙ c ∙ ap (λ n. n ++ rest) (choices_code s d us l)
      ∙ append_assoc (choices d) (choices l) rest in
      let q = code_choice enc k k'' _ _ c0 in
      let u0 : us ++ units l ≡ us' ++ units l' = sym (units_code s r d us l k) ∙ u ∙ units_code s r d' us' l' k'' in
      let p = code_free enc k k'' q.0 _ _ u0 in
      let z = front_same clear f f' v v' a b p.1 rest q.1 in
      (ap₂ (λ x y. mark s ∷ (x ++ y)) q.0 (ap₂ (λ x y. map reads x ++ y) p.0 z.0), z.1)
  front_same clear f f' v v' (by_code {s} {l} r d us h k a) (within at r' d' x us' h' k') u rest c =
      let e : r' ≡ r = cc in
      let k'' : IsReading enc r d' ((x ∷ us') ++ v') = subst (λ n. IsReading enc n d' (x ∷ (us' ++ v'))) e k' in
      let c0 : choices d' ++ [] ≡ choices d ++ (choices l ++ rest) =
      sym (choices_within s d' (x ∷ us')) ∙ c ∙ ap (λ n. n ++ rest) (choices_code s d us l)
      ∙ append_assoc (choices d) (choices l) rest in
      let q = code_choice enc k k'' _ _ c0 in
      let u0 : us ++ units l ≡ x ∷ us' = sym (units_code s r d us l k) ∙ u ∙ units_within s r d' (x ∷ us') v' k'' in
      let u1 : us ++ (units l ++ v') ≡ ((x ∷ us') ++ v') ++ [] =
      sym (append_assoc us (units l) v') ∙ ap (λ n. n ++ v') u0 ∙ sym (append-nil ((x ∷ us') ++ v')) in
      let p = code_free enc k k'' q.0 _ _ u1 in
      let y = front_some f v a in
      let bad : y.0 ∷ (y.1 ++ v') ≡ [] = ap (λ n. n ++ v') (sym y.2) ∙ p.1 in
      absurd (cc)
  front_same clear f f' v v' (within {s} at r' d' x us' h' k') (by_code {l} r d us h k a) u rest c =
      let e : r' ≡ r = cc in
      let k'' : IsReading enc r d' ((x ∷ us') ++ v) = subst (λ n. IsReading enc n d' (x ∷ (us' ++ v))) e k' in
      let c0 : choices d ++ choices l ≡ choices d' ++ rest =
      sym (choices_code s d us l) ∙ c ∙ ap (λ n. n ++ rest) (choices_within s d' (x ∷ us'))
      ∙ append_assoc (choices d') [] rest in
      let q = code_choice enc k'' k _ _ c0 in
      let u0 : us ++ units l ≡ x ∷ us' = sym (units_code s r d us l k) ∙ sym u ∙ units_within s r d' (x ∷ us') v k'' in
      let u1 : us ++ (units l ++ v) ≡ ((x ∷ us') ++ v) ++ [] =
      sym (append_assoc us (units l) v) ∙ ap (λ n. n ++ v) u0 ∙ sym (append-nil ((x ∷ us') ++ v)) in
      let p = code_free enc k k'' (sym q.0) _ _ u1 in
      let y = front_some f' v' a in
      let bad : y.0 ∷ (y.1 ++ v) ≡ [] = ap (λ n. n ++ v) (sym y.2) ∙ p.1 in
      absurd (cc)
  front_same clear f f' v v' (within {s} at r d x us h k) (within at' r' d' x' us' h' k') u rest c =
      let e : r' ≡ r = cc in
      let k'' : IsReading enc r d' ((x' ∷ us') ++ v') = subst (λ n. IsReading enc n d' (x' ∷ (us' ++ v'))) e k' in
      let c0 : choices d' ++ [] ≡ choices d ++ rest =
      sym (choices_within s d' (x' ∷ us')) ∙ c ∙ ap (λ n. n ++ rest) (choices_within s d (x ∷ us))
      ∙ append_assoc (choices d) [] rest in
      let q = code_choice enc k k'' _ _ c0 in
      let u0 : x ∷ us ≡ x' ∷ us' = sym (units_within s r d (x ∷ us) v k) ∙ u ∙ units_within s r d' (x' ∷ us') v' k'' in
      (ap₂ (λ p n. mark s ∷ (p ++ map reads n)) q.0 u0, sym at ∙ at')

-- an earlier place in the order at which neither list has ended
abbrev pub DiffersBefore : List ℕ → List ℕ → Type 0
DiffersBefore [] ys = ⊥
DiffersBefore (x ∷ xs) [] = ⊥
DiffersBefore (x ∷ xs) (y ∷ ys) = (x < y) ⊎ ((x ≡ y) × DiffersBefore xs ys)

pub differs-before : (xs ys p q : List ℕ) → DiffersBefore xs ys → IsBefore (xs ++ p) (ys ++ q)
differs-before [] ys p q h = absurd h
differs-before (x ∷ xs) [] p q h = absurd h
differs-before (x ∷ xs) (y ∷ ys) p q h = ⊎_elim (λ lt. inl lt) (λ k. inr (k.0, differs-before xs ys p q k.1)) h

before_not_later : (xs ys p q : List ℕ) → DiffersBefore xs ys → IsBefore (ys ++ q) (xs ++ p) → ⊥
before_not_later [] ys p q h b = h
before_not_later (x ∷ xs) [] p q h b = h
before_not_later (x ∷ xs) (y ∷ ys) p q h b =
    ⊎_elim
    (λ lt. ⊎_elim (λ gt. absurd (omega arith)) (λ k. let e = k.0 in absurd (omega arith)) b)
    (λ k. let e = k.0 in ⊎_elim (λ gt. absurd (omega arith)) (λ j. before_not_later xs ys p q k.1 j.1) b) h

pub before_self : (xs : List ℕ) → IsBefore xs xs → ⊥
before_self [] h = h
before_self (x ∷ xs) h = ⊎_elim (λ lt. absurd (omega arith)) (λ k. before_self xs k.1) h

-- one begins the other, or they differ
pub compare_lists : (xs ys : List ℕ)
    → ((rest : List ℕ) × (ys ≡ xs ++ rest))
    ⊎ (((rest : List ℕ) × (xs ≡ ys ++ rest)) ⊎ (DiffersBefore xs ys ⊎ DiffersBefore ys xs))
compare_lists [] ys = inl (ys, refl)
compare_lists (x ∷ xs) [] = inr (inl (x ∷ xs, refl))
compare_lists (x ∷ xs) (y ∷ ys) =
    ⊎_elim
    (λ e. ⊎_elim
    (λ a. inl (a.0, ap₂ (λ p q. p ∷ q) (sym e) a.1))
    (λ r.
    ⊎_elim
    (λ a. inr (inl (a.0, ap₂ (λ p q. p ∷ q) e a.1)))
    (λ s. inr (inr (⊎_elim (λ a. inl (inr (e, a))) (λ a. inr (inr (sym e, a))) s))) r)
    (compare_lists xs ys))
    (λ r. inr (inr (⊎_elim (λ lt. inl (inl lt)) (λ gt. inr (inl gt)) r)))
    (cases_order x y)

module _
    (enc : Enc) (states : List State) (clear : AllAreClear states) (f f' : ℕ) (v v' : List ℕ) (s : ℕ) (l l' : List Symbol)
    (a : Front enc states f v s l) (b : Front enc states f' v' s l') (same : units l ≡ units l') where
  -- two fronts over the same units are the same, or their choices differ before either's end
  pub fronts_differ :
      ((l ≡ l') × (f ≡ f')) ⊎ (DiffersBefore (choices l) (choices l') ⊎ DiffersBefore (choices l') (choices l))
  fronts_differ =
      ⊎_elim
      (λ p. inl (front_same enc states clear f f' v v' a b same p.0 p.1))
      (λ r.
      ⊎_elim
      (λ p. let q = front_same enc states clear f' f v' v b a (sym same) p.0 p.1 in inl (sym q.0, sym q.1)) (λ d. inr d) r)
      (compare_lists (choices l) (choices l'))

  -- so the order of two fronts is that of whatever goes on from them
  pub fronts_order :
      IsBefore (choices l) (choices l') → (p q : List Symbol) → IsBefore (choices (l ++ p)) (choices (l' ++ q))
  fronts_order h p q =
      ⊎_elim
      (λ e. absurd (before_self (choices l) (subst (λ k. IsBefore (choices l) (choices k)) (sym e.0) h)))
      (λ r. ⊎_elim
      (λ d.
      subst
      (λ k. IsBefore k (choices (l' ++ q))) (sym (choices_append l p))
      (subst
      (λ k. IsBefore (choices l ++ choices p) k) (sym (choices_append l' q))
      (differs-before _ _ (choices p) (choices q) d)))
      (λ d.
      absurd (before_not_later _ _ [] [] d (subst (λ k. IsBefore k (choices l' ++ [])) (sym (append-nil (choices l))) (subst (λ k. IsBefore (choices l) k) (sym (append-nil (choices l'))) h))))
      r)
      fronts_differ

  -- and the order of two that go on alike from different fronts is that of the fronts
  pub fronts_order_back : (p q : List Symbol) → IsBefore (choices (l ++ p)) (choices (l' ++ q)) → (l ≡ l' → ⊥)
      → IsBefore (choices l) (choices l')
  fronts_order_back p q h ne =
      ⊎_elim
      (λ e. absurd (ne e.0))
      (λ r. ⊎_elim
      (λ d.
      subst
      (λ k. IsBefore k (choices l')) (append-nil (choices l))
      (subst (λ k. IsBefore (choices l ++ []) k) (append-nil (choices l')) (differs-before _ _ [] [] d)))
      (λ d.
      absurd (before_not_later _ _ _ _ d (subst (λ k. IsBefore k (choices l' ++ choices q)) (choices_append l p) (subst (λ k. IsBefore (choices (l ++ p)) k) (choices_append l' q) h))))
      r)
      fronts_differ
