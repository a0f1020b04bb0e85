-- A sweep over places: what it has found is in order, and the rest waits.
use Rattle.std.proofs.Common.{inl, inr, sym, ap, ◌∙◌, subst, append-nil, append_assoc, arith, ⊎_elim, length}
use Rattle.std.proofs.lemmas.Bool.{cases_lt, cases_order}
use Rattle.std.proofs.lemmas.List.{get_or-set_other, get_or-set_same, length-replicate, length-set}
use Rattle.std.proofs.lemmas.List.Elements.{All-cons, All-nil}
use Rattle.std.specs.Prelude.{◌≡◌, ◌≢◌, ℕ, zero, suc, ◌+◌, ◌-◌, ◌<◌, ◌≤◌, ◌⊎◌, min, max, List, [], ◌∷◌, ◌++◌, replicate, slice_set, refl}
use Rattle.lx_tnfa.proofs.Searching.SearchBasics.{Each}
use Rattle.lx_tdfa.proofs.WordKernels.OrderedLists.{IsMember, IsRising, append_member_left, append_member_right, member_append, rising_append}
use Rattle.lx_posix.specs.Sweeps.{AreStartsOf, IsStartOf, emptied_above, level_at, number_at, starts_above, starts_at, waiting_at, with_place}
use Rattle.lx_posix.specs.declared.points.Beginning.{Beginning}
use Rattle.lx_posix.specs.declared.starts.Start.{Start}
use Rattle.lx_posix.proofs.CodeStarts.Waiting.{emptied_above-length, none_waits, starts_above-set, with_place-above, with_place-below, with_place-length}

abbrev pub start_from : (from level : ℕ) → Start
start_from from level = record { from = from; level = level }

-- `numbers` has the numbers of places, and `heights` the greatest levels from them.
module _ (numbers heights : ℕ → ℕ) where
  -- the number of a place between the two, or of the second, is not above the level of the first
  abbrev pub IsCut : Start → Start → Type 0
  IsCut s t = (end : ℕ) × (s.from < end) × (end ≤ t.from) × (numbers end ≤ s.level)

  -- the level of the second is less, and where the second is from an earlier place, then less than all numbers between
  abbrev pub IsOver : Start → Start → Type 0
  IsOver s t = (t.level < s.level) × ((k : ℕ) → t.from < k → k ≤ s.from → t.level < numbers k)

  abbrev pub Precedes : Start → Start → Type 0
  Precedes s t = IsCut s t ⊎ (IsOver s t ⊎ ((s.level ≡ t.level) × (s.from < t.from)))

  -- after so many places, where no place waits at the level `used` nor above
  pub record IsSwept (places used : ℕ) (found : List Start) (levels : List (List ℕ)) : Type 0 where
    pub rising : IsRising Precedes found
    pub gone : (s : Start) → IsMember found s → (s.level ≤ heights s.from) × ((end : ℕ) × (s.from < end) × (end ≤ places) × (numbers end ≤ s.level))
    pub waits : (h i : ℕ) → IsMember (waiting_at levels h) i → (i < places) × (h ≤ heights i) × ((k : ℕ) → i < k → k < places → h < numbers k)
    pub ascend : (h : ℕ) → IsRising ◌<◌ (waiting_at levels h)
    pub before : (s : Start) (h i : ℕ) → IsMember found s → IsMember (waiting_at levels h) i → Precedes s (start_from i h)
    pub every : (i h : ℕ) → i < places → h ≤ heights i → IsMember found (start_from i h) ⊎ IsMember (waiting_at levels h) i
    pub unused : (h : ℕ) → used ≤ h → waiting_at levels h ≡ []

  pub nothing_swept : (levels : List (List ℕ)) → ((h : ℕ) → waiting_at levels h ≡ []) → IsSwept 0 0 [] levels
  nothing_swept levels none = record {
    rising = tt;
    gone = λ s m. absurd m;
    waits = λ h i m. absurd (subst (λ l. IsMember l i) (none h) m);
    ascend = λ h. subst (λ l. IsRising ◌<◌ l) (sym (none h)) tt;
    before = λ s h i m. absurd m;
    every = λ i h lt. absurd (omega arith);
    unused = λ h le. none h;
  }

  -- the starts at a level
  starts_back : (h : ℕ) (is : List ℕ) (s : Start) → IsMember (starts_at h is) s → (s.level ≡ h) × IsMember is s.from
  starts_back h [] s m = absurd m
  starts_back h (i ∷ is) s (inl e) = (ap (λ (x : Start). x.level) (sym e), inl (ap (λ (x : Start). x.from) e))
  starts_back h (i ∷ is) s (inr m) = let r = starts_back h is s m in (r.0, inr r.1)

  starts_have : (h : ℕ) (is : List ℕ) (i : ℕ) → IsMember is i → IsMember (starts_at h is) (start_from i h)
  starts_have h [] i m = absurd m
  starts_have h (j ∷ is) i (inl e) = inl (ap (λ k. start_from k h) e)
  starts_have h (j ∷ is) i (inr m) = inr (starts_have h is i m)

  starts_rise : (h : ℕ) (is : List ℕ) → IsRising ◌<◌ is → IsRising Precedes (starts_at h is)
  starts_rise h [] r = tt
  starts_rise h (i ∷ is) r = (all is r.0, starts_rise h is r.1)
    where
      all : (js : List ℕ) → Each (λ j. i < j) js → Each (Precedes (start_from i h)) (starts_at h js)
      all [] e = tt
      all (j ∷ js) e = (inr (inr (refl, e.0)), all js e.1)

  -- the greatest level at which places wait is found
  module _ (places h : ℕ) (found : List Start) (levels : List (List ℕ)) (swept : IsSwept places (suc h) found levels)
      (low : numbers places ≤ h) (within : h < length levels) where
    abbrev now : List Start
    now = found ++ starts_at h (waiting_at levels h)

    abbrev left : List (List ℕ)
    left = slice_set levels h []

    at_level : waiting_at left h ≡ []
    at_level = get_or-set_same levels h [] [] within

    at_other : (k : ℕ) → k ≢ h → waiting_at left k ≡ waiting_at levels k
    at_other k ne = get_or-set_other levels h k [] [] ne

    -- what still waits
    record Waits (k i : ℕ) : Type 0 where
      less : k < h
      member : IsMember (waiting_at levels k) i

    still : (k i : ℕ) → IsMember (waiting_at left k) i → Waits k i
    still k i m =
        ⊎_elim (λ e. absurd (subst (λ l. IsMember l i) (ap (λ n. waiting_at left n) e ∙ at_level) m))
        (λ d. ⊎_elim
        (λ lt. record { less = lt; member = subst (λ l. IsMember l i) (at_other k (λ e. omega arith)) m })
        (λ gt. absurd (subst (λ l. IsMember l i) (at_other k (λ e. omega arith) ∙ swept.unused k (omega arith)) m)) d)
        (cases_order k h)

    new_waits : (s : Start) → IsMember (starts_at h (waiting_at levels h)) s → (s.level ≡ h) × IsMember (waiting_at levels s.level) s.from
    new_waits s m =
        let r = starts_back h (waiting_at levels h) s m in (r.0, subst (λ n. IsMember (waiting_at levels n) s.from) (sym r.0) r.1)

    pub take_one : IsSwept places h (found ++ starts_at h (waiting_at levels h)) (slice_set levels h [])
    take_one = record {
      rising =
          rising_append Precedes found (starts_at h (waiting_at levels h)) swept.rising
          (starts_rise h (waiting_at levels h) (swept.ascend h))
          (λ s t m n.
          let w = new_waits t n in
          swept.before s t.level t.from m w.1);
      gone = λ s m. ⊎_elim (λ k. swept.gone s k) (λ k. new_gone s k) (member_append found (starts_at h (waiting_at levels h)) s m);
      waits = λ k i m. let w = still k i m in swept.waits k i w.member;
      ascend = λ k. ascending k;
      before = λ s k i m n.
          let w = still k i n in
          ⊎_elim (λ old. swept.before s k i old w.member) (λ new. inr (inl (over s k i new w)))
          (member_append found (starts_at h (waiting_at levels h)) s m);
      every = λ i k lt le. has i k (swept.every i k lt le);
      unused = λ k le.
          ⊎_elim (λ e. ap (λ n. waiting_at left n) e ∙ at_level)
          (λ gt. at_other k (λ e. omega arith) ∙ swept.unused k (omega arith)) (equal_or k le);
    }
      where
        equal_or : (k : ℕ) → h ≤ k → (k ≡ h) ⊎ (h < k)
        equal_or k le = ⊎_elim (λ lt. inr lt) (λ ge. inl (omega arith)) (cases_lt h k)

        new_gone : (s : Start) → IsMember (starts_at h (waiting_at levels h)) s
            → (s.level ≤ heights s.from) × ((end : ℕ) × (s.from < end) × (end ≤ places) × (numbers end ≤ s.level))
        new_gone s k =
            let w = new_waits s k in
            let v = swept.waits s.level s.from w.1 in
            let e = w.0 in
            (v.1, (places, v.0, omega arith, omega arith))

        ascending : (k : ℕ) → IsRising ◌<◌ (waiting_at left k)
        ascending k =
            ⊎_elim (λ e. subst (λ l. IsRising ◌<◌ l) (sym (ap (λ n. waiting_at left n) e ∙ at_level)) tt)
            (λ ne. subst (λ l. IsRising ◌<◌ l) (sym (at_other k ne)) (swept.ascend k)) (equal_not k)
          where
            equal_not : (k : ℕ) → (k ≡ h) ⊎ (k ≢ h)
            equal_not k = ⊎_elim (λ e. inl e) (λ d. ⊎_elim (λ lt. inr (λ e. omega arith)) (λ gt. inr (λ e. omega arith)) d) (cases_order k h)

        over : (s : Start) (k i : ℕ) → IsMember (starts_at h (waiting_at levels h)) s → Waits k i → IsOver s (start_from i k)
        over s k i new w =
            let v = new_waits s new in
            let from = swept.waits s.level s.from v.1 in
            let e = v.0 in
            let lt = w.less in
            let all = swept.waits k i w.member in
            let in_front : s.from < places = from.0 in
            (omega arith, λ n gt le. all.2 n gt (omega arith))

        has : (i k : ℕ) → IsMember found (start_from i k) ⊎ IsMember (waiting_at levels k) i
            → IsMember now (start_from i k) ⊎ IsMember (waiting_at left k) i
        has i k (inl m) = inl (append_member_left found (starts_at h (waiting_at levels h)) (start_from i k) m)
        has i k (inr m) =
            ⊎_elim
            (λ e. inl
            (append_member_right found (starts_at h (waiting_at levels h)) (start_from i k)
            (subst (λ n. IsMember (starts_at h (waiting_at levels h)) (start_from i n)) (sym e)
            (starts_have h (waiting_at levels h) i (subst (λ n. IsMember (waiting_at levels n) i) e m)))))
            (λ d. ⊎_elim
            (λ lt. inr (subst (λ l. IsMember l i) (sym (at_other k (λ e. omega arith))) m))
            (λ gt. absurd (subst (λ l. IsMember l i) (swept.unused k (omega arith)) m)) d)
            (cases_order k h)

  -- and all from a level on, of which the last place has no greater number
  take_many : (places lowest count : ℕ) (found : List Start) (levels : List (List ℕ))
      → IsSwept places (lowest + count) found levels → numbers places ≤ lowest → lowest + count ≤ length levels
      → IsSwept places lowest (found ++ starts_above levels lowest count) (emptied_above levels lowest count)
  take_many places lowest zero found levels swept low within =
      let z : lowest + 0 ≡ lowest = omega arith in
      subst (λ n. IsSwept places n (found ++ []) levels) z
      (subst (λ l. IsSwept places (lowest + 0) l levels) (sym (append-nil found)) swept)
  take_many places lowest (suc count) found levels swept low within =
      let z : lowest + suc count ≡ suc (lowest + count) = omega arith in
      let first = starts_at (lowest + count) (waiting_at levels (lowest + count)) in
      let left = slice_set levels (lowest + count) [] in
      let one = take_one places (lowest + count) found levels (subst (λ n. IsSwept places n found levels) z swept) (omega arith) (omega arith) in
      let n = length-set levels (lowest + count) [] in
      let rest = take_many places lowest count (found ++ first) left one low (omega arith) in
      subst (λ l. IsSwept places lowest l (emptied_above left lowest count))
      (append_assoc found first (starts_above left lowest count)
      ∙ ap (λ l. found ++ (first ++ l)) (starts_above-set levels lowest count (lowest + count) (omega arith))) rest

  more_used : (places used more : ℕ) (found : List Start) (levels : List (List ℕ)) → used ≤ more → IsSwept places used found levels
      → IsSwept places more found levels
  more_used places used more found levels le swept = record {
    rising = swept.rising;
    gone = swept.gone;
    waits = swept.waits;
    ascend = swept.ascend;
    before = swept.before;
    every = swept.every;
    unused = λ h ge. swept.unused h (omega arith);
  }

  pub take_all : (places lowest used : ℕ) (found : List Start) (levels : List (List ℕ)) → IsSwept places used found levels
      → numbers places ≤ lowest → used ≤ length levels
      → IsSwept places (min used lowest) (found ++ starts_above levels lowest (used - lowest)) (emptied_above levels lowest (used - lowest))
  take_all places lowest used found levels swept low within =
      ⊎_elim
      (λ lt.
      let n : lowest + (used - lowest) ≡ used = omega arith in
      let m : min used lowest ≡ lowest = omega arith in
      subst (λ n. IsSwept places n (found ++ starts_above levels lowest (used - lowest)) (emptied_above levels lowest (used - lowest))) (sym m)
      (take_many places lowest (used - lowest) found levels (subst (λ n. IsSwept places n found levels) (sym n) swept) low (omega arith)))
      (λ ge.
      let z : used - lowest ≡ 0 = omega arith in
      let m : min used lowest ≡ used = omega arith in
      subst (λ n. IsSwept places n (found ++ starts_above levels lowest (used - lowest)) (emptied_above levels lowest (used - lowest))) (sym m)
      (subst (λ n. IsSwept places used (found ++ starts_above levels lowest n) (emptied_above levels lowest n)) (sym z)
      (subst (λ l. IsSwept places used l levels) (sym (append-nil found)) swept)))
      (cases_lt lowest used)

  -- one more place waits
  module _ (places used : ℕ) (found : List Start) (levels : List (List ℕ)) (swept : IsSwept places used found levels)
      (low : used ≤ numbers places) (room : heights places < length levels) where
    abbrev filled : List (List ℕ)
    filled = with_place levels places (suc (heights places))

    at_place : (h : ℕ) → h ≤ heights places → waiting_at filled h ≡ waiting_at levels h ++ places ∷ []
    at_place h le = with_place-below levels places (suc (heights places)) h (omega arith) (omega arith)

    at_none : (h : ℕ) → heights places < h → waiting_at filled h ≡ waiting_at levels h
    at_none h lt = with_place-above levels places (suc (heights places)) h (omega arith)

    abbrev Known : ℕ → ℕ → Type 0
    Known h i = IsMember (waiting_at levels h) i ⊎ ((i ≡ places) × (h ≤ heights places))

    known : (h i : ℕ) → IsMember (waiting_at filled h) i → Known h i
    known h i m =
        ⊎_elim (λ lt. inl (subst (λ l. IsMember l i) (at_none h lt) m))
        (λ ge.
        ⊎_elim (λ k. inl k) (λ k. ⊎_elim (λ e. inr (sym e, ge)) (λ n. absurd n) k)
        (member_append (waiting_at levels h) (places ∷ []) i (subst (λ l. IsMember l i) (at_place h ge) m)))
        (cases_lt (heights places) h)

    keeps : (h i : ℕ) → IsMember (waiting_at levels h) i → IsMember (waiting_at filled h) i
    keeps h i m =
        ⊎_elim (λ lt. subst (λ l. IsMember l i) (sym (at_none h lt)) m)
        (λ ge. subst (λ l. IsMember l i) (sym (at_place h ge)) (append_member_left (waiting_at levels h) (places ∷ []) i m))
        (cases_lt (heights places) h)

    adds : (h : ℕ) → h ≤ heights places → IsMember (waiting_at filled h) places
    adds h le =
        subst (λ l. IsMember l places) (sym (at_place h le)) (append_member_right (waiting_at levels h) (places ∷ []) places (inl refl))

    -- what waits has a level below the number of the place
    below : (h i : ℕ) → IsMember (waiting_at levels h) i → h < numbers places
    below h i m = ⊎_elim (λ lt. omega arith) (λ ge. absurd (subst (λ l. IsMember l i) (swept.unused h ge) m)) (cases_lt h used)

    pub wait_one : IsSwept (suc places) (max used (suc (heights places))) found (with_place levels places (suc (heights places)))
    wait_one = record {
      rising = swept.rising;
      gone = λ s m. let g = swept.gone s m in (g.0, (g.1.0, g.1.1, (let le = g.1.2 in omega arith), g.1.3));
      waits = λ h i m. waiting h i (known h i m);
      ascend = λ h. ascending h;
      before = λ s h i m n. ordered s h i m (known h i n);
      every = λ i h lt le. ⊎_elim (λ less. old i h (swept.every i h less le)) (λ ge. new i h le (omega arith)) (cases_lt i places);
      unused = λ h le. at_none h (omega arith) ∙ swept.unused h (omega arith);
    }
      where
        waiting : (h i : ℕ) → Known h i → (i < suc places) × (h ≤ heights i) × ((k : ℕ) → i < k → k < suc places → h < numbers k)
        waiting h i (inl m) =
            let w = swept.waits h i m in
            let lt = w.0 in (
              omega arith,
              w.1,
              λ k gt less.
                  ⊎_elim (λ before. w.2 k gt before)
                  (λ at. let e : k ≡ places = omega arith in subst (λ n. h < numbers n) (sym e) (below h i m)) (cases_lt k places),
            )
        waiting h i (inr e) =
            let is = e.0 in
            (omega arith, subst (λ n. h ≤ heights n) (sym e.0) e.1, λ k gt less. absurd (omega arith))

        ascending : (h : ℕ) → IsRising ◌<◌ (waiting_at filled h)
        ascending h =
            ⊎_elim (λ lt. subst (λ l. IsRising ◌<◌ l) (sym (at_none h lt)) (swept.ascend h))
            (λ ge. subst (λ l. IsRising ◌<◌ l) (sym (at_place h ge))
            (rising_append ◌<◌ (waiting_at levels h) (places ∷ []) (swept.ascend h) (tt, tt)
            (λ i j m n. ⊎_elim (λ e. let w = (swept.waits h i m).0 in omega arith) (λ k. absurd k) n)))
            (cases_lt (heights places) h)

        ordered : (s : Start) (h i : ℕ) → IsMember found s → Known h i → Precedes s (start_from i h)
        ordered s h i m (inl k) = swept.before s h i m k
        ordered s h i m (inr e) =
            let g = (swept.gone s m).1 in
            let is = e.0 in
            let le = g.2 in
            inl (g.0, g.1, omega arith, g.3)

        old : (i h : ℕ) → IsMember found (start_from i h) ⊎ IsMember (waiting_at levels h) i
            → IsMember found (start_from i h) ⊎ IsMember (waiting_at filled h) i
        old i h (inl m) = inl m
        old i h (inr m) = inr (keeps h i m)

        new : (i h : ℕ) → h ≤ heights i → i ≡ places → IsMember found (start_from i h) ⊎ IsMember (waiting_at filled h) i
        new i h le e =
            inr (subst (λ n. IsMember (waiting_at filled h) n) (sym e) (adds h (subst (λ n. h ≤ heights n) e le)))

-- one more place waits, and what it takes out is found
pub record IsSweptOn (bs : List Beginning) (places used : ℕ) (found : List Start) (levels : List (List ℕ)) : Type 0 where
  pub swept : IsSwept (number_at bs) (level_at bs) places used found levels
  pub low : used ≤ number_at bs places
  pub within : used ≤ length levels
  pub room : (index : ℕ) → level_at bs index < length levels

pub swept_on : (bs : List Beginning) (places used : ℕ) (found : List Start) (levels : List (List ℕ))
    → IsSweptOn bs places used found levels → (count lowest end less : ℕ) (filled left : List (List ℕ)) (more : List Start)
    → count ≡ level_at bs places + 1 → lowest ≡ number_at bs (places + 1) → end ≡ max used count → less ≡ min end lowest
    → filled ≡ with_place levels places count → more ≡ found ++ starts_above filled lowest (end - lowest)
    → left ≡ emptied_above filled lowest (end - lowest) → IsSweptOn bs (places + 1) less more left
swept_on bs places used found levels is count lowest end less filled left more counted lows ends lessens fills finds empties =
    let one : count ≡ suc (level_at bs places) = omega arith in
    let next : places + 1 ≡ suc places = omega arith in
    let reach : end ≡ max used (suc (level_at bs places)) = omega arith in
    let fill : filled ≡ with_place levels places (suc (level_at bs places)) = fills ∙ ap (with_place levels places) one in
    let waited = wait_one (number_at bs) (level_at bs) places used found levels is.swept is.low (is.room places) in
    let now : IsSwept (number_at bs) (level_at bs) (places + 1) end found filled =
    subst (λ n. IsSwept (number_at bs) (level_at bs) n end found filled) (sym next)
    (subst (λ n. IsSwept (number_at bs) (level_at bs) (suc places) n found filled) (sym reach)
    (subst (λ l. IsSwept (number_at bs) (level_at bs) (suc places) (max used (suc (level_at bs places))) found l) (sym fill) waited)) in
    let long : length filled ≡ length levels = ap length fill ∙ with_place-length levels places (suc (level_at bs places)) in
    let short : length left ≡ length filled = ap length empties ∙ emptied_above-length filled lowest (end - lowest) in
    let fits = is.within in
    let room = is.room places in
    let taken = take_all (number_at bs) (level_at bs) (places + 1) lowest end found filled now (omega arith) (omega arith) in
    record {
      swept =
          subst (λ n. IsSwept (number_at bs) (level_at bs) (places + 1) n more left) (sym lessens)
          (subst (λ l. IsSwept (number_at bs) (level_at bs) (places + 1) (min end lowest) l left) (sym finds)
          (subst (λ l. IsSwept (number_at bs) (level_at bs) (places + 1) (min end lowest)
          (found ++ starts_above filled lowest (end - lowest)) l) (sym empties) taken));
      low = omega arith;
      within = omega arith;
      room = λ index. let h = is.room index in omega arith;
    }

pub swept_none : (bs : List Beginning) (count : ℕ) (found : List Start) (levels : List (List ℕ)) → found ≡ [] → levels ≡ replicate count []
    → ((index : ℕ) → level_at bs index < count) → IsSweptOn bs 0 0 found levels
swept_none bs count found levels none empty less =
    let n : length levels ≡ count = ap length empty ∙ length-replicate count [] in
    record {
      swept =
          subst (λ l. IsSwept (number_at bs) (level_at bs) 0 0 l levels) (sym none)
          (nothing_swept (number_at bs) (level_at bs) levels (λ h. ap (λ l. waiting_at l h) empty ∙ none_waits count h));
      low = omega arith;
      within = omega arith;
      room = λ index. let h = less index in omega arith;
    }

pub all_begun : (bs : List Beginning) (places used : ℕ) (found : List Start) (levels : List (List ℕ)) → IsSweptOn bs places used found levels
    → places ≡ length bs → AreStartsOf bs found
all_begun bs places used found levels is whole = each found (λ s m. m)
  where
    each : (l : List Start) → ((s : Start) → IsMember l s → IsMember found s) → AreStartsOf bs l
    each [] f = All-nil (IsStartOf bs)
    each (s ∷ l) f =
        let g = is.swept.gone s (f s (inl refl)) in
        let below = g.1.1 in
        let within = g.1.2 in
        All-cons (IsStartOf bs) s l (record { from = omega arith; level = g.0 }) (each l (λ t m. f t (inr m)))
