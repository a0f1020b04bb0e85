-- The choices of a search over states and levels are in the order of the walks.
use Rattle.std.proofs.Common.{inl, inr, sym, ap, ◌∙◌, subst, arith, append-nil, ⊎_elim}
use Rattle.std.proofs.lemmas.Bool.{cases_lt}
use Rattle.std.specs.Prelude.{◌≡◌, ℕ, zero, suc, ◌-◌, ◌<◌, ◌≤◌, min, List, [], ◌∷◌, ◌++◌, refl}
use Rattle.lx_base.specs.declared.settings.Enc.{Enc}
use Rattle.lx_regex.specs.Cut.{Cut, IsCut}
use Rattle.lx_regex.specs.Dictionary.{IsBefore}
use Rattle.lx_regex.specs.Script.{Symbol, choices, units}
use Rattle.lx_regex.specs.Term.{Term}
use Rattle.lx_regex.proofs.KernelCuts.Cuts.{cuts_differ}
use Rattle.lx_regex.proofs.KernelCuts.Kernels.{before_asym}
use Rattle.lx_regex.proofs.Walks.Fronts.{DiffersBefore, before_self}
use Rattle.lx_regex.proofs.Walks.Scripts.{differs_is_before}
use Rattle.lx_posix.specs.Levels.{level_of, levelled, raised}
use Rattle.lx_posix.specs.Numbers.{IsFirstOf}
use Rattle.lx_posix.specs.Parting.{Event, Parting, by_digit, by_down, by_read, by_up, digit, down, events, keep, parts_here, read, up}
use Rattle.lx_posix.specs.Walks.{after, depth}
use Rattle.lx_posix.proofs.Counted.NumbersOfCuts.{first_of}
use Rattle.lx_posix.proofs.Lists.Comparisons.{keep_most, no_parting}
use Rattle.lx_posix.proofs.Orders.CutOrder.{within}

-- more of the first choice come first
pub raised_more : (k m y : ℕ) (r s : List ℕ) → m < k → DiffersBefore (raised k r) (raised m (suc y ∷ s))
raised_more zero m y r s lt = absurd (omega arith)
raised_more (suc k) zero y r s lt = inl (omega arith)
raised_more (suc k) (suc m) y r s lt = inr (refl, raised_more k m y r s (omega arith))

pub raised_same : (k : ℕ) (r s : List ℕ) → DiffersBefore r s → DiffersBefore (raised k r) (raised k s)
raised_same zero r s h = h
raised_same (suc k) r s h = inr (refl, raised_same k r s h)

-- the lowest depth is the lesser of that so far and that from here on
pub keep_least : (n d m : ℕ) (l : List Event) → m ≤ d → keep n d m l ≡ min m (keep n d d l)
keep_least zero d m l le = omega arith
keep_least (suc n) d m [] le = omega arith
keep_least (suc n) d m (down ∷ l) le =
    let a = keep_least (suc n) (suc d) m l (omega arith) in
    let b = keep_least (suc n) (suc d) d l (omega arith) in
    omega arith
keep_least (suc n) d m (up ∷ l) le =
    let a = keep_least (suc n) (d - 1) (min m (d - 1)) l (omega arith) in
    let b = keep_least (suc n) (d - 1) (min d (d - 1)) l (omega arith) in
    omega arith
keep_least (suc n) d m (read ∷ l) le = keep_least n d m l le
keep_least (suc n) d m (digit x ∷ l) le = keep_least (suc n) d m l le

-- two lists of which one comes first where it keeps no less
record InLevels (c d : ℕ) (l l' : List Event) (a a' : ℕ) : Type 0 where
  low : ℕ
  here : level_of d l ≡ min low a
  there : level_of d l' ≡ min low a'
  first : a' ≤ a → DiffersBefore (levelled d c l) (levelled d c l')
  second : a < a' → DiffersBefore (levelled d c l') (levelled d c l)

-- one event on: the first of two is raised no less
pub raised_on : (c s s' a a' x y : ℕ) (r r' : List ℕ) → (b : ℕ) → s ≡ min b a → s' ≡ min b a' → c ≤ s → c ≤ s' → a' ≤ a
    → (s ≡ s' → DiffersBefore (suc x ∷ r) (suc y ∷ r')) → DiffersBefore (raised (s - c) (suc x ∷ r)) (raised (s' - c) (suc y ∷ r'))
raised_on c s s' a a' x y r r' b e f le le' ge same =
    ⊎_elim
    (λ lt. raised_more (s - c) (s' - c) y (suc x ∷ r) r' (omega arith))
    (λ le.
    let z : s ≡ s' = omega arith in
    subst (λ k. DiffersBefore (raised (s - c) (suc x ∷ r)) (raised (k - c) (suc y ∷ r'))) z
    (raised_same (s - c) (suc x ∷ r) (suc y ∷ r') (same z)))
    (cases_lt s' s)

raised_over : (c s s' a a' x y : ℕ) (r r' : List ℕ) → (b : ℕ) → s ≡ min b a → s' ≡ min b a' → c ≤ s → c ≤ s' → a < a'
    → (s ≡ s' → DiffersBefore (suc y ∷ r') (suc x ∷ r)) → DiffersBefore (raised (s' - c) (suc y ∷ r')) (raised (s - c) (suc x ∷ r))
raised_over c s s' a a' x y r r' b e f le le' gt same =
    raised_on c s' s a' a y x r' r b f e le' le (omega arith) (λ z. same (sym z))

in_levels : {n d D a a' : ℕ} {l l' : List Event} → n ≡ 1 → Parting n d l l' D a a' → (c : ℕ) → c ≤ level_of d l → c ≤ level_of d l'
    → InLevels c d l l' a a'
in_levels e (parts_here {n} {d} {i} {j} {l} {l'} lt) c le le' =
    let z : n ≡ 0 = omega arith in
    subst (λ m. InLevels c d (digit i ∷ l) (digit j ∷ l') (keep (suc m) d d l) (keep (suc m) d d l')) (sym z) (record {
      low = d;
      here = let h = keep_most 1 d d l in omega arith;
      there = let h = keep_most 1 d d l' in omega arith;
      first = λ ge.
          raised_on c (keep 1 d d l) (keep 1 d d l') (keep 1 d d l) (keep 1 d d l') i j _ _ d
          (let h = keep_most 1 d d l in omega arith) (let h = keep_most 1 d d l' in omega arith) le le' ge
          (λ q. inl (omega arith));
      second = λ less. raised_more (keep 1 d d l' - c) (keep 1 d d l - c) i _ _ (omega arith);
    })
in_levels e (by_down {n} {d} {D} {h = a} {h' = a'} {l} {l'} r) c le le' = down_on (in_levels e r)
  where
    down_on : ((k : ℕ) → k ≤ level_of (suc d) l → k ≤ level_of (suc d) l' → InLevels k (suc d) l l' a a')
        → InLevels c d (down ∷ l) (down ∷ l') a a'
    down_on more =
        let s = keep 1 d d (down ∷ l) in
        let t = keep 1 d d (down ∷ l') in
        let x : keep 1 (suc d) d l ≡ min d (keep 1 (suc d) (suc d) l) = keep_least 1 (suc d) d l (omega arith) in
        let y : keep 1 (suc d) d l' ≡ min d (keep 1 (suc d) (suc d) l') = keep_least 1 (suc d) d l' (omega arith) in
        let o = more 0 (omega arith) (omega arith) in
        let oh = o.here in
        let ot = o.there in
        let here : keep 1 (suc d) d l ≡ min (min d o.low) a = omega arith in
        let there : keep 1 (suc d) d l' ≡ min (min d o.low) a' = omega arith in
        record {
          low = min d o.low;
          here = here;
          there = there;
          first = λ ge.
              raised_on c (keep 1 (suc d) d l) (keep 1 (suc d) d l') a a' 0 0 _ _ (min d o.low) here there le le' ge
              (λ q. inr (
                refl,
                subst (λ k. DiffersBefore (levelled (suc d) (keep 1 (suc d) d l) l) (levelled (suc d) k l')) q
                    ((more (keep 1 (suc d) d l) (omega arith) (omega arith)).first ge),
              ));
          second = λ less.
              raised_over c (keep 1 (suc d) d l) (keep 1 (suc d) d l') a a' 0 0 _ _ (min d o.low) here there le le' less
              (λ q. inr (
                refl,
                subst (λ k. DiffersBefore (levelled (suc d) k l') (levelled (suc d) (keep 1 (suc d) d l) l)) q
                    ((more (keep 1 (suc d) d l) (omega arith) (omega arith)).second less),
              ));
        }
in_levels e (by_up {n} {d} {D} {h = a} {h' = a'} {l} {l'} r) c le le' = up_on (in_levels e r)
  where
    up_on : ((k : ℕ) → k ≤ level_of (d - 1) l → k ≤ level_of (d - 1) l' → InLevels k (d - 1) l l' a a')
        → InLevels c d (up ∷ l) (up ∷ l') a a'
    up_on more =
        let x : keep 1 (d - 1) (min d (d - 1)) l ≡ min (min d (d - 1)) (keep 1 (d - 1) (d - 1) l) =
        keep_least 1 (d - 1) (min d (d - 1)) l (omega arith) in
        let y : keep 1 (d - 1) (min d (d - 1)) l' ≡ min (min d (d - 1)) (keep 1 (d - 1) (d - 1) l') =
        keep_least 1 (d - 1) (min d (d - 1)) l' (omega arith) in
        let o = more 0 (omega arith) (omega arith) in
        let oh = o.here in
        let ot = o.there in
        let here : keep 1 (d - 1) (min d (d - 1)) l ≡ min (min (d - 1) o.low) a = omega arith in
        let there : keep 1 (d - 1) (min d (d - 1)) l' ≡ min (min (d - 1) o.low) a' = omega arith in
        record {
          low = min (d - 1) o.low;
          here = here;
          there = there;
          first = λ ge.
              raised_on c (keep 1 (d - 1) (min d (d - 1)) l) (keep 1 (d - 1) (min d (d - 1)) l') a a' 0 0 _ _
              (min (d - 1) o.low) here there le le' ge
              (λ q. inr (
                refl,
                subst (λ k. DiffersBefore (levelled (d - 1) (keep 1 (d - 1) (min d (d - 1)) l) l) (levelled (d - 1) k l')) q
                    ((more (keep 1 (d - 1) (min d (d - 1)) l) (omega arith) (omega arith)).first ge),
              ));
          second = λ less.
              raised_over c (keep 1 (d - 1) (min d (d - 1)) l) (keep 1 (d - 1) (min d (d - 1)) l') a a' 0 0 _ _
              (min (d - 1) o.low) here there le le' less
              (λ q. inr (
                refl,
                subst (λ k. DiffersBefore (levelled (d - 1) k l') (levelled (d - 1) (keep 1 (d - 1) (min d (d - 1)) l) l)) q
                    ((more (keep 1 (d - 1) (min d (d - 1)) l) (omega arith) (omega arith)).second less),
              ));
        }
in_levels e (by_read r) c le le' = absurd (no_parting (omega arith) r)
in_levels e (by_digit {n} {d} {i} {j} {D} {h = a} {h' = a'} {l} {l'} k r) c le le' = digit_on (in_levels e r)
  where
    digit_on : ((k : ℕ) → k ≤ level_of d l → k ≤ level_of d l' → InLevels k d l l' a a')
        → InLevels c d (digit i ∷ l) (digit j ∷ l') a a'
    digit_on more =
        let o = more 0 (omega arith) (omega arith) in
        record {
          low = o.low;
          here = o.here;
          there = o.there;
          first = λ ge.
              raised_on c (keep 1 d d l) (keep 1 d d l') a a' i j _ _ o.low o.here o.there le le' ge
              (λ q. inr (
                ap suc k,
                subst (λ k. DiffersBefore (levelled d (keep 1 d d l) l) (levelled d k l')) q
                    ((more (keep 1 d d l) (omega arith) (omega arith)).first ge),
              ));
          second = λ less.
              raised_over c (keep 1 d d l) (keep 1 d d l') a a' i j _ _ o.low o.here o.there le le' less
              (λ q. inr (
                ap suc (sym k),
                subst (λ k. DiffersBefore (levelled d k l') (levelled d (keep 1 d d l) l)) q
                    ((more (keep 1 d d l) (omega arith) (omega arith)).second less),
              ));
        }

module _ (enc : Enc) (rules : List Term) where
  -- of two walks from one place that comes first whose choices, from level 0 on, come first
  pub levels_order :
      (w : List ℕ) (u : ℕ) (j : Cut) (y z : List Symbol) → units y ≡ u ∷ [] → units z ≡ u ∷ []
      → IsCut enc rules (w ++ u ∷ []) (after j y) → IsCut enc rules (w ++ u ∷ []) (after j z)
      → IsBefore (levelled (depth 0 j.front) 0 (events y)) (levelled (depth 0 j.front) 0 (events z))
      → (n : ℕ) × IsFirstOf enc rules (after j y) (after j z) n
  levels_order w u j y z uy uz iy iz before =
      ⊎_elim
      (λ e. absurd (before_self _ (subst
      (λ l. IsBefore (levelled (depth 0 j.front) 0 (events l)) (levelled (depth 0 j.front) 0 (events z)))
      (same_tail j.front y z e) before)))
      (λ d. ⊎_elim
      (λ h. (part y z uy uz iy iz h).0 before)
      (λ h. (part z y uz uy iz iy h).1 before) d)
      (cuts_differ enc rules (after j y) (after j z) iy.possible.0 iz.possible.0 refl iy.after_unit iz.after_unit
      (iy.reads_word ∙ sym iz.reads_word) iy.possible.1 iz.possible.1)
    where
      same_tail : (a b c : List Symbol) → a ++ b ≡ a ++ c → b ≡ c
      same_tail [] b c e = e
      same_tail (x ∷ a) b c e = same_tail a b c (cc)

      part : (y z : List Symbol) → units y ≡ u ∷ [] → units z ≡ u ∷ []
          → IsCut enc rules (w ++ u ∷ []) (after j y) → IsCut enc rules (w ++ u ∷ []) (after j z)
          → DiffersBefore (choices (j.front ++ y)) (choices (j.front ++ z))
          → (IsBefore (levelled (depth 0 j.front) 0 (events y)) (levelled (depth 0 j.front) 0 (events z))
          → (n : ℕ) × IsFirstOf enc rules (after j y) (after j z) n)
          × (IsBefore (levelled (depth 0 j.front) 0 (events z)) (levelled (depth 0 j.front) 0 (events y))
          → (n : ℕ) × IsFirstOf enc rules (after j z) (after j y) n)
      part y z uy uz iy iz h =
          let r = within enc rules j y z iy.possible.0 iz.possible.0 u iy.after_unit iz.after_unit uy uz iy.possible.1 iz.possible.1 h in
          let p : Parting 1 (depth 0 j.front) (events y) (events z) r.0 r.1 r.2 =
          subst (λ l. Parting 1 (depth 0 j.front) (events l) (events z) r.0 r.1 r.2) (append-nil y)
          (subst (λ l. Parting 1 (depth 0 j.front) (events (y ++ [])) (events l) r.0 r.1 r.2) (append-nil z) r.3) in
          let o = in_levels refl p 0 (omega arith) (omega arith) in
          ⊎_elim
          (λ less. (
            (λ b. absurd (before_asym _ _ b (differs_is_before _ _ (o.second less)))),
            (λ b. (min r.1 r.2, first_of enc rules (w ++ u ∷ []) _ _ _ iz iy (r.4 less))),
          ))
          (λ ge. (
            (λ b. (min r.1 r.2, first_of enc rules (w ++ u ∷ []) _ _ _ iy iz (r.5 ge))),
            (λ b. absurd (before_asym _ _ b (differs_is_before _ _ (o.first ge)))),
          ))
          (cases_lt r.1 r.2)
