-- The order of two cuts with its number, and what one more unit makes of both.
use Rattle.lx_posix.proofs.Orders.Ordered.{Order, Tied}
use Rattle.lx_posix.specs.Parting.{Event, Parting, by_digit, by_down, by_read, by_up, digit, down, events, keep, parts_here, read, up}
use Rattle.lx_posix.specs.Walks.{lowest}
use Rattle.std.specs.Prelude.{◌≡◌, ℕ, zero, suc, ◌-◌, ◌<◌, ◌≤◌, min, List, [], ◌∷◌, length, refl}
use Rattle.std.proofs.Common.{sym, ap, ◌∙◌, subst, arith, inl, inr, ⊎_elim}
use Rattle.lx_base.specs.declared.settings.Enc.{Enc}
use Rattle.lx_regex.specs.Term.{Term}
use Rattle.lx_regex.specs.Tree.{Tree}
use Rattle.lx_regex.specs.Script.{Symbol, begins, ends, reads, sets, unsets, picks, script, units}
use Rattle.lx_regex.specs.Posix.{Shape, Shapes, shape_of, size, shape_among}
use Rattle.lx_regex.proofs.PosixTrees.PosixShapes.{Same, tail}
use Rattle.lx_regex.proofs.PosixTrees.PosixAhead.{Ahead, len, at_kids, at_head, at_tail, SameAmong}
use Rattle.lx_regex.proofs.PosixTrees.PosixUnique.{count}
use Rattle.lx_posix.proofs.Steps.OneMoreUnit.{kids_size}
use Rattle.lx_posix.proofs.Steps.KeptByWalk.{low}
use Rattle.lx_posix.proofs.Partings.Forks.{Fork, goes_on, tied, within, ForkAmong, child, in_head, behind_head, first_kept, first_among, second_kept, second_among, tick_case, Verdict, first_none_among, second_none_among, leaf_longer}
use Rattle.lx_posix.proofs.Partings.Partings.{track}
use Rattle.lx_posix.proofs.Partings.ForkOfParting.{part_tree}
use Rattle.lx_posix.proofs.Orders.PosixLaws.{Rule, law_third, law_fourth, at_all, no_parting}

-- the lowest depth up to the next unit, and between unit n and the next, of events
abbrev pub lowest_event : (d m : ℕ) → List Event → ℕ
lowest_event d m [] = m
lowest_event d m (read ∷ l) = m
lowest_event d m (down ∷ l) = lowest_event (suc d) m l
lowest_event d m (up ∷ l) = lowest_event (d - 1) (min m (d - 1)) l
lowest_event d m (digit i ∷ l) = lowest_event d m l

abbrev pub low_event : (n d : ℕ) → List Event → ℕ
low_event zero d l = lowest_event d d l
low_event (suc n) d [] = 0
low_event (suc n) d (read ∷ l) = low_event n d l
low_event (suc n) d (down ∷ l) = low_event (suc n) (suc d) l
low_event (suc n) d (up ∷ l) = low_event (suc n) (d - 1) l
low_event (suc n) d (digit i ∷ l) = low_event (suc n) d l

lowest_events : (d m : ℕ) (l : List Symbol) → lowest d m l ≡ lowest_event d m (events l)
lowest_events d m [] = refl
lowest_events d m (begins p ∷ l) = lowest_events (suc d) m l
lowest_events d m (ends p ∷ l) = lowest_events (d - 1) (min m (d - 1)) l
lowest_events d m (reads u ∷ l) = refl
lowest_events d m (sets t ∷ l) = lowest_events d m l
lowest_events d m (unsets t ∷ l) = lowest_events d m l
lowest_events d m (picks t ∷ l) = lowest_events d m l

pub low_events : (n d : ℕ) (l : List Symbol) → low n d l ≡ low_event n d (events l)
low_events zero d l = lowest_events d d l
low_events (suc n) d [] = refl
low_events (suc n) d (begins p ∷ l) = low_events (suc n) (suc d) l
low_events (suc n) d (ends p ∷ l) = low_events (suc n) (d - 1) l
low_events (suc n) d (reads u ∷ l) = low_events n d l
low_events (suc n) d (sets t ∷ l) = low_events (suc n) d l
low_events (suc n) d (unsets t ∷ l) = low_events (suc n) d l
low_events (suc n) d (picks t ∷ l) = low_events (suc n) d l

-- the units of events
abbrev pub many : List Event → ℕ
many [] = 0
many (read ∷ l) = suc (many l)
many (down ∷ l) = many l
many (up ∷ l) = many l
many (digit i ∷ l) = many l

pub many_events : (l : List Symbol) → many (events l) ≡ length (units l)
many_events [] = refl
many_events (begins p ∷ l) = many_events l
many_events (ends p ∷ l) = many_events l
many_events (reads u ∷ l) = ap (λ n. suc n) (many_events l)
many_events (sets t ∷ l) = many_events l
many_events (unsets t ∷ l) = many_events l
many_events (picks t ∷ l) = many_events l

lowest_under : (l : List Event) (d c : ℕ) → lowest_event d c l ≤ c
lowest_under [] d c = omega arith
lowest_under (read ∷ l) d c = omega arith
lowest_under (down ∷ l) d c = lowest_under l (suc d) c
lowest_under (up ∷ l) d c = let z = lowest_under l (d - 1) (min c (d - 1)) in omega arith
lowest_under (digit i ∷ l) d c = lowest_under l d c

keep_first : (l : List Event) (d m c : ℕ) → m ≤ c → keep 1 d m l ≡ min m (lowest_event d c l)
keep_first [] d m c h = omega arith
keep_first (read ∷ l) d m c h = omega arith
keep_first (down ∷ l) d m c h = keep_first l (suc d) m c h
keep_first (up ∷ l) d m c h =
    let z = keep_first l (d - 1) (min m (d - 1)) (min c (d - 1)) (omega arith) in
    let y = lowest_under l (d - 1) (min c (d - 1)) in
    let x : min (min m (d - 1)) (lowest_event (d - 1) (min c (d - 1)) l) ≡ min m (lowest_event (d - 1) (min c (d - 1)) l) = omega arith in
    z ∙ x
keep_first (digit i ∷ l) d m c h = keep_first l d m c h

-- what is kept over one more unit
keep_more : (l : List Event) (n d m : ℕ) → suc n ≤ many l → m ≤ d
    → keep (suc (suc n)) d m l ≡ min (keep (suc n) d m l) (low_event (suc n) d l)
keep_more [] n d m h k = absurd (omega arith)
keep_more (read ∷ l) zero d m h k = keep_first l d m d k
keep_more (read ∷ l) (suc n) d m h k = keep_more l n d m (omega arith) k
keep_more (down ∷ l) n d m h k = keep_more l n (suc d) m h (omega arith)
keep_more (up ∷ l) n d m h k = keep_more l n (d - 1) (min m (d - 1)) h (omega arith)
keep_more (digit i ∷ l) n d m h k = keep_more l n d m h k

-- a parting over one more unit
pub parting_more : {n d D a a' : ℕ} {l l' : List Event} → Parting n d l l' D a a' → n ≤ many l → n ≤ many l'
    → Parting (suc n) d l l' D (min a (low_event n d l)) (min a' (low_event n d l'))
parting_more (parts_here {n} {d} {i} {j} {l} {l'} lt) h h' =
    subst
    (λ x. Parting (suc (suc n)) d (digit i ∷ l) (digit j ∷ l') d x (min (keep (suc n) d d l') (low_event (suc n) d l')))
    (keep_more l n d d h (omega arith))
    (subst
    (λ x. Parting (suc (suc n)) d (digit i ∷ l) (digit j ∷ l') d (keep (suc (suc n)) d d l) x)
    (keep_more l' n d d h' (omega arith)) (parts_here lt))
parting_more (by_down r) h h' = by_down (parting_more r h h')
parting_more (by_up r) h h' = by_up (parting_more r h h')
parting_more (by_read {n} {d} {D} {h = a} {h' = a'} {l} {l'} r) h h' = by_read (parting_more r (omega arith) (omega arith))
parting_more (by_digit e r) h h' = by_digit e (parting_more r h h')

-- where a fork leaves all lengths equal, all that is open at it is kept in both
mutual
  pub fork_alike : {n : ℕ} {s s' : Shape} {d : ℕ} → (f : Fork n s s' d) → Same n s s'
      → (first_kept f ≡ d) × (second_kept f ≡ d) × (0 < d)
  fork_alike (goes_on {n} {m} {m'} l g) same = let z = leaf_longer n m m' g l in let y = same [] in absurd (omega arith)
  fork_alike (tied l z g) same = (refl, refl, omega arith)
  fork_alike (within {n} {s} {s'} {d} a b f) same =
      let r = fork_among f (λ i q. sym (ap len (at_kids n s i q)) ∙ same (i ∷ q) ∙ ap len (at_kids n s' i q)) in
      let z = r.2 in
      let k = kids_size s in
      let k' = kids_size s' in (
        ⊎_elim
            (λ x. x.1 ∙ ap (λ m. suc m) r.0)
            (λ x. let w = x.0 in let y = first_none_among f (omega arith) in let v = r.0 in absurd (omega arith))
            (tick_case n (size s) (first_among f)),
        ⊎_elim
            (λ x. x.1 ∙ ap (λ m. suc m) r.1)
            (λ x. let w = x.0 in let y = second_none_among f (omega arith) in let v = r.1 in absurd (omega arith))
            (tick_case n (size s') (second_among f)),
        omega arith,
      )

  pub fork_among : {n : ℕ} {ks ks' : Shapes} {d : ℕ} → (f : ForkAmong n ks ks' d) → SameAmong n ks ks'
      → (first_among f ≡ d) × (second_among f ≡ d) × (0 < d)
  fork_among (child {n} {ks} {ks'} a b) same =
      let z = sym (at_head n ks []) ∙ same 0 [] ∙ at_head n ks' [] in absurd (omega arith)
  fork_among (in_head {n} {ks} {ks'} f) same =
      fork_alike f (λ q. sym (at_head n ks q) ∙ same 0 q ∙ at_head n ks' q)
  fork_among (behind_head {n} {ks} {ks'} e f) same =
      fork_among f (λ i q. sym (at_tail n ks i q) ∙ same (suc i) q ∙ at_tail n ks' i q ∙ ap (λ s. len (shape_among (n - size s) (tail ks') i q)) (sym e))

pub as_number : {n k m : ℕ} {s s' : Shape} → k ≡ m → Ahead n s s' k → Ahead n s s' m
as_number {n} {s} {s'} e a = subst (λ x. Ahead n s s' x) e a

module _ (enc : Enc) {e : Term} (p : ℕ) where
  tied_as : (n k D a a' : ℕ) (t t' : Tree e) → D ≡ k → a ≡ k → a' ≡ k → Same n (shape_of enc t) (shape_of enc t')
      → Parting n 0 (events (script enc p t)) (events (script enc p t')) D a a' → Order enc p n t t' k
  tied_as n k D a a' t t' x y z same r =
      inr (same, subst (λ m. Parting n 0 (events (script enc p t)) (events (script enc p t')) m k k) x (subst (λ m. Parting n 0 (events (script enc p t)) (events (script enc p t')) D m k) y (subst (λ m. Parting n 0 (events (script enc p t)) (events (script enc p t')) D a m) z r)))

  pub enough : (n : ℕ) (t : Tree e) → n ≤ size (shape_of enc t) → n ≤ many (events (script enc p t))
  enough n t h = let z = many_events (script enc p t) ∙ count enc p t in omega arith

  -- Two cuts go on by one unit each, and keep h and h' of their open positions: which is before the other then, and the number.
  pub order_step : (n k h h' : ℕ) (t t' : Tree e) → 0 < n → n < size (shape_of enc t) → n < size (shape_of enc t')
      → low n 0 (script enc p t) ≡ h → low n 0 (script enc p t') ≡ h' → Order enc p n t t' k
      → (h < min k h' → Order enc p (suc n) t' t (min k (min h h'))) × (min k h' ≤ h → Order enc p (suc n) t t' (min k (min h h')))
  order_step n k h h' t t' z l l' eh eh' (inl a) =
      by_rule (subst (λ x. Rule (suc n) (shape_of enc t) (shape_of enc t') k x h') eh (subst (λ x. Rule (suc n) (shape_of enc t) (shape_of enc t') k (low n 0 (script enc p t)) x) eh' (law_third enc p t t' n k z l l' a)))
    where
      by_rule : Rule (suc n) (shape_of enc t) (shape_of enc t') k h h'
          → (h < min k h' → Order enc p (suc n) t' t (min k (min h h'))) × (min k h' ≤ h → Order enc p (suc n) t t' (min k (min h h')))
      by_rule (inl r) =
          let x = r.0 in let y = r.1 in
          (λ lt. absurd (omega arith), λ ge. inl (as_number {k = k} (omega arith) r.2))
      by_rule (inr (inl r)) =
          let x = r.0 in let y = r.1 in
          (λ lt. absurd (omega arith), λ ge. inl (as_number {k = h} (omega arith) r.2))
      by_rule (inr (inr (inl r))) =
          let x = r.0 in let y = r.1 in
          (λ lt. absurd (omega arith), λ ge. inl (as_number {k = h'} (omega arith) r.2))
      by_rule (inr (inr (inr r))) =
          let x = r.0 in let y = r.1 in
          (λ lt. inl (as_number {k = h} (omega arith) r.2), λ ge. absurd (omega arith))
  order_step n k h h' t t' z l l' eh eh' (inr a) = by_verdict (law_fourth enc p t t' n k (min k h) (min k h') l l' a.0 more)
    where
      longer : Parting (suc n) 0 (events (script enc p t)) (events (script enc p t')) k (min k (low_event n 0 (events (script enc p t)))) (min k (low_event n 0 (events (script enc p t'))))
      longer = parting_more a.1 (enough n t (omega arith)) (enough n t' (omega arith))

      more : Parting (suc n) 0 (events (script enc p t)) (events (script enc p t')) k (min k h) (min k h')
      more =
          subst
          (λ x. Parting (suc n) 0 (events (script enc p t)) (events (script enc p t')) k (min k x) (min k h'))
          (sym (low_events n 0 (script enc p t)) ∙ eh)
          (subst
          (λ x. Parting (suc n) 0 (events (script enc p t)) (events (script enc p t')) k (min k (low_event n 0 (events (script enc p t)))) (min k x))
          (sym (low_events n 0 (script enc p t')) ∙ eh') longer)

      by_verdict : Verdict (suc n) (shape_of enc t) (shape_of enc t') k (min k h) (min k h')
          → (h < min k h' → Order enc p (suc n) t' t (min k (min h h'))) × (min k h' ≤ h → Order enc p (suc n) t t' (min k (min h h')))
      by_verdict (inl v) =
          let x = v.0 in (λ lt. absurd (omega arith), λ ge. inl (as_number {k = min k h'} (omega arith) v.1))
      by_verdict (inr (inl v)) =
          let x = v.0 in (
            λ lt. absurd (omega arith),
            λ ge.
                ⊎_elim
                (λ b. inl (as_number {k = min k h} (omega arith) b))
                (λ b. let y = b.1 in tied_as (suc n) (min k (min h h')) k (min k h) (min k h') t t' (omega arith) (omega arith) (omega arith) b.2 more) v.1,
          )
      by_verdict (inr (inr v)) =
          let x = v.0 in (λ lt. inl (as_number {k = min k h} (omega arith) v.1), λ ge. absurd (omega arith))

  -- Two cuts were one until n units were read, and part under D positions, of which they keep a and a'.
  pub order_fork : (n D a a' : ℕ) (t t' : Tree e) → n < size (shape_of enc t) → n < size (shape_of enc t')
      → Same n (shape_of enc t) (shape_of enc t')
      → Parting (suc n) 0 (events (script enc p t)) (events (script enc p t')) D a a'
      → (a < a' → Order enc p (suc n) t' t (min a a')) × (a' ≤ a → Order enc p (suc n) t t' (min a a'))
  order_fork n D a a' t t' l l' same r = by_verdict (law_fourth enc p t t' n D a a' l l' same r)
    where
      by_verdict : Verdict (suc n) (shape_of enc t) (shape_of enc t') D a a'
          → (a < a' → Order enc p (suc n) t' t (min a a')) × (a' ≤ a → Order enc p (suc n) t t' (min a a'))
      by_verdict (inl v) =
          let x = v.0 in (λ lt. absurd (omega arith), λ ge. inl (as_number {k = a'} (omega arith) v.1))
      by_verdict (inr (inl v)) =
          let x = v.0 in (
            λ lt. absurd (omega arith),
            λ ge.
                ⊎_elim
                (λ b. inl (as_number {k = a} (omega arith) b))
                (λ b. let y = b.1 in tied_as (suc n) (min a a') D a a' t t' (omega arith) (omega arith) (omega arith) b.2 r) v.1,
          )
      by_verdict (inr (inr v)) =
          let x = v.0 in (λ lt. inl (as_number {k = a} (omega arith) v.1), λ ge. absurd (omega arith))

  -- Where the choices part and no length differs yet, the two are tied.
  pub tied_fork : (n D a a' : ℕ) (t t' : Tree e) → 0 < n → n ≤ size (shape_of enc t) → n ≤ size (shape_of enc t')
      → Same n (shape_of enc t) (shape_of enc t')
      → Parting n 0 (events (script enc p t)) (events (script enc p t')) D a a' → Tied enc p n t t' D
  tied_fork n D a a' t t' z l l' same r =
      ⊎_elim
      (λ b.
      let f = fork_alike b.1 same in
      let d : b.0 ≡ D = let x = b.2 in omega arith in
      let k : a ≡ D = ⊎_elim (λ q. let x = q.1 in let y = f.0 in omega arith) (λ q. let x = q.0 in absurd (omega arith)) b.3 in
      let k' : a' ≡ D = ⊎_elim (λ q. let x = q.1 in let y = f.1 in omega arith) (λ q. let x = q.0 in absurd (omega arith)) b.4 in
      (same, subst (λ m. Parting n 0 (events (script enc p t)) (events (script enc p t')) D m D) k (subst (λ m. Parting n 0 (events (script enc p t)) (events (script enc p t')) D a m) k' r)))
      (λ b. absurd (no_parting b.2))
      (part_tree enc t t' n 0 D a a' [] [] (subst (λ x. Parting n 0 x (track enc t' []) D a a') (at_all enc p t t' t) (subst (λ x. Parting n 0 (events (script enc p t)) x D a a') (at_all enc p t t' t') r)))
