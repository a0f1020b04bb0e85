-- The segments that are listed are all from the places.
use Rattle.std.proofs.Common.{inl, inr, sym, ap, ap₂, ◌∙◌, subst, arith}
use Rattle.std.specs.Prelude.{◌≡◌, ℕ, zero, suc, ◌+◌, ◌⊎◌, List, [], ◌∷◌, refl}
use Rattle.lx_regex.specs.Script.{Symbol}
use Rattle.lx_tnfa.specs.DepthFirst.{Found}
use Rattle.lx_tnfa.specs.LeafReadings.{IsNth}
use Rattle.lx_tnfa.proofs.Searching.SimplePaths.{SimplePathFrom}
use Rattle.lx_tdfa.specs.Kernels.{Candidate, Key, candidates, candidates_at, candidates_by}
use Rattle.lx_tdfa.proofs.WordKernels.OrderedLists.{IsMember, append_member_left, append_member_right, at_zero_nth, member_append, nth_at_zero}
use Rattle.lx_tdfa.proofs.WordKernels.RunSteps.{IsSegment}
use Rattle.lx_posix.specs.Comparing.{Ranked}
use Rattle.lx_posix.specs.KernelLists.{all_segments, places_of}
use Rattle.lx_posix.specs.Paths.{paths_from}
use Rattle.lx_posix.proofs.Lists.AllPaths.{paths_from-has, paths_from-sound}

-- the ways to read a unit at one state
pub at_back : (i : ℕ) (ws : List ℕ) (j : ℕ) (qs : List ℕ) (n : Candidate) → IsMember (candidates_at i ws j qs) n
    → (n.from ≡ i) × (n.key.way ≡ ws) × (d : ℕ) × (n.key.pick ≡ j + d) × IsNth qs d n.to
at_back i ws j [] n m = absurd m
at_back i ws j (q ∷ qs) n (inl e) =
    let z : j ≡ j + 0 = omega arith in (
      ap (λ (c : Candidate). c.from) (sym e),
      ap (λ (c : Candidate). c.key.way) (sym e),
      0,
      ap (λ (c : Candidate). c.key.pick) (sym e) ∙ z,
      ap (λ (c : Candidate). c.to) e,
    )
at_back i ws j (q ∷ qs) n (inr m) =
    let r = at_back i ws (suc j) qs n m in
    let z : suc j + r.2 ≡ j + suc r.2 = omega arith in
    (r.0, r.1, suc r.2, r.3 ∙ z, r.4)

at_has : (i : ℕ) (ws : List ℕ) (j : ℕ) (qs : List ℕ) (d q : ℕ) → IsNth qs d q
    → IsMember (candidates_at i ws j qs) (record { from = i; key = record { way = ws; pick = j + d }; to = q })
at_has i ws j [] d q h = absurd h
at_has i ws j (x ∷ qs) zero q h =
    let z : j ≡ j + 0 = omega arith in
    inl (ap₂ (λ a b. record { from = i; key = record { way = ws; pick = a }; to = b }) z h)
at_has i ws j (x ∷ qs) (suc d) q h =
    let z : suc j + d ≡ j + suc d = omega arith in
    inr
    (subst (λ k. IsMember (candidates_at i ws (suc j) qs) (record { from = i; key = record { way = ws; pick = k }; to = q })) z
    (at_has i ws (suc j) qs d q h))

pub by_back : (cs qs : List ℕ) (n : Candidate) → IsMember (candidates_by cs qs) n → (cs ≡ n.from ∷ n.key.way) × IsNth qs n.key.pick n.to
by_back [] qs n m = absurd m
by_back (i ∷ ws) qs n m =
    let r = at_back i ws 0 qs n m in
    let z : 0 + r.2 ≡ r.2 = omega arith in
    (ap₂ (λ a b. a ∷ b) (sym r.0) (sym r.1), subst (λ k. IsNth qs k n.to) (sym (r.3 ∙ z)) r.4)

by_has : (i : ℕ) (ws qs : List ℕ) (d q : ℕ) → IsNth qs d q
    → IsMember (candidates_by (i ∷ ws) qs) (record { from = i; key = record { way = ws; pick = d }; to = q })
by_has i ws qs d q h =
    let z : 0 + d ≡ d = omega arith in
    subst (λ k. IsMember (candidates_at i ws 0 qs) (record { from = i; key = record { way = ws; pick = k }; to = q })) z
    (at_has i ws 0 qs d q h)

-- all ways to read a unit, and where they come from
pub all_back : (r : ℕ → List ℕ) (es : List Found) (n : Candidate) → IsMember (candidates r es) n
    → (e : Found) × IsMember es e × (e.choices ≡ n.from ∷ n.key.way) × IsNth (r e.state) n.key.pick n.to
all_back r [] n m = absurd m
all_back r (e ∷ es) n m = go (all_back r es n) (member_append (candidates_by e.choices (r e.state)) (candidates r es) n m)
  where
    go : (IsMember (candidates r es) n → (f : Found) × IsMember es f × (f.choices ≡ n.from ∷ n.key.way) × IsNth (r f.state) n.key.pick n.to)
        → IsMember (candidates_by e.choices (r e.state)) n ⊎ IsMember (candidates r es) n
        → (f : Found) × IsMember (e ∷ es) f × (f.choices ≡ n.from ∷ n.key.way) × IsNth (r f.state) n.key.pick n.to
    go h (inl a) = let b = by_back e.choices (r e.state) n a in (e, inl refl, b.0, b.1)
    go h (inr a) = let b = h a in (b.0, inr b.1, b.2, b.3)

pub all_has : (r : ℕ → List ℕ) (es : List Found) (i : ℕ) (ws : List ℕ) (t d q : ℕ)
    → IsMember es (record { state = t; choices = i ∷ ws }) → IsNth (r t) d q
    → IsMember (candidates r es) (record { from = i; key = record { way = ws; pick = d }; to = q })
all_has r [] i ws t d q m h = absurd m
all_has r (x ∷ es) i ws t d q (inl e) h =
    append_member_left (candidates_by x.choices (r x.state)) (candidates r es) _
    (subst (λ (f : Found). IsMember (candidates_by f.choices (r f.state))
    (record { from = i; key = record { way = ws; pick = d }; to = q }))
    (sym e) (by_has i ws (r t) d q h))
all_has r (x ∷ es) i ws t d q (inr m) h =
    append_member_right (candidates_by x.choices (r x.state)) (candidates r es) _ (all_has r es i ws t d q m h)

module _ (graph : List (List ℕ)) (after : ℕ → ℕ → List ℕ) (said : ℕ → ℕ → Key → List Symbol) (starts : List ℕ) where
  pub segments_sound : (ranks : List Ranked) (u : ℕ) (n : Candidate) → IsMember (all_segments graph after said starts ranks u) n
      → (p : ℕ) × IsNth (places_of ranks) n.from p × IsSegment graph after said starts p u n.key n.to
  segments_sound ranks u n m =
      let b = all_back (λ t. after t u) (paths_from graph (places_of ranks)) n m in
      let c : SimplePathFrom graph [] 0 (places_of ranks) (n.from ∷ n.key.way) b.0.state =
      subst (λ k. SimplePathFrom graph [] 0 (places_of ranks) k b.0.state) b.2 (paths_from-sound graph (places_of ranks) b.0 b.1) in
      (c.0, at_zero_nth (places_of ranks) n.from c.0 c.1, (b.0.state, c.2, b.3))

  pub segments_have : (ranks : List Ranked) (u : ℕ) (n : Candidate) (p : ℕ) → IsNth (places_of ranks) n.from p
      → IsSegment graph after said starts p u n.key n.to → IsMember (all_segments graph after said starts ranks u) n
  segments_have ranks u n p at s =
      all_has (λ t. after t u) (paths_from graph (places_of ranks)) n.from n.key.way s.0 n.key.pick n.to
      (paths_from-has graph (places_of ranks) n.from n.key.way s.0 (p, nth_at_zero (places_of ranks) n.from p at, s.1)) s.2
