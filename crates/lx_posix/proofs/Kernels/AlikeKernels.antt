-- Two kernels with the same places in order and the same numbers go on alike: the kernel after one more unit, its numbers, and
-- for each of its places the place it comes from and the walk, are functions of the kernel and that unit.
use Rattle.lx_posix.proofs.Orders.Ordered.{Before}
use Rattle.lx_posix.specs.Parting.{Parting, events}
use Rattle.lx_posix.specs.Walks.{after, depth, kept, lowest}
use Rattle.std.specs.Prelude.{◌≡◌, ℕ, ◌⊎◌, min, List, [], ◌∷◌, ◌++◌, refl}
use Rattle.std.proofs.Common.{sym, ap, ◌∙◌, subst, arith, inr, ⊎_elim}
use Rattle.std.proofs.lemmas.Bool.{cases_lt}
use Rattle.lx_base.specs.declared.settings.Enc.{Enc}
use Rattle.lx_regex.specs.Term.{Term}
use Rattle.lx_regex.specs.Script.{Symbol, units, choices}
use Rattle.lx_regex.specs.Cut.{Cut, EndsInUnit, IsCut, SamePlace}
use Rattle.lx_regex.proofs.KernelCuts.Cuts.{cuts_differ}
use Rattle.lx_regex.proofs.Walks.Fronts.{DiffersBefore, choices_append}
use Rattle.lx_posix.proofs.Fronts.PartDepth.{place_depth}
use Rattle.lx_posix.proofs.Fronts.SameFront.{one_parting}
use Rattle.lx_posix.proofs.Orders.CutOrder.{before_asym, one_number, across, within}
use Rattle.lx_posix.proofs.Kernels.KernelStep.{cut_on}

differs_common : (a x y : List ℕ) → DiffersBefore (a ++ x) (a ++ y) → DiffersBefore x y
differs_common [] x y h = h
differs_common (n ∷ a) x y h = ⊎_elim (λ lt. absurd (omega arith)) (λ r. differs_common a x y r.1) h

differs_behind : (a x y : List ℕ) → DiffersBefore x y → DiffersBefore (a ++ x) (a ++ y)
differs_behind [] x y h = h
differs_behind (n ∷ a) x y h = inr (refl, differs_behind a x y h)

module _ (enc : Enc) (rules : List Term) where
  abbrev differs : (j j' : Cut) (y z : List Symbol) → Type 0
  differs j j' y z =
      DiffersBefore (choices (j.front ++ y)) (choices (j.front ++ z)) → DiffersBefore (choices (j'.front ++ y)) (choices (j'.front ++ z))

  differs_on : (j j' : Cut) (y z : List Symbol) → differs j j' y z
  differs_on j j' y z h =
      let d =
      differs_common
      (choices j.front) (choices y) (choices z)
      (subst (λ k. DiffersBefore k (choices j.front ++ choices z)) (choices_append j.front y)
      (subst (λ k. DiffersBefore (choices (j.front ++ y)) k) (choices_append j.front z) h)) in
      subst
      (λ k. DiffersBefore k (choices (j'.front ++ z))) (sym (choices_append j'.front y))
      (subst
      (λ k. DiffersBefore (choices j'.front ++ choices y) k) (sym (choices_append j'.front z))
      (differs_behind (choices j'.front) (choices y) (choices z) d))

  even : (w w' : List ℕ) (j j' : Cut) → SamePlace enc rules j j' → IsCut enc rules w j → IsCut enc rules w' j'
      → depth 0 j.front ≡ depth 0 j'.front
  even w w' j j' same ij ij' =
      place_depth enc rules j j' ij.possible.0 same ij.after_unit ij'.after_unit ij.possible.1

  -- from two places
  pub alike_across :
      (w w' : List ℕ) (u n m : ℕ) (j k j' k' : Cut) (y z : List Symbol)
      → IsCut enc rules w j → IsCut enc rules w k → IsCut enc rules w' j' → IsCut enc rules w' k'
      → SamePlace enc rules j j' → SamePlace enc rules k k'
      → EndsInUnit y → EndsInUnit z → units y ≡ u ∷ [] → units z ≡ u ∷ []
      → IsCut enc rules (w ++ u ∷ []) (after j y) → IsCut enc rules (w ++ u ∷ []) (after k z)
      → (Before enc rules j k n × Before enc rules j' k' n) ⊎ (Before enc rules k j n × Before enc rules k' j' n)
      → Before enc rules (after j y) (after k z) m → Before enc rules (after j' y) (after k' z) m
  alike_across w w' u n m j k j' k' y z ij ik ij' ik' same same' iy iz uy uz cy cz either b =
      let gy' = (cut_on enc rules w w' u j j' y same ij ij' iy uy cy.possible.0 cy.possible.1).possible in
      let gz' = (cut_on enc rules w w' u k k' z same' ik ik' iz uz cz.possible.0 cz.possible.1).possible in
      let us : units j.front ≡ units k.front = ij.reads_word ∙ sym ik.reads_word in
      let us' : units j'.front ≡ units k'.front = ij'.reads_word ∙ sym ik'.reads_word in
      let ws : units (j.front ++ y) ≡ units (k.front ++ z) = cy.reads_word ∙ sym cz.reads_word in
      let ey : kept j y ≡ kept j' y = ap (λ d. lowest d d y) (even w w' j j' same ij ij') in
      let ez : kept k z ≡ kept k' z = ap (λ d. lowest d d z) (even w w' k k' same' ik ik') in
      ⊎_elim
      (λ e.
      let s = across enc rules j k y z cy.possible.0 cz.possible.0 u u n ij.after_unit ik.after_unit us iy iz uy uz cy.possible.1 cz.possible.1 e.0 in
      let s' = across enc rules j' k' y z gy'.0 gz'.0 u u n ij'.after_unit ik'.after_unit us' iy iz uy uz gy'.1 gz'.1 e.1 in
      ⊎_elim
      (λ lt. absurd (before_asym enc rules (after j y) (after k z) _ _ ws b (s.0 lt)))
      (λ ge.
      let num = one_number enc rules (after j y) (after k z) m _ ws b (s.1 ge) in
      let t = s'.1 (omega arith) in
      subst (λ x. Before enc rules (after j' y) (after k' z) x) (omega arith) t)
      (cases_lt (kept j y) (min n (kept k z))))
      (λ e.
      let s = across enc rules k j z y cz.possible.0 cy.possible.0 u u n ik.after_unit ij.after_unit (sym us) iz iy uz uy cz.possible.1 cy.possible.1 e.0 in
      let s' = across enc rules k' j' z y gz'.0 gy'.0 u u n ik'.after_unit ij'.after_unit (sym us') iz iy uz uy gz'.1 gy'.1 e.1 in
      ⊎_elim
      (λ lt.
      let num = one_number enc rules (after j y) (after k z) m _ ws b (s.0 lt) in
      let t = s'.0 (omega arith) in
      subst (λ x. Before enc rules (after j' y) (after k' z) x) (omega arith) t)
      (λ ge. absurd (before_asym enc rules (after j y) (after k z) _ _ ws b (s.1 ge)))
      (cases_lt (kept k z) (min n (kept j y))))
      either

  -- from one place
  pub alike_within :
      (w w' : List ℕ) (u m : ℕ) (j j' : Cut) (y z : List Symbol)
      → IsCut enc rules w j → IsCut enc rules w' j' → SamePlace enc rules j j'
      → EndsInUnit y → EndsInUnit z → units y ≡ u ∷ [] → units z ≡ u ∷ []
      → IsCut enc rules (w ++ u ∷ []) (after j y) → IsCut enc rules (w ++ u ∷ []) (after j z)
      → Before enc rules (after j y) (after j z) m → Before enc rules (after j' y) (after j' z) m
  alike_within w w' u m j j' y z ij ij' same iy iz uy uz cy cz b =
      let cy' = cut_on enc rules w w' u j j' y same ij ij' iy uy cy.possible.0 cy.possible.1 in
      let cz' = cut_on enc rules w w' u j j' z same ij ij' iz uz cz.possible.0 cz.possible.1 in
      let ws : units (j.front ++ y) ≡ units (j.front ++ z) = cy.reads_word ∙ sym cz.reads_word in
      let d = even w w' j j' same ij ij' in
      ⊎_elim
      (λ e.
      let back : Before enc rules (after j z) (after j y) m =
      subst (λ l. Before enc rules (record { rule = j.rule; front = l }) (after j y) m) e
      (subst (λ l. Before enc rules (after j y) (record { rule = j.rule; front = l }) m) (sym e) b) in
      absurd (before_asym enc rules (after j y) (after j z) m m ws b back))
      (λ r. ⊎_elim
      (λ h.
      let s = within enc rules j y z cy.possible.0 cz.possible.0 u cy.after_unit cz.after_unit uy uz cy.possible.1 cz.possible.1 h in
      let s' = within enc rules j' y z cy'.possible.0 cz'.possible.0 u cy'.after_unit cz'.after_unit uy uz cy'.possible.1 cz'.possible.1 (differs_on j j' y z h) in
      let q = one_parting (subst (λ x. Parting 1 x (events (y ++ [])) (events (z ++ [])) s.0 s.1 s.2) d s.3) s'.3 in
      let q1 = q.1 in
      let q2 = q.2 in
      ⊎_elim
      (λ lt. absurd (before_asym enc rules (after j y) (after j z) _ _ ws b (s.4 lt)))
      (λ ge.
      let num = one_number enc rules (after j y) (after j z) m _ ws b (s.5 ge) in
      let t = s'.5 (omega arith) in
      subst (λ x. Before enc rules (after j' y) (after j' z) x) (omega arith) t)
      (cases_lt s.1 s.2))
      (λ h.
      let s = within enc rules j z y cz.possible.0 cy.possible.0 u cz.after_unit cy.after_unit uz uy cz.possible.1 cy.possible.1 h in
      let s' = within enc rules j' z y cz'.possible.0 cy'.possible.0 u cz'.after_unit cy'.after_unit uz uy cz'.possible.1 cy'.possible.1 (differs_on j j' z y h) in
      let q = one_parting (subst (λ x. Parting 1 x (events (z ++ [])) (events (y ++ [])) s.0 s.1 s.2) d s.3) s'.3 in
      let q1 = q.1 in
      let q2 = q.2 in
      ⊎_elim
      (λ lt.
      let num = one_number enc rules (after j y) (after j z) m _ ws b (s.4 lt) in
      let t = s'.4 (omega arith) in
      subst (λ x. Before enc rules (after j' y) (after j' z) x) (omega arith) t)
      (λ ge. absurd (before_asym enc rules (after j y) (after j z) _ _ ws b (s.5 ge)))
      (cases_lt s.1 s.2))
      r)
      (cuts_differ enc rules (after j y) (after j z) cy.possible.0 cz.possible.0 refl cy.after_unit cz.after_unit ws cy.possible.1 cz.possible.1)
