-- Two walks from one cut, of which the first has the lesser choices, differ before either's end.
use Rattle.lx_posix.specs.Walks.{after}
use Rattle.std.specs.Prelude.{◌≡◌, ℕ, List, [], ◌∷◌, ◌++◌, refl}
use Rattle.std.proofs.Common.{sym, ap, ◌∙◌, subst, arith, inr, ⊎_elim}
use Rattle.lx_base.specs.declared.settings.Enc.{Enc}
use Rattle.lx_regex.specs.Cut.{Cut, EndsInUnit, GoesOn, IsCut}
use Rattle.lx_regex.specs.Dictionary.{IsBefore}
use Rattle.lx_regex.specs.Script.{Symbol, choices, units}
use Rattle.lx_regex.specs.Term.{Term}
use Rattle.lx_regex.proofs.KernelCuts.Cuts.{cuts_differ}
use Rattle.lx_regex.proofs.KernelCuts.Kernels.{before_asym}
use Rattle.lx_regex.proofs.Walks.Fronts.{DiffersBefore, before_self, choices_append}
use Rattle.lx_regex.proofs.Walks.PlainWalk.{units_append}
use Rattle.lx_regex.proofs.Walks.Scripts.{differs_is_before}

before_behind : (zs xs ys : List ℕ) → IsBefore xs ys → IsBefore (zs ++ xs) (zs ++ ys)
before_behind [] xs ys h = h
before_behind (z ∷ zs) xs ys h = inr (refl, before_behind zs xs ys h)

pub choices_behind : (front y z : List Symbol) → IsBefore (choices y) (choices z) → IsBefore (choices (front ++ y)) (choices (front ++ z))
choices_behind front y z h =
    subst
    (λ x. IsBefore x (choices (front ++ z))) (sym (choices_append front y))
    (subst
    (λ x. IsBefore (choices front ++ choices y) x) (sym (choices_append front z))
    (before_behind (choices front) (choices y) (choices z) h))

before_in_front : (zs xs ys : List ℕ) → IsBefore (zs ++ xs) (zs ++ ys) → IsBefore xs ys
before_in_front [] xs ys h = h
before_in_front (z ∷ zs) xs ys h = ⊎_elim (λ lt. absurd (omega arith)) (λ k. before_in_front zs xs ys k.1) h

-- and the other way round
pub walk_before : (front y z : List Symbol) → IsBefore (choices (front ++ y)) (choices (front ++ z)) → IsBefore (choices y) (choices z)
walk_before front y z h =
    before_in_front
    (choices front) (choices y) (choices z)
    (subst
    (λ x. IsBefore x (choices front ++ choices z)) (choices_append front y)
    (subst (λ x. IsBefore (choices (front ++ y)) x) (choices_append front z) h))

module _ (enc : Enc) (rules : List Term) where
  pub walks_differ :
      (j : Cut) (y z p q : List Symbol) → EndsInUnit (j.front ++ y) → EndsInUnit (j.front ++ z)
      → units (j.front ++ y) ≡ units (j.front ++ z) → GoesOn enc rules (after j y) p → GoesOn enc rules (after j z) q
      → IsBefore (choices y) (choices z) → DiffersBefore (choices (j.front ++ y)) (choices (j.front ++ z))
  walks_differ j y z p q iy iz u gy gz h =
      let b = choices_behind j.front y z h in
      ⊎_elim
      (λ e. absurd (before_self (choices (j.front ++ z)) (subst (λ x. IsBefore (choices x) (choices (j.front ++ z))) e b)))
      (λ d. ⊎_elim (λ d. d) (λ d. absurd (before_asym (choices (j.front ++ y)) (choices (j.front ++ z)) b (differs_is_before _ _ d))) d)
      (cuts_differ enc rules (after j y) (after j z) p q refl iy iz u gy gz)

  -- the unit that a walk reads
  pub walk_units : (w : List ℕ) (j : Cut) (y : List Symbol) (u : ℕ) → IsCut enc rules w j → IsCut enc rules (w ++ u ∷ []) (after j y)
      → units y ≡ u ∷ []
  walk_units w j y u ij jy =
      drop_word w (units y) (u ∷ [])
      (ap (λ x. x ++ units y) (sym ij.reads_word) ∙ sym (units_append j.front y) ∙ jy.reads_word)
    where
      drop_word : (w x y : List ℕ) → w ++ x ≡ w ++ y → x ≡ y
      drop_word [] x y e = e
      drop_word (a ∷ w) x y e = drop_word w x y (cc)
