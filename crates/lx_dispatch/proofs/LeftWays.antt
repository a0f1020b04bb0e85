-- The stretches that are left lead each unit on which it is not decided as the whole split does.
use Rattle.std.specs.Prelude.{◌≡◌, ℕ, zero, suc, ◌+◌, ◌-◌, ◌<◌, ◌≤◌, ◌&&◌, Bool, true, false, List, [], ◌∷◌, Option, Some, None, unwrap_or, nat_le, if◌then◌else◌, refl}
use Rattle.std.proofs.Common.{inl, inr, sym, ap, subst, ◌∙◌, arith, le-leb, leb-true, leb-false, true≢false}
use Rattle.std.proofs.lemmas.Bool.{lt-leb}
use Rattle.lx_dispatch.specs.LeftUnits.{all_between, all_from, left_before, left_from, left_split}
use Rattle.lx_dispatch.specs.TestTrees.{Ascend, HasEnd, HasWay, class_on, split_class}
use Rattle.lx_dispatch.specs.TransitionClasses.{Split, Stretch, first_class, same_place}
use Rattle.lx_dispatch.proofs.SplitLoops.{same_place-same}
use Rattle.lx_dispatch.proofs.SplitTrees.{Ascend-earlier}
use Rattle.lx_dispatch.proofs.Splits.{class_on-first}

-- ---- units on which it is decided

decided-from : (test : ℕ → Bool) (low count unit : ℕ) → all_from test low count ≡ true → low ≤ unit → unit < low + count → test unit ≡ true
decided-from test low zero unit all from to = absurd (omega (arith, from, to))
decided-from test low (suc count) unit all from to =
    by (test low) refl all (λ rest more. decided-from test (suc low) count unit rest (omega (arith, more)) (omega (arith, to)))
  where
    by : (t : Bool) → test low ≡ t → (t && all_from test (suc low) count) ≡ true
        → (all_from test (suc low) count ≡ true → low < unit → test unit ≡ true) → test unit ≡ true
    by false is all again = absurd (true≢false (sym all))
    by true is all again = at (nat_le unit low) refl
      where
        at : (t : Bool) → nat_le unit low ≡ t → test unit ≡ true
        at true e = let le = leb-true unit low e in let same : unit ≡ low = omega (arith, le, from) in ap test same ∙ is
        at false e = again all (leb-false unit low e)

pub decided-between : (test : ℕ → Bool) (low greatest unit : ℕ) → all_between test low greatest ≡ true → low ≤ unit → unit ≤ greatest → test unit ≡ true
decided-between test low greatest unit all from to = decided-from test low (suc greatest - low) unit all from (omega (arith, from, to))

module _ (decided : ℕ → Bool) (top : ℕ) where
  -- ---- order

  abbrev pub IsInOrder : (low : ℕ) → Option Split → Type 0
  IsInOrder low None = Unit {0}
  IsInOrder low (Some split) = Ascend low split.tests

  Ascend-before : (from : ℕ) (stretch : Stretch) (split : Option Split) → from ≤ stretch.greatest → IsInOrder stretch.greatest split
      → Ascend from (left_before decided top stretch split).tests
  Ascend-before from stretch None le order = tt
  Ascend-before from stretch (Some split) le order = by (same_place stretch.class (first_class split.tests split.last))
    where
      by : (t : Bool) → Ascend from (if t then split else record { tests = stretch ∷ split.tests; last = split.last }).tests
      by true = Ascend-earlier from stretch.greatest split.tests le order
      by false = (le, order)

  in_order-earlier : (from high : ℕ) (split : Option Split) → from ≤ high → IsInOrder high split → IsInOrder from split
  in_order-earlier from high None le order = tt
  in_order-earlier from high (Some split) le order = Ascend-earlier from high split.tests le order

  in_order-left : (from low : ℕ) (list : List Stretch) (last : Option ℕ) → Ascend from list → IsInOrder from (left_from decided top low list last)
  in_order-left from low [] last order = by (all_between decided low top)
    where
      by : (t : Bool) → IsInOrder from (if t then None else Some (record { tests = []; last = last }))
      by true = tt
      by false = tt
  in_order-left from low (stretch ∷ list) last order =
      by (all_between decided low stretch.greatest) (in_order-left stretch.greatest (suc stretch.greatest) list last order.1)
    where
      by : (t : Bool) → IsInOrder stretch.greatest (left_from decided top (suc stretch.greatest) list last)
          → IsInOrder from (if t then left_from decided top (suc stretch.greatest) list last
          else Some (left_before decided top stretch (left_from decided top (suc stretch.greatest) list last)))
      by true again = in_order-earlier from stretch.greatest (left_from decided top (suc stretch.greatest) list last) order.0 again
      by false again = Ascend-before from stretch (left_from decided top (suc stretch.greatest) list last) order.0 again

  pub Ascend-left_split : (split : Split) → Ascend 0 split.tests → Ascend 0 (left_split decided top split).tests
  Ascend-left_split split order = by (left_from decided top 0 split.tests split.last) (in_order-left 0 0 split.tests split.last order)
    where
      by : (found : Option Split) → IsInOrder 0 found → Ascend 0 (unwrap_or found (record { tests = []; last = split.last })).tests
      by None order = tt
      by (Some left) order = order

  -- ---- ways

  -- there is a split, and by it the unit goes so
  abbrev pub Leads : (unit : ℕ) → (class : Option ℕ) → Option Split → Type 0
  Leads unit class None = ⊥
  Leads unit class (Some split) = split_class split unit ≡ class

  leads-before : (unit : ℕ) (stretch : Stretch) (split : Option Split) → unit ≤ stretch.greatest → IsInOrder stretch.greatest split
      → split_class (left_before decided top stretch split) unit ≡ stretch.class
  leads-before unit stretch None le order = refl
  leads-before unit stretch (Some split) le order = by (same_place stretch.class (first_class split.tests split.last)) refl
    where
      by : (t : Bool) → same_place stretch.class (first_class split.tests split.last) ≡ t
          → split_class (if t then split else record { tests = stretch ∷ split.tests; last = split.last }) unit ≡ stretch.class
      by true e =
          class_on-first stretch.greatest unit split.tests split.last order le
          ∙ sym (same_place-same stretch.class (first_class split.tests split.last) e)
      by false e = ap (λ (t : Bool). if t then stretch.class else class_on split.tests split.last unit) (le-leb unit stretch.greatest le)

  leads-behind : (unit : ℕ) (stretch : Stretch) (class : Option ℕ) (split : Option Split) → stretch.greatest < unit → Leads unit class split
      → split_class (left_before decided top stretch split) unit ≡ class
  leads-behind unit stretch class None more leads = absurd leads
  leads-behind unit stretch class (Some split) more leads = by (same_place stretch.class (first_class split.tests split.last))
    where
      by : (t : Bool) → split_class (if t then split else record { tests = stretch ∷ split.tests; last = split.last }) unit ≡ class
      by true = leads
      by false =
          ap (λ (t : Bool). if t then stretch.class else class_on split.tests split.last unit) (lt-leb unit stretch.greatest more) ∙ leads

  pub leads-left : (low : ℕ) (list : List Stretch) (last : Option ℕ) (from unit : ℕ) → Ascend from list → low ≤ unit → unit ≤ top → decided unit ≡ false
      → Leads unit (class_on list last unit) (left_from decided top low list last)
  leads-left low [] last from unit order above le open_ = by (all_between decided low top) refl
    where
      by : (t : Bool) → all_between decided low top ≡ t → Leads unit last (if t then None else Some (record { tests = []; last = last }))
      by true all = absurd (true≢false (sym (decided-between decided low top unit all above le) ∙ open_))
      by false some = refl
  leads-left low (stretch ∷ list) last from unit order above le open_ =
      at (nat_le unit stretch.greatest) refl (λ more. leads-left (suc stretch.greatest) list last stretch.greatest unit order.1 more le open_)
    where
      at : (t : Bool) → nat_le unit stretch.greatest ≡ t
          → (suc stretch.greatest ≤ unit → Leads unit (class_on list last unit) (left_from decided top (suc stretch.greatest) list last))
          → Leads unit (if t then stretch.class else class_on list last unit)
          (if all_between decided low stretch.greatest then left_from decided top (suc stretch.greatest) list last
          else Some (left_before decided top stretch (left_from decided top (suc stretch.greatest) list last)))
      at true e again = by (all_between decided low stretch.greatest) refl
        where
          by : (t : Bool) → all_between decided low stretch.greatest ≡ t
              → Leads unit stretch.class (if t then left_from decided top (suc stretch.greatest) list last
              else Some (left_before decided top stretch (left_from decided top (suc stretch.greatest) list last)))
          by true all =
              absurd (true≢false (sym (decided-between decided low stretch.greatest unit all above (leb-true unit stretch.greatest e)) ∙ open_))
          by false some =
              leads-before unit stretch (left_from decided top (suc stretch.greatest) list last) (leb-true unit stretch.greatest e)
              (in_order-left stretch.greatest (suc stretch.greatest) list last order.1)
      at false e again = by (all_between decided low stretch.greatest)
        where
          more : stretch.greatest < unit
          more = leb-false unit stretch.greatest e

          by : (t : Bool) → Leads unit (class_on list last unit) (if t then left_from decided top (suc stretch.greatest) list last
              else Some (left_before decided top stretch (left_from decided top (suc stretch.greatest) list last)))
          by true = again more
          by false =
              leads-behind unit stretch (class_on list last unit) (left_from decided top (suc stretch.greatest) list last) more (again more)

  pub split_class-left_split : (split : Split) (unit : ℕ) → Ascend 0 split.tests → unit ≤ top → decided unit ≡ false
      → split_class (left_split decided top split) unit ≡ split_class split unit
  split_class-left_split split unit order le open_ =
      by (left_from decided top 0 split.tests split.last) (leads-left 0 split.tests split.last 0 unit order (omega arith) le open_)
    where
      by : (found : Option Split) → Leads unit (split_class split unit) found
          → split_class (unwrap_or found (record { tests = []; last = split.last })) unit ≡ split_class split unit
      by None leads = absurd leads
      by (Some left) leads = leads

  -- ---- ends and ways of stretches

  -- the ends and the ways of the split are those of stretches
  abbrev pub IsPartOf : List Stretch → (last : Option ℕ) → Split → Type 0
  IsPartOf list last split = ((unit : ℕ) → HasEnd split.tests unit → HasEnd list unit)
      × ((class : Option ℕ) → HasWay split.tests split.last class → HasWay list last class)

  abbrev pub IsSomePartOf : List Stretch → (last : Option ℕ) → Option Split → Type 0
  IsSomePartOf list last None = Unit {0}
  IsSomePartOf list last (Some split) = IsPartOf list last split

  part-before : (stretch : Stretch) (list : List Stretch) (last : Option ℕ) (split : Option Split) → IsSomePartOf list last split
      → IsPartOf (stretch ∷ list) last (left_before decided top stretch split)
  part-before stretch list last None part = (λ unit h. absurd h, λ class h. inl h)
  part-before stretch list last (Some split) part = by (same_place stretch.class (first_class split.tests split.last))
    where
      ends : (unit : ℕ) → HasEnd (stretch ∷ split.tests) unit → HasEnd (stretch ∷ list) unit
      ends unit (inl e) = inl e
      ends unit (inr h) = inr (part.0 unit h)

      ways : (class : Option ℕ) → HasWay (stretch ∷ split.tests) split.last class → HasWay (stretch ∷ list) last class
      ways class (inl e) = inl e
      ways class (inr h) = inr (part.1 class h)

      by : (t : Bool) → IsPartOf (stretch ∷ list) last (if t then split else record { tests = stretch ∷ split.tests; last = split.last })
      by true = (λ unit h. inr (part.0 unit h), λ class h. inr (part.1 class h))
      by false = (ends, ways)

  part-more : (stretch : Stretch) (list : List Stretch) (last : Option ℕ) (split : Option Split) → IsSomePartOf list last split
      → IsSomePartOf (stretch ∷ list) last split
  part-more stretch list last None part = tt
  part-more stretch list last (Some split) part = (λ unit h. inr (part.0 unit h), λ class h. inr (part.1 class h))

  part-left : (low : ℕ) (list : List Stretch) (last : Option ℕ) → IsSomePartOf list last (left_from decided top low list last)
  part-left low [] last = by (all_between decided low top)
    where
      by : (t : Bool) → IsSomePartOf [] last (if t then None else Some (record { tests = []; last = last }))
      by true = tt
      by false = (λ unit h. h, λ class h. h)
  part-left low (stretch ∷ list) last = by (all_between decided low stretch.greatest) (part-left (suc stretch.greatest) list last)
    where
      by : (t : Bool) → IsSomePartOf list last (left_from decided top (suc stretch.greatest) list last)
          → IsSomePartOf (stretch ∷ list) last (if t then left_from decided top (suc stretch.greatest) list last
          else Some (left_before decided top stretch (left_from decided top (suc stretch.greatest) list last)))
      by true again = part-more stretch list last (left_from decided top (suc stretch.greatest) list last) again
      by false again = part-before stretch list last (left_from decided top (suc stretch.greatest) list last) again

  HasWay-last : (list : List Stretch) (last : Option ℕ) → HasWay list last last
  HasWay-last [] last = refl
  HasWay-last (stretch ∷ list) last = inr (HasWay-last list last)

  pub part-left_split : (split : Split) → IsPartOf split.tests split.last (left_split decided top split)
  part-left_split split = by (left_from decided top 0 split.tests split.last) (part-left 0 split.tests split.last)
    where
      by : (found : Option Split) → IsSomePartOf split.tests split.last found
          → IsPartOf split.tests split.last (unwrap_or found (record { tests = []; last = split.last }))
      by None part = (λ unit h. absurd h, λ class h. subst (λ way. HasWay split.tests split.last way) (sym h) (HasWay-last split.tests split.last))
      by (Some left) part = part
