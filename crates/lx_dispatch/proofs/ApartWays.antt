-- A unit that is taken out of the tests of a state goes its own way, and all others go as before.
use Rattle.std.specs.Prelude.{◌≡◌, ◌≢◌, ℕ, suc, ◌-◌, ◌<◌, ◌≤◌, Bool, true, false, List, [], ◌∷◌, Option, Some, nat_le, nat_lt, refl, if◌then◌else◌}
use Rattle.std.proofs.Common.{sym, ap, ◌∙◌, arith, le-leb, leb-true, leb-false}
use Rattle.std.proofs.lemmas.Bool.{lt-leb}
use Rattle.lx_dispatch.specs.TestTrees.{class_on, split_class}
use Rattle.lx_dispatch.specs.TransitionClasses.{Split, Stretch}
use Rattle.lx_dispatch.specs.UnitApart.{apart_from, stretch_behind, unit_last, unit_then, units_before, with_test}

-- by one test
test_here : (stretch : Stretch) (split : Split) (unit : ℕ) → unit ≤ stretch.greatest → split_class (with_test stretch split) unit ≡ stretch.class
test_here stretch split unit le = ap (λ t. if t then stretch.class else split_class split unit) (le-leb unit stretch.greatest le)

test_past : (stretch : Stretch) (split : Split) (unit : ℕ) → stretch.greatest < unit → split_class (with_test stretch split) unit ≡ split_class split unit
test_past stretch split unit lt = ap (λ t. if t then stretch.class else split_class split unit) (lt-leb unit stretch.greatest lt)

module _ (greatest apart place : ℕ) where
  before_below : (low : ℕ) (class : Option ℕ) (split : Split) (unit : ℕ) → low ≤ unit → unit < apart
      → split_class (units_before greatest apart place low class split) unit ≡ class
  before_below low class split unit from below = by (nat_lt low apart) refl
    where
      by : (t : Bool) → nat_lt low apart ≡ t
          → split_class (if t then with_test (record { greatest = apart - 1; class = class }) split else split) unit ≡ class
      by true h = test_here (record { greatest = apart - 1; class = class }) split unit (omega (arith, below))
      by false h = let e : apart ≤ low = grind (arith, h) in absurd (omega (arith, e, from, below))

  before_from : (low : ℕ) (class : Option ℕ) (split : Split) (unit : ℕ) → apart ≤ unit
      → split_class (units_before greatest apart place low class split) unit ≡ split_class split unit
  before_from low class split unit from = by (nat_lt low apart) refl
    where
      by : (t : Bool) → nat_lt low apart ≡ t
          → split_class (if t then with_test (record { greatest = apart - 1; class = class }) split else split) unit ≡ split_class split unit
      by true h = let e : low < apart = grind (arith, h) in test_past (record { greatest = apart - 1; class = class }) split unit (omega (arith, e, from))
      by false h = refl

  then_own : (list : List Stretch) (last : Option ℕ) → split_class (unit_then greatest apart place list last) apart ≡ Some place
  then_own list last = test_here (record { greatest = apart; class = Some place }) (record { tests = list; last = last }) apart (omega arith)

  then_behind : (list : List Stretch) (last : Option ℕ) (unit : ℕ) → apart < unit
      → split_class (unit_then greatest apart place list last) unit ≡ class_on list last unit
  then_behind list last unit lt = test_past (record { greatest = apart; class = Some place }) (record { tests = list; last = last }) unit lt

  last_own : (last : Option ℕ) → split_class (unit_last greatest apart place last) apart ≡ Some place
  last_own last = by (nat_lt apart greatest)
    where
      by : (t : Bool) → split_class (if t then unit_then greatest apart place [] last else record { tests = []; last = Some place }) apart ≡ Some place
      by true = then_own [] last
      by false = refl

  last_behind : (last : Option ℕ) (unit : ℕ) → apart < unit → unit ≤ greatest → split_class (unit_last greatest apart place last) unit ≡ last
  last_behind last unit lt le = by (nat_lt apart greatest) refl
    where
      by : (t : Bool) → nat_lt apart greatest ≡ t
          → split_class (if t then unit_then greatest apart place [] last else record { tests = []; last = Some place }) unit ≡ last
      by true h = then_behind [] last unit lt
      by false h = let e : greatest ≤ apart = grind (arith, h) in absurd (omega (arith, e, lt, le))

  stretch_rest : (stretch : Stretch) (list : List Stretch) (last : Option ℕ) (unit : ℕ) → apart < unit
      → class_on (stretch_behind greatest apart place stretch list) last unit ≡ class_on (stretch ∷ list) last unit
  stretch_rest stretch list last unit lt = by (nat_lt apart stretch.greatest) refl
    where
      by : (t : Bool) → nat_lt apart stretch.greatest ≡ t → class_on (if t then stretch ∷ list else list) last unit ≡ class_on (stretch ∷ list) last unit
      by true h = refl
      by false h =
          let e : stretch.greatest ≤ apart = grind (arith, h) in
          sym (test_past stretch (record { tests = list; last = last }) unit (omega (arith, e, lt)))

  -- the unit itself
  pub apart_own : (low : ℕ) (list : List Stretch) (last : Option ℕ) → split_class (apart_from greatest apart place low list last) apart ≡ Some place
  apart_own low [] last = before_from low last (unit_last greatest apart place last) apart (omega arith) ∙ last_own last
  apart_own low (stretch ∷ list) last = by (nat_le apart stretch.greatest) refl (apart_own (suc stretch.greatest) list last)
    where
      by : (t : Bool) → nat_le apart stretch.greatest ≡ t
          → split_class (apart_from greatest apart place (suc stretch.greatest) list last) apart ≡ Some place
          → split_class (if t then units_before greatest apart place low stretch.class
          (unit_then greatest apart place (stretch_behind greatest apart place stretch list) last)
          else with_test stretch (apart_from greatest apart place (suc stretch.greatest) list last)) apart ≡ Some place
      by true h again =
          before_from low stretch.class (unit_then greatest apart place (stretch_behind greatest apart place stretch list) last) apart (omega arith)
          ∙ then_own (stretch_behind greatest apart place stretch list) last
      by false h again =
          test_past stretch (apart_from greatest apart place (suc stretch.greatest) list last) apart (leb-false apart stretch.greatest h) ∙ again

  -- the others
  pub apart_others : (low : ℕ) (list : List Stretch) (last : Option ℕ) (unit : ℕ) → low ≤ unit → unit ≤ greatest → unit ≢ apart
      → split_class (apart_from greatest apart place low list last) unit ≡ class_on list last unit
  apart_others low [] last unit from within other = by (nat_lt unit apart) refl
    where
      by : (t : Bool) → nat_lt unit apart ≡ t
          → split_class (units_before greatest apart place low last (unit_last greatest apart place last)) unit ≡ last
      by true h = let e : unit < apart = grind (arith, h) in before_below low last (unit_last greatest apart place last) unit from e
      by false h =
          let e : apart ≤ unit = grind (arith, h) in
          before_from low last (unit_last greatest apart place last) unit e ∙ last_behind last unit (omega (arith, e, other)) within
  apart_others low (stretch ∷ list) last unit from within other =
      by (nat_le apart stretch.greatest) refl (λ past. apart_others (suc stretch.greatest) list last unit past within other)
    where
      rest : Split
      rest = unit_then greatest apart place (stretch_behind greatest apart place stretch list) last

      split_at : apart ≤ stretch.greatest → (t : Bool) → nat_lt unit apart ≡ t
          → split_class (units_before greatest apart place low stretch.class rest) unit ≡ class_on (stretch ∷ list) last unit
      split_at top true h =
          let e : unit < apart = grind (arith, h) in
          before_below low stretch.class rest unit from e
          ∙ sym (test_here stretch (record { tests = list; last = last }) unit (omega (arith, e, top)))
      split_at top false h =
          let e : apart ≤ unit = grind (arith, h) in
          before_from low stretch.class rest unit e
          ∙ then_behind (stretch_behind greatest apart place stretch list) last unit (omega (arith, e, other))
          ∙ stretch_rest stretch list last unit (omega (arith, e, other))

      past_at : (suc stretch.greatest ≤ unit
          → split_class (apart_from greatest apart place (suc stretch.greatest) list last) unit ≡ class_on list last unit)
          → (t : Bool) → nat_le unit stretch.greatest ≡ t
          → (if t then stretch.class else split_class (apart_from greatest apart place (suc stretch.greatest) list last) unit)
          ≡ (if t then stretch.class else class_on list last unit)
      past_at again true h = refl
      past_at again false h = again (leb-false unit stretch.greatest h)

      by : (t : Bool) → nat_le apart stretch.greatest ≡ t
          → (suc stretch.greatest ≤ unit → split_class (apart_from greatest apart place (suc stretch.greatest) list last) unit ≡ class_on list last unit)
          → split_class (if t then units_before greatest apart place low stretch.class rest
          else with_test stretch (apart_from greatest apart place (suc stretch.greatest) list last)) unit ≡ class_on (stretch ∷ list) last unit
      by true h again = split_at (leb-true apart stretch.greatest h) (nat_lt unit apart) refl
      by false h again = past_at again (nat_le unit stretch.greatest) refl
