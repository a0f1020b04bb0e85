-- What `==` says of lists of ranges, and of numbers that may be none.
use Rattle.std.proofs.Common.{◌≡◌, ℕ, ◌&&◌, List, Bool, true, false, not, nat_eq, Option, Some, None, refl, sym, ap, arith}
use Rattle.std.proofs.lemmas.Bool.Decides.{Decides-eqb, nat_tests}
use Rattle.std.proofs.lemmas.Slice.Eq.{slice_eq-Decides}
use Rattle.std.specs.Bool.{Decides}
use Rattle.std.specs.Cmp.Lexicographic.{pointwise}
use Rattle.std.specs.Option.{option_eq}
use lib.Dec.{eqb}
use Rattle.lx_class.specs.declared.ranges.Range.{Range}
use Rattle.lx_class.specs.contracts.ranges.RangePartialEq.TheImpl.{eq-value}

-- ranges with equal ends are equal
same_range : (a b : Range) → a.lo ≡ b.lo → a.hi ≡ b.hi → a ≡ b
same_range a b lo hi = λ i. record { lo = lo i; hi = hi i }

tested : (a b : Range) → (eqb a.lo b.lo && eqb a.hi b.hi) ≡ true → (a.lo ≡ b.lo) × (a.hi ≡ b.hi)
tested a b is = (grind (arith, nat_tests), grind (arith, nat_tests))

passes : (a b : Range) → a ≡ b → (eqb a.lo b.lo && eqb a.hi b.hi) ≡ true
passes a b same =
    let lo : a.lo ≡ b.lo = ap (λ x. x.lo) same in
    let hi : a.hi ≡ b.hi = ap (λ x. x.hi) same in grind (arith, nat_tests)

decides : (a b : Range) → Decides (eq-value.it a b) (a ≡ b)
decides a b = (λ is. let t = tested a b is in same_range a b t.0 t.1, passes a b)

-- lists of ranges that a test finds equal
pub same_ranges : (ranges others : List Range) (same : Bool) → same ≡ pointwise eq-value.it ranges others → same ≡ true → ranges ≡ others
same_ranges ranges others same is holds = (slice_eq-Decides decides ranges others same is).0 holds

-- numbers, or none, that a test finds equal
pub option_eq-same : (one other : Option ℕ) → option_eq nat_eq one other ≡ true → one ≡ other
option_eq-same None None is = refl
option_eq-same None (Some other) is = absurd (cc is)
option_eq-same (Some one) None is = absurd (cc is)
option_eq-same (Some one) (Some other) is = ap Some ((Decides-eqb one other).0 is)

pub option_eq-differs : (one other : Option ℕ) → not (option_eq nat_eq one other) ≡ false → one ≡ other
option_eq-differs one other differs = option_eq-same one other (at (option_eq nat_eq one other) differs)
  where
    at : (same : Bool) → not same ≡ false → same ≡ true
    at true is = refl
    at false is = sym is
