use Rattle.std.proofs.Common.{◌≡◌, ℕ, true, ◌&&◌, ap, sym, ◌∙◌, arith, Some}
use lib.Dec.{eqb}
use Rattle.std.specs.Bool.{Decides}
use Rattle.std.proofs.lemmas.Slice.Eq.{slice_eq-Decides}
use Rattle.std.proofs.lemmas.Bool.Decides.{nat_tests}
use Rattle.std.proofs.lemmas.Option.{slice_get-get_or}
use Rattle.lx_class.specs.declared.ranges.Range.{Range}
use Rattle.lx_class.specs.contracts.ranges.RangePartialEq.TheImpl.{eq-value}
use Rattle.lx_tnfa.proofs.classes.has_class.Goals as goal

-- ranges with equal ends are equal
same_range : (a b : Range) → a.lo ≡ b.lo → a.hi ≡ b.hi → a ≡ b
same_range a b lo hi = ap (λ x. range x a.hi) lo ∙ ap (λ x. range b.lo x) hi
  where
    range : ℕ → ℕ → Range
    range x y = record { lo = x; hi = y }

tested : (a b : Range) → (eqb a.lo b.lo && eqb a.hi b.hi) ≡ true → (a.lo ≡ b.lo) × (a.hi ≡ b.hi)
tested a b is = (grind (arith, nat_tests), grind (arith, nat_tests))

passes : (a b : Range) → a ≡ b → (eqb a.lo b.lo && eqb a.hi b.hi) ≡ true
passes a b same =
    let lo : a.lo ≡ b.lo = ap (λ x. x.lo) same in
    let hi : a.hi ≡ b.hi = ap (λ x. x.hi) same in grind (arith, nat_tests)

decides : (a b : Range) → Decides (eq-value.it a b) (a ≡ b)
decides a b = (λ is. let t = tested a b is in same_range a b t.0 t.1, passes a b)

pub returns-in-Some : goal.returns-in-Some
returns-in-Some c same =
    let decided = slice_eq-Decides decides c.ranges-in-Some.result.now c.ranges-in-Some-2.result.now c.eq.result c.eq.ensures in
    let found = c.in-Some.ensures.lookup in (
      c.in-Some.class.now,
      slice_get-get_or c.args.list.now c.args.number c.in-Some.class.now found.3.0 ∙ ap Some (sym found.1),
      sym c.ranges-in-Some.ensures.ranges ∙ decided.0 same ∙ c.ranges-in-Some-2.ensures.ranges,
    )
