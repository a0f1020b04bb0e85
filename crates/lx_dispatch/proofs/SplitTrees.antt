-- Trees of the tests of a split, put together from those of its parts.
use Rattle.std.specs.Prelude.{◌≡◌, ℕ, suc, ◌+◌, ◌*◌, ◌^◌, ◌<◌, ◌≤◌, List, [], ◌∷◌, ◌++◌, length, map, Option, Bool, true, false, nat_le, refl, if◌then◌else◌}
use Rattle.std.proofs.Common.{inl, inr, sym, ap, ap₂, ◌∙◌, arith, leb-false}
use Rattle.std.proofs.Math.Nat.{pow-le-pow_right}
use Rattle.std.proofs.lemmas.Bool.{lt-leb}
use Rattle.lx_dispatch.specs.TestTrees as trees
use Rattle.lx_dispatch.specs.TestTrees.{Ascend, Asked, AsksAtMost, EachTest, EndsWithin, HasEnd, HasWay, IsPlain, IsTreeOf, IsTreeWithin, TestTree, among, at_most, by_cases, by_question, class_on, depth, fork, leaf, switch, test}
use Rattle.lx_dispatch.specs.TransitionClasses.{Split, Stretch}
use Rattle.lx_dispatch.proofs.Cases.{each-cases}

-- ---- what holds of each test

-- what follows from what holds of each test holds of each
pub each-tests : {A : Type 0} (G H : Asked → Type 0) (W V : A → Type 0) → ((asked : Asked) → G asked → H asked) → ((class : A) → W class → V class)
    → (tree : TestTree A) → EachTest G W tree → EachTest H V tree
each-tests G H W V f g (leaf class) h = g class h
each-tests G H W V f g (test question class high) h = (f (by_question question) h.0, g class h.1, each-tests G H W V f g high h.2)
each-tests G H W V f g (fork question low high) h = (f (by_question question) h.0, each-tests G H W V f g low h.1, each-tests G H W V f g high h.2)
each-tests G H W V f g (switch cases last) h = (f (by_cases (map (λ case. case.0) cases)) h.0, each-cases W V g cases h.1, g last h.2)

-- what is so of greatest units
pub asks-more : (G H : ℕ → Type 0) → ((unit : ℕ) → G unit → H unit) → (asked : Asked) → AsksAtMost G asked → AsksAtMost H asked
asks-more G H f (by_question (at_most greatest)) h = f greatest h
asks-more G H f (by_question (trees.is unit)) h = absurd h
asks-more G H f (by_question (among set)) h = absurd h
asks-more G H f (by_cases units) h = absurd h

-- from greatest units to all that is asked
pub asked-at_most : (G : ℕ → Type 0) (H : Asked → Type 0) → ((unit : ℕ) → G unit → H (by_question (at_most unit))) → (asked : Asked)
    → AsksAtMost G asked → H asked
asked-at_most G H f (by_question (at_most greatest)) h = f greatest h
asked-at_most G H f (by_question (trees.is unit)) h = absurd h
asked-at_most G H f (by_question (among set)) h = absurd h
asked-at_most G H f (by_cases units) h = absurd h

-- a tree of the tests of a split is plain
pub IsPlain-within : (split : Split) (tree : TestTree (Option ℕ)) → EndsWithin split tree → IsPlain tree
IsPlain-within split tree within =
    each-tests (AsksAtMost (HasEnd split.tests)) (AsksAtMost (λ greatest. Unit {0})) (HasWay split.tests split.last) (λ class. Unit {0})
    (asks-more (HasEnd split.tests) (λ greatest. Unit {0}) (λ unit has. tt)) (λ class has. tt) tree within

HasEnd-front : (low high : List Stretch) (unit : ℕ) → HasEnd low unit → HasEnd (low ++ high) unit
HasEnd-front [] high unit h = absurd h
HasEnd-front (stretch ∷ low) high unit (inl e) = inl e
HasEnd-front (stretch ∷ low) high unit (inr h) = inr (HasEnd-front low high unit h)

HasEnd-back : (low high : List Stretch) (unit : ℕ) → HasEnd high unit → HasEnd (low ++ high) unit
HasEnd-back [] high unit h = h
HasEnd-back (stretch ∷ low) high unit h = inr (HasEnd-back low high unit h)

-- units behind the last of the first stretches go as those of the next one
HasWay-front : (low : List Stretch) (middle : Stretch) (high : List Stretch) (last class : Option ℕ) → HasWay low middle.class class
    → HasWay (low ++ middle ∷ high) last class
HasWay-front [] middle high last class e = inl e
HasWay-front (stretch ∷ low) middle high last class (inl e) = inl e
HasWay-front (stretch ∷ low) middle high last class (inr h) = inr (HasWay-front low middle high last class h)

HasWay-back : (low high : List Stretch) (last class : Option ℕ) → HasWay high last class → HasWay (low ++ high) last class
HasWay-back [] high last class h = h
HasWay-back (stretch ∷ low) high last class h = inr (HasWay-back low high last class h)

-- ---- parts in ascending order

pub Ascend-earlier : (low high : ℕ) (stretches : List Stretch) → low ≤ high → Ascend high stretches → Ascend low stretches
Ascend-earlier low high [] le h = tt
Ascend-earlier low high (stretch ∷ stretches) le h = (omega (arith, h.0), h.1)

Ascend-middle : (from : ℕ) (low : List Stretch) (middle : Stretch) (high : List Stretch) → Ascend from (low ++ middle ∷ high) → from ≤ middle.greatest
Ascend-middle from [] middle high h = h.0
Ascend-middle from (stretch ∷ low) middle high h = let g = Ascend-middle stretch.greatest low middle high h.1 in omega (arith, g, h.0)

pub Ascend-front : (from : ℕ) (low high : List Stretch) → Ascend from (low ++ high) → Ascend from low
Ascend-front from [] high h = tt
Ascend-front from (stretch ∷ low) high h = (h.0, Ascend-front stretch.greatest low high h.1)

pub Ascend-back : (from : ℕ) (low : List Stretch) (middle : Stretch) (high : List Stretch) → Ascend from (low ++ middle ∷ high)
    → Ascend middle.greatest high
Ascend-back from [] middle high h = h.1
Ascend-back from (stretch ∷ low) middle high h = Ascend-back stretch.greatest low middle high h.1

-- ---- how a unit goes

-- a unit of the first stretches goes by them, and another one by those behind
class_on-append : (low high : List Stretch) (last : Option ℕ) (unit : ℕ) → class_on (low ++ high) last unit ≡ class_on low (class_on high last unit) unit
class_on-append [] high last unit = refl
class_on-append (stretch ∷ low) high last unit =
    ap (λ class. if nat_le unit stretch.greatest then stretch.class else class) (class_on-append low high last unit)

class_on-past : (from : ℕ) (low : List Stretch) (middle : Stretch) (high : List Stretch) (class : Option ℕ) (unit : ℕ)
    → Ascend from (low ++ middle ∷ high) → middle.greatest < unit → class_on low class unit ≡ class
class_on-past from [] middle high class unit h lt = refl
class_on-past from (stretch ∷ low) middle high class unit h lt =
    let g = Ascend-middle stretch.greatest low middle high h.1 in
    ap (λ t. if t then stretch.class else class_on low class unit) (lt-leb unit stretch.greatest (omega (arith, g, lt)))
    ∙ class_on-past stretch.greatest low middle high class unit h.1 lt

class_on-middle : (from : ℕ) (low : List Stretch) (middle : Stretch) (high : List Stretch) (last : Option ℕ) (unit : ℕ)
    → Ascend from (low ++ middle ∷ high)
    → (if nat_le unit middle.greatest then class_on low middle.class unit else class_on high last unit) ≡ class_on (low ++ middle ∷ high) last unit
class_on-middle from low middle high last unit h = by (nat_le unit middle.greatest) refl ∙ sym (class_on-append low (middle ∷ high) last unit)
  where
    by : (t : Bool) → nat_le unit middle.greatest ≡ t → (if t then class_on low middle.class unit else class_on high last unit)
        ≡ class_on low (if t then middle.class else class_on high last unit) unit
    by true e = refl
    by false e = sym (class_on-past from low middle high (class_on high last unit) unit h (leb-false unit middle.greatest e))

-- ---- trees

pub within_none : (most : ℕ) (last : Option ℕ) → IsTreeWithin most (record { tests = []; last = last }) (leaf last)
within_none most last = record { picks = λ sets unit. refl; ends = refl; few = omega arith }

-- the first test comes first
pub within_first : (most : ℕ) (first : Stretch) (high : List Stretch) (last : Option ℕ) (above : TestTree (Option ℕ))
    → IsTreeWithin most (record { tests = high; last = last }) above
    → IsTreeWithin (suc most) (record { tests = first ∷ high; last = last }) (test (at_most first.greatest) first.class above)
within_first most first high last above is = record {
  picks = λ sets unit. ap (λ class. if nat_le unit first.greatest then first.class else class) (is.picks sets unit);
  ends = (
    inl refl,
    inl refl,
    each-tests (AsksAtMost (HasEnd high)) (AsksAtMost (HasEnd (first ∷ high))) (HasWay high last) (HasWay (first ∷ high) last)
        (asks-more (HasEnd high) (HasEnd (first ∷ high)) (λ unit h. inr h)) (λ class h. inr h) above is.ends,
  );
  few = let few = is.few in omega (arith, few);
}

-- another one comes first
pub within_middle : (most from : ℕ) (low : List Stretch) (middle : Stretch) (high : List Stretch) (last : Option ℕ) (below above : TestTree (Option ℕ))
    → Ascend from (low ++ middle ∷ high) → IsTreeWithin most (record { tests = low; last = middle.class }) below
    → IsTreeWithin most (record { tests = high; last = last }) above
    → IsTreeWithin (suc most) (record { tests = low ++ middle ∷ high; last = last }) (fork (at_most middle.greatest) below above)
within_middle most from low middle high last below above order is_below is_above = record {
  picks = λ sets unit.
      ap₂ (λ a b. if nat_le unit middle.greatest then a else b) (is_below.picks sets unit) (is_above.picks sets unit)
      ∙ class_on-middle from low middle high last unit order;
  ends = (
    HasEnd-back low (middle ∷ high) middle.greatest (inl refl),
    each-tests (AsksAtMost (HasEnd low)) (AsksAtMost (HasEnd (low ++ middle ∷ high))) (HasWay low middle.class) (HasWay (low ++ middle ∷ high) last)
        (asks-more (HasEnd low) (HasEnd (low ++ middle ∷ high)) (HasEnd-front low (middle ∷ high))) (HasWay-front low middle high last) below is_below.ends,
    each-tests (AsksAtMost (HasEnd high)) (AsksAtMost (HasEnd (low ++ middle ∷ high))) (HasWay high last) (HasWay (low ++ middle ∷ high) last)
        (asks-more (HasEnd high) (HasEnd (low ++ middle ∷ high)) (λ unit h. HasEnd-back low (middle ∷ high) unit (inr h))) (λ class h. HasWay-back low (middle ∷ high) last class (inr h)) above is_above.ends,
  );
  few = let few_below = is_below.few in let few_above = is_above.few in omega (arith, few_below, few_above);
}

-- few enough for a tree of the split
pub few_within : (most : ℕ) (split : Split) (tree : TestTree (Option ℕ)) → IsTreeWithin most split tree
    → 2 ^ most ≤ 2 * suc (length split.tests) + 1 → IsTreeOf split tree
few_within most split tree is fit = record {
  picks = is.picks;
  ends = is.ends;
  few = let power : 2 ^ depth tree ≤ 2 ^ most = pow-le-pow_right {n = 2} (omega arith) is.few in omega (arith, power, fit);
}
