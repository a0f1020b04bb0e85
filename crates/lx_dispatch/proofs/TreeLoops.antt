-- Trees of tests, as they are built from parts and written one test after another.
use Rattle.std.specs.Prelude.{◌≡◌, ℕ, zero, suc, ◌+◌, ◌-◌, ◌*◌, ◌^◌, ◌<◌, ◌≤◌, List, [], ◌∷◌, ◌++◌, length, map, take, drop, get_or, Option, None}
use Rattle.std.proofs.Common.{Box, Global, Vec, sym, ap, subst, ◌∙◌, arith, length-drop, take-append-drop}
use Rattle.std.proofs.Math.Nat.{pow-suc}
use Rattle.std.proofs.lemmas.List.{drop_more, length-take-le, map-append, take_all}
use Rattle.lx_dispatch.specs.TestTrees.{Ascend, IsTreeWithin, TestTree, at_most, fork, leaf, switch, test}
use Rattle.lx_dispatch.specs.Views.{seen_case, seen_question, seen_stretch, seen_stretches, seen_test, seen_tree}
use Rattle.lx_dispatch.specs.TransitionClasses.{Stretch}
use Rattle.lx_dispatch.specs.declared.test_trees.Question.{Question}
use Rattle.lx_dispatch.specs.declared.test_trees.Question.TheVariants.{AtMost}
use Rattle.lx_dispatch.specs.declared.test_trees.TestTree as held_tree
use Rattle.lx_dispatch.specs.declared.test_trees.TestTree.TheOpen.{TestTree-F}
use Rattle.lx_dispatch.specs.declared.test_trees.TestTree.TheVariants.{Fork, Leaf, Switch, Test, rolls-Fork, rolls-Leaf, rolls-Switch, rolls-Test}
use Rattle.lx_dispatch.specs.declared.test_trees.TestTree.TheFolds.{fold-roll-TestTree}
use Rattle.lx_dispatch.specs.declared.test_trees.UnitCase.{UnitCase}
use Rattle.lx_dispatch.specs.declared.unit_splits.Stretch as held
use Rattle.lx_dispatch.proofs.SplitTrees.{Ascend-back, Ascend-earlier, Ascend-front, within_first, within_middle}

pub seen_tree-fork : (greatest : ℕ) (low high : Box held_tree.TestTree Global)
    → seen_tree (Fork greatest low high) ≡ fork (at_most greatest) (seen_tree low.value) (seen_tree high.value)
seen_tree-fork greatest low high =
    ap seen_tree (sym (rolls-Fork greatest low high)) ∙ fold-roll-TestTree (TestTree (Option ℕ)) seen_test (TestTree-F.Fork greatest low high)

pub seen_tree-test : (question : Question) (class : Option ℕ) (high : Box held_tree.TestTree Global)
    → seen_tree (Test question class high) ≡ test (seen_question question) class (seen_tree high.value)
seen_tree-test question class high =
    ap seen_tree (sym (rolls-Test question class high)) ∙ fold-roll-TestTree (TestTree (Option ℕ)) seen_test (TestTree-F.Test question class high)

pub seen_tree-leaf : (class : Option ℕ) → seen_tree (Leaf class) ≡ leaf class
seen_tree-leaf class = ap seen_tree (sym (rolls-Leaf class)) ∙ fold-roll-TestTree (TestTree (Option ℕ)) seen_test (TestTree-F.Leaf class)

pub seen_tree-switch : (cases : Vec UnitCase Global) (last : Option ℕ) → seen_tree (Switch cases last) ≡ switch (map seen_case cases.items) last
seen_tree-switch cases last =
    ap seen_tree (sym (rolls-Switch cases last)) ∙ fold-roll-TestTree (TestTree (Option ℕ)) seen_test (TestTree-F.Switch cases last)

-- ---- by the test that comes first

-- where the first test comes first
pub within_start : (most : ℕ) (list : List held.Stretch) (none : held.Stretch) (last : Option ℕ) (above : TestTree (Option ℕ)) → 0 < length list
    → IsTreeWithin most (record { tests = seen_stretches (drop 1 list); last = last }) above
    → IsTreeWithin (suc most) (record { tests = seen_stretches list; last = last }) (test (at_most (get_or list 0 none).greatest) (get_or list 0 none).class above)
within_start most [] none last above some is = absurd (omega (arith, some))
within_start most (first ∷ list) none last above some is = within_first most (seen_stretch first) (seen_stretches list) last above is

module _ (list : List held.Stretch) (none : held.Stretch) (place : ℕ) (within : place < length list) (order : Ascend 0 (seen_stretches list)) where
  abbrev middle : held.Stretch
  middle = get_or list place none

  abbrev low : List Stretch
  low = seen_stretches (take place list)

  abbrev high : List Stretch
  high = seen_stretches (drop (place + 1) list)

  parts : seen_stretches list ≡ low ++ seen_stretch middle ∷ high
  parts =
      ap seen_stretches (sym (take-append-drop place list)) ∙ map-append seen_stretch (take place list) (drop place list)
      ∙ ap (λ (l : List held.Stretch). low ++ seen_stretches l) (drop_more list place none within)

  pub low_order : Ascend 0 (seen_stretches (take place list))
  low_order = Ascend-front 0 low (seen_stretch middle ∷ high) (subst (λ l. Ascend 0 l) parts order)

  pub high_order : Ascend 0 (seen_stretches (drop (place + 1) list))
  high_order =
      Ascend-earlier 0 middle.greatest high (omega arith) (Ascend-back 0 low (seen_stretch middle) high (subst (λ l. Ascend 0 l) parts order))

  pub within_place : (most : ℕ) (last : Option ℕ) (below above : TestTree (Option ℕ))
      → IsTreeWithin most (record { tests = seen_stretches (take place list); last = (get_or list place none).class }) below
      → IsTreeWithin most (record { tests = seen_stretches (drop (place + 1) list); last = last }) above
      → IsTreeWithin (suc most) (record { tests = seen_stretches list; last = last }) (fork (at_most (get_or list place none).greatest) below above)
  within_place most last below above is_below is_above =
      subst (λ l. IsTreeWithin (suc most) (record { tests = l; last = last }) (fork (at_most middle.greatest) below above)) (sym parts)
      (within_middle most 0 low (seen_stretch middle) high last below above (subst (λ l. Ascend 0 l) parts order) is_below is_above)

-- ---- how often a unit may be tested

-- where there is a test, one has to be left
pub some_left : (count left : ℕ) → 0 < count → count < 2 ^ left → 0 < left
some_left count zero some fit = absurd (omega (arith, some, fit))
some_left count (suc left) some fit = omega arith

-- with one test less half as many are told apart
pub half_left : (left : ℕ) → 0 < left → 2 ^ left ≡ 2 * 2 ^ (left - 1)
half_left zero some = absurd (omega (arith, some))
half_left (suc left) some =
    let less : suc left - 1 ≡ left = omega arith in
    let halves = pow-suc 2 left in
    let same : 2 ^ (suc left - 1) ≡ 2 ^ left = ap (λ n. 2 ^ n) less in
    omega (arith, halves, same)

-- ---- trees, as they are built

module _ (tests : List held.Stretch) (place left : ℕ) (last : Option ℕ) (within : place < length tests) (fit : length tests < 2 ^ left)
    (order : Ascend 0 (seen_stretches tests)) where
  abbrev none : held.Stretch
  none = record { greatest = 0; class = None }

  -- the tests behind that of the place, as the code takes them
  abbrev behind : List held.Stretch
  behind = take (length tests - (place + 1)) (drop (place + 1) tests)

  behind_all : behind ≡ drop (place + 1) tests
  behind_all = let long = length-drop (place + 1) tests in take_all (length tests - (place + 1)) (drop (place + 1) tests) (omega (arith, long, within))

  some : 0 < left
  some = some_left (length tests) left (omega (arith, within)) fit

  one_less : suc (left - 1) ≡ left
  one_less = let is = some in omega (arith, is)

  pub left_falls : left - 1 < left
  left_falls = let is = some in omega (arith, is)

  pub high_asked : place < 2 ^ (left - 1) → length tests ≤ place + 2 ^ (left - 1)
      → Ascend 0 (seen_stretches (take (length tests - (place + 1)) (drop (place + 1) tests)))
      × (length (take (length tests - (place + 1)) (drop (place + 1) tests)) < 2 ^ (left - 1))
  high_asked low high =
      let all = behind_all in
      let long : length (take (length tests - (place + 1)) (drop (place + 1) tests)) ≡ length tests - (place + 1) = ap length all ∙ length-drop (place + 1) tests in
      (subst (λ l. Ascend 0 (seen_stretches l)) (sym all) (high_order tests none place within order), omega (arith, long, low, high, within))

  pub low_asked : place < 2 ^ (left - 1)
      → Ascend 0 (seen_stretches (take place tests)) × (length (take place tests) < 2 ^ (left - 1))
  low_asked low =
      let long = length-take-le place tests (omega (arith, within)) in
      (low_order tests none place within order, omega (arith, long, low))

  above_within : (tree : held_tree.TestTree) → IsTreeWithin (left - 1) (record { tests = seen_stretches behind; last = last }) (seen_tree tree)
      → IsTreeWithin (left - 1) (record { tests = seen_stretches (drop (place + 1) tests); last = last }) (seen_tree tree)
  above_within tree is = subst (λ l. IsTreeWithin (left - 1) (record { tests = seen_stretches l; last = last }) (seen_tree tree)) behind_all is

  pub built_test : (high : Box held_tree.TestTree Global)
      → IsTreeWithin (left - 1) (record { tests = seen_stretches (take (length tests - (place + 1)) (drop (place + 1) tests)); last = last }) (seen_tree high.value)
      → place ≡ 0
      → IsTreeWithin left (record { tests = seen_stretches tests; last = last })
      (seen_tree (Test (AtMost (get_or tests place (record { greatest = 0; class = None })).greatest) (get_or tests place (record { greatest = 0; class = None })).class high))
  built_test high is at =
      let one : place + 1 ≡ 1 = omega (arith, at) in
      let above = subst (λ n. IsTreeWithin (left - 1) (record { tests = seen_stretches (drop n tests); last = last }) (seen_tree high.value)) one
      (above_within high.value is) in
      let tree = within_start (left - 1) tests none last (seen_tree high.value) (omega (arith, within)) above in
      subst (λ n. IsTreeWithin left (record { tests = seen_stretches tests; last = last })
      (seen_tree (Test (AtMost (get_or tests n none).greatest) (get_or tests n none).class high))) (sym at)
      (subst (λ tree. IsTreeWithin left (record { tests = seen_stretches tests; last = last }) tree)
      (sym (seen_tree-test (AtMost (get_or tests 0 none).greatest) (get_or tests 0 none).class high))
      (subst (λ n. IsTreeWithin n (record { tests = seen_stretches tests; last = last })
      (test (at_most (get_or tests 0 none).greatest) (get_or tests 0 none).class (seen_tree high.value))) one_less tree))

  pub built_fork : (low high : Box held_tree.TestTree Global)
      → IsTreeWithin (left - 1) (record { tests = seen_stretches (take place tests); last = (get_or tests place (record { greatest = 0; class = None })).class })
      (seen_tree low.value)
      → IsTreeWithin (left - 1) (record { tests = seen_stretches (take (length tests - (place + 1)) (drop (place + 1) tests)); last = last }) (seen_tree high.value)
      → IsTreeWithin left (record { tests = seen_stretches tests; last = last })
      (seen_tree (Fork (get_or tests place (record { greatest = 0; class = None })).greatest low high))
  built_fork low high is_low is_high =
      let tree = within_place tests none place within order (left - 1) last (seen_tree low.value) (seen_tree high.value) is_low (above_within high.value is_high) in
      subst (λ tree. IsTreeWithin left (record { tests = seen_stretches tests; last = last }) tree)
      (sym (seen_tree-fork (get_or tests place none).greatest low high))
      (subst (λ n. IsTreeWithin n (record { tests = seen_stretches tests; last = last })
      (fork (at_most (get_or tests place none).greatest) (seen_tree low.value) (seen_tree high.value))) one_less tree)
