-- Sorts of the statements that test a unit, and how many of a sort a tree has on one way.
use Rattle.std.specs.Prelude.{◌≡◌, ℕ, suc, ◌+◌, ◌≤◌, max, Bool, true, false, List, [], ◌∷◌, length, map, Option, refl, if◌then◌else◌}
use Rattle.std.proofs.Common.{sym, ap, ap₂, ◌∙◌, arith, true≢false}
use Rattle.std.specs.List.{AllByRecursion, list_any}
use Rattle.lx_ccode.specs.Traces.{count_made}
use Rattle.lx_ccode.specs.declared.piece.Stmt.{Stmt}
use Rattle.lx_ccode.specs.declared.piece.Stmt.TheVariants.{IfIs, IfSet, IfUnit, Switch}
use Rattle.lx_dispatch.specs.Dispatch.{AsksRest, fronted, is_first}
use Rattle.lx_dispatch.specs.TestTrees as trees
use Rattle.lx_dispatch.specs.TestTrees.{EachTest, Question, TestTree, among, at_most, depth, fork, leaf, switch, test}
use Rattle.lx_layout.specs.FewTests.{first_questions}
use Rattle.lx_layout.specs.SuppliedLayout.{with_blocks}
use Rattle.lx_layout.specs.TestRuns.{is_first_test, is_other_test, is_test}
use Rattle.lx_layout.specs.TreeCodes.{asks, inner_size, tree_code}

-- all of them, those that ask whether a unit is one unit or in a set, and the other_tests
pub data Sort : Type 0 where
  all_tests : Sort
  first_tests : Sort
  other_tests : Sort

abbrev pub is_of : Sort → Stmt → Bool
is_of all_tests = is_test
is_of first_tests = is_first_test
is_of other_tests = is_other_test

-- what tests no unit is of no sort
pub is_of-none : (sort : Sort) (statement : Stmt) → is_test statement ≡ false → is_of sort statement ≡ false
is_of-none all_tests statement none = none
is_of-none first_tests (IfUnit greatest block) none = absurd (true≢false none)
is_of-none first_tests (IfIs unit block) none = absurd (true≢false none)
is_of-none first_tests (IfSet set block) none = absurd (true≢false none)
is_of-none first_tests (Switch cases last) none = absurd (true≢false none)
is_of-none first_tests _ none = refl
is_of-none other_tests (IfUnit greatest block) none = absurd (true≢false none)
is_of-none other_tests (IfIs unit block) none = absurd (true≢false none)
is_of-none other_tests (IfSet set block) none = absurd (true≢false none)
is_of-none other_tests (Switch cases last) none = absurd (true≢false none)
is_of-none other_tests _ none = refl

-- there are no more of one sort
pub fewer_made : (sort : Sort) (made : List Stmt) → count_made (is_of sort) made ≤ count_made is_test made
fewer_made sort [] = omega arith
fewer_made sort (statement ∷ made) =
    let again = fewer_made sort made in
    let one = by (is_test statement) refl (is_of sort statement) in
    omega (arith, again, one)
  where
    by : (t : Bool) → is_test statement ≡ t → (own : Bool) → (if is_of sort statement then 1 else 0) ≤ (if t then 1 else 0)
    by true is own = at_most_one (is_of sort statement)
      where
        at_most_one : (own : Bool) → (if own then 1 else 0) ≤ 1
        at_most_one true = omega arith
        at_most_one false = omega arith
    by false none own =
        let e : ◌≡◌ {A = ℕ} (if is_of sort statement then 1 else 0) 0 = ap {B = ℕ} (λ own. if own then 1 else 0) (is_of-none sort statement none) in
        omega (arith, e)

-- ---- in trees

-- how many statements of the sort a question is, and a switch
abbrev pub asked_of : Sort → Question → ℕ
asked_of all_tests question = 1
asked_of first_tests question = if is_first question then 1 else 0
asked_of other_tests question = if is_first question then 0 else 1

abbrev pub switched_of : Sort → ℕ
switched_of all_tests = 1
switched_of first_tests = 0
switched_of other_tests = 1

-- how many tests of the sort come at most before the way of a unit is known
abbrev pub depth_of : {A : Type 0} → Sort → TestTree A → ℕ
depth_of sort (leaf class) = 0
depth_of sort (test question class high) = asked_of sort question + depth_of sort high
depth_of sort (fork question low high) = asked_of sort question + max (depth_of sort low) (depth_of sort high)
depth_of sort (switch cases last) = switched_of sort

pub counted-asks : (sort : Sort) (question : Question) (block : ℕ) → ◌≡◌ {A = ℕ} (if is_of sort (asks question block) then 1 else 0) (asked_of sort question)
counted-asks all_tests (at_most greatest) block = refl
counted-asks all_tests (trees.is unit) block = refl
counted-asks all_tests (among set) block = refl
counted-asks first_tests (at_most greatest) block = refl
counted-asks first_tests (trees.is unit) block = refl
counted-asks first_tests (among set) block = refl
counted-asks other_tests (at_most greatest) block = refl
counted-asks other_tests (trees.is unit) block = refl
counted-asks other_tests (among set) block = refl

pub depth_of-all : {A : Type 0} (tree : TestTree A) → depth_of all_tests tree ≡ depth tree
depth_of-all (leaf class) = refl
depth_of-all (switch cases last) = refl
depth_of-all (test question class high) = let again = depth_of-all high in omega (arith, again)
depth_of-all (fork question low high) =
    let again_low = depth_of-all low in
    let again_high = depth_of-all high in
    omega (arith, again_low, again_high)

-- blocks in place of classes leave a tree as deep as it was
pub depth_of-with_blocks : (sort : Sort) (block : Option ℕ → ℕ) (tree : TestTree (Option ℕ)) → depth_of sort (with_blocks block tree) ≡ depth_of sort tree
depth_of-with_blocks sort block (leaf class) = refl
depth_of-with_blocks sort block (switch cases last) = refl
depth_of-with_blocks sort block (test question class high) = ap (λ n. asked_of sort question + n) (depth_of-with_blocks sort block high)
depth_of-with_blocks sort block (fork question low high) =
    ap₂ (λ a b. asked_of sort question + max a b) (depth_of-with_blocks sort block low) (depth_of-with_blocks sort block high)

-- ---- where first questions come first

abbrev pub AsksNoFirst : TestTree (Option ℕ) → Type 0
AsksNoFirst tree = EachTest AsksRest (λ class. Unit {0}) tree

asked_firsts-none : (question : Question) → is_first question ≡ false → asked_of first_tests question ≡ 0
asked_firsts-none question none = ap {B = ℕ} (λ t. if t then 1 else 0) none

asked_others-one : (question : Question) → is_first question ≡ false → asked_of other_tests question ≡ 1
asked_others-one question none = ap {B = ℕ} (λ t. if t then 0 else 1) none

rest_firsts : (rest : TestTree (Option ℕ)) → AsksNoFirst rest → depth_of first_tests rest ≡ 0
rest_firsts (leaf class) h = refl
rest_firsts (switch cases last) h = refl
rest_firsts (test question class high) h =
    let none = asked_firsts-none question h.0 in
    let again = rest_firsts high h.2 in
    omega (arith, none, again)
rest_firsts (fork question low high) h =
    let none = asked_firsts-none question h.0 in
    let again_low = rest_firsts low h.1 in
    let again_high = rest_firsts high h.2 in
    omega (arith, none, again_low, again_high)

rest_others : (rest : TestTree (Option ℕ)) → AsksNoFirst rest → depth_of other_tests rest ≡ depth rest
rest_others (leaf class) h = refl
rest_others (switch cases last) h = refl
rest_others (test question class high) h =
    let one = asked_others-one question h.0 in
    let again = rest_others high h.2 in
    omega (arith, one, again)
rest_others (fork question low high) h =
    let one = asked_others-one question h.0 in
    let again_low = rest_others low h.1 in
    let again_high = rest_others high h.2 in
    omega (arith, one, again_low, again_high)

module _ (rest : TestTree (Option ℕ)) (others_rest : AsksNoFirst rest) where
  pub fronted-firsts : (first : List (Question × Option ℕ)) → AllByRecursion (λ one. is_first one.0 ≡ true) first
      → depth_of first_tests (fronted first rest) ≡ length first
  fronted-firsts [] sorts = rest_firsts rest others_rest
  fronted-firsts (one ∷ first) sorts =
      let own : asked_of first_tests one.0 ≡ 1 = ap {B = ℕ} (λ t. if t then 1 else 0) sorts.0 in
      let again = fronted-firsts first sorts.1 in
      omega (arith, own, again)

  pub fronted-others : (first : List (Question × Option ℕ)) → AllByRecursion (λ one. is_first one.0 ≡ true) first
      → depth_of other_tests (fronted first rest) ≡ depth rest
  fronted-others [] sorts = rest_others rest others_rest
  fronted-others (one ∷ first) sorts =
      let own : asked_of other_tests one.0 ≡ 0 = ap {B = ℕ} (λ t. if t then 0 else 1) sorts.0 in
      let again = fronted-others first sorts.1 in
      omega (arith, own, again)

-- ---- the first questions of code

pub questions_none : (code : List Stmt) → list_any is_first_test code ≡ false → first_questions code ≡ []
questions_none [] none = refl
questions_none (IfIs unit block ∷ code) none = absurd (true≢false none)
questions_none (IfSet set block ∷ code) none = absurd (true≢false none)
questions_none (statement ∷ code) none = other statement code none (questions_none code)
  where
    other : (statement : Stmt) (code : List Stmt) → list_any is_first_test (statement ∷ code) ≡ false
        → (list_any is_first_test code ≡ false → first_questions code ≡ []) → first_questions (statement ∷ code) ≡ []
    other (IfIs unit block) code none again = absurd (true≢false none)
    other (IfSet set block) code none again = absurd (true≢false none)
    other _ code none again = again none

questions_asked : (question : Question) (block : ℕ) (code : List Stmt) → is_first question ≡ true
    → first_questions (asks question block ∷ code) ≡ question ∷ first_questions code
questions_asked (at_most greatest) block code is = absurd (true≢false (sym is))
questions_asked (trees.is unit) block code is = refl
questions_asked (among set) block code is = refl

questions_passed : (question : Question) (block : ℕ) (code : List Stmt) → is_first question ≡ false
    → first_questions (asks question block ∷ code) ≡ first_questions code
questions_passed (at_most greatest) block code none = refl
questions_passed (trees.is unit) block code none = absurd (true≢false none)
questions_passed (among set) block code none = absurd (true≢false none)

rest_asks : (block : Option ℕ → ℕ) (next : ℕ) (rest : TestTree (Option ℕ)) → AsksNoFirst rest
    → first_questions (tree_code next (with_blocks block rest)) ≡ []
rest_asks block next (leaf class) h = refl
rest_asks block next (switch cases last) h = refl
rest_asks block next (test question class high) h =
    questions_passed question (block class) (tree_code next (with_blocks block high)) h.0 ∙ rest_asks block next high h.2
rest_asks block next (fork question low high) h =
    questions_passed question next (tree_code (suc next + inner_size (with_blocks block low)) (with_blocks block high)) h.0
    ∙ rest_asks block (suc next + inner_size (with_blocks block low)) high h.2

-- those of the code of a tree are the ones that come first
pub fronted-asks : (block : Option ℕ → ℕ) (next : ℕ) (rest : TestTree (Option ℕ)) → AsksNoFirst rest → (first : List (Question × Option ℕ))
    → AllByRecursion (λ one. is_first one.0 ≡ true) first
    → first_questions (tree_code next (with_blocks block (fronted first rest))) ≡ map (λ one. one.0) first
fronted-asks block next rest others_rest [] sorts = rest_asks block next rest others_rest
fronted-asks block next rest others_rest (one ∷ first) sorts =
    questions_asked one.0 (block one.1) (tree_code next (with_blocks block (fronted first rest))) sorts.0
    ∙ ap (λ asked. one.0 ∷ asked) (fronted-asks block next rest others_rest first sorts.1)
