-- What reads is stored by its number.
use Rattle.std.specs.Prelude.{◌≡◌, ℕ, zero, suc, ◌+◌, length, Option, Some, None, Bool, true, false, if◌then◌else◌, nat_eq, refl}
use Rattle.std.proofs.Common.{ap, ap₂, sym, ◌∙◌, eqb-true}
use Rattle.lx_auto.specs.declared.automaton.Auto.{Auto}
use Rattle.lx_layout.specs.Layout.{class_block}
use Rattle.lx_layout.specs.Parts.{Demand, number_of, stored_from}
use Rattle.lx_layout.specs.Halting.{is_entered}
use Rattle.lx_layout.specs.LaidParts.{IsEntryExits, IsExits, end_at, entry_tests_at, entry_tests_blocks, entry_way, first_at, given_at, own_at, seen_demand, supply_at, tests_blocks, trees_at}
use Rattle.lx_layout.specs.declared.readers.Exits.{Exits}
use Rattle.lx_layout.specs.declared.state_plans.PartPlans.{PartPlans}
use Rattle.lx_layout.specs.SuppliedLayout.{kept, read_blocks, reader_blocks, with_blocks}
use Rattle.lx_layout.specs.Supplies.{Reader, entry, state}
use Rattle.lx_dispatch.specs.TestTrees.{TestTree, fork, leaf, switch, test}
use Rattle.lx_dispatch.specs.TransitionClasses.{same_place, transition_classes}
use Rattle.lx_layout.specs.Ways.{constant, way_of}
use Rattle.lx_dispatch.proofs.Cases.{cases_by-same}

-- ---- by a number

module _ (demand : Demand) (end_rule : Option ℕ) (auto : Auto) (first : ℕ) (reader : Reader) where
  -- as it is given by the numbers of all that reads
  abbrev numbers : (stores : Bool) → Option (Reader → ℕ)
  numbers stores = stored_from demand end_rule auto stores first

  abbrev one : (stores : Bool) → Option (Reader → ℕ)
  one stores = constant (if stores then Some (number_of demand end_rule auto first reader) else None)

  read-same : (stores : Bool) (units from : ℕ) (tree : TestTree ℕ) → read_blocks (one stores) entry units from tree ≡ read_blocks (numbers stores) reader units from tree
  read-same false zero from tree = refl
  read-same true zero from tree = refl
  read-same false (suc units) from tree = refl
  read-same true (suc units) from tree = refl

  pub reader-same : (stores : Bool) (eof : Option ℕ) (units from : ℕ) (tree : TestTree ℕ)
      → reader_blocks (one stores) entry eof units from tree ≡ reader_blocks (numbers stores) reader eof units from tree
  reader-same stores (Some unit) units from tree = read-same stores zero from tree
  reader-same false None zero from (leaf block) = refl
  reader-same true None zero from (leaf block) = refl
  reader-same false None (suc units) from (leaf block) = refl
  reader-same true None (suc units) from (leaf block) = refl
  reader-same stores None units from (test question block high) = read-same stores units from (test question block high)
  reader-same stores None units from (fork question low high) = read-same stores units from (fork question low high)
  reader-same stores None units from (switch cases last) = read-same stores units from (switch cases last)

-- ---- where tests lead

pub with_blocks-same : (a b : Option ℕ → ℕ) → ((class : Option ℕ) → a class ≡ b class) → (tree : TestTree (Option ℕ))
    → with_blocks a tree ≡ with_blocks b tree
with_blocks-same a b same (leaf class) = ap leaf (same class)
with_blocks-same a b same (switch cases last) = ap₂ (λ c l. switch c l) (cases_by-same a b same cases) (same last)
with_blocks-same a b same (test question class high) = ap₂ (λ w t. test question w t) (same class) (with_blocks-same a b same high)
with_blocks-same a b same (fork question low high) =
    ap₂ (λ l h. fork question l h) (with_blocks-same a b same low) (with_blocks-same a b same high)

-- the place behind those of the classes
pub way-same : (first end count turn : ℕ) → turn ≡ first + count → (class : Option ℕ)
    → (if same_place class (Some count) then turn else class_block first end class) ≡ class_block first end class
way-same first end count turn is None = refl
way-same first end count turn is (Some place) = by (nat_eq place count) refl
  where
    by : (t : Bool) → nat_eq place count ≡ t → (if t then turn else first + place) ≡ first + place
    by true e = is ∙ ap (λ n. first + n) (sym (eqb-true place count e))
    by false e = refl

-- ---- a state

module _ (plans : PartPlans) (number from : ℕ) (exits : Exits) (is : IsExits plans number from exits) where
  way : (class : Option ℕ) → way_of exits class ≡ class_block (first_at plans number from) (end_at plans (own_at plans number from) (given_at plans number).accept) class
  way class =
      way-same exits.first exits.end exits.count exits.turn
      (is.turn ∙ ap₂ (λ a b. a + b) (sym is.first) (sym is.count)) class
      ∙ ap₂ (λ a b. class_block a b class) is.first is.end

  module _ (stored : Option ℕ) (asked : ℕ)
      (stored_is : stored ≡ (if plans.input.demand.stores then Some asked else None))
      (asked_is : asked ≡ number_of (seen_demand plans.input.demand) plans.input.end_rule plans.input.auto.now plans.first (state number))
      (entered : is_entered plans.input.end_rule plans.input.auto.now number ≡ true) where
    stored_at : stored ≡ (if plans.input.demand.stores
        then Some (number_of (seen_demand plans.input.demand) plans.input.end_rule plans.input.auto.now plans.first (state number)) else None)
    stored_at = stored_is ∙ ap (λ n. if plans.input.demand.stores then Some n else None) asked_is

    pub tests-laid : (units : ℕ) → units ≡ (seen_demand plans.input.demand).check number → (tree : TestTree (Option ℕ)) → tree ≡ trees_at plans (state number)
        → reader_blocks (constant stored) entry plans.input.demand.eof units from (with_blocks (way_of exits) tree) ≡ tests_blocks plans number from
    tests-laid units units_is tree tree_is =
        ap (λ (o : Option ℕ). reader_blocks (constant o) entry plans.input.demand.eof units from (with_blocks (way_of exits) tree)) stored_at
        ∙ reader-same (seen_demand plans.input.demand) plans.input.end_rule plans.input.auto.now plans.first (state number) plans.input.demand.stores
        plans.input.demand.eof units from (with_blocks (way_of exits) tree)
        ∙ ap₂ (λ u t. reader_blocks (supply_at plans).stored (state number) plans.input.demand.eof u from t) units_is
        (with_blocks-same (way_of exits) (class_block (first_at plans number from) (end_at plans (own_at plans number from) (given_at plans number).accept))
        way tree
        ∙ ap (λ t. with_blocks (class_block (first_at plans number from) (end_at plans (own_at plans number from) (given_at plans number).accept)) t) tree_is)
        ∙ ap (λ t. kept t (reader_blocks (supply_at plans).stored (state number) plans.input.demand.eof ((seen_demand plans.input.demand).check number) from
        (with_blocks (class_block (first_at plans number from) (end_at plans (own_at plans number from) (given_at plans number).accept))
        (trees_at plans (state number))))) (sym entered)

-- ---- the entry

module _ (plans : PartPlans) (exits : Exits) (is : IsEntryExits plans exits) where
  entry_way-same : (class : Option ℕ) → way_of exits class ≡ entry_way plans class
  entry_way-same class =
      ap₂ (λ n t. if same_place class (Some n) then t else class_block exits.first exits.end class) is.count is.turn
      ∙ ap₂ (λ a b. if same_place class (Some (length (transition_classes (given_at plans 0).edges))) then plans.begin + entry_tests_at plans
      else class_block a b class) is.first is.end

  pub entry-laid : (stored : Option ℕ) → stored ≡ (if plans.input.demand.stores then Some plans.first else None)
      → (tree : TestTree (Option ℕ)) → tree ≡ trees_at plans (state 0)
      → reader_blocks (constant stored) entry plans.input.demand.eof 0 plans.begin (with_blocks (way_of exits) tree) ≡ entry_tests_blocks plans
  entry-laid stored stored_is tree tree_is =
      ap (λ (o : Option ℕ). reader_blocks (constant o) entry plans.input.demand.eof 0 plans.begin (with_blocks (way_of exits) tree)) stored_is
      ∙ reader-same (seen_demand plans.input.demand) plans.input.end_rule plans.input.auto.now plans.first entry plans.input.demand.stores
      plans.input.demand.eof 0 plans.begin (with_blocks (way_of exits) tree)
      ∙ ap (λ t. reader_blocks (supply_at plans).stored entry plans.input.demand.eof 0 plans.begin t)
      (with_blocks-same (way_of exits) (entry_way plans) entry_way-same tree ∙ ap (λ t. with_blocks (entry_way plans) t) tree_is)
