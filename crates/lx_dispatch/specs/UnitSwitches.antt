-- Switches over units, and how they are checked.
use Rattle.std.specs.Prelude.{◌≡◌, ℕ, ◌<◌, Bool, false, List, [], ◌∷◌, ◌++◌, length, Option, slice_index_or, if◌then◌else◌}
use Rattle.std.specs.List.{AllByRecursion}
use Rattle.lx_ccode.specs.Machine.{has_unit}
use Rattle.lx_ccode.specs.Validity.{AreUnitsOnce, IsByte}
use Rattle.lx_dispatch.specs.TestTrees.{HasWay, class_on}
use Rattle.lx_dispatch.specs.TransitionClasses.{Stretch}
use Rattle.lx_dispatch.specs.declared.test_trees.UnitCase.{UnitCase}

-- no unit was seen before, and none stands twice
abbrev pub AreNew : (seen : List Bool) → List ℕ → Type 0
AreNew seen units = AreUnitsOnce units × AllByRecursion (λ unit. slice_index_or seen unit false ≡ false) units

-- the units of all cases, in order
abbrev pub units_in : List UnitCase → List ℕ
units_in [] = []
units_in (case ∷ cases) = case.units.items ++ units_in cases

-- how a unit goes by cases
abbrev pub way_in : List UnitCase → (other : Option ℕ) → (unit : ℕ) → Option ℕ
way_in [] other unit = other
way_in (case ∷ cases) other unit = if has_unit case.units.items unit then case.class else way_in cases other unit

-- the case has a unit, and its units are bytes
pub record IsOwn (case : UnitCase) : Type 0 where
  pub some : 0 < length case.units.items
  pub bytes : AllByRecursion IsByte case.units.items

-- The cases of a switch for the units on which it is not decided, and the way of those that no case has, where they go by stretches.
pub record IsSwitchOf (decided : ℕ → Bool) (stretches : List Stretch) (last : Option ℕ) (cases : List UnitCase) (other : Option ℕ) : Type 0 where
  pub some : 0 < length cases
  pub each : AllByRecursion IsOwn cases
  pub once : AreUnitsOnce (units_in cases)
  pub ways : AllByRecursion (λ case. HasWay stretches last case.class) cases
  pub rest : HasWay stretches last other
  pub leads : (unit : ℕ) → unit < 256 → decided unit ≡ false → way_in cases other unit ≡ class_on stretches last unit
