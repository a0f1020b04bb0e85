-- Units that are seen one by one.
use Rattle.std.specs.Prelude.{◌≡◌, ℕ, Bool, false, List, slice_index_or}
use Rattle.std.specs.List.{AllByRecursion}
use Rattle.lx_ccode.specs.Validity.{AreUnitsOnce}

-- no unit was seen before, and none stands twice
abbrev pub AreNew : (seen : List Bool) → List ℕ → Type 0
AreNew seen units = AreUnitsOnce units × AllByRecursion (λ unit. slice_index_or seen unit false ≡ false) units
