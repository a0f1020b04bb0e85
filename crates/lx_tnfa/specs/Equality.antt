-- Tests of equality.
use Rattle.std.specs.Prelude.{◌≡◌, Bool, true}

-- the test is true exactly of equal items
pub record TellsEqual {X : Type 0} (same : X → X → Bool) : Type 0 where
  pub equal : (x other : X) → same x other ≡ true → x ≡ other
  pub itself : (x other : X) → x ≡ other → same x other ≡ true
