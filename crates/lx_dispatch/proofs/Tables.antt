-- Tables of sets, as they grow.
use Rattle.std.specs.Prelude.{◌≡◌, ℕ, ◌+◌, ◌*◌, ◌/◌, ◌<◌, List, length}
use Rattle.std.specs.List.{AllByRecursion}
use Rattle.std.proofs.Common.{arith, ◌∙◌}
use Rattle.lx_ccode.specs.Validity.{IsByte}
use Rattle.lx_dispatch.specs.Dispatch.{IsTable}

pub IsTable-more : (old new : List ℕ) (number : ℕ) → number < 64 → length old ≡ 256 * (number / 8) → length new ≡ length old + 256
    → AllByRecursion IsByte new → IsTable new
IsTable-more old new number few at more bytes = (number / 8 + 1, omega arith, omega arith, bytes)

pub IsTable-same : (old new : List ℕ) → IsTable old → length new ≡ length old → AllByRecursion IsByte new → IsTable new
IsTable-same old new is same bytes = (is.0, same ∙ is.1, is.2, bytes)
