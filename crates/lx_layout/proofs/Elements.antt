-- What holds at each place of a list.
use Rattle.std.specs.Prelude.{suc, List, [], ◌∷◌, All}
use Rattle.std.proofs.Common.{arith}
use Rattle.std.specs.List.{AllByRecursion}

pub each-All : {A : Type 0} (P : A → Type 0) (xs : List A) → All P xs → AllByRecursion P xs
each-All P [] h = tt
each-All P (x ∷ xs) h = (h 0 x (omega arith), each-All P xs (λ k d lt. h (suc k) d (omega (arith, lt))))
