-- What holds of each element of a list, in two forms.
use Rattle.std.proofs.Common.{zero, suc, List, [], ◌∷◌, arith}
use Rattle.std.specs.Prelude.{All}
use Rattle.std.specs.List.{AllByRecursion}

pub All-each : {A : Type 0} (P : A → Type 0) (xs : List A) → AllByRecursion P xs → All P xs
All-each P [] h k d lt = absurd (omega (arith, lt))
All-each P (x ∷ xs) h zero d lt = h.0
All-each P (x ∷ xs) h (suc k) d lt = All-each P xs h.1 k d (omega (arith, lt))

pub each-All : {A : Type 0} (P : A → Type 0) (xs : List A) → All P xs → AllByRecursion P xs
each-All P [] h = tt
each-All P (x ∷ xs) h = (h 0 x (omega arith), each-All P xs (λ k d lt. h (suc k) d (omega (arith, lt))))
