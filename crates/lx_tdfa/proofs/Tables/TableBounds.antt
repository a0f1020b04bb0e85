-- How long a list of a table may be.
use Rattle.std.proofs.Common.{◌≡◌, ◌+◌, ◌≤◌, max, arith, List, [], ◌∷◌, length, refl}
use Rattle.std.proofs.lemmas.List.Sums.{sum_by-cons}
use Rattle.std.specs.Prelude.{sum_by}
use Rattle.lx_tdfa.specs.Making.{IsWithin, most_places}

pub most_places-sum : {P : Type 0} (lists : List (List P)) → most_places lists ≤ sum_by length lists
most_places-sum [] = omega arith
most_places-sum (list ∷ lists) =
    let rest : most_places lists ≤ sum_by length lists = most_places-sum lists in
    let sum : sum_by length (list ∷ lists) ≡ length list + sum_by length lists = sum_by-cons (λ l. length l) list lists in
    let most : most_places (list ∷ lists) ≡ max (length list) (most_places lists) = refl in
    omega (arith, rest, sum, most)

pub most_places-within : {P : Type 0} (lists : List (List P)) → IsWithin lists → most_places lists ≤ 1048576
most_places-within lists within = let sum = most_places-sum lists in let few = within.few_places in omega (arith, sum, few)
