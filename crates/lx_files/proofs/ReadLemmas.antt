-- What a limited reader gives of the bytes that are left.
use Rattle.std.proofs.Common.{◌≡◌, ◌∙◌, ℕ, ◌<◌, ◌≤◌, List, [], ◌++◌, length, take, Option, Some, None, IfSome, arith, ap}
use Rattle.std.specs.Prelude.{min, option_map}
use Rattle.std.proofs.lemmas.List.{length-take, take_all}
use Rattle.std.proofs.lemmas.Bool.{cases_lt}

-- fewer bytes than the limit are all that are left
pub take-fewer : (left : Option (List ℕ)) (limit : ℕ) (bytes before : List ℕ) → before ≡ []
    → IfSome (option_map (take limit) left) (λ front. bytes ≡ before ++ front) → length bytes < limit → IfSome left (λ rest. bytes ≡ rest)
take-fewer None limit bytes before empty is few = tt
take-fewer (Some rest) limit bytes before empty is few =
    let front : bytes ≡ take limit rest = is ∙ ap (λ (l : List ℕ). l ++ take limit rest) empty in
    let given : length bytes ≡ min limit (length rest) = ap (λ (l : List ℕ). length l) front ∙ length-take limit rest in
    let all : length rest ≤ limit = omega (arith, given, few) in
    front ∙ take_all limit rest all
