-- Numbers of registers have 32 bits.
use Rattle.std.proofs.Common.{◌≡◌, ℕ, suc, ◌+◌, ◌*◌, ◌<◌, ◌≤◌, arith, Bool, List, length, ap}
use Rattle.std.proofs.Math.Nat.{mul-le-mul}
use Rattle.lx_tnfa.specs.Tnfa.{Tnfa}
use Rattle.lx_tdfa.specs.Registers.{first_of, kinds_of_rule, widest}
use Rattle.lx_tdfa.proofs.Values.StepOps.{kinds_of_rule-widest}

pub first_of-bound : (width index : ℕ) → width ≤ 130 → index ≤ 1048576 → first_of width index ≤ 136315010
first_of-bound width index narrow few =
    let le : suc index * width ≤ 1048577 * 130 = mul-le-mul {n₁ = suc index} {m₁ = width} {n₂ = 1048577} {m₂ = 130} (omega arith) narrow in omega (arith, le)

pub kinds_bound : (tnfa : Tnfa) (rule : ℕ) (kinds : List Bool) → widest tnfa.rules ≤ 130 → kinds ≡ kinds_of_rule tnfa rule → length kinds ≤ 130
kinds_bound tnfa rule kinds narrow is =
    let le : length (kinds_of_rule tnfa rule) ≤ widest tnfa.rules = kinds_of_rule-widest tnfa rule in
    let same : length kinds ≡ length (kinds_of_rule tnfa rule) = ap (λ l. length l) is in omega (arith, le, same)

pub first_of-room : (tnfa : Tnfa) (width index rule register : ℕ) (kinds : List Bool) → width ≡ widest tnfa.rules → widest tnfa.rules ≤ 130
    → index ≤ 1048576 → register ≡ first_of width index → kinds ≡ kinds_of_rule tnfa rule → register + length kinds < 4294967296
first_of-room tnfa width index rule register kinds wide narrow few is are =
    let le : first_of width index ≤ 136315010 = first_of-bound width index (omega (arith, wide, narrow)) few in
    let short : length kinds ≤ 130 = kinds_bound tnfa rule kinds narrow are in
    omega (arith, le, short, is)
