-- Numbers by their block and their place in it.
use Rattle.std.proofs.Common.{◌≡◌, ℕ, ◌+◌, ◌*◌, ◌/◌, ◌%◌, ◌<◌, ◌≤◌, subst, arith}
use Rattle.std.proofs.Math.Nat.{div-add-mod, mod-lt, mul_comm}
use Rattle.std.proofs.lemmas.Nat.{div-mul-add, le-div, div_below}

module _ (radix : ℕ) (some : 2 ≤ radix) where
  positive : 0 < radix
  positive = omega arith

  pub number_is : (n : ℕ) → radix * (n / radix) + n % radix ≡ n
  number_is n = div-add-mod n radix

  pub place_below : (n : ℕ) → n % radix < radix
  place_below n = mod-lt n positive

  -- a block and a place make a number
  pub block_of : (b r : ℕ) → r < radix → (radix * b + r) / radix ≡ b
  block_of b r lt = subst (λ p. (p + r) / radix ≡ b) (mul_comm b radix) (div-mul-add b radix r lt)

  pub place_of : (b r : ℕ) → r < radix → (radix * b + r) % radix ≡ r
  place_of b r lt =
      let is : radix * ((radix * b + r) / radix) + (radix * b + r) % radix ≡ radix * b + r = number_is (radix * b + r) in
      let same : radix * b + (radix * b + r) % radix ≡ radix * b + r = subst (λ q. radix * q + (radix * b + r) % radix ≡ radix * b + r) (block_of b r lt) is in
      omega (arith, same)

  pub block_from : (b n : ℕ) → radix * b ≤ n → b ≤ n / radix
  block_from b n le = le-div b n radix positive (subst (λ p. p ≤ n) (mul_comm radix b) le)

  pub block_to : (b n : ℕ) → n < radix * b → n / radix < b
  block_to b n lt = div_below n radix b positive (subst (λ p. n < p) (mul_comm radix b) lt)

  -- later numbers lie in no earlier block
  pub block-mono : (m n : ℕ) → m ≤ n → m / radix ≤ n / radix
  block-mono m n le = let is = number_is m in block_from (m / radix) n (omega arith)

  -- blocks of code points are code points
  pub block_bounded : (n : ℕ) → n ≤ 0x10FFFF → n / radix < 0x88000
  block_bounded n le = block_to 0x88000 n (omega arith)
