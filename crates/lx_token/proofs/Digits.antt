-- One more digit of an escape, and values that are kept up to a bound.
use Rattle.std.proofs.Common.{◌≡◌, ℕ, zero, suc, ◌+◌, ◌-◌, ◌*◌, ◌<◌, ◌≤◌, min, Bool, true, false, List, [], ◌∷◌, cond, length, drop, get_or, ⊎_elim, arith}
use Rattle.std.proofs.lemmas.Bool.{cases_lt}
use Rattle.std.proofs.lemmas.List.{drop_more}
use Rattle.lx_base.specs.Letters.{is_digit}
use Rattle.lx_token.specs.Numbers.{value_behind}
use Rattle.lx_token.specs.Quoted.{begins_with_digits}

pub begins_with_digits-more : (test : ℕ → Bool) (count letter : ℕ) (text : List ℕ) → 0 < count → test letter ≡ true →
    begins_with_digits test count (letter ∷ text) ≡ begins_with_digits test (count - 1) text
begins_with_digits-more test zero letter text some passes = absurd (omega arith)
begins_with_digits-more test (suc count) letter text some passes =
    let less : suc count - 1 ≡ count = omega arith in rw (passes, less)

pub ruleset digit_rules = begins_with_digits-more

-- more digits make no value less
value_behind-grows : (value : ℕ) (text : List ℕ) → value ≤ value_behind value text
value_behind-grows value [] = omega arith
value_behind-grows value (letter ∷ text) =
    let more = value_behind-grows (10 * value + (letter - 48)) text in
    let P : Bool → Type 0 = λ b. value ≤ cond b (value_behind (10 * value + (letter - 48)) text) value in
    elim (is_digit letter) as P [ true ↦ omega arith | false ↦ omega arith ]

-- a value that is kept up to a bound serves for what is kept of it behind more digits
pub value_behind-kept : (most value : ℕ) (text : List ℕ) → min most (value_behind (min most value) text) ≡ min most (value_behind value text)
value_behind-kept most value text =
    let grows = value_behind-grows value text in
    let grows' = value_behind-grows most text in
    ⊎_elim
    (λ small.
    let same : min most value ≡ value = omega arith in rw same)
    (λ large.
    let same : min most value ≡ most = omega arith in rw same (omega arith))
    (cases_lt value most)

-- one more digit of the text is counted
pub value_behind-next : (most value next i : ℕ) (text : List ℕ) (whole : ℕ) → i < length text → is_digit (get_or text i 0) ≡ true →
    next ≡ min most (10 * value + (get_or text i 0 - 48)) → min most (value_behind value (drop i text)) ≡ whole →
    min most (value_behind next (drop (i + 1) text)) ≡ whole
value_behind-next most value next i text whole lt digit is same =
    let open_at = rw (drop_more text i 0 lt, digit) at same in
    rw (is, value_behind-kept most (10 * value + (get_or text i 0 - 48)) (drop (i + 1) text)) open_at
