-- Bytes, and the bytes 0 behind them.
use Rattle.std.proofs.Common.{◌≡◌, ◌∙◌, ap, ap₂, sym, ℕ, zero, suc, ◌+◌, ◌-◌, ◌*◌, ◌%◌, ◌≤◌, List, [], ◌∷◌, ◌++◌, length, take, drop, replicate, min, arith, length-append}
use Rattle.std.proofs.Math.Nat.{add-mul-mod_self_right}
use Rattle.std.proofs.lemmas.List.{drop-replicate, drop_min, length-replicate, take-replicate}
use Rattle.lx_window.specs.Units.{IsWhole}

pub length-padded : (bytes : List ℕ) (padding : ℕ) → length (bytes ++ replicate padding 0) ≡ length bytes + padding
length-padded bytes padding = length-append bytes (replicate padding 0) ∙ ap (λ (count : ℕ). length bytes + count) (length-replicate padding 0)

-- bytes of whole units and units 0 behind them are whole units
pub IsWhole-padded : (unit : ℕ) (bytes : List ℕ) (padding : ℕ) → IsWhole unit bytes → IsWhole unit (bytes ++ replicate (padding * unit) 0)
IsWhole-padded unit bytes padding whole =
    ap (λ (count : ℕ). count % unit) (length-padded bytes (padding * unit)) ∙ add-mul-mod_self_right (length bytes) padding unit ∙ whole

pub take-padded : (count : ℕ) (bytes : List ℕ) (padding : ℕ) → count ≤ length bytes + padding
    → take count (bytes ++ replicate padding 0) ≡ take count bytes ++ replicate (count - length bytes) 0
take-padded zero bytes padding within =
    let none : 0 ≡ 0 - length bytes = omega arith in ap (λ (n : ℕ). replicate n 0) none
take-padded (suc count) [] padding within =
    let all : suc count ≡ suc count - 0 = omega arith in
    take-replicate (suc count) padding 0 (omega (arith, within)) ∙ ap (λ (n : ℕ). replicate n 0) all
take-padded (suc count) (byte ∷ bytes) padding within =
    let fewer : count - length bytes ≡ suc count - suc (length bytes) = omega arith in
    ap (λ (rest : List ℕ). byte ∷ rest) (take-padded count bytes padding (omega (arith, within))
    ∙ ap (λ (n : ℕ). take count bytes ++ replicate n 0) fewer)

-- the bytes that are left, and the bytes 0 that are left behind them
drop-padded_past : (count : ℕ) (bytes : List ℕ) (padding : ℕ)
    → drop count (bytes ++ replicate padding 0) ≡ drop count bytes ++ replicate (padding - (count - length bytes)) 0
drop-padded_past zero bytes padding =
    let all : padding ≡ padding - (0 - length bytes) = omega arith in ap (λ (n : ℕ). bytes ++ replicate n 0) all
drop-padded_past (suc count) [] padding =
    let all : padding - suc count ≡ padding - (suc count - 0) = omega arith in
    drop-replicate (suc count) padding 0 ∙ ap (λ (n : ℕ). replicate n 0) all
drop-padded_past (suc count) (byte ∷ bytes) padding =
    let fewer : padding - (count - length bytes) ≡ padding - (suc count - suc (length bytes)) = omega arith in
    drop-padded_past count bytes padding ∙ ap (λ (n : ℕ). drop count bytes ++ replicate n 0) fewer

pub drop-padded : (count held : ℕ) (bytes : List ℕ) (padding : ℕ) → held ≡ min count (length bytes)
    → drop count (bytes ++ replicate padding 0) ≡ drop held bytes ++ replicate (padding - (count - held)) 0
drop-padded count held bytes padding held_is =
    let left : padding - (count - length bytes) ≡ padding - (count - held) = omega (arith, held_is) in
    drop-padded_past count bytes padding
    ∙ ap₂ (λ (rest : List ℕ) (n : ℕ). rest ++ replicate n 0) (sym (drop_min count bytes) ∙ ap (λ (n : ℕ). drop n bytes) (sym held_is)) left
