-- The units of bytes.
use Rattle.std.proofs.Common.{◌≡◌, ◌∙◌, ap, sym, refl, ℕ, zero, suc, ◌+◌, ◌-◌, ◌*◌, ◌/◌, ◌%◌, ◌<◌, ◌≤◌, List, [], ◌∷◌, ◌++◌, length, take, drop, get_or, arith, drop-drop, length-append, length-drop}
use Rattle.std.proofs.Math.Nat.{mul-add-div, mul-div_cancel_left, mul-mod_right, zero-div}
use Rattle.std.proofs.lemmas.List.{take-append-le, drop-append-le, take-append-drop, take_at, length-take-le, nil_from_length}
use Rattle.lx_window.specs.Units.{IsUnit, IsWhole, number_of, units_from, stream_units}

pub length-units_from : (unit count : ℕ) (bytes : List ℕ) → length (units_from unit count bytes) ≡ count
length-units_from unit zero bytes = refl
length-units_from unit (suc count) bytes = ap suc (length-units_from unit count (drop unit bytes))

pub length-stream_units : (unit : ℕ) (bytes : List ℕ) → length (stream_units unit bytes) ≡ length bytes / unit
length-stream_units unit bytes = length-units_from unit (length bytes / unit) bytes

-- a unit has bytes
pub IsUnit-positive : (unit : ℕ) → IsUnit unit → 0 < unit
IsUnit-positive unit h = omega (arith, h)

pub IsWhole-is : (unit : ℕ) (bytes : List ℕ) → 0 < unit → IsWhole unit bytes → length bytes ≡ unit * (length bytes / unit)
IsWhole-is unit bytes some h = omega arith

-- ---- a unit by its place

pub get_or-units_from : (unit count : ℕ) (bytes : List ℕ) (place : ℕ) → place < count
    → get_or (units_from unit count bytes) place 0 ≡ number_of (take unit (drop (unit * place) bytes))
get_or-units_from unit zero bytes place h = absurd (omega (arith, h))
get_or-units_from unit (suc count) bytes zero h =
    let none : 0 ≡ unit * 0 = omega arith in ap (λ n. number_of (take unit (drop n bytes))) none
get_or-units_from unit (suc count) bytes (suc place) h =
    let more : unit + unit * place ≡ unit * suc place = grind arith in
    get_or-units_from unit count (drop unit bytes) place (omega (arith, h))
    ∙ ap (λ rest. number_of (take unit rest)) (drop-drop (unit * place) unit bytes ∙ ap (λ n. drop n bytes) more)

-- ---- units of bytes in two parts

pub units_from-append : (unit count more : ℕ) (front back : List ℕ) → length front ≡ unit * count
    → units_from unit (count + more) (front ++ back) ≡ units_from unit count front ++ units_from unit more back
units_from-append unit zero more front back h =
    let none : length front ≡ 0 = omega (arith, h) in
    let all : 0 + more ≡ more = omega arith in
    ap (λ n. units_from unit n (front ++ back)) all ∙ ap (λ bytes. units_from unit more (bytes ++ back)) (nil_from_length front none)
units_from-append unit (suc count) more front back h =
    let long : unit ≤ length front = grind (arith, h) in
    let rest : length (drop unit front) ≡ unit * count = grind (arith, h, length-drop unit front) in
    let next : suc count + more ≡ suc (count + more) = omega arith in
    ap (λ n. units_from unit n (front ++ back)) next ∙
    ap (λ bytes. number_of bytes ∷ units_from unit (count + more) (drop unit (front ++ back))) (take-append-le unit front back long)
    ∙ ap (λ bytes. number_of (take unit front) ∷ units_from unit (count + more) bytes) (drop-append-le unit front back long)
    ∙ ap (λ units. number_of (take unit front) ∷ units) (units_from-append unit count more (drop unit front) back rest)

pub stream_units-append : (unit : ℕ) (front back : List ℕ) → 0 < unit → IsWhole unit front
    → stream_units unit (front ++ back) ≡ stream_units unit front ++ stream_units unit back
stream_units-append unit front back some whole =
    let even : length front ≡ unit * (length front / unit) = IsWhole-is unit front some whole in
    let count : length (front ++ back) / unit ≡ length front / unit + length back / unit =
    ap (λ n. n / unit) (length-append front back ∙ ap (λ n. n + length back) even) ∙ mul-add-div some (length front / unit) (length back) in
    ap (λ n. units_from unit n (front ++ back)) count
    ∙ units_from-append unit (length front / unit) (length back / unit) front back even

pub units_from-drop : (unit count dropped : ℕ) (bytes : List ℕ)
    → units_from unit (count - dropped) (drop (unit * dropped) bytes) ≡ drop dropped (units_from unit count bytes)
units_from-drop unit count zero bytes =
    let none : unit * 0 ≡ 0 = omega arith in
    let all : count - 0 ≡ count = omega arith in
    ap (λ n. units_from unit n (drop (unit * 0) bytes)) all ∙ ap (λ n. units_from unit count (drop n bytes)) none
units_from-drop unit zero (suc dropped) bytes =
    let none : 0 - suc dropped ≡ 0 = omega arith in ap (λ n. units_from unit n (drop (unit * suc dropped) bytes)) none
units_from-drop unit (suc count) (suc dropped) bytes =
    let more : unit * suc dropped ≡ unit + unit * dropped = grind arith in
    let fewer : suc count - suc dropped ≡ count - dropped = omega arith in
    ap (λ n. units_from unit n (drop (unit * suc dropped) bytes)) fewer
    ∙ ap (λ rest. units_from unit (count - dropped) rest) (ap (λ n. drop n bytes) more ∙ sym (drop-drop (unit * dropped) unit bytes))
    ∙ units_from-drop unit count dropped (drop unit bytes)

pub stream_units-drop : (unit dropped : ℕ) (bytes : List ℕ) → 0 < unit → unit * dropped ≤ length bytes
    → stream_units unit (drop (unit * dropped) bytes) ≡ drop dropped (stream_units unit bytes)
stream_units-drop unit dropped bytes some within =
    let split : length bytes ≡ unit * dropped + length (drop (unit * dropped) bytes) = omega (arith, within, length-drop (unit * dropped) bytes) in
    let sum : length bytes / unit ≡ dropped + length (drop (unit * dropped) bytes) / unit =
    ap (λ n. n / unit) split ∙ mul-add-div some dropped (length (drop (unit * dropped) bytes)) in
    let count : length (drop (unit * dropped) bytes) / unit ≡ length bytes / unit - dropped = omega (arith, sum) in
    ap (λ n. units_from unit n (drop (unit * dropped) bytes)) count ∙ units_from-drop unit (length bytes / unit) dropped bytes

pub stream_units-nil : (unit : ℕ) → stream_units unit [] ≡ []
stream_units-nil unit = let none : 0 / unit ≡ 0 = zero-div unit in ap (λ n. units_from unit n []) none

pub stream_units-take : (unit taken : ℕ) (bytes : List ℕ) → 0 < unit → unit * taken ≤ length bytes
    → stream_units unit (take (unit * taken) bytes) ≡ take taken (stream_units unit bytes)
stream_units-take unit taken bytes some within =
    let long : length (take (unit * taken) bytes) ≡ unit * taken = length-take-le (unit * taken) bytes within in
    let whole : length (take (unit * taken) bytes) % unit ≡ 0 = ap (λ n. n % unit) long ∙ mul-mod_right unit taken in
    let count : length (stream_units unit (take (unit * taken) bytes)) ≡ taken =
    length-stream_units unit (take (unit * taken) bytes) ∙ ap (λ n. n / unit) long ∙ mul-div_cancel_left taken some in
    sym (ap (λ all. take taken (stream_units unit all)) (sym (take-append-drop (unit * taken) bytes))
    ∙ ap (take taken) (stream_units-append unit (take (unit * taken) bytes) (drop (unit * taken) bytes) some whole)
    ∙ take_at (stream_units unit (take (unit * taken) bytes)) (stream_units unit (drop (unit * taken) bytes)) taken count)
