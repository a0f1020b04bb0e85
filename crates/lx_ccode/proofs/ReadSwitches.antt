-- Switches over units are read again.
use Rattle.std.proofs.Common.{[], ◌++◌, ◌+◌, ◌<◌, ◌^◌, ◌∷◌, ◌≡◌, ◌≤◌, List, arith, false, length, refl, suc, true, zero, ℕ}
use Rattle.std.specs.Fmt.{decimal}
use Rattle.std.specs.List.{AllByRecursion}
use Rattle.std.specs.Prelude.{◌==◌, codes}
use Rattle.lx_base.specs.Letters.{EachLetter, is_digit, is_hexadecimal, is_in_spelling}
use Rattle.lx_base.specs.Names.{AreAllowed, Spellings, current_unit}
use Rattle.lx_base.specs.Text.{joined}
use Rattle.lx_ccode.specs.declared.piece.SwitchCase.{SwitchCase}
use Rattle.lx_ccode.specs.declared.piece.Stmt.TheVariants.{Switch}
use Rattle.lx_ccode.specs.Reading.{byte_at, case_goto, case_tail, switch_at, switch_cases_at, units_at}
use Rattle.lx_ccode.specs.Text.{goto_then, hexadecimal, switch_cases_then, units_then}
use Rattle.lx_ccode.specs.Validity.{IsByte, IsSwitchCase}
use Rattle.lx_ccode.proofs.Jumps.{goto_block-goto, goto_tail-goto}
use Rattle.lx_ccode.proofs.Tails.{case_words, joined-length}
use Rattle.lx_ccode.proofs.Words.{EachLetter-identifier, EachLetter-spelling, behind-stop, behind-word, decimal_digits, decimal_value, front-stop, hexadecimal_digits, hexadecimal_value}

-- ---- lengths

units_then-length : (units tail : List ℕ) → length units + length tail ≤ length (units_then units tail)
units_then-length [] tail = omega arith
units_then-length (unit ∷ units) tail =
    let rest : length units + length tail ≤ length (units_then units tail) = units_then-length units tail in
    let words : List (List ℕ) = codes "ase 0x" ∷ hexadecimal unit ∷ codes ": " ∷ [] in
    let here : length (units_then units tail) ≤ length (joined words (units_then units tail)) = joined-length words (units_then units tail) in
    let first : length (units_then (unit ∷ units) tail) ≡ suc (length (joined words (units_then units tail))) = refl in
    omega (arith, rest, here, first)

-- at least as many as each list of a switch has items
abbrev pub case_sizes : List SwitchCase → ℕ
case_sizes [] = 0
case_sizes (case ∷ cases) = suc (length case.units + case_sizes cases)

switch_cases_then-length : (number : ℕ) (cases : List SwitchCase) (tail : List ℕ) → case_sizes cases + length tail ≤ length (switch_cases_then number cases tail)
switch_cases_then-length number [] tail = omega arith
switch_cases_then-length number (case ∷ cases) tail =
    let others : List ℕ = switch_cases_then number cases tail in
    let rest : case_sizes cases + length tail ≤ length others = switch_cases_then-length number cases tail in
    let end : List ℕ = joined (case_words number case.block) others in
    let behind : length others ≤ length end = joined-length (case_words number case.block) others in
    let units : length case.units + length end ≤ length (units_then case.units end) = units_then-length case.units end in
    let tab : length (switch_cases_then number (case ∷ cases) tail) ≡ suc (length (units_then case.units end)) = refl in
    omega (arith, rest, behind, units, tab)

-- ---- reading

units_at-units : (fuel : ℕ) (units tail : List ℕ) → AllByRecursion IsByte units → length units ≤ fuel → (byte_at tail 0 == 99) ≡ false
    → units_at fuel (units_then units tail) ≡ (units, tail)
unfolding units_at
units_at-units zero [] tail each le q = refl
units_at-units (suc fuel) [] tail each le q = rw q refl
units_at-units zero (unit ∷ units) tail each le q = absurd (omega (arith, le))
units_at-units (suc fuel) (unit ∷ units) tail each le q =
    let byte : unit < 256 = each.0 in
    let small : unit < 2 ^ 64 = omega (arith, byte) in
    let others : List ℕ = units_then units tail in
    let rest : units_at fuel others ≡ (units, tail) = units_at-units fuel units tail each.1 (omega (arith, le)) q in
    rw (
      front-stop is_hexadecimal (hexadecimal unit) 58 (32 ∷ others) (hexadecimal_digits unit small) refl,
      behind-stop is_hexadecimal (hexadecimal unit) 58 (32 ∷ others) (hexadecimal_digits unit small) refl,
      hexadecimal_value unit small,
      rest,
    ) refl

first_unit : (units tail : List ℕ) → 0 < length units → (byte_at (units_then units tail) 0 == 99) ≡ true
first_unit [] tail some = absurd (omega (arith, some))
first_unit (unit ∷ units) tail some = refl

case_goto-case : (number block : ℕ) (tail : List ℕ) → number < 2 ^ 64 → block < 2 ^ 64 → case_goto (joined (case_words number block) tail) ≡ block
case_goto-case number block tail h k =
    rw (behind-stop is_digit (decimal number) 95 (decimal block ++ 59 ∷ 10 ∷ tail) (decimal_digits number h) refl, front-stop is_digit (decimal block) 59 (10 ∷ tail) (decimal_digits block k) refl) (decimal_value block k)

case_tail-case : (number block : ℕ) (tail : List ℕ) → number < 2 ^ 64 → block < 2 ^ 64 → case_tail (joined (case_words number block) tail) ≡ tail
case_tail-case number block tail h k =
    rw (behind-stop is_digit (decimal number) 95 (decimal block ++ 59 ∷ 10 ∷ tail) (decimal_digits number h) refl, behind-stop is_digit (decimal block) 59 (10 ∷ tail) (decimal_digits block k) refl) refl

switch_cases_at-cases : (k fuel number : ℕ) (cases : List SwitchCase) (tail : List ℕ) → number < 2 ^ 64 → AllByRecursion IsSwitchCase cases
    → case_sizes cases ≤ k → case_sizes cases ≤ fuel → (byte_at tail 1 == 99) ≡ false
    → switch_cases_at k fuel (switch_cases_then number cases tail) ≡ (cases, tail)
unfolding switch_cases_at
switch_cases_at-cases zero fuel number [] tail short each le few q = refl
switch_cases_at-cases (suc k) fuel number [] tail short each le few q = rw q refl
switch_cases_at-cases zero fuel number (case ∷ cases) tail short each le few q = absurd (omega (arith, le))
switch_cases_at-cases (suc k) fuel number (case ∷ cases) tail short each le few q =
    let others : List ℕ = switch_cases_then number cases tail in
    let end : List ℕ = joined (case_words number case.block) others in
    let rest : switch_cases_at k fuel others ≡ (cases, tail) = switch_cases_at-cases k fuel number cases tail short each.1 (omega (arith, le)) (omega (arith, few)) q in
    let units : units_at fuel (units_then case.units end) ≡ (case.units, end) = units_at-units fuel case.units end each.0.bytes (omega (arith, few)) refl in
    rw (
      first_unit case.units end each.0.some,
      units,
      case_goto-case number case.block others short each.0.block,
      case_tail-case number case.block others short each.0.block,
      rest,
    ) refl

-- a switch over units, behind its `switch (`
pub switch_at-switch : (number : ℕ) (names : Spellings) (cases : List SwitchCase) (last : ℕ) (tail : List ℕ) → number < 2 ^ 64 → AreAllowed names
    → AllByRecursion IsSwitchCase cases → last < 2 ^ 64
    → switch_at (current_unit names ++ (codes ") {\n" ++ switch_cases_then number cases (codes "\tdefault:" ++ goto_then number last (codes "\t}\n" ++ tail))))
    ≡ (Switch cases last, false, tail)
unfolding switch_at
switch_at-switch number names cases last tail short allowed each hl =
    let end : List ℕ = codes "\tdefault:" ++ goto_then number last (codes "\t}\n" ++ tail) in
    let text : List ℕ = switch_cases_then number cases end in
    let bytes : List ℕ = current_unit names ++ (codes ") {\n" ++ text) in
    let hy : EachLetter is_in_spelling (current_unit names) = EachLetter-spelling (current_unit names) (EachLetter-identifier (current_unit names) allowed.current_unit) in
    let sizes : case_sizes cases + length end ≤ length text = switch_cases_then-length number cases end in
    let behind : length text ≤ length bytes = joined-length (current_unit names ∷ codes ") {\n" ∷ []) text in
    let fits : case_sizes cases ≤ length bytes = omega (arith, sizes, behind) in
    rw (
      behind-word is_in_spelling (current_unit names) (codes ") {\n" ++ text) hy,
      switch_cases_at-cases (length bytes) (length bytes) number cases end short each fits fits refl,
      goto_block-goto number last (codes "\t}\n" ++ tail) short hl,
      goto_tail-goto number last (codes "\t}\n" ++ tail) short hl,
    ) refl
