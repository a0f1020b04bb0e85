-- Worked examples. Letters stand for their codes: "a" is 97, "b" 98, "c" 99 and "d" 100.
use Rattle.std.specs.Prelude.{◌≡◌, ℕ, List, [], ◌∷◌, Some, None}
use Rattle.lx_base.specs.declared.settings.Enc.TheVariants.{Byte}
use Rattle.lx_regex.specs.Dictionary.{IsBefore}
use Rattle.lx_regex.specs.Plain.{IsPlain}
use Rattle.lx_regex.specs.Posix.{IsLonger}
use Rattle.lx_regex.specs.Script.{begins, choices, ends, picks, reads, script, units}
use Rattle.lx_regex.specs.Term.{Term, Terms, alt, cat, class, cons, nil, repeat}
use Rattle.lx_regex.specs.Tree.{Tree}

-- the class of one code point
abbrev pub letter : ℕ → Term
letter number = class ((number, number) ∷ [])

-- a sequence of letters
abbrev pub letters : List ℕ → Terms
letters [] = nil
letters (number ∷ numbers) = cons (letter number) (letters numbers)

-- ("a" | "ab") ("c" | "bcd") "d"*
abbrev pub split_word : Term
split_word =
    cat (cons (alt (cons (letter 97) (cons (cat (letters (97 ∷ 98 ∷ []))) nil)))
    (cons (alt (cons (letter 99) (cons (cat (letters (98 ∷ 99 ∷ 100 ∷ []))) nil)))
    (cons (repeat (letter 100) 0 None) nil)))

-- On `abcd` the tree whose first member takes `ab` is first, though the other has the lesser choices.
pub record LongerMemberIsFirst (long short : Tree split_word) : Type 0 where
  pub long_units : units (script Byte 1 long) ≡ 97 ∷ 98 ∷ 99 ∷ 100 ∷ []
  pub short_units : units (script Byte 1 short) ≡ 97 ∷ 98 ∷ 99 ∷ 100 ∷ []
  pub longest : IsLonger Byte long short
  pub leftmost : IsBefore (choices (script Byte 1 short)) (choices (script Byte 1 long))

-- ("a"*){0,2}
abbrev pub twice_letters : Term
twice_letters = repeat (repeat (letter 97) 0 None) 0 (Some 2)

-- On `a` an empty second iteration comes first: there what has begun is longer than what has not. The copies of the body are
-- different parts, so it is plain.
pub record EmptyIterationIsFirst (with_empty without : Tree twice_letters) : Type 0 where
  pub script_with : script Byte 1 with_empty ≡
      begins 1 ∷ picks 0 ∷ begins 2 ∷ picks 0 ∷ begins 3 ∷ reads 97 ∷ ends 3 ∷ picks 1 ∷ ends 2
      ∷ picks 0 ∷ begins 4 ∷ picks 1 ∷ ends 4 ∷ ends 1 ∷ []
  pub plain : IsPlain (script Byte 1 with_empty)
  pub units_without : units (script Byte 1 without) ≡ 97 ∷ []
  pub longest : IsLonger Byte with_empty without
