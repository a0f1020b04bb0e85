-- The rules of a generated source, as terms.
use Rattle.std.specs.Prelude.{ℕ, zero, suc, List, [], ◌∷◌, ◌++◌, map, Some, None}
use Rattle.std.specs.Fmt.{decimal}
use Rattle.lx_regex.specs.Expr.{members_of}
use Rattle.lx_regex.specs.Term.{Term, class, any_unit, cat, repeat}

-- the letters of a word: `w`, its number in decimal, and `x`
abbrev pub word_letters : (number : ℕ) → List ℕ
word_letters number = 119 ∷ (decimal number ++ 120 ∷ [])

-- a letter as a class
abbrev pub letter_term : (letter : ℕ) → Term
letter_term letter = class ((letter, letter) ∷ [])

-- a row of letters
abbrev pub string_term : (letters : List ℕ) → Term
string_term letters = cat (members_of (map letter_term letters))

-- a row of letters from one to three times, and a digit once or more
abbrev pub letters_term : (letters : List ℕ) → Term
letters_term letters =
    cat (members_of (repeat (string_term letters) 1 (Some 3) ∷ repeat (class ((48, 57) ∷ [])) 1 None ∷ []))

-- the rule of a word, as `"w12x"{1,3} [0-9]+`
abbrev pub rule_term : (number : ℕ) → Term
rule_term number = letters_term (word_letters number)

-- the rules of so many words, from one number on, and the rule `*`
abbrev pub terms_from : (first left : ℕ) → List Term
terms_from first zero = any_unit ∷ []
terms_from first (suc left) = rule_term first ∷ terms_from (suc first) left

-- the rules of a source of so many words: those of the words from 1 on, and the rule `*`
abbrev pub rule_terms : (count : ℕ) → List Term
rule_terms count = terms_from 1 count
