-- The lists of conditions of rules.
use Rattle.std.specs.Prelude.{ℕ, suc, ◌+◌, ◌-◌, ◌==◌, Bool, true, false, List, [], ◌∷◌, take, drop, if◌then◌else◌}
use Rattle.lx_parse.specs.declared.sorts.Sort.{Sort}
use Rattle.lx_parse.specs.declared.sorts.Sort.TheVariants.{Comma}
use Rattle.lx_forms.specs.Lexemes.{Lexeme, sort_at}

-- a sign between the words of a list
abbrev pub is_comma : Sort → Bool
is_comma Comma = true
is_comma sort = false

-- the texts of some tokens, but for the commas
abbrev pub words_of : List Lexeme → List (List ℕ)
words_of [] = []
words_of (lexeme ∷ lexemes) = if is_comma (sort_at lexeme) then words_of lexemes else lexeme.text ∷ words_of lexemes

-- the words between the `<` at a place and the `>` before a head
abbrev pub listed_words : List Lexeme → (first head : ℕ) → List (List ℕ)
listed_words lexemes first head = words_of (take (head - (first + 2)) (drop (suc first) lexemes))

-- the conditions of a rule: the words of its list, or the one without a name where it has none
abbrev pub conds_at : List Lexeme → (first head : ℕ) → List (List ℕ)
conds_at lexemes first head = if first == head then [] ∷ [] else listed_words lexemes first head
