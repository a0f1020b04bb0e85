-- What a command line says: its words as the command reads them.
use Rattle.std.specs.Prelude.{ℕ, Bool, true, false, List, [], ◌∷◌, Option, is_some, nat_lt}
use Rattle.clap.specs.Words.{Kinds, Row, count_of, fault_of, first_of, matches_of}
use Rattle.lx_words.specs.Command.{words_command}

-- what each option of the command has
abbrev pub Line : Type 0
Line = List Row

-- the words as the command reads them
unfoldable pub line_of : (words : List (List ℕ)) → Line
line_of = matches_of words_command

-- there is a kind of fault
abbrev pub finds_any : Kinds → Bool
finds_any [] = false
finds_any (kind ∷ kinds) = true

-- the command refuses the words: an option is unknown, has no value or one too many, or stands twice, or a second file is named
unfoldable pub is_refused : (words : List (List ℕ)) → Bool
is_refused words = finds_any (fault_of words_command words)

-- the value of an option, where it stands in the line
abbrev pub value : Line → (id : List ℕ) → Option (List ℕ)
value line id = first_of id line

-- the option stands in the line with a value
abbrev pub has_value : Line → (id : List ℕ) → Bool
has_value line id = is_some (value line id)

-- the flag stands in the line
abbrev pub has_flag : Line → (id : List ℕ) → Bool
has_flag line id = nat_lt 0 (count_of id line)
