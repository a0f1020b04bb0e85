-- The command lines that the command would read, and that are wrong all the same.
use Rattle.std.specs.Prelude.{ℕ, ◌+◌, ◌||◌, ◌&&◌, Bool, true, false, not, List, [], ◌∷◌, length, codes, Option, Some, None, is_some, nat_lt, nat_le, ◌==◌, if◌then◌else◌}
use Rattle.std.specs.Option.{option_map_or}
use Rattle.std.specs.Str.{bytes_eq}
use Rattle.std.specs.Str.Parse.{digits_value}
use Rattle.lx_base.specs.Letters.{is_digit, begins_with, each_letter}
use Rattle.lx_words.specs.Line.{Line, value, has_value, has_flag}

-- a number has one to ten digits
abbrev pub is_number : List ℕ → Bool
is_number text = nat_lt 0 (length text) && (nat_le (length text) 10 && each_letter is_digit text)

-- the number that a text spells, where it is one within these limits
abbrev pub number_within : (least most : ℕ) → List ℕ → Option ℕ
number_within least most text =
    if is_number text && (nat_le least (digits_value 10 text) && nat_le (digits_value 10 text) most) then Some (digits_value 10 text) else None

-- the option has a value that is no number within these limits
abbrev pub has_wrong_number : Line → (id : List ℕ) → (least most : ℕ) → Bool
has_wrong_number line id least most = option_map_or (λ text. not (is_some (number_within least most text))) (value line id) false

-- a number is wrong: one of a block, of the units of a window or of a refill, or of the rules of a generated source
abbrev pub has_wrong_numbers : Line → Bool
has_wrong_numbers line =
    has_wrong_number line (codes "x-block") 1 4_294_967_295 || (has_wrong_number line (codes "x-window") 1 1_048_576
    || (has_wrong_number line (codes "x-piece") 1 1_048_576 || has_wrong_number line (codes "x-source") 1 200))

-- a file is named exactly where no source is generated
abbrev pub misses_file : Line → Bool
misses_file line = if has_value line (codes "x-source") then has_value line (codes "file") else not (has_value line (codes "file"))

abbrev pub one_if : Bool → ℕ
one_if test = if test then 1 else 0

-- how many encodings are asked for
abbrev pub encoding_count : Line → ℕ
encoding_count line =
    one_if (has_flag line (codes "utf-8")) + one_if (has_flag line (codes "utf-16"))
    + one_if (has_flag line (codes "utf-32")) + one_if (has_flag line (codes "ucs-2"))

-- captures are asked for by both orders
abbrev pub mixes_captures : Line → Bool
mixes_captures line = has_flag line (codes "captures") && has_flag line (codes "posix")

abbrev pub is_encoding_policy : List ℕ → Bool
is_encoding_policy text = bytes_eq text (codes "ignore") || (bytes_eq text (codes "substitute") || bytes_eq text (codes "fail"))

abbrev pub is_empty_policy : List ℕ → Bool
is_empty_policy text = bytes_eq text (codes "match-empty") || (bytes_eq text (codes "match-none") || bytes_eq text (codes "error"))

-- a policy is none of those that there are
abbrev pub has_wrong_policy : Line → Bool
has_wrong_policy line =
    option_map_or (λ text. not (is_encoding_policy text)) (value line (codes "encoding-policy")) false
    || option_map_or (λ text. not (is_empty_policy text)) (value line (codes "empty-class")) false

-- input is to be read in a way that there is not
abbrev pub has_wrong_input : Line → Bool
has_wrong_input line = option_map_or (λ text. not (bytes_eq text (codes "custom"))) (value line (codes "input")) false

abbrev pub is_format : List ℕ → Bool
is_format text = bytes_eq text (codes "2") || bytes_eq text (codes "3")

-- emitted text is to have a format that there is not
abbrev pub has_wrong_format : Line → Bool
has_wrong_format line = option_map_or (λ text. not (is_format text)) (value line (codes "x-format")) false

-- emitted text is to have format 3
abbrev pub asks_for_three : Line → Bool
asks_for_three line = option_map_or (λ text. bytes_eq text (codes "3")) (value line (codes "x-format")) false

-- an option says how a scanner is run
abbrev pub says_how_to_run : Line → Bool
says_how_to_run line = has_value line (codes "x-block") || (has_value line (codes "x-window") || has_value line (codes "x-piece"))

-- an option says how a source is compiled
abbrev pub says_how_to_compile : Line → Bool
says_how_to_compile line =
    has_flag line (codes "no-debug-info") || (has_flag line (codes "conditions") || (has_flag line (codes "storable-state")
    || (has_flag line (codes "reusable") || (has_flag line (codes "tags") || (has_flag line (codes "nested-ifs")
    || (has_flag line (codes "captures") || (has_flag line (codes "posix") || (has_flag line (codes "warnings")
    || (has_flag line (codes "x-cover") || (nat_lt 0 (encoding_count line) || (has_value line (codes "include")
    || (has_value line (codes "encoding-policy") || (has_value line (codes "empty-class") || (has_value line (codes "input")
    || has_value line (codes "x-format")))))))))))))))

-- options of a run stand without one, or a run stands with other options
abbrev pub mixes_run : Line → Bool
mixes_run line =
    if has_value line (codes "x-run") then says_how_to_compile line || (has_value line (codes "output") || has_value line (codes "x-source"))
    else says_how_to_run line

-- a generated source stands without a file for its output, or with other options
abbrev pub mixes_source : Line → Bool
mixes_source line =
    if has_value line (codes "x-source") then not (has_value line (codes "output")) || (says_how_to_compile line || has_value line (codes "x-run"))
    else false

-- whether a line ends in the text, or a block opens there
abbrev pub is_odd_name : List ℕ → Bool
is_odd_name [] = false
is_odd_name (letter ∷ text) =
    if (letter == 10) || (letter == 13) then true else (if begins_with (codes "/*!") (letter ∷ text) then true else is_odd_name text)

-- the option names a file or a folder that is read, by a name that would end a line or open a block where it is printed
abbrev pub has_odd_name : Line → (id : List ℕ) → Bool
has_odd_name line id = option_map_or is_odd_name (value line id) false

-- the output is named in what is printed, by `#line` in text of format 3
abbrev pub prints_output : Line → Bool
prints_output line = asks_for_three line && (not (has_flag line (codes "no-debug-info")) && not (has_flag line (codes "x-cover")))

-- and so by a name that would end a line or open a block there
abbrev pub has_odd_output : Line → Bool
has_odd_output line = prints_output line && has_odd_name line (codes "output")

-- the line is wrong
abbrev pub is_wrong : Line → Bool
is_wrong line =
    misses_file line || (nat_lt 1 (encoding_count line) || (mixes_captures line || (has_wrong_numbers line || (has_wrong_policy line
    || (has_wrong_input line || (has_wrong_format line || (mixes_run line || (mixes_source line || (has_odd_name line (codes "file")
    || (has_odd_name line (codes "x-run") || (has_odd_name line (codes "include") || has_odd_output line)))))))))))
