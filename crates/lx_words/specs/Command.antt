-- The command by which the words of a command line are read: which options there are, and how each is spelled.
use Rattle.std.specs.Prelude.{ℕ, true, List, [], ◌∷◌, codes, Option, Some, None}
use Rattle.clap.specs.Words.{App, Rule, new_app, new_rule, with_rule}
use Rattle.clap.specs.declared.builder.action.ArgAction.{ArgAction}
use Rattle.clap.specs.declared.builder.action.ArgAction.TheVariants.{Set, Count}

-- an option, by its short and its long spelling, of which it has one or both; a word without either is a file
abbrev pub option_rule : (id : List ℕ) → (short : Option ℕ) → (long : Option (List ℕ)) → ArgAction → Rule
option_rule id short long action = record (new_rule id) { short = short; long = long; action = Some action }

-- an option that has a value, and stands at most once
abbrev pub value_option : (id : List ℕ) → (short : Option ℕ) → (long : Option (List ℕ)) → Rule
value_option id short long = option_rule id short long Set

-- a flag, which may be repeated
abbrev pub flag_option : (id : List ℕ) → (short : Option ℕ) → (long : Option (List ℕ)) → Rule
flag_option id short long = option_rule id short long Count

-- the file, and where the output goes and includes are
abbrev pub file_options : List Rule
file_options =
    value_option (codes "file") None None
    ∷ value_option (codes "output") (Some 111) (Some (codes "output"))
    ∷ value_option (codes "include") (Some 73) None ∷ []

-- what is compiled, how, and in which encoding
abbrev pub flag_options : List Rule
flag_options =
    flag_option (codes "no-debug-info") (Some 105) (Some (codes "no-debug-info"))
    ∷ flag_option (codes "conditions") (Some 99) (Some (codes "conditions"))
    ∷ flag_option (codes "storable-state") (Some 102) (Some (codes "storable-state"))
    ∷ flag_option (codes "reusable") (Some 114) None
    ∷ flag_option (codes "tags") (Some 84) (Some (codes "tags"))
    ∷ flag_option (codes "nested-ifs") (Some 115) (Some (codes "nested-ifs"))
    ∷ flag_option (codes "captures") None (Some (codes "captures"))
    ∷ flag_option (codes "posix") (Some 80) None
    ∷ flag_option (codes "warnings") (Some 87) None
    ∷ flag_option (codes "x-cover") None (Some (codes "x-cover"))
    ∷ flag_option (codes "utf-8") (Some 56) (Some (codes "utf-8"))
    ∷ flag_option (codes "utf-16") (Some 120) (Some (codes "utf-16"))
    ∷ flag_option (codes "utf-32") (Some 117) None
    ∷ flag_option (codes "ucs-2") (Some 119) None ∷ []

-- policies, how input is read, the format of emitted text, and what runs and generated sources take
abbrev pub value_options : List Rule
value_options =
    value_option (codes "encoding-policy") None (Some (codes "encoding-policy"))
    ∷ value_option (codes "empty-class") None (Some (codes "empty-class"))
    ∷ value_option (codes "input") None (Some (codes "input"))
    ∷ value_option (codes "x-format") None (Some (codes "x-format"))
    ∷ value_option (codes "x-run") None (Some (codes "x-run"))
    ∷ value_option (codes "x-block") None (Some (codes "x-block"))
    ∷ value_option (codes "x-window") None (Some (codes "x-window"))
    ∷ value_option (codes "x-piece") None (Some (codes "x-piece"))
    ∷ value_option (codes "x-source") None (Some (codes "x-source")) ∷ []

-- a command that reads each word, the first one too, and that offers no help of its own
abbrev pub bare_command : App
bare_command =
    let command = new_app (codes "re2c") in
    record command { top = record command.top { no_binary_name = true; disable_help_flag = true } }

-- the command with options more, one behind another
abbrev pub with_options : List Rule → App → App
with_options [] command = command
with_options (rule ∷ rules) command = with_options rules (with_rule command rule)

-- the command
abbrev pub words_command : App
words_command = with_options value_options (with_options flag_options (with_options file_options bare_command))
