-- The options that a command line gives.
use Rattle.std.specs.Prelude.{◌≡◌, ℕ, not, List, [], codes, Option, Some, None, unwrap_or, option_and_then, ◌||◌, if◌then◌else◌}
use Rattle.std.specs.Option.{option_map_or}
use Rattle.std.specs.Str.{bytes_eq}
use Rattle.lx_base.specs.declared.settings.Options.{Options}
use Rattle.lx_base.specs.declared.settings.Job.{Job}
use Rattle.lx_base.specs.declared.settings.Job.TheVariants.{Compile, Run, Source}
use Rattle.lx_base.specs.declared.settings.Enc.{Enc}
use Rattle.lx_base.specs.declared.settings.Enc.TheVariants.{Byte, Ucs2, Utf8, Utf16, Utf32}
use Rattle.lx_base.specs.declared.settings.Format.{Format}
use Rattle.lx_base.specs.declared.settings.Format.TheVariants.{Two, Three}
use Rattle.lx_base.specs.declared.settings.SurPolicy.{SurPolicy}
use Rattle.lx_base.specs.declared.settings.SurPolicy.TheVariants.{Ignore, Substitute, Fail}
use Rattle.lx_base.specs.declared.settings.EmptyPolicy.{EmptyPolicy}
use Rattle.lx_base.specs.declared.settings.EmptyPolicy.TheVariants.{MatchEmpty, MatchNone, Error}
use Rattle.lx_base.specs.declared.faults.Fault.{Fault}
use Rattle.lx_base.specs.declared.faults.Fault.TheVariants.{Usage}
use Rattle.lx_base.specs.declared.faults.Stop.{Stop}
use Rattle.lx_base.specs.declared.faults.Stop.TheVariants as stop
use Rattle.clap.specs.declared.error.kind.ErrorKind.{ErrorKind}
use Rattle.clap.specs.declared.error.kind.ErrorKind.TheVariants.{OutOfMemory}
use Rattle.lx_words.specs.Line.{Line, line_of, is_refused, value, has_flag, has_value}
use Rattle.lx_words.specs.Points.{asks_for_three, number_within, is_wrong}

-- the encoding: a unit is a byte where no other is asked for
abbrev pub encoding_of : Line → Enc
encoding_of line =
    if has_flag line (codes "utf-8") then Utf8 else if has_flag line (codes "utf-16") then Utf16
    else if has_flag line (codes "utf-32") then Utf32 else if has_flag line (codes "ucs-2") then Ucs2 else Byte

-- the format of emitted text: 2 where no other is asked for
abbrev pub format_of : Line → Format
format_of line = if asks_for_three line then Three else Two

abbrev pub encoding_policy_named : List ℕ → SurPolicy
encoding_policy_named text = if bytes_eq text (codes "substitute") then Substitute else if bytes_eq text (codes "fail") then Fail else Ignore

abbrev pub empty_policy_named : List ℕ → EmptyPolicy
empty_policy_named text = if bytes_eq text (codes "match-none") then MatchNone else if bytes_eq text (codes "error") then Error else MatchEmpty

-- the number of an option, where it has one
abbrev pub number_of : Line → (id : List ℕ) → (least most : ℕ) → Option ℕ
number_of line id least most = option_and_then (number_within least most) (value line id)

-- the name that an option has
abbrev pub name_of : Line → (id : List ℕ) → List ℕ
name_of line id = unwrap_or (value line id) []

-- what is to be done, by the number of rules of a generated source and by the input of a run, where these stand in the line
abbrev pub job_by : (rules : Option ℕ) → (input : Option (List ℕ)) → Line → Job
job_by (Some rules) input line = Source rules (name_of line (codes "output"))
job_by None (Some input) line =
    Run input (name_of line (codes "file")) (number_of line (codes "x-block") 1 4_294_967_295)
    (unwrap_or (number_of line (codes "x-window") 1 1_048_576) 4096) (unwrap_or (number_of line (codes "x-piece") 1 1_048_576) 4096)
job_by None None line = Compile (name_of line (codes "file")) (value line (codes "output"))

abbrev pub job_of : Line → Job
job_of line = job_by (number_of line (codes "x-source") 1 200) (value line (codes "x-run")) line

-- the options of a line that is not wrong
unfoldable pub options_of : Line → Options
options_of line = record {
  job = job_of line;
  format = format_of line;
  lines = not (has_flag line (codes "no-debug-info"));
  conds = has_flag line (codes "conditions");
  states = has_flag line (codes "storable-state");
  tags = has_flag line (codes "tags");
  captures = has_flag line (codes "captures");
  posix = has_flag line (codes "posix");
  custom = has_value line (codes "input");
  warn = has_flag line (codes "warnings");
  cover = has_flag line (codes "x-cover");
  enc = encoding_of line;
  surrogates = option_map_or encoding_policy_named (value line (codes "encoding-policy")) Ignore;
  empty = option_map_or empty_policy_named (value line (codes "empty-class")) MatchEmpty;
  dir = value line (codes "include");
}

-- the fault of words that the command refuses
abbrev pub refusal_of : (words : List (List ℕ)) → Option Fault
refusal_of words = if is_refused words then Some Usage else None

-- the fault of the words, if they have one: they are no line of the command, or a wrong one
unfoldable pub words_fault : (words : List (List ℕ)) → Option Fault
words_fault words = if is_refused words || is_wrong (line_of words) then Some Usage else None

-- memory ran out, or the words have this fault
abbrev pub StopsBy : Option Fault → Stop → Type 0
StopsBy fault stop.Memory = Unit {0}
StopsBy fault (stop.Fault first) = fault ≡ Some first

-- the command did not read the words: memory ran out, or it refuses them
abbrev pub IsRefusal : ErrorKind → Stop → Type 0
IsRefusal kind stop.Memory = kind ≡ OutOfMemory
IsRefusal kind (stop.Fault first) = (kind ≡ OutOfMemory → ⊥) × (first ≡ Usage)
