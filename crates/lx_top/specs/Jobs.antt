-- What a command line asks the program to do.
use Rattle.std.specs.Prelude.{◌<◌, ◌≤◌, ℕ, Bool, true, false, List, [], ◌∷◌, Option, Some, None}
use Rattle.lx_base.specs.declared.faults.Fault.{Fault}
use Rattle.lx_base.specs.declared.settings.Job.{Job}
use Rattle.lx_base.specs.declared.settings.Job.TheVariants.{Compile, Run, Source}
use Rattle.lx_base.specs.declared.settings.Options.{Options}
use Rattle.lx_files.specs.declared.files.HeldFile.{HeldFile}
use Rattle.lx_split.specs.Includes.{expansion}
use Rattle.lx_words.specs.Line.{line_of}
use Rattle.lx_words.specs.Options.{options_of, words_fault}

-- what words without a fault ask for
abbrev pub options_for : (words : List (List ℕ)) → Options
options_for words = options_of (line_of words)

abbrev pub job_of : (words : List (List ℕ)) → Job
job_of words = (options_for words).job

-- the numbers of a job are within limits: the window of a run and its refills have at least one unit, and a generated source at most 200 rules
abbrev pub IsWithinLimits : Job → Type 0
IsWithinLimits (Compile file to) = Unit {0}
IsWithinLimits (Run input emitted block window piece) = (0 < window) × (0 < piece)
IsWithinLimits (Source rules to) = rules ≤ 200

-- the job runs a scanner
abbrev pub is_run : Job → Bool
is_run (Compile file to) = false
is_run (Run input emitted block window piece) = true
is_run (Source rules to) = false

-- the file that gets the bytes of a job, if one does
abbrev pub target_of : Job → Option (List ℕ)
target_of (Compile file to) = to
target_of (Run input emitted block window piece) = None
target_of (Source rules to) = Some to

-- The names of the files that a job reads, which the message of a fault cites: a source and those that it includes, in the order in which they
-- are met; or an emitted file and an input. A generated source has no fault.
abbrev pub names_of : Options → Job → (seen : List HeldFile) → List (List ℕ)
names_of options (Compile file to) seen = (expansion options seen file).met.names
names_of options (Run input emitted block window piece) seen = emitted ∷ input ∷ []
names_of options (Source rules to) seen = []

-- the same where the words have this fault, or none
abbrev pub names_behind : (of_words : Option Fault) → Options → (seen : List HeldFile) → List (List ℕ)
names_behind None options seen = names_of options options.job seen
names_behind (Some first) options seen = []

-- the same of a command line over the files: where the words have a fault, nothing is read
abbrev pub file_names : (words : List (List ℕ)) → (seen : List HeldFile) → List (List ℕ)
file_names words seen = names_behind (words_fault words) (options_for words) seen
