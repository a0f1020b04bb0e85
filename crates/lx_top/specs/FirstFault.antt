-- The first fault of a command line over the files that are held.
use Rattle.std.specs.Prelude.{◌≡◌, ℕ, List, Option, Some, None}
use Rattle.lx_base.specs.declared.settings.Job.{Job}
use Rattle.lx_base.specs.declared.settings.Job.TheVariants.{Compile, Run, Source}
use Rattle.lx_base.specs.declared.settings.Options.{Options}
use Rattle.lx_base.specs.declared.faults.Fault.{Fault}
use Rattle.lx_files.specs.declared.files.HeldFile.{HeldFile}
use Rattle.lx_files.specs.Held.{bytes_of}
use Rattle.lx_words.specs.Options.{words_fault}
use Rattle.lx_compile.specs.FirstFault as source
use Rattle.lx_compile.specs.declared.made.Made.{Made}
use Rattle.lx_top.specs.Emitted.{IsRunFault}
use Rattle.lx_top.specs.Jobs.{options_for}

-- The first fault of a job that is asked for with these options, over the files, or none, where this is made of its source. A generated source
-- has none.
abbrev pub IsFaultOf : Options → Job → List HeldFile → List Made → Option Fault → Type 0
IsFaultOf options (Compile file to) files made fault = source.IsFirstFault options files file made fault
IsFaultOf options (Run input emitted block window piece) files made fault =
    IsRunFault block window piece input (bytes_of files input) emitted (bytes_of files emitted) fault
IsFaultOf options (Source rules to) files made fault = fault ≡ None

-- the first fault of the options' job over the files, or none
abbrev pub IsJobFault : Options → List HeldFile → List Made → Option Fault → Type 0
IsJobFault options files made fault = IsFaultOf options options.job files made fault

-- the first fault, or none, where the words have this one, or none
abbrev pub IsFaultBehind : (of_words : Option Fault) → Options → List HeldFile → List Made → Option Fault → Type 0
IsFaultBehind None options files made fault = IsJobFault options files made fault
IsFaultBehind (Some first) options files made fault = fault ≡ Some first

-- The first fault, or none: of the words, then of what they ask for. What is made of a source tells the fault of a directive that goes by how
-- many registers its scanners use; no other fault goes by it.
abbrev pub IsFirstFault : (words : List (List ℕ)) → List HeldFile → List Made → Option Fault → Type 0
IsFirstFault words files made fault = IsFaultBehind (words_fault words) (options_for words) files made fault

-- this is made of the source in a file that a job compiles, if it compiles one without an earlier fault
abbrev pub AreMadeFor : Options → Job → List HeldFile → List Made → Type 0
AreMadeFor options (Compile file to) files made = source.AreMadeOf options files file made
AreMadeFor options (Run input emitted block window piece) files made = Unit {0}
AreMadeFor options (Source rules to) files made = Unit {0}

-- this is made of the source of what the words ask for
abbrev pub AreMadeBy : (words : List (List ℕ)) → List HeldFile → List Made → Type 0
AreMadeBy words files made = AreMadeFor (options_for words) (options_for words).job files made
