-- A command line has one first fault, or none.
use Rattle.std.proofs.Common.{◌≡◌, ℕ, List, Option, Some, None, sym, ◌∙◌}
use Rattle.lx_base.specs.declared.faults.Fault.{Fault}
use Rattle.lx_base.specs.declared.settings.Job.{Job}
use Rattle.lx_base.specs.declared.settings.Job.TheVariants.{Compile, Run, Source}
use Rattle.lx_base.specs.declared.settings.Options.{Options}
use Rattle.lx_compile.specs.declared.made.Made.{Made}
use Rattle.lx_files.specs.declared.files.HeldFile.{HeldFile}
use Rattle.lx_files.specs.Held.{bytes_of}
use Rattle.lx_words.specs.Options.{words_fault}
use Rattle.lx_top.specs.FirstFault.{IsFaultBehind, IsFaultOf, IsFirstFault}
use Rattle.lx_top.specs.Jobs.{options_for}
use Rattle.lx_compile.proofs.OneFault.{IsFirstFault-one}
use Rattle.lx_top.proofs.EmittedLemmas.{IsRunFault-unique}

-- a job has one first fault, or none
IsFaultOf-unique : (options : Options) (job : Job) (files : List HeldFile) (made : List Made) (fault other : Option Fault)
    → IsFaultOf options job files made fault → IsFaultOf options job files made other → fault ≡ other
IsFaultOf-unique options (Compile file to) files made fault other is is_other = IsFirstFault-one options files file made fault other is is_other
IsFaultOf-unique options (Run input emitted block window piece) files made fault other is is_other =
    IsRunFault-unique block window piece input (bytes_of files input) emitted (bytes_of files emitted) fault other is is_other
IsFaultOf-unique options (Source rules to) files made fault other is is_other = is ∙ sym is_other

IsFaultBehind-unique : (of_words : Option Fault) (options : Options) (files : List HeldFile) (made : List Made) (fault other : Option Fault)
    → IsFaultBehind of_words options files made fault → IsFaultBehind of_words options files made other → fault ≡ other
IsFaultBehind-unique None options files made fault other is is_other = IsFaultOf-unique options options.job files made fault other is is_other
IsFaultBehind-unique (Some first) options files made fault other is is_other = is ∙ sym is_other

-- a command line has one first fault, or none
pub IsFirstFault-unique : (words : List (List ℕ)) (files : List HeldFile) (made : List Made) (fault other : Option Fault)
    → IsFirstFault words files made fault → IsFirstFault words files made other → fault ≡ other
IsFirstFault-unique words files made fault other = IsFaultBehind-unique (words_fault words) (options_for words) files made fault other
