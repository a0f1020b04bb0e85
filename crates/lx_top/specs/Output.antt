-- What a job gives.
use Rattle.std.specs.Prelude.{◌≡◌, ℕ, List, [], Option, Some, None}
use Rattle.lx_base.specs.declared.settings.Job.{Job}
use Rattle.lx_base.specs.declared.settings.Job.TheVariants.{Compile, Run, Source}
use Rattle.lx_base.specs.declared.settings.Options.{Options}
use Rattle.lx_files.specs.declared.files.HeldFile.{HeldFile}
use Rattle.lx_files.specs.Held.{bytes_of}
use Rattle.lx_compile.specs.Output.{IsGiven}
use Rattle.lx_compile.specs.declared.made.Made.{Made}
use Rattle.lx_top.specs.Emitted.{IsRunText}
use Rattle.lx_top.specs.Sources.{IsSourceOutput, IsSourceText}

-- an output goes to a file, and nothing to the standard output; or without a file it goes to the standard output
abbrev pub GoesTo : (target : Option (List ℕ)) → (IsOutput : List ℕ → Type 0) → (bytes text : List ℕ) → Type 0
GoesTo None IsOutput bytes text = (bytes ≡ []) × IsOutput text
GoesTo (Some name) IsOutput bytes text = IsOutput bytes × (text ≡ [])

-- the bytes for its file and the text of a job that is asked for with these options, over the files, where this is made of its source
abbrev pub IsJobRight : Options → Job → List HeldFile → List Made → (bytes text : List ℕ) → Type 0
IsJobRight options (Compile file to) files made bytes text = GoesTo to (IsGiven options files file made) bytes text
IsJobRight options (Run input emitted block window piece) files made bytes text =
    (bytes ≡ []) × IsRunText block window piece (bytes_of files emitted) (bytes_of files input) text
IsJobRight options (Source rules to) files made bytes text = IsSourceOutput rules made bytes × IsSourceText rules bytes text

-- the bytes and the text that the options' job gives, over the files
abbrev pub IsRightOf : Options → List HeldFile → List Made → (bytes text : List ℕ) → Type 0
IsRightOf options files made bytes text = IsJobRight options options.job files made bytes text
