-- The warnings that are told behind a job that is done.
use Rattle.std.specs.Prelude.{ℕ, List, []}
use Rattle.lx_base.specs.declared.settings.Job.{Job}
use Rattle.lx_base.specs.declared.settings.Job.TheVariants.{Compile, Run, Source}
use Rattle.lx_base.specs.declared.settings.Options.{Options}
use Rattle.lx_files.specs.declared.files.HeldFile.{HeldFile}
use Rattle.lx_compile.specs.Warnings.{told_warnings, warning_lines}
use Rattle.lx_compile.specs.declared.made.Made.{Made}
use Rattle.lx_split.specs.Includes.{expansion}
use Rattle.lx_top.specs.Jobs.{options_for}

-- The lines of the warnings of a job, where this is made of its source: those of a compilation, if warnings are asked for. They cite the source
-- and the files that it includes.
abbrev pub job_lines : Options → Job → (seen : List HeldFile) → List Made → List ℕ
job_lines options (Compile file to) seen made = warning_lines (expansion options seen file).met.names (told_warnings options made)
job_lines options (Run input emitted block window piece) seen made = []
job_lines options (Source rules to) seen made = []

-- the same of what the words ask for
abbrev pub lines_for : (words : List (List ℕ)) → (seen : List HeldFile) → List Made → List ℕ
lines_for words seen made = job_lines (options_for words) (options_for words).job seen made
