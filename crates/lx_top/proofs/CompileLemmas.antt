-- What is read before a text is made.
use Rattle.std.proofs.Common.{◌≡◌, ◌≤◌, ℕ, false, List, [], ◌∷◌, Option, Some, None, MatchOption, Result, IfErr, IfOk, IsErrAnd, refl, ap, subst, sym}
use Rattle.std.proofs.lemmas.Slice.Eq.{bytes_eq-Decides}
use Rattle.lx_base.specs.declared.settings.Job.{Job}
use Rattle.lx_base.specs.declared.settings.Job.TheVariants.{Compile, Run, Source}
use Rattle.lx_base.specs.declared.settings.Options.{Options}
use Rattle.lx_compile.specs.FirstFault.{IsFirstFault, StopsWith}
use Rattle.lx_compile.specs.Output.{IsGiven}
use Rattle.lx_compile.specs.Warnings.{told_warnings, warning_lines}
use Rattle.lx_compile.specs.declared.made.Made.{Made}
use Rattle.lx_files.specs.Counts.{Rose}
use Rattle.lx_files.specs.declared.files.HeldFile.{HeldFile}
use Rattle.lx_files.specs.Held.{bytes_of, Sees}
use Rattle.lx_files.specs.Reading.{Gives}
use Rattle.lx_split.specs.Includes.{expansion}
use Rattle.lx_split.specs.declared.expanding.ExpandStop.{ExpandStop}
use Rattle.lx_split.specs.declared.expanding.ExpandStop.TheVariants as stop
use Rattle.lx_top.specs.FirstFault.{IsFaultOf}
use Rattle.lx_top.specs.Jobs.{is_run, names_of, target_of}
use Rattle.lx_top.specs.Output.{GoesTo, IsJobRight}
use Rattle.lx_top.specs.Outside.{FilesView, SinkView}
use Rattle.lx_top.specs.Puts.{halt_of_expand}
use Rattle.lx_top.specs.Steps.{Cites, HaltsRead, IsNoFile, JobEnds}
use Rattle.lx_top.proofs.JobLemmas.{IfErr-residual, JobEnds-behind, JobEnds-reason}
use Rattle.lx_top.specs.Warnings.{job_lines}
use Rattle.lx_top.specs.declared.endings.Halt.{Halt}
use Rattle.lx_top.specs.declared.endings.Halt.TheVariants as halt

-- one file, of this name and with these bytes
abbrev one_file : (name bytes : List ℕ) → List HeldFile
one_file name bytes = record { name = name; bytes = bytes } ∷ []

bytes_of-one_file : (name bytes : List ℕ) → bytes_of (one_file name bytes) name ≡ Some bytes
bytes_of-one_file name bytes = rw ((bytes_eq-Decides name name).1 refl) refl

-- where bytes were read, the files can be seen with these bytes under the name
pub sees_given : (held : Option (List HeldFile)) (name bytes : List ℕ) → Gives held name bytes →
    (seen : List HeldFile) × Sees held seen × (bytes_of seen name ≡ Some bytes)
sees_given None name bytes gives = (one_file name bytes, tt, bytes_of-one_file name bytes)
sees_given (Some files) name bytes gives = (files, refl, gives)

-- where nothing was read for want of a file, the files can be seen without it
pub sees_missing : (held : Option (List HeldFile)) (name : List ℕ) (CountRose : Type 0) → MatchOption held CountRose (λ files. bytes_of files name ≡ None) →
    (seen : List HeldFile) × Sees held seen × (bytes_of seen name ≡ None)
sees_missing None name CountRose missing = ([], tt, refl)
sees_missing (Some files) name CountRose missing = (files, refl, missing)

-- the files can be seen
pub sees_any : (held : Option (List HeldFile)) → (seen : List HeldFile) × Sees held seen
sees_any None = ([], tt)
sees_any (Some files) = (files, refl)

-- the fault of a file that is not there is why it was not read
pub HaltsRead-missing : (seen : List HeldFile) (CountRose : Type 0) (file : ℕ) (name : List ℕ) (halt : Halt) → bytes_of seen name ≡ None → IsNoFile file name halt → HaltsRead seen CountRose file name halt
HaltsRead-missing seen CountRose file name (halt.Fault fault) missing is = (is, missing)
HaltsRead-missing seen CountRose file name halt.ReadFailed missing is = absurd is
HaltsRead-missing seen CountRose file name halt.PutFailed missing is = absurd is
HaltsRead-missing seen CountRose file name halt.OutOfMemory missing is = tt

-- ---- a compilation

-- a call that is to compile a source stopped
pub Ends-stopped : (options : Options) (seen : List HeldFile) (main : List ℕ) (target : Option (List ℕ)) (files files' : FilesView) (out : SinkView) (names : List (List ℕ))
    (stopped : ExpandStop) {T : Type 0} (ended : Result T Halt) → IsErrAnd ended (λ given. given ≡ halt_of_expand stopped)
    → StopsWith options seen main (Rose files.faults files'.faults) names stopped → files'.held ≡ files.held
    → (made : List Made) × JobEnds false (IsFirstFault options seen main made) target (GoesTo target (IsGiven options seen main made)) files files' out out ended
    × IfErr ended (Cites (expansion options seen main).met.names names)
Ends-stopped options seen main target files files' out names stop.Memory ended is stops held = (
  [],
  JobEnds-reason false _ _ _ _ _ _ _ ended halt.OutOfMemory is tt (refl, held),
  IfErr-residual ended halt.OutOfMemory (Cites (expansion options seen main).met.names names) is tt,
)
Ends-stopped options seen main target files files' out names (stop.Fault fault) ended is stops held = (
  stops.0.0,
  JobEnds-reason false _ _ _ _ _ _ _ ended (halt.Fault fault) is (stops.0.1, refl) (refl, held),
  IfErr-residual ended (halt.Fault fault) (Cites (expansion options seen main).met.names names) is (stops.1, stops.2),
)
Ends-stopped options seen main target files files' out names stop.ReadFailed ended is stops held = (
  [],
  JobEnds-reason false _ _ _ _ _ _ _ ended halt.ReadFailed is stops.0 (refl, held),
  IfErr-residual ended halt.ReadFailed (Cites (expansion options seen main).met.names names) is tt,
)

-- what goes to a file or to the standard output is right, if what is given so is
GoesTo-weaker : (target : Option (List ℕ)) (IsGiven IsRight : List ℕ → Type 0) → ((given : List ℕ) → IsGiven given → IsRight given)
    → (bytes text : List ℕ) → GoesTo target IsGiven bytes text → GoesTo target IsRight bytes text
GoesTo-weaker None IsGiven IsRight right bytes text goes = (goes.0, right text goes.1)
GoesTo-weaker (Some name) IsGiven IsRight right bytes text goes = (right bytes goes.0, goes.1)

module _ (options : Options) (seen : List HeldFile) (main : List ℕ) (made : List Made) (none : IsFirstFault options seen main made None)
    (files middle files' : FilesView) (held : middle.held ≡ files.held) (fewer : files.faults ≤ middle.faults) (writes : middle.write_faults ≡ files.write_faults)
    (out out' : SinkView) where
  -- the job is to compile the source to the file, or without one to the standard output
  abbrev Compiles : (target : Option (List ℕ)) → {T : Type 0} → Result T Halt → Type 0
  Compiles target ended = JobEnds false (IsFirstFault options seen main made) target (GoesTo target (IsGiven options seen main made)) files files' out out' ended

  -- the output was given to the file, or without one to the standard output
  pub Compiles-output : (target : Option (List ℕ)) (output : List ℕ) {T : Type 0} (ended : Result T Halt) → IsGiven options seen main made output
      → JobEnds false (λ fault. fault ≡ None) target (GoesTo target (λ given. given ≡ output)) middle files' out out' ended → Compiles target ended
  Compiles-output target output ended right ends =
      JobEnds-behind false (IsFirstFault options seen main made) target (GoesTo target (IsGiven options seen main made)) (GoesTo target (λ given. given ≡ output))
      files middle files' out out' ended held fewer writes none
      (GoesTo-weaker target (λ given. given ≡ output) (IsGiven options seen main made) (λ given is. subst (IsGiven options seen main made) (sym is) right)) ends

-- ---- the job

-- the job was a compilation
pub JobEnds-compiled : (options : Options) (job : Job) (file name : List ℕ) (to target : Option (List ℕ)) (seen : List HeldFile) (made : List Made)
    (files files' : FilesView) (out out' : SinkView) {T : Type 0} (ended : Result T Halt) → job ≡ Compile file to → name ≡ file → target ≡ to
    → JobEnds false (IsFirstFault options seen name made) target (GoesTo target (IsGiven options seen name made)) files files' out out' ended
    → JobEnds (is_run job) (IsFaultOf options job seen made) (target_of job) (IsJobRight options job seen made) files files' out out' ended
JobEnds-compiled options job file name to target seen made files files' out out' ended is name_is target_is ends =
    subst (λ job. JobEnds (is_run job) (IsFaultOf options job seen made) (target_of job) (IsJobRight options job seen made) files files' out out' ended) (sym is)
    (subst (λ to. JobEnds false (IsFirstFault options seen file made) to (GoesTo to (IsGiven options seen file made)) files files' out out' ended) target_is
    (subst (λ (file : List ℕ). JobEnds false (IsFirstFault options seen file made) target (GoesTo target (IsGiven options seen file made)) files files' out out' ended)
    name_is ends))

-- its message cites the files that were met
pub Cites-compiled : (options : Options) (job : Job) (file name : List ℕ) (to : Option (List ℕ)) (seen : List HeldFile) (names : List (List ℕ)) {T : Type 0}
    (ended : Result T Halt) → job ≡ Compile file to → name ≡ file → IfErr ended (Cites (expansion options seen name).met.names names)
    → IfErr ended (Cites (names_of options job seen) names)
Cites-compiled options job file name to seen names ended is name_is cites =
    subst (λ job. IfErr ended (Cites (names_of options job seen) names)) (sym is)
    (subst (λ (file : List ℕ). IfErr ended (Cites (expansion options seen file).met.names names)) name_is cites)

-- the lines of its warnings cite them
pub lines-compiled : (options : Options) (job : Job) (file name : List ℕ) (to : Option (List ℕ)) (seen : List HeldFile) (made : List Made) {T : Type 0} (lines : T → List ℕ)
    (ended : Result T Halt) → job ≡ Compile file to → name ≡ file
    → IfOk ended (λ told. lines told ≡ warning_lines (expansion options seen name).met.names (told_warnings options made))
    → IfOk ended (λ told. lines told ≡ job_lines options job seen made)
lines-compiled options job file name to seen made lines ended is name_is are =
    subst (λ job. IfOk ended (λ told. lines told ≡ job_lines options job seen made)) (sym is)
    (subst (λ (file : List ℕ). IfOk ended (λ told. lines told ≡ warning_lines (expansion options seen file).met.names (told_warnings options made))) name_is are)

-- other jobs have none
pub lines-run : (options : Options) (job : Job) (input emitted : List ℕ) (block : Option ℕ) (window piece : ℕ) (seen : List HeldFile) (made : List Made)
    → job ≡ Run input emitted block window piece → [] ≡ job_lines options job seen made
lines-run options job input emitted block window piece seen made is = ap (λ job. job_lines options job seen made) (sym is)

pub lines-source : (options : Options) (job : Job) (rules : ℕ) (to : List ℕ) (seen : List HeldFile) (made : List Made) → job ≡ Source rules to
    → [] ≡ job_lines options job seen made
lines-source options job rules to seen made is = ap (λ job. job_lines options job seen made) (sym is)
