-- How the job of a generated source ends.
use Rattle.std.proofs.Common.{◌≡◌, ◌∙◌, ℕ, ◌%◌, List, [], length, false, Option, Some, None, Result, IsErrAnd, refl, sym, ap, subst, arith}
use Rattle.lx_base.specs.declared.faults.Fault.{Fault}
use Rattle.lx_base.specs.declared.settings.Job.{Job}
use Rattle.lx_base.specs.declared.settings.Job.TheVariants.{Source}
use Rattle.lx_base.specs.declared.settings.Options.{Options}
use Rattle.lx_compile.specs.declared.made.Made.{Made}
use Rattle.lx_ccode.specs.declared.piece.Piece.{Piece}
use Rattle.lx_run.specs.Texts.{run_text}
use Rattle.lx_files.specs.declared.files.HeldFile.{HeldFile}
use Rattle.lx_source.specs.Sources.{source_text}
use Rattle.lx_top.specs.Emitted.{Scans}
use Rattle.lx_top.specs.FirstFault.{IsFaultOf}
use Rattle.lx_top.specs.Jobs.{is_run, target_of}
use Rattle.lx_top.specs.Outside.{FilesView, SinkView}
use Rattle.lx_top.specs.Output.{IsJobRight}
use Rattle.lx_top.specs.Sources.{IsSourceOutput, IsSourceText, summary, usual_units, words_of}
use Rattle.lx_top.specs.Steps.{JobEnds}
use Rattle.lx_top.specs.declared.endings.Halt.{Halt}
use Rattle.lx_top.specs.declared.endings.Halt.TheVariants as halt
use Rattle.lx_top.proofs.JobLemmas.{JobEnds-delivered, JobEnds-reason}

-- any size is whole in units of one
pub whole-bytes : (size unit : ℕ) → unit ≡ 1 → size % unit ≡ 0
whole-bytes size unit is = ap (λ (n : ℕ). size % n) is ∙ omega arith

-- what is told of a run, by its parts
pub summary-run : (rules : ℕ) (piece : Piece) (text source run input : List ℕ) (size : ℕ) → text ≡ summary size run → size ≡ length source → source ≡ source_text rules
    → run ≡ (run_text piece input usual_units usual_units).text → input ≡ words_of rules → text ≡ summary (length (source_text rules)) (run_text piece (words_of rules) usual_units usual_units).text
summary-run rules piece text source run input size text_is size_is source_is run_is input_is =
    text_is ∙ ap (λ (size : ℕ). summary size run) (size_is ∙ ap length source_is) ∙ ap (summary (length (source_text rules))) (run_is ∙ ap (λ (input : List ℕ). (run_text piece input usual_units usual_units).text) input_is)

-- it has no fault
abbrev IsNoFault : Option Fault → Type 0
IsNoFault fault = fault ≡ None

-- its output and its text are right
abbrev IsRight : (rules : ℕ) → List Made → (bytes text : List ℕ) → Type 0
IsRight rules made bytes text = IsSourceOutput rules made bytes × IsSourceText rules bytes text

module _ (rules : ℕ) (target : List ℕ) (files : FilesView) where
  -- the job ended so
  abbrev EndsSource : (files' : FilesView) (out out' : SinkView) {T : Type 0} → Result T Halt → Type 0
  EndsSource files' out out' ended = (made : List Made) × JobEnds false IsNoFault (Some target) (IsRight rules made) files files' out out' ended

  -- memory ran out
  pub EndsSource-memory : (out : SinkView) {T : Type 0} (ended : Result T Halt) → IsErrAnd ended (λ given. given ≡ halt.OutOfMemory) → EndsSource files out out ended
  EndsSource-memory out ended is = ([], JobEnds-reason false IsNoFault (Some target) (IsRight rules []) files files out out ended halt.OutOfMemory is tt (refl, refl))

  -- a step broke off, which does so only where memory ran out
  pub EndsSource-halted : (out : SinkView) {T : Type 0} (ended : Result T Halt) (halted : Halt) → IsErrAnd ended (λ given. given ≡ halted) → halted ≡ halt.OutOfMemory
      → EndsSource files out out ended
  EndsSource-halted out ended halted is memory = EndsSource-memory out ended (subst (λ (halted : Halt). IsErrAnd ended (λ given. given ≡ halted)) memory is)

  -- its output was given, and what is told of the run
  pub EndsSource-given : (made : List Made) (output : List ℕ) → IsSourceOutput rules made output
      → (piece : Piece) (bytes text put : List ℕ) (files' : FilesView) (out out' : SinkView) {T : Type 0} (ended : Result T Halt)
      → Scans output None piece → text ≡ summary (length (source_text rules)) (run_text piece (words_of rules) usual_units usual_units).text → bytes ≡ output → put ≡ text
      → JobEnds false (λ fault. fault ≡ None) (Some target) (λ given told. (given ≡ bytes) × (told ≡ put)) files files' out out' ended
      → EndsSource files' out out' ended
  EndsSource-given made output right piece bytes text put files' out out' ended scans text_is bytes_are put_is ends = (
    made,
    JobEnds-delivered false IsNoFault (Some target) (IsRight rules made) bytes put files files files' out out' ended refl (omega arith) refl refl
        (subst (λ (bytes : List ℕ). IsRight rules made bytes put) (sym bytes_are) (right, (piece, scans, put_is ∙ text_is))) ends,
  )

-- ---- the job

-- the job was that of a generated source
pub JobEnds-generated : (options : Options) (job : Job) (rules : ℕ) (to name : List ℕ) (seen : List HeldFile) (made : List Made) (files files' : FilesView) (out out' : SinkView)
    {T : Type 0} (ended : Result T Halt) → job ≡ Source rules to → name ≡ to
    → JobEnds false (λ fault. fault ≡ None) (Some name) (λ bytes text. IsSourceOutput rules made bytes × IsSourceText rules bytes text) files files' out out' ended
    → JobEnds (is_run job) (IsFaultOf options job seen made) (target_of job) (IsJobRight options job seen made) files files' out out' ended
JobEnds-generated options job rules to name seen made files files' out out' ended is name_is ends =
    subst (λ job. JobEnds (is_run job) (IsFaultOf options job seen made) (target_of job) (IsJobRight options job seen made) files files' out out' ended) (sym is)
    (subst (λ (to : List ℕ). JobEnds false IsNoFault (Some to) (IsRight rules made) files files' out out' ended) name_is ends)
