-- How a run ends, from how its job ended.
use Rattle.std.proofs.Common.{◌≡◌, ◌∙◌, ℕ, false, List, [], Option, Some, None, refl, sym, ap, subst, inl, inr, arith}
use Rattle.std.specs.Prelude.{if◌then◌else◌}
use Rattle.lx_base.specs.declared.settings.Job.{Job}
use Rattle.lx_base.specs.declared.settings.Job.TheVariants.{Compile, Run, Source}
use Rattle.lx_base.specs.declared.settings.Options.{Options}
use Rattle.lx_compile.specs.Options.{tells_warnings}
use Rattle.lx_compile.specs.Warnings.{warning_lines, warnings_of}
use Rattle.lx_files.proofs.PutLemmas.{given_then-nil}
use Rattle.lx_files.specs.Held.{Sees}
use Rattle.lx_files.specs.Taking.{given_then}
use Rattle.lx_split.specs.Includes.{expansion}
use Rattle.lx_base.specs.declared.faults.Fault.{Fault}
use Rattle.lx_base.specs.Message.{message_text}
use Rattle.lx_files.specs.Counts.{Rose, IsCalm}
use Rattle.lx_files.specs.declared.files.HeldFile.{HeldFile}
use Rattle.lx_compile.specs.declared.made.Made.{Made}
use Rattle.lx_top.specs.Outside.{Outside, NoCountRose}
use Rattle.lx_top.specs.Delivery.{Completes, FailsToGive}
use Rattle.lx_top.specs.Endings.{EndsAs, EndsSo, IsExpected, TellsLines, TellsMessage}
use Rattle.lx_top.specs.FirstFault.{IsFirstFault}
use Rattle.lx_top.specs.Jobs.{file_names, is_run, job_of, options_for, target_of}
use Rattle.lx_top.specs.Output.{IsRightOf}
use Rattle.lx_top.specs.Steps.{Cites, Halts, Reports}
use Rattle.lx_top.specs.Warnings.{job_lines, lines_for}
use Rattle.lx_top.specs.declared.endings.Ending.{Ending}
use Rattle.lx_top.specs.declared.endings.Ending.TheVariants.{Done, Refused, ReadFailed, PutFailed, OutOfMemory}
use Rattle.lx_top.specs.declared.endings.Halt.{Halt}
use Rattle.lx_top.specs.declared.endings.Halt.TheVariants as halt
use Rattle.lx_top.proofs.FaultLemmas.{IsFirstFault-unique}

-- a job has no lines where warnings are not asked for
job_lines-none : (options : Options) (job : Job) (seen : List HeldFile) (made : List Made) → tells_warnings options ≡ false → job_lines options job seen made ≡ []
job_lines-none options (Compile file to) seen made unasked =
    ap (λ asked. warning_lines (expansion options seen file).met.names (if asked then warnings_of made else [])) unasked
job_lines-none options (Run input emitted block window piece) seen made unasked = refl
job_lines-none options (Source rules to) seen made unasked = refl

-- a count cannot rise and be calm
not_calm : (before after : ℕ) → Rose before after → IsCalm before after → ⊥
not_calm before after rose calm = omega (arith, rose calm.0)

module _ (words : List (List ℕ)) (seen : List HeldFile) (made : List Made) (before after : Outside) where
  abbrev IsFault : Option Fault → Type 0
  IsFault = IsFirstFault words seen made

  abbrev EndsIn : Ending → Type 0
  EndsIn = EndsAs (is_run (job_of words)) IsFault (file_names words seen) (target_of (job_of words)) (IsRightOf (options_for words) seen made) (lines_for words seen made) before after

  -- where no count rose, nothing failed while bytes and a text were given
  gives_calm : (target : Option (List ℕ)) (bytes text : List ℕ) → FailsToGive target bytes text before.files after.files before.out after.out
      → NoCountRose before after → ⊥
  gives_calm None bytes text (inl fails) calm = fails.0
  gives_calm (Some name) bytes text (inl fails) calm = not_calm before.files.write_faults after.files.write_faults fails.0.1 calm.writes
  gives_calm target bytes text (inr fails) calm = not_calm before.out.faults after.out.faults fails.2 calm.out

  -- where there is no fault, and where there is one
  expected-none : (fault : Option Fault) → IsFault None → IsFault fault → IsExpected fault Done
  expected-none fault none is = subst (λ given. IsExpected given Done) (IsFirstFault-unique words seen made None fault none is) (inl refl)

  expected-some : (first : Fault) (fault : Option Fault) → IsFault (Some first) → IsFault fault → IsExpected fault Refused
  expected-some first fault some is = subst (λ given. IsExpected given Refused) (IsFirstFault-unique words seen made (Some first) fault some is) (inl refl)

  -- where no count rose, the ending is the expected one
  EndsAs-expected : (ending : Ending) → EndsIn ending → NoCountRose before after → (fault : Option Fault) → IsFault fault → IsExpected fault ending
  EndsAs-expected Done ends calm fault is = expected-none fault ends.completes.no_fault is
  EndsAs-expected Refused ends calm fault is = expected-some ends.first fault ends.is_first is
  EndsAs-expected ReadFailed ends calm fault is = absurd (not_calm before.files.faults after.files.faults ends.rose calm.reads)
  EndsAs-expected PutFailed (inl ends) calm fault is = absurd (gives_calm (target_of (job_of words)) ends.0.bytes ends.0.text ends.0.fails calm)
  EndsAs-expected PutFailed (inr ends) calm fault is = absurd (not_calm before.err.faults after.err.faults ends.1 calm.err)
  EndsAs-expected OutOfMemory ends calm None is = inr refl
  EndsAs-expected OutOfMemory ends calm (Some first) is = inr refl

  -- a job that broke off and was told
  Halts-told : (halt : Halt) (ending : Ending) →
      Halts (is_run (job_of words)) IsFault (target_of (job_of words)) (IsRightOf (options_for words) seen made) before.files after.files before.out after.out halt →
      Reports (file_names words seen) before.err after.err halt ending → EndsIn ending
  Halts-told (halt.Fault first) Done halts told = absurd told
  Halts-told (halt.Fault first) Refused halts told = record { first = first; is_first = halts.0; gave = halts.1; told = told }
  Halts-told (halt.Fault first) ReadFailed halts told = absurd told
  Halts-told (halt.Fault first) PutFailed halts told = inr (inl (record { first = first; is_first = halts.0; gave = halts.1; told = told.1 }), told.0)
  Halts-told (halt.Fault first) OutOfMemory halts told = inr (inl (record { first = first; is_first = halts.0; gave = halts.1; told = told }))
  Halts-told halt.ReadFailed ending halts told =
      subst EndsIn (sym told.ending_is) (record { rose = halts.0; nothing = halts.1; told = told.told })
  Halts-told halt.PutFailed ending halts told = subst EndsIn (sym told.ending_is) (inl (halts, told.told))
  Halts-told halt.OutOfMemory ending halts told = subst EndsIn (sym told.ending_is) (inl (halts, told.told))

  -- the message cites the names that the words name
  Reports-names : (names : List (List ℕ)) (halt : Halt) (ending : Ending) → Cites (file_names words seen) names halt → Reports names before.err after.err halt ending →
      Reports (file_names words seen) before.err after.err halt ending
  Reports-names names (halt.Fault first) ending cites told = subst (λ given. TellsMessage (message_text given first) before.err after.err ending) cites.0 told
  Reports-names names halt.ReadFailed ending cites told = told
  Reports-names names halt.PutFailed ending cites told = told
  Reports-names names halt.OutOfMemory ending cites told = told

  -- a run whose job broke off
  pub EndsSo-broken : (names : List (List ℕ)) (halt : Halt) (ending : Ending) → Sees before.files.held seen →
      Halts (is_run (job_of words)) IsFault (target_of (job_of words)) (IsRightOf (options_for words) seen made) before.files after.files before.out after.out halt →
      Cites (file_names words seen) names halt → Reports names before.err after.err halt ending → EndsSo words before after ending
  EndsSo-broken names halt ending sees halts cites told =
      let ends : EndsIn ending = Halts-told halt ending halts (Reports-names names halt ending cites told) in
      record { seen = seen; made = made; sees = sees; ends = ends; expected = λ calm fault is. EndsAs-expected ending ends calm fault is }

  -- a job that was done, behind which the lines of its warnings were told
  Completes-told : (ending : Ending) →
      Completes IsFault (target_of (job_of words)) (IsRightOf (options_for words) seen made) before.files after.files before.out after.out →
      TellsLines (lines_for words seen made) before.err after.err ending → EndsIn ending
  Completes-told Done completes told = record { completes = completes; told = told.0; err_calm = told.1 }
  Completes-told Refused completes told = absurd told
  Completes-told ReadFailed completes told = absurd told
  Completes-told PutFailed completes told = inr (inr (record { completes = completes; some = told.0; told = told.2 }), told.1)
  Completes-told OutOfMemory completes told = inr (inr (record { completes = completes; some = told.0; told = told.1 }))

  -- a run whose job was done
  pub EndsSo-done : (lines : List ℕ) (ending : Ending) → Sees before.files.held seen →
      Completes IsFault (target_of (job_of words)) (IsRightOf (options_for words) seen made) before.files after.files before.out after.out →
      lines ≡ lines_for words seen made → TellsLines lines before.err after.err ending → EndsSo words before after ending
  EndsSo-done lines ending sees completes same told =
      let ends : EndsIn ending = Completes-told ending completes (subst (λ (lines : List ℕ). TellsLines lines before.err after.err ending) same told) in
      record { seen = seen; made = made; sees = sees; ends = ends; expected = λ calm fault is. EndsAs-expected ending ends calm fault is }

-- a run that is done tells nothing where no warnings are asked for
pub told-unasked : (words : List (List ℕ)) (before after : Outside) → tells_warnings (options_for words) ≡ false → EndsSo words before after Done
    → after.err.given ≡ before.err.given
told-unasked words before after unasked ended =
    ended.ends.told ∙ ap (given_then before.err.given) (job_lines-none (options_for words) (options_for words).job ended.seen ended.made unasked)
    ∙ sym (given_then-nil before.err.given)
