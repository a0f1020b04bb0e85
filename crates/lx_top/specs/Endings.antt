-- How a run of the program ends.
use Rattle.std.specs.Prelude.{◌≡◌, ◌≢◌, ◌≤◌, ◌⊎◌, ℕ, Bool, List, [], codes, map, Option, Some, MatchOption, Result, Ok, Err, String, string_bytes}
use Rattle.std.specs.Global.{Global, Vec}
use Rattle.std.specs.IoError.{error_kind}
use Rattle.std.specs.declared.io.Error.{Error}
use Rattle.std.specs.declared.io.ErrorKind.{ErrorKind}
use Rattle.std.specs.declared.io.ErrorKind.TheVariants.{InvalidData}
use Rattle.std.specs.declared.io.ErrorKind.TheVariants as kinds
use Rattle.lx_base.specs.Message.{message_text}
use Rattle.lx_base.specs.declared.faults.Fault.{Fault}
use Rattle.lx_base.specs.declared.faults.Fault.TheVariants.{Usage}
use Rattle.lx_files.specs.Counts.{Rose}
use Rattle.lx_files.specs.Held.{IsFront, Sees}
use Rattle.lx_files.specs.Taking.{GivesFront, given_then}
use Rattle.lx_files.specs.declared.files.HeldFile.{HeldFile}
use Rattle.lx_compile.specs.declared.made.Made.{Made}
use Rattle.lx_top.specs.Delivery.{Completes, GivesOut, BreaksOff, DeliversBefore, DeliversNothing}
use Rattle.lx_top.specs.FirstFault.{IsFirstFault}
use Rattle.lx_top.specs.Jobs.{file_names, is_run, job_of, options_for, target_of}
use Rattle.lx_top.specs.Outside.{SinkView, Outside, NoCountRose, sink_view}
use Rattle.lx_top.specs.Output.{IsRightOf}
use Rattle.lx_top.specs.Warnings.{lines_for}
use Rattle.lx_top.specs.declared.endings.Ending.{Ending}
use Rattle.lx_top.specs.declared.endings.Ending.TheVariants.{Done, Refused, ReadFailed, PutFailed, OutOfMemory}

-- the exit status of an ending
abbrev pub status_of : Ending → ℕ
status_of Done = 0
status_of Refused = 1
status_of ReadFailed = 2
status_of PutFailed = 3
status_of OutOfMemory = 4

-- the text by which an ending that is no refusal is told at the standard error
abbrev pub failure_text : Ending → List ℕ
failure_text Done = []
failure_text Refused = []
failure_text ReadFailed = codes "re2c: error: read failed\n"
failure_text PutFailed = codes "re2c: error: write failed\n"
failure_text OutOfMemory = codes "re2c: error: out of memory\n"

-- A text was put whole, and no put failed; or a front of it was put, and then a put was refused: the count of failed puts rose, or that of puts
-- that wanted memory.
abbrev pub PutsText : (text : List ℕ) → SinkView → SinkView → Type 0
PutsText text err err' =
    ((err'.given ≡ given_then err.given text) × (err'.faults ≡ err.faults))
    ⊎ (GivesFront err.given err'.given text × (Rose err.faults err'.faults ⊎ Rose err.wants err'.wants))

-- A front of a message was told, at which the sink had such counts, and then the ending's own text.
abbrev pub TellsFront : (message : List ℕ) → Ending → SinkView → SinkView → Type 0
TellsFront message ending err err' =
    (front : List ℕ) × (faults wants : ℕ) × IsFront front message × (err.faults ≤ faults) × (err.wants ≤ wants)
    × PutsText (failure_text ending) (sink_view (given_then err.given front) faults wants) err'

-- how a message is told: whole, or a front of it and then the ending's own text
abbrev pub TellsMessage : (message : List ℕ) → SinkView → SinkView → Ending → Type 0
TellsMessage message err err' Done = ⊥
TellsMessage message err err' Refused = err'.given ≡ given_then err.given message
TellsMessage message err err' ReadFailed = ⊥
TellsMessage message err err' PutFailed = Rose err.faults err'.faults × TellsFront message PutFailed err err'
TellsMessage message err err' OutOfMemory = TellsFront message OutOfMemory err err'

-- How the lines of warnings are told behind a job that was done: all of them, and no put failed; or, where there are some, a front of them and then
-- the ending's own text.
abbrev pub TellsLines : (lines : List ℕ) → SinkView → SinkView → Ending → Type 0
TellsLines lines err err' Done = (err'.given ≡ given_then err.given lines) × (err'.faults ≡ err.faults)
TellsLines lines err err' Refused = ⊥
TellsLines lines err err' ReadFailed = ⊥
TellsLines lines err err' PutFailed = (lines ≢ []) × Rose err.faults err'.faults × TellsFront lines PutFailed err err'
TellsLines lines err err' OutOfMemory = (lines ≢ []) × TellsFront lines OutOfMemory err err'

-- words that are no text are refused as any faulty command line is, with nothing read and nothing given
abbrev pub RefusesWords : SinkView → SinkView → (status : ℕ) → Type 0
RefusesWords err err' status =
    (ending : Ending) × (status ≡ status_of ending) × TellsMessage (message_text [] Usage) err err' ending

module _ (runs : Bool) (IsFault : Option Fault → Type 0) (names : List (List ℕ)) (target : Option (List ℕ)) (IsRight : (bytes text : List ℕ) → Type 0) (lines : List ℕ) (before after : Outside) where
  abbrev GivesNothing : Type 0
  GivesNothing = DeliversNothing before.files after.files before.out after.out

  abbrev GivesBefore : Fault → Type 0
  GivesBefore first = DeliversBefore runs target IsRight before.files after.files before.out after.out first

  -- there is a first fault, what comes before it was given, and a front of its message was told, and then the ending's own text
  pub record BreaksMessage (ending : Ending) : Type 0 where
    pub first : Fault
    pub is_first : IsFault (Some first)
    pub gave : GivesBefore first
    pub told : TellsFront (message_text names first) ending before.err after.err

  -- all was done, there are warnings to tell, and a front of their lines was told, and then the ending's own text
  pub record BreaksLines (ending : Ending) : Type 0 where
    pub completes : Completes IsFault target IsRight before.files after.files before.out after.out
    pub some : lines ≢ []
    pub told : TellsFront lines ending before.err after.err

  -- the ending's own text was told
  abbrev TellsEnding : Ending → Type 0
  TellsEnding ending = PutsText (failure_text ending) before.err after.err

  -- all was done, and the lines of the warnings were told, of which there are none where they are not asked for
  pub record IsDone : Type 0 where
    pub completes : Completes IsFault target IsRight before.files after.files before.out after.out
    pub told : after.err.given ≡ given_then before.err.given lines
    pub err_calm : after.err.faults ≡ before.err.faults

  -- there is a first fault, what comes before it was given, and then its message was told
  pub record IsRefused : Type 0 where
    pub first : Fault
    pub is_first : IsFault (Some first)
    pub gave : GivesBefore first
    pub told : after.err.given ≡ given_then before.err.given (message_text names first)

  -- a read failed, and nothing was given
  pub record IsReadFailed : Type 0 where
    pub rose : Rose before.files.faults after.files.faults
    pub nothing : GivesNothing
    pub told : TellsEnding ReadFailed

  -- a put or a write failed while what is right was given, or the put of a fault's message or of the lines of warnings failed
  abbrev pub IsPutFailed : Type 0
  IsPutFailed =
      (GivesOut runs IsFault target IsRight before.files after.files before.out after.out
      × TellsEnding PutFailed)
      ⊎ ((BreaksMessage PutFailed ⊎ BreaksLines PutFailed) × Rose before.err.faults after.err.faults)

  -- memory ran out
  abbrev pub IsOutOfMemory : Type 0
  IsOutOfMemory =
      (BreaksOff runs IsFault target IsRight before.files after.files before.out after.out × TellsEnding OutOfMemory)
      ⊎ (BreaksMessage OutOfMemory ⊎ BreaksLines OutOfMemory)

  -- a run ended so
  abbrev pub EndsAs : Ending → Type 0
  EndsAs Done = IsDone
  EndsAs Refused = IsRefused
  EndsAs ReadFailed = IsReadFailed
  EndsAs PutFailed = IsPutFailed
  EndsAs OutOfMemory = IsOutOfMemory

-- where no count of faults rose, the ending follows from the first fault, want of memory aside
abbrev pub IsExpected : Option Fault → Ending → Type 0
IsExpected fault ending =
    MatchOption fault ((ending ≡ Done) ⊎ (ending ≡ OutOfMemory)) (λ first. (ending ≡ Refused) ⊎ (ending ≡ OutOfMemory))

-- A run of the program on these words ended so, over the files as the run saw them: those that are held, where that is told. This is made of
-- the source, if it compiled one.
pub record EndsSo (words : List (List ℕ)) (before after : Outside) (ending : Ending) : Type 0 where
  pub seen : List HeldFile
  pub made : List Made
  pub sees : Sees before.files.held seen
  pub ends : EndsAs (is_run (job_of words)) (IsFirstFault words seen made) (file_names words seen) (target_of (job_of words)) (IsRightOf (options_for words) seen made) (lines_for words seen made) before after ending
  pub expected : NoCountRose before after → (fault : Option Fault) → IsFirstFault words seen made fault → IsExpected fault ending

-- a run has this exit status, which stands for one of the five endings
abbrev pub Ends : List (List ℕ) → Outside → Outside → (status : ℕ) → Type 0
Ends words before after status = (ending : Ending) × (status ≡ status_of ending) × EndsSo words before after ending

-- The answer where the words of the command line could not be had, by the kind of the error: nothing is read, written or put to the standard
-- output. A word that is no UTF-8 is refused as a faulty command line. Any other error ends with 4 or 5, and nothing is told of it.
pub record EndsWithout (kind : ErrorKind) (before after : Outside) (status : ℕ) : Type 0 where
  pub files : after.files ≡ before.files
  pub out : after.out ≡ before.out
  pub no_text : kind ≡ InvalidData → RefusesWords before.err after.err status
  pub memory : kind ≡ kinds.OutOfMemory → (status ≡ 4) × (after.err ≡ before.err)
  pub other : kind ≢ InvalidData → kind ≢ kinds.OutOfMemory → (status ≡ 5) × (after.err ≡ before.err)

-- the answer of the program to its words, or to the error by which they could not be had
abbrev pub Answers : Result (Vec (String Global)) Error → Outside → Outside → (status : ℕ) → Type 0
Answers (Ok words) before after status = Ends (map string_bytes words.items) before after status
Answers (Err error) before after status = EndsWithout (error_kind error) before after status
