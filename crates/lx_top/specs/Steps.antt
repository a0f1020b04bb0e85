-- Where a job breaks off, step by step.
use Rattle.std.specs.Prelude.{◌≡◌, ℕ, Bool, List, Option, Some, None, Result, MatchResult}
use Rattle.lx_base.specs.Message.{IsPlaced, message_text}
use Rattle.lx_base.specs.declared.faults.Fault.{Fault}
use Rattle.lx_base.specs.declared.faults.Fault.TheVariants.{NoFile, NotEmitted}
use Rattle.lx_files.specs.Counts.{Rose}
use Rattle.lx_files.specs.Held.{bytes_of}
use Rattle.lx_files.specs.declared.files.HeldFile.{HeldFile}
use Rattle.lx_base.specs.Places.{file_start}
use Rattle.std.specs.Global.{Vec}
use Rattle.lx_compile.specs.declared.made.Made.{Made}
use Rattle.lx_top.specs.Sources.{IsSourceOutput}
use Rattle.lx_top.specs.Delivery.{Bound, Completes, GivesOut, BreaksOff, DeliversBefore, DeliversNothing, FailsToBind, MayBeBound}
use Rattle.lx_top.specs.Emitted.{IsUnread, place_in}
use Rattle.lx_top.specs.Endings.{PutsText, TellsMessage, failure_text}
use Rattle.lx_top.specs.Outside.{FilesView, SinkView}
use Rattle.lx_top.specs.declared.endings.Ending.{Ending}
use Rattle.lx_top.specs.declared.endings.Ending.TheVariants.{ReadFailed, PutFailed, OutOfMemory}
use Rattle.lx_top.specs.declared.endings.Halt.{Halt}
use Rattle.lx_top.specs.declared.endings.Halt.TheVariants as halt

-- why a file of this name and number was not read, where the files were seen so, and `CountRose` says that the count of
-- faults of reads rose
abbrev pub HaltsRead : List HeldFile → (CountRose : Type 0) → (file : ℕ) → (name : List ℕ) → Halt → Type 0
HaltsRead seen CountRose file name (halt.Fault fault) = (fault ≡ NoFile (file_start file) name) × (bytes_of seen name ≡ None)
HaltsRead seen CountRose file name halt.ReadFailed = CountRose
HaltsRead seen CountRose file name halt.PutFailed = ⊥
HaltsRead seen CountRose file name halt.OutOfMemory = Unit {0}

-- why a job broke off, and what it had given
abbrev pub Halts : (runs : Bool) (IsFault : Option Fault → Type 0) (target : Option (List ℕ)) (IsRight : (bytes text : List ℕ) → Type 0) (files files' : FilesView) (out out' : SinkView) → Halt → Type 0
Halts runs IsFault target IsRight files files' out out' (halt.Fault first) = IsFault (Some first) × DeliversBefore runs target IsRight files files' out out' first
Halts runs IsFault target IsRight files files' out out' halt.ReadFailed = Rose files.faults files'.faults × DeliversNothing files files' out out'
Halts runs IsFault target IsRight files files' out out' halt.PutFailed = GivesOut runs IsFault target IsRight files files' out out'
Halts runs IsFault target IsRight files files' out out' halt.OutOfMemory = BreaksOff runs IsFault target IsRight files files' out out'

-- how a job ended
abbrev pub JobEnds : (runs : Bool) (IsFault : Option Fault → Type 0) (target : Option (List ℕ)) (IsRight : (bytes text : List ℕ) → Type 0) (files files' : FilesView) (out out' : SinkView) → {T : Type 0} → Result T Halt → Type 0
JobEnds runs IsFault target IsRight files files' out out' ended =
    MatchResult ended (λ _. Completes IsFault target IsRight files files' out out') (Halts runs IsFault target IsRight files files' out out')

-- why the file of a job, if it has one, was not given these bytes, and what it has
abbrev pub HaltsWrite : (target : Option (List ℕ)) → (bytes : List ℕ) → FilesView → FilesView → Halt → Type 0
HaltsWrite target bytes files files' (halt.Fault fault) = ⊥
HaltsWrite target bytes files files' halt.ReadFailed = ⊥
HaltsWrite target bytes files files' halt.PutFailed = FailsToBind target bytes files files'
HaltsWrite target bytes files files' halt.OutOfMemory = MayBeBound target bytes files files'

-- how the writing of a job's file ended
abbrev pub WriteEnds : (target : Option (List ℕ)) → (bytes : List ℕ) → FilesView → FilesView → {T : Type 0} → Result T Halt → Type 0
WriteEnds target bytes files files' ended =
    MatchResult ended (λ _. Bound target bytes files files' × (files'.write_faults ≡ files.write_faults)) (HaltsWrite target bytes files files')

-- why the scanner of an emitted file was not read
abbrev pub HaltsScan : (bytes : List ℕ) → (block : Option ℕ) → Halt → Type 0
HaltsScan bytes block (halt.Fault fault) = (offset : ℕ) × IsUnread bytes block offset × (fault ≡ NotEmitted (place_in bytes offset) offset)
HaltsScan bytes block halt.ReadFailed = ⊥
HaltsScan bytes block halt.PutFailed = ⊥
HaltsScan bytes block halt.OutOfMemory = Unit {0}

-- the files that a fault's message cites are these, and the fault's file is one of them
abbrev pub Cites : (cited names : List (List ℕ)) → Halt → Type 0
Cites cited names (halt.Fault fault) = (names ≡ cited) × IsPlaced names fault
Cites cited names halt.ReadFailed = Unit {0}
Cites cited names halt.PutFailed = Unit {0}
Cites cited names halt.OutOfMemory = Unit {0}

-- a fault's file stands among the names
abbrev pub IsPlacedHalt : List (List ℕ) → Halt → Type 0
IsPlacedHalt names (halt.Fault fault) = IsPlaced names fault
IsPlacedHalt names halt.ReadFailed = Unit {0}
IsPlacedHalt names halt.PutFailed = Unit {0}
IsPlacedHalt names halt.OutOfMemory = Unit {0}

-- there is no file of this name, or memory ran out on the way to say so
abbrev pub IsNoFile : (file : ℕ) → (name : List ℕ) → Halt → Type 0
IsNoFile file name (halt.Fault fault) = fault ≡ NoFile (file_start file) name
IsNoFile file name halt.ReadFailed = ⊥
IsNoFile file name halt.PutFailed = ⊥
IsNoFile file name halt.OutOfMemory = Unit {0}

-- the text of this ending was told
pub record TellsHalt (expected : Ending) (err err' : SinkView) (ending : Ending) : Type 0 where
  pub ending_is : ending ≡ expected
  pub told : PutsText (failure_text expected) err err'

-- how a job that broke off is told
abbrev pub Reports : List (List ℕ) → SinkView → SinkView → Halt → Ending → Type 0
Reports names err err' (halt.Fault first) ending = TellsMessage (message_text names first) err err' ending
Reports names err err' halt.ReadFailed ending = TellsHalt ReadFailed err err' ending
Reports names err err' halt.PutFailed ending = TellsHalt PutFailed err err' ending
Reports names err err' halt.OutOfMemory ending = TellsHalt OutOfMemory err err' ending

-- the compilation of a generated source ended so: with its output, or where memory ran out
abbrev pub CompilesSource : (rules : ℕ) → Result (Vec ℕ) Halt → Type 0
CompilesSource rules ended =
    MatchResult ended (λ output. (made : List Made) × IsSourceOutput rules made output.items) (λ halted. halted ≡ halt.OutOfMemory)
