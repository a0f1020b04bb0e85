-- How a message is told that a sink refuses, and how a run ends.
use Rattle.std.proofs.Common.{◌≡◌, ◌≢◌, ℕ, ◌≤◌, List, [], Option, Result, Ok, Err, refl, sym, subst, inl, inr, arith}
use Rattle.std.specs.Prelude.{IfErr, OnErr, OnOk}
use Rattle.lx_files.specs.Counts.{Rose}
use Rattle.lx_files.specs.Held.{IsFront}
use Rattle.lx_files.specs.Taking.{GivesFront, RefusesPut, WantsMemory, given_then}
use Rattle.lx_files.specs.declared.sinks.PutAnswer.{PutAnswer}
use Rattle.lx_files.specs.declared.sinks.PutAnswer.TheVariants.{Failed, Memory}
use Rattle.lx_files.proofs.PutLemmas.{given_then-nil}
use Rattle.lx_top.specs.Outside.{SinkView, sink_view}
use Rattle.lx_top.specs.Endings.{PutsText, TellsFront, TellsLines, TellsMessage, failure_text}
use Rattle.lx_top.specs.declared.endings.Ending.{Ending}
use Rattle.lx_top.specs.declared.endings.Ending.TheVariants.{PutFailed, OutOfMemory}

-- a text was to be put, and this was answered
pub PutsText-answer : {T : Type 0} (text : List ℕ) (err err' : SinkView) (answer : Result T PutAnswer) → OnOk answer (err'.given ≡ given_then err.given text) →
    OnOk answer (err'.faults ≡ err.faults) → IfErr answer (RefusesPut err.faults err'.faults) → IfErr answer (WantsMemory err.wants err'.wants) →
    OnErr answer (GivesFront err.given err'.given text) → PutsText text err err'
PutsText-answer text err err' (Ok value) given calm refuses lacks front = inl (given, calm)
PutsText-answer text err err' (Err Failed) given calm refuses lacks front = inr (front, inl refuses)
PutsText-answer text err err' (Err Memory) given calm refuses lacks front = inr (front, inr lacks)

-- a front of a message, and then the text of an ending
fronts : (message : List ℕ) (ending : Ending) (err middle err' : SinkView) → err.faults ≤ middle.faults → err.wants ≤ middle.wants →
    GivesFront err.given middle.given message → PutsText (failure_text ending) middle err' → TellsFront message ending err err'
fronts message ending err middle err' up more first second =
    let P : Option (List ℕ) → Type 0 = λ before. PutsText (failure_text ending) (sink_view before middle.faults middle.wants) err' in
    (first.0, middle.faults, middle.wants, first.1, up, more, subst P first.2 second)

-- a count that rose stays above what it was
Rose-on : (before middle after : ℕ) → Rose before middle → before ≤ middle → middle ≤ after → Rose before after
Rose-on before middle after rose risen up = λ below. omega (arith, rose)

-- the sink failed
pub TellsMessage-failed : (text : List ℕ) (err middle err' : SinkView) (ending : Ending) → ending ≡ PutFailed → Rose err.faults middle.faults →
    err.faults ≤ middle.faults → err.wants ≤ middle.wants → middle.faults ≤ err'.faults → GivesFront err.given middle.given text → PutsText (failure_text PutFailed) middle err' →
    TellsMessage text err err' ending
TellsMessage-failed text err middle err' ending is rose risen more up first second =
    let P : Ending → Type 0 = TellsMessage text err err' in
    subst P (sym is) (Rose-on err.faults middle.faults err'.faults rose risen up, fronts text PutFailed err middle err' risen more first second)

-- memory ran out
pub TellsMessage-out_of_memory : (text : List ℕ) (err middle err' : SinkView) (ending : Ending) → ending ≡ OutOfMemory → err.faults ≤ middle.faults →
    err.wants ≤ middle.wants → GivesFront err.given middle.given text → PutsText (failure_text OutOfMemory) middle err' → TellsMessage text err err' ending
TellsMessage-out_of_memory text err middle err' ending is risen more first second =
    let P : Ending → Type 0 = TellsMessage text err err' in subst P (sym is) (fronts text OutOfMemory err middle err' risen more first second)

-- the same of the lines of warnings
pub TellsLines-failed : (lines : List ℕ) (err middle err' : SinkView) (ending : Ending) → ending ≡ PutFailed → lines ≢ [] → Rose err.faults middle.faults →
    err.faults ≤ middle.faults → err.wants ≤ middle.wants → middle.faults ≤ err'.faults → GivesFront err.given middle.given lines → PutsText (failure_text PutFailed) middle err' →
    TellsLines lines err err' ending
TellsLines-failed lines err middle err' ending is some rose risen more up first second =
    let P : Ending → Type 0 = TellsLines lines err err' in
    subst P (sym is) (some, Rose-on err.faults middle.faults err'.faults rose risen up, fronts lines PutFailed err middle err' risen more first second)

pub TellsLines-out_of_memory : (lines : List ℕ) (err middle err' : SinkView) (ending : Ending) → ending ≡ OutOfMemory → lines ≢ [] → err.faults ≤ middle.faults →
    err.wants ≤ middle.wants → GivesFront err.given middle.given lines → PutsText (failure_text OutOfMemory) middle err' → TellsLines lines err err' ending
TellsLines-out_of_memory lines err middle err' ending is some risen more first second =
    let P : Ending → Type 0 = TellsLines lines err err' in subst P (sym is) (some, fronts lines OutOfMemory err middle err' risen more first second)

-- nothing was given yet
pub GivesFront-none : (given : Option (List ℕ)) (text : List ℕ) → GivesFront given given text
GivesFront-none given text = ([], (text, refl), given_then-nil given)
