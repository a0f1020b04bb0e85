-- How a job gives: bytes to a file, in the place of what stood there, and then a text to the standard output.
use Rattle.std.specs.Prelude.{◌≡◌, ◌⊎◌, ◌&&◌, ℕ, Bool, true, false, List, Option, Some, None, IfSome}
use Rattle.lx_base.specs.declared.faults.Fault.{Fault}
use Rattle.lx_base.specs.declared.faults.Fault.TheVariants.{WindowFull}
use Rattle.lx_files.specs.Counts.{Rose}
use Rattle.lx_files.specs.Held.{Binds, MayBindFront, WhereTold}
use Rattle.lx_files.specs.declared.files.HeldFile.{HeldFile}
use Rattle.lx_files.specs.Taking.{GivesFront, given_then}
use Rattle.lx_top.specs.Outside.{FilesView, SinkView}

-- In the definitions that follow `runs` says whether a job runs a scanner; `target` is the file that gets the bytes, if the job has one; `IsFault`
-- says which fault is the first one, if there is one; and `IsRight` says which bytes and which text are right.

-- the file of this name, if there is one, has these bytes, and nothing else changed
abbrev pub Bound : (target : Option (List ℕ)) → (bytes : List ℕ) → FilesView → FilesView → Type 0
Bound None bytes files files' = files'.held ≡ files.held
Bound (Some name) bytes files files' = WhereTold files.held files'.held (λ before after. Binds before after name bytes)

-- all is as before, or the name has these bytes and every other name what it had
abbrev pub MayBind : List HeldFile → List HeldFile → (name bytes : List ℕ) → Type 0
MayBind before after name bytes = (after ≡ before) ⊎ Binds before after name bytes

-- the same of the file, if there is one
abbrev pub MayBeBound : (target : Option (List ℕ)) → (bytes : List ℕ) → FilesView → FilesView → Type 0
MayBeBound None bytes files files' = files'.held ≡ files.held
MayBeBound (Some name) bytes files files' = WhereTold files.held files'.held (λ before after. MayBind before after name bytes)

-- the write of the file failed: it is as before or has a front of the bytes
abbrev pub FailsToBind : (target : Option (List ℕ)) → (bytes : List ℕ) → FilesView → FilesView → Type 0
FailsToBind None bytes files files' = ⊥
FailsToBind (Some name) bytes files files' =
    WhereTold files.held files'.held (λ before after. MayBindFront before after name bytes) × Rose files.write_faults files'.write_faults

-- the file was given the bytes, and then the standard output the text
pub record Delivers (target : Option (List ℕ)) (bytes text : List ℕ) (files files' : FilesView) (out out' : SinkView) : Type 0 where
  pub bound : Bound target bytes files files'
  pub given : out'.given ≡ given_then out.given text

-- the write failed, and nothing was put; or the file was given the bytes, and the put failed behind a front of the text
abbrev pub FailsToGive : (target : Option (List ℕ)) (bytes text : List ℕ) (files files' : FilesView) (out out' : SinkView) → Type 0
FailsToGive target bytes text files files' out out' =
    (FailsToBind target bytes files files' × (out'.given ≡ out.given))
    ⊎ (Bound target bytes files files' × GivesFront out.given out'.given text × Rose out.faults out'.faults)

-- memory ran out: the file is as before or was given the bytes, and nothing was put; or it was given the bytes, and a front of the text was put
abbrev pub GivesInPart : (target : Option (List ℕ)) (bytes text : List ℕ) (files files' : FilesView) (out out' : SinkView) → Type 0
GivesInPart target bytes text files files' out out' =
    (MayBeBound target bytes files files' × (out'.given ≡ out.given))
    ⊎ (Bound target bytes files files' × GivesFront out.given out'.given text)

-- nothing was given
abbrev pub DeliversNothing : (files files' : FilesView) → (out out' : SinkView) → Type 0
DeliversNothing files files' out out' = (out'.given ≡ out.given) × (files'.held ≡ files.held)

-- the fault is that the window was full
abbrev pub is_full : Fault → Bool
is_full (WindowFull at kept need size) = true
is_full _ = false

-- something is given before this fault: it is that of a run whose window was full, which ends it behind the lines that it gave
abbrev pub gives_before : (runs : Bool) → Fault → Bool
gives_before runs first = runs && is_full first

-- something is given: there is no fault, or it is one before which something is given
abbrev pub MayGive : (runs : Bool) → (IsFault : Option Fault → Type 0) → Type 0
MayGive runs IsFault = (fault : Option Fault) × IsFault fault × IfSome fault (λ first. gives_before runs first ≡ true)

-- what is right was given, or nothing was
abbrev pub DeliversIf : (gives : Bool) (target : Option (List ℕ)) (IsRight : (bytes text : List ℕ) → Type 0) (files files' : FilesView) (out out' : SinkView) → Type 0
DeliversIf true target IsRight files files' out out' =
    (bytes : List ℕ) × (text : List ℕ) × IsRight bytes text × Delivers target bytes text files files' out out'
DeliversIf false target IsRight files files' out out' = DeliversNothing files files' out out'

-- what was given before a fault: what is right, where a run's window was full, and else nothing
abbrev pub DeliversBefore : (runs : Bool) (target : Option (List ℕ)) (IsRight : (bytes text : List ℕ) → Type 0) (files files' : FilesView) (out out' : SinkView) → Fault → Type 0
DeliversBefore runs target IsRight files files' out out' first = DeliversIf (gives_before runs first) target IsRight files files' out out'

-- there is no fault, and what is right was given
pub record Completes (IsFault : Option Fault → Type 0) (target : Option (List ℕ)) (IsRight : (bytes text : List ℕ) → Type 0) (files files' : FilesView) (out out' : SinkView) : Type 0 where
  pub no_fault : IsFault None
  pub bytes : List ℕ
  pub text : List ℕ
  pub right : IsRight bytes text
  pub delivers : Delivers target bytes text files files' out out'
  pub puts_calm : out'.faults ≡ out.faults
  pub writes_calm : files'.write_faults ≡ files.write_faults

-- a write or a put failed while what is right was given
pub record GivesOut (runs : Bool) (IsFault : Option Fault → Type 0) (target : Option (List ℕ)) (IsRight : (bytes text : List ℕ) → Type 0) (files files' : FilesView) (out out' : SinkView) : Type 0 where
  pub may_give : MayGive runs IsFault
  pub bytes : List ℕ
  pub text : List ℕ
  pub right : IsRight bytes text
  pub fails : FailsToGive target bytes text files files' out out'

-- memory ran out while what is right was given
pub record GivesUp (runs : Bool) (IsFault : Option Fault → Type 0) (target : Option (List ℕ)) (IsRight : (bytes text : List ℕ) → Type 0) (files files' : FilesView) (out out' : SinkView) : Type 0 where
  pub may_give : MayGive runs IsFault
  pub bytes : List ℕ
  pub text : List ℕ
  pub right : IsRight bytes text
  pub gives : GivesInPart target bytes text files files' out out'

-- nothing was given; or memory ran out while what is right was given
abbrev pub BreaksOff : (runs : Bool) (IsFault : Option Fault → Type 0) (target : Option (List ℕ)) (IsRight : (bytes text : List ℕ) → Type 0) (files files' : FilesView) (out out' : SinkView) → Type 0
BreaksOff runs IsFault target IsRight files files' out out' =
    DeliversNothing files files' out out' ⊎ GivesUp runs IsFault target IsRight files files' out out'
