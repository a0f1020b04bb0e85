-- Runs of emitted files: their faults, and how they end.
use Rattle.std.proofs.Common.{◌≡◌, ℕ, Bool, true, false, List, [], ◌∷◌, ◌++◌, length, take, drop, Option, Some, None, Result, Ok, Err, IfErr, refl, sym, ap, subst, ◌∙◌, inl, inr, arith}
use Rattle.std.proofs.lemmas.Bool.{cases_lt}
use Rattle.std.proofs.Math.Nat.{le_antisymm}
use Rattle.std.proofs.lemmas.Slice.Eq.{bytes_eq-Decides}
use Rattle.std.specs.Prelude.{◌+◌, ◌%◌, ◌==◌, IfSome, if◌then◌else◌}
use Rattle.std.specs.Str.{bytes_eq}
use Rattle.lx_base.specs.declared.places.Pos.{Pos}
use Rattle.lx_base.specs.declared.settings.Job.{Job}
use Rattle.lx_base.specs.declared.settings.Job.TheVariants.{Run}
use Rattle.lx_base.specs.declared.settings.Options.{Options}
use Rattle.lx_base.specs.declared.faults.Fault.{Fault}
use Rattle.lx_base.specs.declared.faults.Fault.TheVariants.{NotEmitted}
use Rattle.lx_compile.specs.declared.made.Made.{Made}
use Rattle.lx_files.specs.declared.files.HeldFile.{HeldFile}
use Rattle.lx_files.specs.Held.{bytes_of, Sees}
use Rattle.lx_base.specs.Places.{next_place, place_after, file_start}
use Rattle.lx_ccode.specs.declared.piece.LineMark.{LineMark}
use Rattle.lx_ccode.specs.declared.piece.Piece.{Piece}
use Rattle.lx_ccode.specs.Front.{BeginsWithPiece}
use Rattle.lx_ccode.proofs.RoundTrip.{piece_at-front}
use Rattle.lx_creader.specs.Marks.{IsFirstBegin}
use Rattle.lx_run.specs.Ends.{EndsAs}
use Rattle.lx_run.specs.Texts.{Full, RunText, run_text}
use Rattle.lx_run.specs.declared.ends.RunEnd.{RunEnd}
use Rattle.lx_run.specs.declared.ends.RunEnd.TheVariants.{Memory, PutFailed}
use Rattle.lx_top.specs.Emitted.{IsEmittedFault, IsRunFault, IsRunText, IsUnread, Scans, full_fault, input_fault, place_in, scan_fault}
use Rattle.lx_top.specs.Delivery.{BreaksOff, GivesOut, MayGive, gives_before, is_full}
use Rattle.lx_top.specs.FirstFault.{IsFaultOf}
use Rattle.lx_top.specs.Jobs.{is_run, names_of, target_of}
use Rattle.lx_top.specs.Output.{IsJobRight}
use Rattle.lx_top.specs.Outside.{FilesView, SinkView}
use Rattle.lx_top.specs.Steps.{Cites, HaltsRead, HaltsScan, IsPlacedHalt, JobEnds}
use Rattle.lx_top.specs.declared.endings.Halt.{Halt}
use Rattle.lx_top.specs.declared.endings.Halt.TheVariants as halt
use Rattle.lx_top.proofs.JobLemmas.{JobEnds-among, Reason, Reason-read}

-- ---- places

next_place-file : (at : Pos) (letter : ℕ) → (next_place at letter).file ≡ at.file
next_place-file at letter = by (letter == 10)
  where
    by : (feed : Bool) → (let next : Pos = if feed then record { file = at.file; line = at.line + 1; col = 1 } else record { file = at.file; line = at.line; col = at.col + 1 } in next.file ≡ at.file)
    by true = refl
    by false = refl

pub place_after-file : (at : Pos) (text : List ℕ) → (place_after at text).file ≡ at.file
place_after-file at [] = refl
place_after-file at (letter ∷ text) = place_after-file (next_place at letter) text ∙ next_place-file at letter

-- the fault of an emitted file cites the first file
pub IsPlacedHalt-not_emitted : (name : List ℕ) (names : List (List ℕ)) (bytes : List ℕ) (offset : ℕ) (halted : Halt)
    → halted ≡ halt.Fault (NotEmitted (place_in bytes offset) offset) → IsPlacedHalt (name ∷ names) halted
IsPlacedHalt-not_emitted name names bytes offset halted is =
    let file = place_after-file (file_start 0) (take offset bytes) in
    subst (IsPlacedHalt (name ∷ names)) (sym is) (omega (arith, file))

-- ---- one fault

pub IsFirstBegin-unique : (block : Option ℕ) (bytes : List ℕ) (offset other : ℕ) → IsFirstBegin block bytes offset → IsFirstBegin block bytes other → offset ≡ other
IsFirstBegin-unique block bytes offset other first second = elim (cases_lt offset other) [
  | inl before ↦ absurd (second.none_before offset before first.begins)
  | inr behind ↦ elim (cases_lt other offset) [
    | inl before ↦ absurd (first.none_before other before second.begins)
    | inr ahead ↦ le_antisymm ahead behind
  ]
]

BeginsWithPiece-unique : (bytes : List ℕ) (piece other : Piece) → BeginsWithPiece bytes piece → BeginsWithPiece bytes other → piece ≡ other
BeginsWithPiece-unique bytes piece other first second = ap (λ (read : Piece × Option LineMark × List ℕ). read.0) (sym (piece_at-front bytes piece first) ∙ piece_at-front bytes other second)

IsUnread-unique : (bytes : List ℕ) (block : Option ℕ) (offset other : ℕ) → IsUnread bytes block offset → IsUnread bytes block other → offset ≡ other
IsUnread-unique bytes block offset other (inl first) (inl second) = first.1 ∙ sym second.1
IsUnread-unique bytes block offset other (inl first) (inr second) = absurd (first.0 other second.0.begins)
IsUnread-unique bytes block offset other (inr first) (inl second) = absurd (second.0 offset first.0.begins)
IsUnread-unique bytes block offset other (inr first) (inr second) = IsFirstBegin-unique block bytes offset other first.0 second.0

-- a scanner is read, or none is
pub read-or_not : (bytes : List ℕ) (block : Option ℕ) (offset : ℕ) (piece : Piece) → IsUnread bytes block offset → Scans bytes block piece → ⊥
read-or_not bytes block offset piece (inl unread) scans = unread.0 scans.offset scans.first.begins
read-or_not bytes block offset piece (inr unread) scans =
    unread.1 piece (subst (λ at. BeginsWithPiece (drop at bytes) piece) (IsFirstBegin-unique block bytes scans.offset offset scans.first unread.0) scans.begins)

pub Scans-unique : (bytes : List ℕ) (block : Option ℕ) (piece other : Piece) → Scans bytes block piece → Scans bytes block other → piece ≡ other
Scans-unique bytes block piece other first second =
    BeginsWithPiece-unique (drop second.offset bytes) piece other
    (subst (λ at. BeginsWithPiece (drop at bytes) piece) (IsFirstBegin-unique block bytes first.offset second.offset first.first second.first) first.begins) second.begins

IsEmittedFault-unique : (block : Option ℕ) (window step : ℕ) (name : List ℕ) (given : Option (List ℕ)) (bytes : List ℕ) (fault other : Option Fault)
    → IsEmittedFault block window step name given bytes fault → IsEmittedFault block window step name given bytes other → fault ≡ other
IsEmittedFault-unique block window step name given bytes fault other (inl first) (inl second) =
    first.2 ∙ ap (λ (offset : ℕ). Some (NotEmitted (place_in bytes offset) offset)) (IsUnread-unique bytes block first.0 second.0 first.1 second.1) ∙ sym second.2
IsEmittedFault-unique block window step name given bytes fault other (inl first) (inr second) = absurd (read-or_not bytes block first.0 second.0 first.1 second.1)
IsEmittedFault-unique block window step name given bytes fault other (inr first) (inl second) = absurd (read-or_not bytes block second.0 first.0 second.1 first.1)
IsEmittedFault-unique block window step name given bytes fault other (inr first) (inr second) =
    first.2 ∙ ap (λ (piece : Piece). input_fault name piece window step given) (Scans-unique bytes block first.0 second.0 first.1 second.1) ∙ sym second.2

-- a run has one first fault, or none
pub IsRunFault-unique : (block : Option ℕ) (window step : ℕ) (name : List ℕ) (given : Option (List ℕ)) (emitted : List ℕ) (scanned : Option (List ℕ)) (fault other : Option Fault)
    → IsRunFault block window step name given emitted scanned fault → IsRunFault block window step name given emitted scanned other → fault ≡ other
IsRunFault-unique block window step name given emitted None fault other is is_other = is ∙ sym is_other
IsRunFault-unique block window step name given emitted (Some bytes) fault other is is_other = IsEmittedFault-unique block window step name given bytes fault other is is_other

-- ---- how a run ends

-- no scanner was read
pub Reason-scan : (block : Option ℕ) (window step : ℕ) (name : List ℕ) (given : Option (List ℕ)) (emitted bytes : List ℕ) (scanned : Option (List ℕ)) (CountRose : Type 0) (halted : Halt)
    → scanned ≡ Some bytes → HaltsScan bytes block halted → Reason true (IsRunFault block window step name given emitted scanned) CountRose halted
Reason-scan block window step name given emitted bytes scanned CountRose halted is halts =
    subst (λ scanned. Reason true (IsRunFault block window step name given emitted scanned) CountRose halted) (sym is) (by halted halts)
  where
    by : (halted : Halt) → HaltsScan bytes block halted → Reason true (IsRunFault block window step name given emitted (Some bytes)) CountRose halted
    by (halt.Fault first) halts = (inl (halts.0, halts.1, ap Some halts.2), ap is_full halts.2)
    by halt.ReadFailed halts = absurd halts
    by halt.PutFailed halts = absurd halts
    by halt.OutOfMemory halts = tt

-- no scanner was read at an offset
pub HaltsScan-not_emitted : (bytes : List ℕ) (block : Option ℕ) (offset : ℕ) (halted : Halt) → halted ≡ halt.Fault (NotEmitted (place_in bytes offset) offset)
    → IsUnread bytes block offset → HaltsScan bytes block halted
HaltsScan-not_emitted bytes block offset halted is unread = subst (HaltsScan bytes block) (sym is) (offset, unread, refl)

-- the input is not there
pub IsRunFault-input : (block : Option ℕ) (window step : ℕ) (name : List ℕ) (given : Option (List ℕ)) (emitted bytes : List ℕ) (scanned : Option (List ℕ)) (piece : Piece) (fault : Option Fault)
    → scanned ≡ Some bytes → Scans bytes block piece → fault ≡ input_fault name piece window step given → IsRunFault block window step name given emitted scanned fault
IsRunFault-input block window step name given emitted bytes scanned piece fault is scans fault_is =
    subst (λ scanned. IsRunFault block window step name given emitted scanned fault) (sym is) (inr (piece, scans, fault_is))

-- what a run gives before its fault, if it has one
module _ (run : RunText) (fault : Option Fault) (fault_is : fault ≡ full_fault run.full) (files : FilesView) (out out' : SinkView) where
  abbrev IsRunsFault : Option Fault → Type 0
  IsRunsFault given = given ≡ fault

  abbrev IsRunsText : (bytes text : List ℕ) → Type 0
  IsRunsText bytes text = (bytes ≡ []) × (text ≡ run.text)

  -- its sink and its end
  abbrev Ran : RunEnd → Type 0
  Ran ended = EndsAs run out.given out'.given out.faults out'.faults ended

  gives-full_fault : (full : Option Full) → IfSome (full_fault full) (λ first. gives_before true first ≡ true)
  gives-full_fault None = tt
  gives-full_fault (Some full) = refl

  MayGive-run : MayGive true IsRunsFault
  MayGive-run =
      (fault, refl, subst (λ given. IfSome given (λ first. gives_before true first ≡ true)) (sym fault_is) (gives-full_fault run.full))

  pub GivesOut-run : Ran PutFailed → GivesOut true IsRunsFault None IsRunsText files files out out'
  GivesOut-run ran = record { may_give = MayGive-run; bytes = []; text = run.text; right = (refl, refl); fails = inr (refl, ran.1, ran.0) }

  pub BreaksOff-run : Ran Memory → BreaksOff true IsRunsFault None IsRunsText files files out out'
  BreaksOff-run ran =
      inr (record { may_give = MayGive-run; bytes = []; text = run.text; right = (refl, refl); gives = inr (refl, ran) })

-- the fault of a scanner over whole units
pub scan_fault-whole : (piece : Piece) (window step : ℕ) (input : List ℕ) → length input % piece.unit ≡ 0
    → scan_fault piece window step input ≡ full_fault (run_text piece input window step).full
scan_fault-whole piece window step input whole = rw whole refl

-- nothing goes to a file, and the text is right
abbrev IsTextAlone : (IsText : List ℕ → Type 0) → (bytes text : List ℕ) → Type 0
IsTextAlone IsText bytes text = (bytes ≡ []) × IsText text

-- the scanner was run over the input
pub JobEnds-run : (block : Option ℕ) (window step : ℕ) (name emitted bytes input ran : List ℕ) (scanned given : Option (List ℕ)) (piece : Piece) (files files' : FilesView) (out out' : SinkView)
    {T : Type 0} (ended : Result T Halt) → files' ≡ files → scanned ≡ Some bytes → given ≡ Some input → Scans bytes block piece → ran ≡ input
    → ((view : FilesView) → JobEnds true (λ fault. fault ≡ scan_fault piece window step ran) None (λ bytes text. (bytes ≡ []) × (text ≡ (run_text piece ran window step).text)) view view out out' ended)
    → JobEnds true (IsRunFault block window step name given emitted scanned) None (λ bytes text. (bytes ≡ []) × IsRunText block window step scanned given text) files files' out out' ended
JobEnds-run block window step name emitted bytes input ran scanned given piece files files' out out' ended same scanned_is given_is scans ran_is ends =
    let over : JobEnds true (λ fault. fault ≡ scan_fault piece window step input) None (IsTextAlone (λ text. text ≡ (run_text piece input window step).text)) files files out out' ended =
    subst (λ ran. JobEnds true (λ fault. fault ≡ scan_fault piece window step ran) None (IsTextAlone (λ text. text ≡ (run_text piece ran window step).text)) files files out out' ended) ran_is (ends files) in
    subst (λ after. JobEnds true (IsRunFault block window step name given emitted scanned) None (IsTextAlone (IsRunText block window step scanned given)) files after out out' ended) (sym same)
    (subst (λ scanned. JobEnds true (IsRunFault block window step name given emitted scanned) None (IsTextAlone (IsRunText block window step scanned given)) files files out out' ended) (sym scanned_is)
    (subst (λ given. JobEnds true (IsRunFault block window step name given emitted (Some bytes)) None (IsTextAlone (IsRunText block window step (Some bytes) given)) files files out out' ended) (sym given_is)
    (JobEnds-among true (λ fault. fault ≡ scan_fault piece window step input) None (IsTextAlone (λ text. text ≡ (run_text piece input window step).text)) files files out out'
    (IsRunFault block window step name (Some input) emitted (Some bytes)) (IsTextAlone (IsRunText block window step (Some bytes) (Some input)))
    (λ fault is. inr (piece, scans, is)) (λ bytes text is. (is.0, (piece, scans, is.1))) ended over)))

-- ---- two files that were read

bytes_eq-self : (name : List ℕ) → bytes_eq name name ≡ true
bytes_eq-self name = (bytes_eq-Decides name name).1 refl

-- the files can be seen so that both reads are right
pub sees_both : (held : Option (List HeldFile)) (first second : List HeldFile) (name other bytes : List ℕ) → Sees held first → Sees held second
    → bytes_of first name ≡ Some bytes → bytes_eq name other ≡ false
    → (seen : List HeldFile) × Sees held seen × (bytes_of seen name ≡ Some bytes) × (bytes_of seen other ≡ bytes_of second other)
sees_both None first second name other bytes sees sees_other is apart =
    (record { name = name; bytes = bytes } ∷ second, tt, rw (bytes_eq-self name) refl, rw apart refl)
sees_both (Some files) first second name other bytes sees sees_other is apart =
    (files, refl, subst (λ seen. bytes_of seen name ≡ Some bytes) sees is, ap (λ (seen : List HeldFile). bytes_of seen other) (sym sees_other))

-- equal names have the same bytes
pub bytes_of-same : (seen : List HeldFile) (name other : List ℕ) (given : Option (List ℕ)) → bytes_eq name other ≡ true → bytes_of seen name ≡ given → bytes_of seen other ≡ given
bytes_of-same seen name other given same is = ap (bytes_of seen) (sym ((bytes_eq-Decides name other).0 same)) ∙ is

-- the second file was not read
pub Reason-second : (block : Option ℕ) (window step : ℕ) (name emitted bytes : List ℕ) (seen second : List HeldFile) (piece : Piece) (CountRose : Type 0) (halted : Halt)
    → bytes_of seen emitted ≡ Some bytes → bytes_of seen name ≡ bytes_of second name → Scans bytes block piece → HaltsRead second CountRose 1 name halted
    → Reason true (IsRunFault block window step name (bytes_of seen name) emitted (bytes_of seen emitted)) CountRose halted
Reason-second block window step name emitted bytes seen second piece CountRose halted is same scans halts =
    Reason-read true (IsRunFault block window step name (bytes_of seen name) emitted (bytes_of seen emitted)) CountRose second 1 name halted
    (λ missing. IsRunFault-input block window step name (bytes_of seen name) emitted bytes (bytes_of seen emitted) piece _ is scans
    (sym (ap (input_fault name piece window step) (same ∙ missing)))) halts

-- the job was a run
pub JobEnds-asked : (options : Options) (job : Job) (input emitted : List ℕ) (block : Option ℕ) (window piece : ℕ) (name other : List ℕ) (seen : List HeldFile) (made : List Made)
    (files files' : FilesView) (out out' : SinkView) {T : Type 0} (ended : Result T Halt) → job ≡ Run input emitted block window piece → name ≡ emitted → other ≡ input
    → JobEnds true (IsRunFault block window piece other (bytes_of seen other) name (bytes_of seen name)) None (λ bytes text. (bytes ≡ []) × IsRunText block window piece (bytes_of seen name) (bytes_of seen other) text)
    files files' out out' ended
    → JobEnds (is_run job) (IsFaultOf options job seen made) (target_of job) (IsJobRight options job seen made) files files' out out' ended
JobEnds-asked options job input emitted block window piece name other seen made files files' out out' ended is name_is other_is ends =
    subst (λ job. JobEnds (is_run job) (IsFaultOf options job seen made) (target_of job) (IsJobRight options job seen made) files files' out out' ended) (sym is)
    (subst (λ emitted. JobEnds true (IsRunFault block window piece input (bytes_of seen input) emitted (bytes_of seen emitted)) None
    (IsTextAlone (IsRunText block window piece (bytes_of seen emitted) (bytes_of seen input))) files files' out out' ended) name_is
    (subst (λ input. JobEnds true (IsRunFault block window piece input (bytes_of seen input) name (bytes_of seen name)) None
    (IsTextAlone (IsRunText block window piece (bytes_of seen name) (bytes_of seen input))) files files' out out' ended) other_is ends))

-- the names of a run
pub names-two : (names first both : List (List ℕ)) (name other emitted input : List ℕ) → names ≡ [] → first ≡ names ++ name ∷ [] → both ≡ first ++ other ∷ []
    → name ≡ emitted → other ≡ input → both ≡ emitted ∷ input ∷ []
names-two names first both name other emitted input none first_is both_is name_is other_is = rw (both_is, first_is, none, name_is, other_is) refl

Cites-both : (emitted input : List ℕ) (halted : Halt) → IsPlacedHalt (emitted ∷ input ∷ []) halted → Cites (emitted ∷ input ∷ []) (emitted ∷ input ∷ []) halted
Cites-both emitted input (halt.Fault fault) placed = (refl, placed)
Cites-both emitted input halt.ReadFailed placed = tt
Cites-both emitted input halt.PutFailed placed = tt
Cites-both emitted input halt.OutOfMemory placed = tt

-- its message cites them
pub Cites-asked : (options : Options) (job : Job) (input emitted : List ℕ) (block : Option ℕ) (window piece : ℕ) (name other : List ℕ) (seen : List HeldFile) (names : List (List ℕ))
    {T : Type 0} (ended : Result T Halt) → job ≡ Run input emitted block window piece → name ≡ emitted → other ≡ input → names ≡ emitted ∷ input ∷ []
    → IfErr ended (IsPlacedHalt (name ∷ other ∷ [])) → IfErr ended (Cites (names_of options job seen) names)
Cites-asked options job input emitted block window piece name other seen names (Ok value) is name_is other_is names_are placed = tt
Cites-asked options job input emitted block window piece name other seen names (Err halted) is name_is other_is names_are placed =
    subst (λ job. Cites (names_of options job seen) names halted) (sym is)
    (subst (λ (names : List (List ℕ)). Cites (emitted ∷ input ∷ []) names halted) (sym names_are)
    (Cites-both emitted input halted (subst (λ (emitted : List ℕ). IsPlacedHalt (emitted ∷ input ∷ []) halted) name_is
    (subst (λ (input : List ℕ). IsPlacedHalt (name ∷ input ∷ []) halted) other_is placed))))
