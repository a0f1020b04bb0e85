-- How a job ends, from how its steps ended.
use Rattle.std.proofs.Common.{◌≡◌, ◌≤◌, ℕ, Bool, true, false, List, [], Option, Some, None, Result, Ok, Err, IsErrAnd, IfErr, IfOk, refl, sym, ap, subst, ◌∙◌, inl, inr, arith}
use Rattle.std.proofs.lemmas.Bool.{cases_lt, lt-leb}
use Rattle.std.specs.Prelude.{◌<◌, ◌&&◌, ◌||◌, codes, nat_le, option_and_then, unwrap_or, IfSome, if◌then◌else◌}
use Rattle.std.specs.Str.Parse.{digits_value}
use Rattle.lx_base.specs.declared.faults.Fault.{Fault}
use Rattle.lx_base.specs.Message.{HasFile, place_of}
use Rattle.lx_base.specs.declared.faults.Fault.TheVariants.{NoFile, Usage}
use Rattle.lx_base.specs.declared.settings.Options.{Options}
use Rattle.lx_base.specs.declared.faults.Stop.{Stop}
use Rattle.lx_base.specs.declared.faults.Stop.TheVariants as stop
use Rattle.lx_files.specs.Counts.{Rose}
use Rattle.lx_files.specs.Held.{bytes_of}
use Rattle.lx_files.specs.declared.files.HeldFile.{HeldFile}
use Rattle.lx_words.specs.Line.{Line, is_refused, line_of, value}
use Rattle.lx_words.specs.Options.{StopsBy, job_by, number_of, options_of, words_fault}
use Rattle.lx_words.specs.Points.{is_number, is_wrong, number_within}
use Rattle.lx_compile.specs.declared.made.Made.{Made}
use Rattle.lx_top.specs.Delivery.{Bound, BreaksOff, Completes, DeliversIf, DeliversNothing, FailsToBind, FailsToGive, GivesInPart, GivesOut, GivesUp, MayBeBound, gives_before, is_full}
use Rattle.lx_top.specs.FirstFault.{IsFaultBehind, IsFirstFault, IsJobFault}
use Rattle.lx_top.specs.Jobs.{IsWithinLimits, file_names, is_run, job_of, names_behind, names_of, options_for, target_of}
use Rattle.lx_top.specs.Outside.{FilesView, SinkView, files_view}
use Rattle.lx_top.specs.Output.{IsRightOf}
use Rattle.lx_base.specs.Places.{file_start}
use Rattle.lx_top.specs.Puts.{halt_of_stop}
use Rattle.lx_top.specs.Steps.{Cites, Halts, HaltsRead, JobEnds}
use Rattle.lx_top.specs.Warnings.{job_lines, lines_for}
use Rattle.lx_top.specs.declared.endings.Halt.{Halt}
use Rattle.lx_top.specs.declared.endings.Halt.TheVariants as halt

-- why a job broke off that had given nothing: a first fault before which nothing is given, a read that failed, or want of memory
abbrev pub Reason : (runs : Bool) → (IsFault : Option Fault → Type 0) → (CountRose : Type 0) → Halt → Type 0
Reason runs IsFault CountRose (halt.Fault first) = IsFault (Some first) × (gives_before runs first ≡ false)
Reason runs IsFault CountRose halt.ReadFailed = CountRose
Reason runs IsFault CountRose halt.PutFailed = ⊥
Reason runs IsFault CountRose halt.OutOfMemory = Unit {0}

-- before a fault that is no full window nothing is given
gives_before-other : (runs : Bool) (first : Fault) → is_full first ≡ false → gives_before runs first ≡ false
gives_before-other true first other = other
gives_before-other false first other = refl

pub Reason-read : (runs : Bool) (IsFault : Option Fault → Type 0) (CountRose : Type 0) (seen : List HeldFile) (file : ℕ) (name : List ℕ) (halted : Halt)
    → (bytes_of seen name ≡ None → IsFault (Some (NoFile (file_start file) name))) → HaltsRead seen CountRose file name halted
    → Reason runs IsFault CountRose halted
Reason-read runs IsFault CountRose seen file name (halt.Fault first) known halts = (
  subst (λ fault. IsFault (Some fault)) (sym halts.0) (known halts.1),
  gives_before-other runs first (ap is_full halts.0),
)
Reason-read runs IsFault CountRose seen file name halt.ReadFailed known halts = halts
Reason-read runs IsFault CountRose seen file name halt.PutFailed known halts = halts
Reason-read runs IsFault CountRose seen file name halt.OutOfMemory known halts = tt

module _ (runs : Bool) (IsFault : Option Fault → Type 0) (target : Option (List ℕ)) (IsRight : (bytes text : List ℕ) → Type 0) (files files' : FilesView) (out out' : SinkView) where
  -- a job broke off that had given nothing
  Halts-reason : (halted : Halt) → Reason runs IsFault (Rose files.faults files'.faults) halted → DeliversNothing files files' out out'
      → Halts runs IsFault target IsRight files files' out out' halted
  Halts-reason (halt.Fault first) reason nothing = (reason.0, subst (λ gives. DeliversIf gives target IsRight files files' out out') (sym reason.1) nothing)
  Halts-reason halt.ReadFailed reason nothing = (reason, nothing)
  Halts-reason halt.PutFailed reason nothing = absurd reason
  Halts-reason halt.OutOfMemory reason nothing = inl nothing

  -- a step broke off
  pub JobEnds-reason : {T : Type 0} (ended : Result T Halt) (halted : Halt) → IsErrAnd ended (λ given. given ≡ halted)
      → Reason runs IsFault (Rose files.faults files'.faults) halted → DeliversNothing files files' out out'
      → JobEnds runs IsFault target IsRight files files' out out' ended
  JobEnds-reason (Ok value) halted is reason nothing = absurd is
  JobEnds-reason (Err given) halted is reason nothing =
      subst (Halts runs IsFault target IsRight files files' out out') (sym is) (Halts-reason halted reason nothing)

  -- the same of other faults and other right texts, where these are among them
  module _ (IsFault' : Option Fault → Type 0) (IsRight' : (bytes text : List ℕ) → Type 0)
      (faults : (fault : Option Fault) → IsFault fault → IsFault' fault) (rights : (bytes text : List ℕ) → IsRight bytes text → IsRight' bytes text) where
    GivesOut-among : GivesOut runs IsFault target IsRight files files' out out' → GivesOut runs IsFault' target IsRight' files files' out out'
    GivesOut-among gives = record {
      may_give = (gives.may_give.0, faults gives.may_give.0 gives.may_give.1, gives.may_give.2);
      bytes = gives.bytes;
      text = gives.text;
      right = rights gives.bytes gives.text gives.right;
      fails = gives.fails;
    }

    GivesUp-among : GivesUp runs IsFault target IsRight files files' out out' → GivesUp runs IsFault' target IsRight' files files' out out'
    GivesUp-among gives = record {
      may_give = (gives.may_give.0, faults gives.may_give.0 gives.may_give.1, gives.may_give.2);
      bytes = gives.bytes;
      text = gives.text;
      right = rights gives.bytes gives.text gives.right;
      gives = gives.gives;
    }

    BreaksOff-among : BreaksOff runs IsFault target IsRight files files' out out' → BreaksOff runs IsFault' target IsRight' files files' out out'
    BreaksOff-among (inl nothing) = inl nothing
    BreaksOff-among (inr gives) = inr (GivesUp-among gives)

    DeliversIf-among : (gives : Bool) → DeliversIf gives target IsRight files files' out out' → DeliversIf gives target IsRight' files files' out out'
    DeliversIf-among true given = (given.0, given.1, rights given.0 given.1 given.2, given.3)
    DeliversIf-among false given = given

    pub JobEnds-among : {T : Type 0} (ended : Result T Halt) → JobEnds runs IsFault target IsRight files files' out out' ended
        → JobEnds runs IsFault' target IsRight' files files' out out' ended
    JobEnds-among (Ok value) ends = record {
      no_fault = faults None ends.no_fault;
      bytes = ends.bytes;
      text = ends.text;
      right = rights ends.bytes ends.text ends.right;
      delivers = ends.delivers;
      puts_calm = ends.puts_calm;
      writes_calm = ends.writes_calm;
    }
    JobEnds-among (Err (halt.Fault first)) ends = (faults (Some first) ends.0, DeliversIf-among (gives_before runs first) ends.1)
    JobEnds-among (Err halt.ReadFailed) ends = ends
    JobEnds-among (Err halt.PutFailed) ends = GivesOut-among ends
    JobEnds-among (Err halt.OutOfMemory) ends = BreaksOff-among ends

-- ---- views of files

pub files_view-same : {held held' : Option (List HeldFile)} {faults faults' writes writes' : ℕ} → held' ≡ held → faults' ≡ faults → writes' ≡ writes
    → files_view held' faults' writes' ≡ files_view held faults writes
files_view-same held_is faults_is writes_is = rw (held_is, faults_is, writes_is) refl

-- ---- earlier counts of reads

-- the same files where so many reads had failed
abbrev earlier : FilesView → ℕ → FilesView
earlier files faults = files_view files.held faults files.write_faults

module _ (files files' : FilesView) (faults : ℕ) (fewer : faults ≤ files.faults) where
  Rose-earlier : Rose files.faults files'.faults → Rose faults files'.faults
  Rose-earlier rose below = rose (omega (arith, fewer, below))

  Bound-earlier : (target : Option (List ℕ)) (bytes : List ℕ) → Bound target bytes files files' → Bound target bytes (earlier files faults) files'
  Bound-earlier None bytes bound = bound
  Bound-earlier (Some name) bytes bound = bound

  MayBeBound-earlier : (target : Option (List ℕ)) (bytes : List ℕ) → MayBeBound target bytes files files' → MayBeBound target bytes (earlier files faults) files'
  MayBeBound-earlier None bytes bound = bound
  MayBeBound-earlier (Some name) bytes bound = bound

  FailsToBind-earlier : (target : Option (List ℕ)) (bytes : List ℕ) → FailsToBind target bytes files files' → FailsToBind target bytes (earlier files faults) files'
  FailsToBind-earlier None bytes fails = fails
  FailsToBind-earlier (Some name) bytes fails = fails

  module _ (target : Option (List ℕ)) (bytes text : List ℕ) (out out' : SinkView) where
    FailsToGive-earlier : FailsToGive target bytes text files files' out out' → FailsToGive target bytes text (earlier files faults) files' out out'
    FailsToGive-earlier (inl fails) = inl (FailsToBind-earlier target bytes fails.0, fails.1)
    FailsToGive-earlier (inr fails) = inr (Bound-earlier target bytes fails.0, fails.1, fails.2)

    GivesInPart-earlier : GivesInPart target bytes text files files' out out' → GivesInPart target bytes text (earlier files faults) files' out out'
    GivesInPart-earlier (inl gives) = inl (MayBeBound-earlier target bytes gives.0, gives.1)
    GivesInPart-earlier (inr gives) = inr (Bound-earlier target bytes gives.0, gives.1)

  module _ (runs : Bool) (IsFault : Option Fault → Type 0) (target : Option (List ℕ)) (IsRight : (bytes text : List ℕ) → Type 0) (out out' : SinkView) where
    Completes-earlier : Completes IsFault target IsRight files files' out out' → Completes IsFault target IsRight (earlier files faults) files' out out'
    Completes-earlier ends = record {
      no_fault = ends.no_fault;
      bytes = ends.bytes;
      text = ends.text;
      right = ends.right;
      delivers = record { bound = Bound-earlier target ends.bytes ends.delivers.bound; given = ends.delivers.given };
      puts_calm = ends.puts_calm;
      writes_calm = ends.writes_calm;
    }

    GivesOut-earlier : GivesOut runs IsFault target IsRight files files' out out' → GivesOut runs IsFault target IsRight (earlier files faults) files' out out'
    GivesOut-earlier gives = record {
      may_give = gives.may_give;
      bytes = gives.bytes;
      text = gives.text;
      right = gives.right;
      fails = FailsToGive-earlier target gives.bytes gives.text out out' gives.fails;
    }

    BreaksOff-earlier : BreaksOff runs IsFault target IsRight files files' out out' → BreaksOff runs IsFault target IsRight (earlier files faults) files' out out'
    BreaksOff-earlier (inl nothing) = inl nothing
    BreaksOff-earlier (inr gives) = inr (record {
      may_give = gives.may_give;
      bytes = gives.bytes;
      text = gives.text;
      right = gives.right;
      gives = GivesInPart-earlier target gives.bytes gives.text out out' gives.gives;
    })

    DeliversIf-earlier : (gives : Bool) → DeliversIf gives target IsRight files files' out out' → DeliversIf gives target IsRight (earlier files faults) files' out out'
    DeliversIf-earlier true given =
        (given.0, given.1, given.2, record { bound = Bound-earlier target given.0 given.3.bound; given = given.3.given })
    DeliversIf-earlier false given = given

    JobEnds-earlier : {T : Type 0} (ended : Result T Halt) → JobEnds runs IsFault target IsRight files files' out out' ended
        → JobEnds runs IsFault target IsRight (earlier files faults) files' out out' ended
    JobEnds-earlier (Ok value) ends = Completes-earlier ends
    JobEnds-earlier (Err (halt.Fault first)) ends = (ends.0, DeliversIf-earlier (gives_before runs first) ends.1)
    JobEnds-earlier (Err halt.ReadFailed) ends = (Rose-earlier ends.0, ends.1)
    JobEnds-earlier (Err halt.PutFailed) ends = GivesOut-earlier ends
    JobEnds-earlier (Err halt.OutOfMemory) ends = BreaksOff-earlier ends

-- A job whose bytes and text are right where they are given so ends as the giving of them; before it files were read, which changed nothing of theirs
-- but the count of reads that failed.
pub JobEnds-behind : (runs : Bool) (IsFault : Option Fault → Type 0) (target : Option (List ℕ)) (IsRight IsGiven : (bytes text : List ℕ) → Type 0)
    (files middle files' : FilesView) (out out' : SinkView) {T : Type 0} (ended : Result T Halt)
    → middle.held ≡ files.held → files.faults ≤ middle.faults → middle.write_faults ≡ files.write_faults → IsFault None
    → ((bytes text : List ℕ) → IsGiven bytes text → IsRight bytes text)
    → JobEnds runs (λ fault. fault ≡ None) target IsGiven middle files' out out' ended → JobEnds runs IsFault target IsRight files files' out out' ended
JobEnds-behind runs IsFault target IsRight IsGiven files middle files' out out' ended held fewer writes none rights ends =
    subst (λ (before : FilesView). JobEnds runs IsFault target IsRight before files' out out' ended) (files_view-same held refl writes)
    (JobEnds-earlier middle files' files.faults fewer runs IsFault target IsRight out out' ended
    (JobEnds-among runs (λ fault. fault ≡ None) target IsGiven middle files' out out' IsFault IsRight
    (λ fault is. subst IsFault (sym is) none) rights ended ends))

-- A job whose bytes and text were made and are right ends as its delivery; before it files were read, which changed nothing of theirs but the
-- count of reads that failed.
pub JobEnds-delivered : (runs : Bool) (IsFault : Option Fault → Type 0) (target : Option (List ℕ)) (IsRight : (bytes text : List ℕ) → Type 0) (bytes text : List ℕ)
    (files middle files' : FilesView) (out out' : SinkView) {T : Type 0} (ended : Result T Halt)
    → middle.held ≡ files.held → files.faults ≤ middle.faults → middle.write_faults ≡ files.write_faults → IsFault None → IsRight bytes text
    → JobEnds runs (λ fault. fault ≡ None) target (λ given put. (given ≡ bytes) × (put ≡ text)) middle files' out out' ended
    → JobEnds runs IsFault target IsRight files files' out out' ended
JobEnds-delivered runs IsFault target IsRight bytes text files middle files' out out' ended held fewer writes none right ends =
    JobEnds-behind runs IsFault target IsRight (λ given put. (given ≡ bytes) × (put ≡ text)) files middle files' out out' ended held fewer writes none
    (λ given put is. subst (λ (given : List ℕ). IsRight given put) (sym is.0) (subst (IsRight bytes) (sym is.1) right)) ends

-- a delivery breaks off with no fault, so its message cites none
pub Cites-delivered : (runs : Bool) (target : Option (List ℕ)) (IsRight : (bytes text : List ℕ) → Type 0) (files files' : FilesView) (out out' : SinkView) (cited names : List (List ℕ))
    {T : Type 0} (ended : Result T Halt) → JobEnds runs (λ fault. fault ≡ None) target IsRight files files' out out' ended → IfErr ended (Cites cited names)
Cites-delivered runs target IsRight files files' out out' cited names (Ok value) ends = tt
Cites-delivered runs target IsRight files files' out out' cited names (Err (halt.Fault first)) ends = absurd (let h = ends.0 in cc)
Cites-delivered runs target IsRight files files' out out' cited names (Err halt.ReadFailed) ends = tt
Cites-delivered runs target IsRight files files' out out' cited names (Err halt.PutFailed) ends = tt
Cites-delivered runs target IsRight files files' out out' cited names (Err halt.OutOfMemory) ends = tt

-- ---- the words

-- words that are read have no fault before that of their job
pub IsFirstFault-job : (words : List (List ℕ)) (files : List HeldFile) (made : List Made) (fault : Option Fault) → words_fault words ≡ None
    → IsJobFault (options_for words) files made fault → IsFirstFault words files made fault
IsFirstFault-job words files made fault none is = subst (λ of_words. IsFaultBehind of_words (options_for words) files made fault) (sym none) is

-- the words have no other fault
words_fault-usage : (words : List (List ℕ)) (first : Fault) → words_fault words ≡ Some first → first ≡ Usage
unfolding words_fault
words_fault-usage words first = by (is_refused words || is_wrong (line_of words))
  where
    by : (refused : Bool) → (if refused then Some Usage else None) ≡ Some first → first ≡ Usage
    by true is = let h = is in cc
    by false is = absurd (let h = is in cc)

-- words that are not read have a fault, or memory ran out
pub Reason-words : (runs : Bool) (words : List (List ℕ)) (files : List HeldFile) (made : List Made) (CountRose : Type 0) (stopped : Stop)
    → StopsBy (words_fault words) stopped → Reason runs (IsFirstFault words files made) CountRose (halt_of_stop stopped)
Reason-words runs words files made CountRose stop.Memory stops = tt
Reason-words runs words files made CountRose (stop.Fault first) stops = (
  subst (λ of_words. IsFaultBehind of_words (options_for words) files made (Some first)) (sym stops) refl,
  gives_before-other runs first (ap is_full (words_fault-usage words first stops)),
)

-- the message of a fault of the words cites no file
pub Cites-words : {T : Type 0} (words names : List (List ℕ)) (seen : List HeldFile) (ended : Result T Halt) (stopped : Stop)
    → IsErrAnd ended (λ given. given ≡ halt_of_stop stopped) → StopsBy (words_fault words) stopped → names ≡ []
    → IfErr ended (Cites (file_names words seen) names)
Cites-words words names seen (Ok value) stopped is stops none = tt
Cites-words words names seen (Err given) stopped is stops none = subst (Cites (file_names words seen) names) (sym is) (by stopped stops)
  where
    by : (stopped : Stop) → StopsBy (words_fault words) stopped → Cites (file_names words seen) names (halt_of_stop stopped)
    by stop.Memory stops = tt
    by (stop.Fault first) stops = (
      none ∙ sym (ap (λ of_words. names_behind of_words (options_for words) seen) stops),
      subst (HasFile names) (sym (ap place_of (words_fault-usage words first stops))) tt,
    )

-- so do the words of a job
pub Cites-job : {T : Type 0} (words names : List (List ℕ)) (seen : List HeldFile) (options : Options) (ended : Result T Halt) → words_fault words ≡ None
    → options ≡ options_for words → IfErr ended (Cites (names_of options options.job seen) names) → IfErr ended (Cites (file_names words seen) names)
Cites-job words names seen options ended none same cites =
    subst (λ cited. IfErr ended (Cites cited names)) (sym (ap (λ of_words. names_behind of_words (options_for words) seen) none))
    (subst (λ (options : Options). IfErr ended (Cites (names_of options options.job seen) names)) same cites)

-- words that are read end as their job
pub JobEnds-words : (words : List (List ℕ)) (seen : List HeldFile) (made : List Made) (options : Options) (files files' : FilesView) (out out' : SinkView)
    {T : Type 0} (ended : Result T Halt) → words_fault words ≡ None → options ≡ options_for words
    → JobEnds (is_run options.job) (IsJobFault options seen made) (target_of options.job) (IsRightOf options seen made) files files' out out' ended
    → JobEnds (is_run (job_of words)) (IsFirstFault words seen made) (target_of (job_of words)) (IsRightOf (options_for words) seen made) files files' out out' ended
JobEnds-words words seen made options files files' out out' ended none same ends =
    JobEnds-among (is_run (job_of words)) (IsJobFault (options_for words) seen made) (target_of (job_of words)) (IsRightOf (options_for words) seen made) files files' out out'
    (IsFirstFault words seen made) (IsRightOf (options_for words) seen made)
    (λ fault is. IsFirstFault-job words seen made fault none is) (λ bytes text right. right) ended
    (subst (λ (options : Options). JobEnds (is_run options.job) (IsJobFault options seen made) (target_of options.job) (IsRightOf options seen made) files files' out out' ended) same ends)

-- a number within limits from one up is at least one
least-number : (most : ℕ) (text : Option (List ℕ)) → 0 < unwrap_or (option_and_then (number_within 1 most) text) 4096
least-number most None = omega arith
least-number most (Some text) = by (is_number text) (digits_value 10 text)
  where
    within : (number : ℕ) (inside : Bool) → 0 < number → 0 < unwrap_or (if inside then Some number else None) 4096
    within number true some = some
    within number false some = omega arith

    by : (is : Bool) (number : ℕ) → 0 < unwrap_or (if is && (nat_le 1 number && nat_le number most) then Some number else None) 4096
    by false number = omega arith
    by true number = elim (cases_lt 0 number) [
      | inl some ↦ within number (nat_le 1 number && nat_le number most) some
      | inr none ↦ let outside : nat_le 1 number ≡ false = lt-leb 1 number (omega arith) in rw outside (omega arith)
    ]

-- a number within limits is at most the greater one
most-number : (most : ℕ) (text : Option (List ℕ)) → IfSome (option_and_then (number_within 1 most) text) (λ number. number ≤ most)
most-number most None = tt
most-number most (Some text) = by (is_number text) (digits_value 10 text)
  where
    within : (number : ℕ) (inside : Bool) → number ≤ most → IfSome (if inside then Some number else None) (λ given. given ≤ most)
    within number true few = few
    within number false few = tt

    beyond : (number : ℕ) (least : Bool) → IfSome (if least && false then Some number else None) (λ given. given ≤ most)
    beyond number true = tt
    beyond number false = tt

    by : (is : Bool) (number : ℕ) → IfSome (if is && (nat_le 1 number && nat_le number most) then Some number else None) (λ given. given ≤ most)
    by false number = tt
    by true number = elim (cases_lt most number) [
      | inl more ↦ let outside : nat_le number most ≡ false = lt-leb number most more in rw outside (beyond number (nat_le 1 number))
      | inr few ↦ within number (nat_le 1 number && nat_le number most) few
    ]

-- words ask for windows and refills of at least one unit, and for at most 200 rules
IsWithinLimits-by : (rules : Option ℕ) (input : Option (List ℕ)) (line : Line) → IfSome rules (λ count. count ≤ 200) → IsWithinLimits (job_by rules input line)
IsWithinLimits-by (Some rules) input line few = few
IsWithinLimits-by None (Some input) line few =
    (least-number 1_048_576 (value line (codes "x-window")), least-number 1_048_576 (value line (codes "x-piece")))
IsWithinLimits-by None None line few = tt

pub IsWithinLimits-words : (words : List (List ℕ)) → IsWithinLimits (job_of words)
unfolding options_of
IsWithinLimits-words words =
    let line = line_of words in
    IsWithinLimits-by (number_of line (codes "x-source") 1 200) (value line (codes "x-run")) line (most-number 200 (value line (codes "x-source")))

-- ---- steps that broke off

-- what holds of why a step broke off holds of how its job did
pub IfErr-residual : {T : Type 0} (ended : Result T Halt) (halted : Halt) (P : Halt → Type 0) → IsErrAnd ended (λ given. given ≡ halted) → P halted → IfErr ended P
IfErr-residual (Ok value) halted P is holds = absurd is
IfErr-residual (Err given) halted P is holds = subst P (sym is) holds

-- a job that broke off answers nothing
pub IfOk-residual : {T : Type 0} (ended : Result T Halt) (halted : Halt) (P : T → Type 0) → IsErrAnd ended (λ given. given ≡ halted) → IfOk ended P
IfOk-residual (Ok value) halted P is = absurd is
IfOk-residual (Err given) halted P is = tt

-- how a step broke off its job did
pub JobEnds-residual : (runs : Bool) (IsFault : Option Fault → Type 0) (target : Option (List ℕ)) (IsRight : (bytes text : List ℕ) → Type 0) (files files' : FilesView) (out out' : SinkView)
    {T : Type 0} (ended : Result T Halt) (halted : Halt) → IsErrAnd ended (λ given. given ≡ halted)
    → Halts runs IsFault target IsRight files files' out out' halted → JobEnds runs IsFault target IsRight files files' out out' ended
JobEnds-residual runs IsFault target IsRight files files' out out' (Ok value) halted is halts = absurd is
JobEnds-residual runs IsFault target IsRight files files' out out' (Err given) halted is halts =
    subst (Halts runs IsFault target IsRight files files' out out') (sym is) halts

-- the lines of what the words ask for are those of their job
pub lines_for-job : {T : Type 0} (words : List (List ℕ)) (seen : List HeldFile) (made : List Made) (options : Options) (lines : T → List ℕ) (ended : Result T Halt)
    → options ≡ options_for words → IfOk ended (λ told. lines told ≡ job_lines options options.job seen made)
    → IfOk ended (λ told. lines told ≡ lines_for words seen made)
lines_for-job words seen made options lines ended same are =
    subst (λ (options : Options). IfOk ended (λ told. lines told ≡ job_lines options options.job seen made)) same are
