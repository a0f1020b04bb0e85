-- What a read and a write of a file may answer, by what is held and by the counts of faults.
use Rattle.std.specs.Prelude.{◌≡◌, ℕ, List, Option, Some, None, IfSome, MatchOption}
use Rattle.lx_files.specs.Counts.{Rose}
use Rattle.lx_files.specs.Held.{bytes_of, MayBindFront, WhereTold}
use Rattle.lx_files.specs.declared.files.HeldFile.{HeldFile}
use Rattle.lx_files.specs.declared.files.ReadAnswer.{ReadAnswer}
use Rattle.lx_files.specs.declared.files.ReadAnswer.TheVariants as read
use Rattle.lx_files.specs.declared.files.WriteAnswer.{WriteAnswer}
use Rattle.lx_files.specs.declared.files.WriteAnswer.TheVariants as write

-- the bytes are those under the name, where it is told what is held
abbrev pub Gives : Option (List HeldFile) → (name bytes : List ℕ) → Type 0
Gives held name bytes = IfSome held (λ files. bytes_of files name ≡ Some bytes)

-- A read is refused: because nothing is held under the name, or because the count of its faults rose. Where
-- it is not told what is held, the count rose in either case. Want of memory is free.
abbrev pub RefusesRead : Option (List HeldFile) → (name : List ℕ) → (before after : ℕ) → ReadAnswer → Type 0
RefusesRead held name before after read.Missing = MatchOption held (Rose before after) (λ files. bytes_of files name ≡ None)
RefusesRead held name before after read.Failed = Rose before after
RefusesRead held name before after read.Memory = Unit {0}

-- A write is refused: because the count of its faults rose, and then a front of the bytes may stand under the
-- name; or for want of memory, and then nothing changed.
abbrev pub RefusesWrite : Option (List HeldFile) → Option (List HeldFile) → (name bytes : List ℕ) → (before after : ℕ) → WriteAnswer → Type 0
RefusesWrite held held' name bytes before after write.Failed =
    Rose before after × WhereTold held held' (λ files files'. MayBindFront files files' name bytes)
RefusesWrite held held' name bytes before after write.Memory = held' ≡ held
