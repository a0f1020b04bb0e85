-- The outside of the program: files and sinks, before and after a run.
use Rattle.std.specs.Prelude.{ℕ, List, Option}
use Rattle.lx_files.specs.Counts.{IsCalm}
use Rattle.lx_files.specs.declared.files.HeldFile.{HeldFile}

-- what the files hold, where that is told, and their counts of faults of reads and of writes
pub record FilesView : Type 0 where
  pub held : Option (List HeldFile)
  pub faults : ℕ
  pub write_faults : ℕ

-- what was given to a sink, where that is told, its count of faults, and that of puts that wanted memory
pub record SinkView : Type 0 where
  pub given : Option (List ℕ)
  pub faults : ℕ
  pub wants : ℕ

abbrev pub files_view : Option (List HeldFile) → ℕ → ℕ → FilesView
files_view held faults write_faults = record { held = held; faults = faults; write_faults = write_faults }

abbrev pub sink_view : Option (List ℕ) → ℕ → ℕ → SinkView
sink_view given faults wants = record { given = given; faults = faults; wants = wants }

-- the files, the standard output and the standard error
pub record Outside : Type 0 where
  pub files : FilesView
  pub out : SinkView
  pub err : SinkView

abbrev pub outside : FilesView → SinkView → SinkView → Outside
outside files out err = record { files = files; out = out; err = err }

-- no count of faults rose
pub record NoCountRose (before after : Outside) : Type 0 where
  pub reads : IsCalm before.files.faults after.files.faults
  pub writes : IsCalm before.files.write_faults after.files.write_faults
  pub out : IsCalm before.out.faults after.out.faults
  pub err : IsCalm before.err.faults after.err.faults
