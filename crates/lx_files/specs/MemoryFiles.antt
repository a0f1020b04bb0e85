-- Files in memory, as contracts see them.
use Rattle.std.specs.Prelude.{ℕ, List}
use Rattle.lx_files.specs.CallPlan.{CallPlan}
use Rattle.lx_files.specs.declared.files.HeldFile.{HeldFile}

-- what is held, the calls, and the counts of faults
pub record MemoryFiles : Type 0 where
  pub held : List HeldFile
  pub calls : CallPlan
  pub faults : ℕ
  pub write_faults : ℕ
