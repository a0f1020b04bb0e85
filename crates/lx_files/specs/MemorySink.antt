-- A sink in memory, as contracts see it.
use Rattle.std.specs.Prelude.{ℕ, List}
use Rattle.lx_files.specs.CallPlan.{CallPlan}

-- what was given, the calls, and the counts of faults and of puts that were refused for want of memory
pub record MemorySink : Type 0 where
  pub given : List ℕ
  pub calls : CallPlan
  pub faults : ℕ
  pub wants : ℕ
