-- Puts that are refused for want of memory.
use Rattle.std.proofs.Common.{◌≡◌, ◌≤◌, ℕ, Result, Ok, Err, arith}
use Rattle.std.specs.Prelude.{IfErr}
use Rattle.lx_files.specs.Counts.{Rose}
use Rattle.lx_files.specs.Taking.{WantsMemory}
use Rattle.lx_files.specs.declared.sinks.PutAnswer.{PutAnswer}
use Rattle.lx_files.specs.declared.sinks.PutAnswer.TheVariants as refusal
use Rattle.lx_run.specs.Ends.{end_behind}
use Rattle.lx_run.specs.declared.ends.RunEnd.TheVariants as run_end

-- a count that rose behind others, with which it did not fall
pub Rose-behind : {first second third : ℕ} → first ≤ second → Rose second third → Rose first third
Rose-behind rises rose = λ stays. rose (omega (arith, rises, stays))

-- a put by which a run ends for want of memory
pub Rose-put : {T : Type 0} {wants wants' : ℕ} (put : Result T PutAnswer) → IfErr put (WantsMemory wants wants') → end_behind put ≡ run_end.Memory → Rose wants wants'
Rose-put (Ok value) lacks is = absurd cc
Rose-put (Err refusal.Failed) lacks is = absurd cc
Rose-put (Err refusal.Memory) lacks is = lacks
