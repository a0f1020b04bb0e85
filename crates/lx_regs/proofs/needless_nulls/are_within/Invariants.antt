use Rattle.std.proofs.Common.{◌≡◌, ◌<◌, ℕ, true}
use Rattle.lx_regs.specs.Unset.{is_unset}
use Rattle.lx_regs.proofs.needless_nulls.are_within.Given as goal

abbrev pub invariant-loop-reg : goal.invariant-loop-reg
invariant-loop-reg l = (reg : ℕ) → reg < l.reg → is_unset l.row reg ≡ true → is_unset l.other reg ≡ true
