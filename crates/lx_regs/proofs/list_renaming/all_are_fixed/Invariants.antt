use Rattle.std.proofs.Common.{ℕ, ◌<◌}
use Rattle.std.specs.Prelude.{IsSome}
use Rattle.lx_auto.specs.declared.automaton.Held.TheVariants.{MReg}
use Rattle.lx_regs.specs.NameTables.{fixed_name}
use Rattle.lx_regs.proofs.list_renaming.all_are_fixed.Given as goal

abbrev pub invariant-loop-mreg : goal.invariant-loop-mreg
invariant-loop-mreg l = (mreg : ℕ) → mreg < l.mreg → IsSome (fixed_name l.table (MReg mreg))
