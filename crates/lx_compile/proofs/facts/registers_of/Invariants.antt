use Rattle.std.proofs.Common.{◌≡◌}
use Rattle.lx_compile.proofs.ListedRegisters.{listed_to}
use Rattle.lx_compile.proofs.facts.registers_of.Given as goal

abbrev pub invariant-loop-before : goal.invariant-loop-before
invariant-loop-before l = l.registers ≡ listed_to l.is_alone l.before
