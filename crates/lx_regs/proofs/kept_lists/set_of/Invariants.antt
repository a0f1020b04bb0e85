use Rattle.std.proofs.Common.{◌≡◌, take}
use Rattle.std.specs.List.{list_any}
use Rattle.lx_auto.specs.declared.automaton.Held.{Held}
use Rattle.lx_regs.specs.HeldSets.{has, is_same}
use Rattle.lx_regs.proofs.kept_lists.set_of.Given as goal

abbrev pub invariant-loop-held : goal.invariant-loop-held
invariant-loop-held l = (other : Held) → has l.set other ≡ list_any (is_same other) (take l.held-index l.items)
