use Rattle.std.proofs.Common.{◌≡◌, take}
use Rattle.std.specs.List.{list_any}
use Rattle.lx_auto.specs.declared.automaton.Held.{Held}
use Rattle.lx_regs.specs.HeldSets.{has}
use Rattle.lx_regs.specs.KeptLists.{writes}
use Rattle.lx_regs.proofs.kept_lists.targets_of.Given as goal

abbrev pub invariant-loop-op : goal.invariant-loop-op
invariant-loop-op l = (held : Held) → has l.targets held ≡ list_any (writes held) (take l.op-index l.ops)
