use Rattle.std.proofs.Common.{◌≡◌, ◌||◌, ◌&&◌, take}
use Rattle.std.specs.List.{list_any}
use Rattle.lx_auto.specs.declared.automaton.Held.{Held}
use Rattle.lx_regs.specs.HeldSets.{has}
use Rattle.lx_regs.specs.KeptLists.{copies_from, overwrites}
use Rattle.lx_regs.proofs.kept_lists.note_ops.Given as goal

abbrev pub invariant-loop-op : goal.invariant-loop-op
invariant-loop-op l = record {
  written : (held : Held) → has l.written held ≡ (has l.initial.written held || list_any (overwrites held) (take l.op-index l.ops));
  sources : (held : Held) → has l.sources held
      ≡ (has l.initial.sources held || (has l.asked held && list_any (copies_from held) (take l.op-index l.ops)));
}
