use Rattle.std.proofs.Common.{◌≡◌, drop}
use Rattle.lx_regs.specs.Colours.{mark_each}
use Rattle.lx_regs.proofs.colours.mark_each.Given as goal

abbrev pub invariant-loop-number : goal.invariant-loop-number
invariant-loop-number l = mark_each l.colours l.marks.items (drop l.number-index l.numbers) ≡ mark_each l.colours l.fn.marks.items l.numbers
