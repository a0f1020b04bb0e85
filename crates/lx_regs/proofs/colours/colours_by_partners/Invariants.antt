use Rattle.std.proofs.Common.{◌≡◌, length}
use Rattle.lx_regs.specs.Colours.{AreColours}
use Rattle.lx_regs.proofs.colours.colours_by_partners.Given as goal

abbrev pub invariant-loop-number : goal.invariant-loop-number
invariant-loop-number l = record {
  count : length l.colours.items ≡ l.number;
  colours : AreColours l.graph l.colours.items;
}
