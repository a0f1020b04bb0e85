use Rattle.std.proofs.Common.{◌≡◌, length}
use Rattle.lx_regs.specs.Colours.{IsFirstFit}
use Rattle.lx_regs.proofs.colours.first_fit.Given as goal

abbrev pub invariant-loop-number : goal.invariant-loop-number
invariant-loop-number l = record {
  count : length l.colours.items ≡ l.number;
  fit : IsFirstFit l.graph l.colours.items;
}
