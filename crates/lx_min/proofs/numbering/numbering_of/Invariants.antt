use Rattle.std.proofs.Common.{◌≡◌}
use Rattle.lx_min.specs.Numberings.{IsNumberedTo}
use Rattle.lx_min.proofs.numbering.numbering_of.Given as goal

abbrev pub invariant-loop-state : goal.invariant-loop-state
invariant-loop-state l = record {
  kept : l.numbering.class.items ≡ l.fn.partition.class.items;
  numbered : IsNumberedTo l.fn.partition.chosen.items l.numbering l.state;
}
