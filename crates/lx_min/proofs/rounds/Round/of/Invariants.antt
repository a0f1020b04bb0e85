use Rattle.std.proofs.Common.{◌≡◌, take}
use Rattle.lx_min.specs.Joined.{class_in}
use Rattle.lx_min.specs.Signatures.{AreChosen}
use Rattle.lx_min.proofs.rounds.Round.of.Given as goal

abbrev pub invariant-loop-state : goal.invariant-loop-state
invariant-loop-state l = record {
  chosen : AreChosen (class_in l.given.class.items) l.looks l.round.signatures.keys l.round.chosen.items;
  same : l.round.chosen.items ≡ take l.state-index l.given.chosen.items;
}
