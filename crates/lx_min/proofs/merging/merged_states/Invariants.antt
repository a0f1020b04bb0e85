use Rattle.std.proofs.Common.{◌≡◌, length, take}
use Rattle.std.specs.Prelude.{map}
use Rattle.lx_auto.specs.Automaton.{state_of}
use Rattle.lx_min.specs.Merges.{moved_state}
use Rattle.lx_min.specs.Numberings.{numbered_classes}
use Rattle.lx_min.proofs.MergedLists.{AreLeft}
use Rattle.lx_min.proofs.merging.merged_states.Given as goal

abbrev pub invariant-loop-state : goal.invariant-loop-state
invariant-loop-state l = record {
  count : length l.states.items ≡ length l.fn.auto.states;
  left : AreLeft (numbered_classes l.numbering) l.fn.auto.states l.states.items l.state-index;
  done : l.answer ≡ map (λ state. moved_state (numbered_classes l.numbering).of (state_of l.fn.auto.states state))
      (take l.state-index l.numbering.chosen.items);
}
