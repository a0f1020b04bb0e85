use Rattle.std.proofs.Common.{◌≡◌, ◌++◌, drop}
use Rattle.lx_layout.specs.LaidParts.{asked_at, begin_at, states_blocks}
use Rattle.lx_layout.specs.Plans.{unlabelled}
use Rattle.lx_layout.proofs.part_states.append_states.Given as goal

abbrev pub invariant-loop-number : goal.invariant-loop-number
invariant-loop-number l =
    record {
      asked : l.asked ≡ asked_at l.places.ends.plans l.number;
      put : l.blocks.items ++ unlabelled (states_blocks l.places.ends.plans l.number l.from (drop l.number l.places.ends.plans.input.auto.now.states))
          ≡ l.initial.blocks.items ++ unlabelled (states_blocks l.places.ends.plans 0 (begin_at l.places.ends.plans) l.places.ends.plans.input.auto.now.states);
    }
