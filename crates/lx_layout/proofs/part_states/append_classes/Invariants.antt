use Rattle.std.proofs.Common.{◌≡◌, ◌++◌, drop, length}
use Rattle.lx_auto.specs.Automaton.{LeadWithin}
use Rattle.lx_layout.specs.LaidParts.{class_blocks}
use Rattle.lx_layout.specs.Plans.{unlabelled}
use Rattle.lx_dispatch.specs.Views.{seen_classes}
use Rattle.lx_layout.proofs.part_states.append_classes.Given as goal

abbrev pub invariant-loop-class : goal.invariant-loop-class
invariant-loop-class l =
    record {
      lead : LeadWithin l.places.ends.plans.input.auto.now.regs l.places.ends.plans.input.auto.now.mregs
          (length l.places.ends.plans.input.auto.now.states) (seen_classes (drop l.class-index l.classes));
      put : l.blocks.items ++ unlabelled (class_blocks l.places.ends.plans l.state (seen_classes (drop l.class-index l.classes)))
          ≡ l.initial.blocks.items ++ unlabelled (class_blocks l.places.ends.plans l.state (seen_classes l.classes));
    }
