use Rattle.std.proofs.Common.{◌≡◌, ◌++◌, drop}
use Rattle.std.specs.List.{AllByRecursion}
use Rattle.lx_layout.specs.LaidParts.{ended_at}
use Rattle.lx_layout.specs.Layout.{ending_blocks}
use Rattle.lx_layout.specs.Plans.{seen_accepts, unlabelled}
use Rattle.lx_layout.specs.RuleEnds.{endings_of}
use Rattle.lx_layout.proofs.Laying.ToldEnds.{EndIsKnown}
use Rattle.lx_layout.proofs.parts.append_endings.Given as goal

abbrev pub invariant-loop-first : goal.invariant-loop-first
invariant-loop-first l =
    record {
      known : AllByRecursion (EndIsKnown l.ends.plans.input.ends.now) (seen_accepts (drop l.first-index l.first-items));
      put : l.blocks.items ++ unlabelled (ending_blocks (endings_of l.ends.plans.input.ends.now) (seen_accepts (drop l.first-index l.first-items)))
          ≡ l.initial.blocks.items ++ unlabelled (ending_blocks (endings_of l.ends.plans.input.ends.now) (ended_at l.ends.plans));
    }
