use Rattle.std.proofs.Common.{◌≡◌, ◌++◌, drop}
use Rattle.std.specs.List.{AllByRecursion}
use Rattle.std.specs.Prelude.{map}
use Rattle.lx_layout.specs.LaidParts.{ended_at}
use Rattle.lx_layout.specs.Layout.{ending_blocks}
use Rattle.lx_layout.specs.Plans.{seen_accepts, unlabelled}
use Rattle.lx_layout.specs.RuleEnds.{endings_of}
use Rattle.lx_layout.proofs.Fronts.EndedAccepts.{EndIsKnownBy}
use Rattle.lx_layout.proofs.copies.append_endings_by.Given as goal
use Rattle.lx_renumber.specs.Renumbered.{renumbered_accept}

abbrev pub invariant-loop-first : goal.invariant-loop-first
invariant-loop-first l =
    record {
      known : AllByRecursion (EndIsKnownBy l.index.ends.now l.by) (seen_accepts (drop l.first-index l.first-items));
      put : l.blocks.items ++ unlabelled (ending_blocks (endings_of l.index.ends.now)
          (map (renumbered_accept l.by) (seen_accepts (drop l.first-index l.first-items))))
          ≡ l.initial.blocks.items ++ unlabelled (ending_blocks (endings_of l.index.ends.now)
          (map (renumbered_accept l.by) (ended_at l.front.ends.plans)));
    }
