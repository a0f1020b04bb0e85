use Rattle.std.proofs.Common.{◌++◌, List, ap, subst, sym, ◌∙◌}
use Rattle.std.specs.List.{AllByRecursion}
use Rattle.std.specs.Prelude.{map}
use Rattle.lx_layout.specs.LaidParts.{halting_at}
use Rattle.lx_layout.specs.Layout.{ending_blocks}
use Rattle.lx_layout.specs.Plans.{seen_accepts, unlabelled}
use Rattle.lx_layout.specs.RuleEnds.{endings_of}
use Rattle.lx_layout.specs.declared.accepts.First.{First}
use Rattle.lx_layout.proofs.Fronts.EndedAccepts.{EndIsKnownBy, ended_known_by}
use Rattle.lx_layout.proofs.copies.append_endings_by.Goals as goal
use Rattle.lx_renumber.specs.Renumbered.{renumbered_accept}

pub loop-first-init : goal.loop-first-init
loop-first-init c =
    let plans = c.args.front.now.ends.plans in
    let ends = c.args.index.now.ends.now in
    let by = c.args.by in
    let accepts = ap (λ (l : List First). seen_accepts l) c.deref-first-items.ensures.value ∙ c.requires.front.ends.ended in
    record {
      known = subst (λ l. AllByRecursion (EndIsKnownBy ends by) l) (sym accepts)
          (ended_known_by ends by (halting_at plans) plans.input.auto.now c.requires.front.ends.plans.formed c.requires.told);
      put = ap (λ l. c.args.blocks.now.items ++ unlabelled (ending_blocks (endings_of ends) (map (renumbered_accept by) l))) accepts;
    }
