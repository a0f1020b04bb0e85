use Rattle.std.proofs.Common.{◌++◌, List, ap, subst, sym, ◌∙◌}
use Rattle.std.specs.List.{AllByRecursion}
use Rattle.lx_layout.specs.LaidParts.{halting_at}
use Rattle.lx_layout.specs.Plans.{seen_accepts, unlabelled}
use Rattle.lx_layout.specs.Layout.{ending_blocks}
use Rattle.lx_layout.specs.RuleEnds.{endings_of}
use Rattle.lx_layout.specs.declared.accepts.First.{First}
use Rattle.lx_layout.proofs.Laying.ToldEnds.{EndIsKnown, ended_known}
use Rattle.lx_layout.proofs.parts.append_endings.Goals as goal

pub loop-first-init : goal.loop-first-init
loop-first-init c =
    let plans = c.args.ends.now.plans in
    let ends = plans.input.ends.now in
    let accepts = ap (λ (l : List First). seen_accepts l) c.deref-first-items.ensures.value ∙ c.requires.ends.ended in
    record {
      known = subst (λ l. AllByRecursion (EndIsKnown ends) l) (sym accepts)
          (ended_known ends (halting_at plans) plans.input.auto.now c.requires.ends.plans.formed c.requires.told.accepts);
      put = ap (λ l. c.args.blocks.now.items ++ unlabelled (ending_blocks (endings_of ends) l)) accepts;
    }
