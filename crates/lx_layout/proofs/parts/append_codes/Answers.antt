use Rattle.std.proofs.Common.{◌∙◌, ◌++◌, ap, sym}
use Rattle.lx_layout.specs.Copies.{back_layout, front_at}
use Rattle.lx_layout.specs.LaidParts.{halting_at, supply_at, trees_at}
use Rattle.lx_layout.specs.Plans.{unlabelled}
use Rattle.lx_layout.specs.RuleEnds.{endings_of}
use Rattle.lx_layout.proofs.Fronts.MovedFronts.{supplied-parts}
use Rattle.lx_layout.proofs.Laying.LaidWhole.{unlabelled-more}
use Rattle.lx_layout.proofs.parts.append_codes.Goals as goal

pub returns-clause-laid : goal.returns-clause-laid
returns-clause-laid c =
    let plans = c.args.places.now.ends.plans in
    let auto = plans.input.auto.now in
    let endings = endings_of plans.input.ends.now in
    let end_rule = plans.input.end_rule in
    let back = back_layout (halting_at plans) endings end_rule auto in
    let old = c.args.blocks.now.items in
    c.in_ok-append_rules.ensures ∙ ap (λ l. l ++ unlabelled back) c.in_ok-asked.ensures.laid
    ∙ unlabelled-more old (front_at plans) back
    ∙ ap (λ l. old ++ unlabelled l) (sym (supplied-parts (supply_at plans) (halting_at plans) endings end_rule (trees_at plans) auto plans.begin))
