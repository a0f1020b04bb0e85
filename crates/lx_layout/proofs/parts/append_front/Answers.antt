use Rattle.std.proofs.Common.{◌∙◌, ◌++◌, ap}
use Rattle.lx_layout.specs.LaidParts.{begin_at, entry_blocks, halting_at, restores_at, rule_at, saved_at, states_blocks}
use Rattle.lx_layout.specs.Layout.{restore_blocks}
use Rattle.lx_layout.specs.Plans.{unlabelled}
use Rattle.lx_layout.specs.SuppliedLayout.{fallback_part}
use Rattle.lx_layout.proofs.Laying.LaidWhole.{unlabelled-parts}
use Rattle.lx_layout.proofs.parts.append_front.Goals as goal

pub returns-clause-laid : goal.returns-clause-laid
returns-clause-laid c =
    let plans = c.args.places.now.ends.plans in
    let auto = plans.input.auto.now in
    let states = states_blocks plans 0 (begin_at plans) auto.states in
    let fallback = fallback_part (halting_at plans) auto (restores_at plans) in
    let restores = restore_blocks (rule_at plans) (saved_at plans) in
    let stated = c.in_ok-asked.ensures.laid ∙ ap (λ l. l ++ unlabelled states) c.in_ok-append_entry.ensures in
    let fallen = c.in_ok-append_fallback.ensures ∙ ap (λ l. l ++ unlabelled fallback) stated in
    c.in_ok-append_restores.ensures ∙ ap (λ l. l ++ unlabelled restores) fallen
    ∙ unlabelled-parts c.args.blocks.now.items (entry_blocks plans) states fallback restores
