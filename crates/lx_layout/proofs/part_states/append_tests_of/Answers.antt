use Rattle.std.proofs.Common.{◌≡◌, ◌∙◌, ◌++◌, subst, sym}
use Rattle.std.specs.Result.{OnOk}
use Rattle.lx_layout.specs.Plans.{unlabelled}
use Rattle.lx_dispatch.specs.Views.{seen_tree}
use Rattle.lx_layout.proofs.Laying.Numbered.{tests-laid}
use Rattle.lx_layout.proofs.Laying.Planned.{plan_tree}
use Rattle.lx_layout.proofs.part_states.append_tests_of.Goals as goal

pub returns : goal.returns
returns c =
    let plans = c.args.plans.now in
    let spot = c.args.spot in
    let tree = plan_tree plans c.requires.plans spot.number c.requires.spot.within c.index.result.now c.index.ensures in
    let laid = tests-laid plans spot.number spot.from c.args.exits c.requires.exits c.stored_by-stored.result spot.asked c.stored_by-stored.ensures
    c.requires.spot.asked (sym c.is_entered.ensures ∙ c.if-not-is_entered.false) c.check-units.result c.check-units.ensures (seen_tree c.index.result.now.tests) tree in
    subst (λ l. OnOk c.append_reader.result (c.append_reader.new.blocks.items ≡ c.args.blocks.now.items ++ unlabelled l)) laid c.append_reader.ensures
