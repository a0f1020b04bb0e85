use Rattle.std.proofs.Common.{◌≡◌, ◌++◌, arith, subst}
use Rattle.std.specs.Result.{OnOk}
use Rattle.lx_layout.specs.Plans.{unlabelled}
use Rattle.lx_dispatch.specs.Views.{seen_tree}
use Rattle.lx_layout.proofs.Laying.Numbered.{entry-laid}
use Rattle.lx_layout.proofs.Laying.Planned.{plan_tree, states_length}
use Rattle.lx_layout.proofs.part_entries.append_tests_of.Goals as goal

pub returns : goal.returns
returns c =
    let plans = c.args.ends.now.plans in
    let long = states_length plans c.requires.ends.plans in
    let tree = plan_tree plans c.requires.ends.plans 0 (omega (arith, long, c.requires.ends.plans.formed.start)) c.index.result.now c.index.ensures in
    let laid = entry-laid plans c.args.exits c.requires.exits c.stored_by-stored.result c.stored_by-stored.ensures
    (seen_tree c.index.result.now.tests) tree in
    subst (λ l. OnOk c.append_reader.result (c.append_reader.new.blocks.items ≡ c.args.blocks.now.items ++ unlabelled l)) laid c.append_reader.ensures
