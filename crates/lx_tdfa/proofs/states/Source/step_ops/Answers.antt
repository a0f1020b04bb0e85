use Rattle.std.proofs.Common.{arith, length, ◌<◌, subst, sym}
use Rattle.lx_tdfa.specs.declared.steps.Step.{Step}
use Rattle.lx_tdfa.proofs.Loops.RegisterBounds.{first_of-room}
use Rattle.lx_tdfa.proofs.states.Source.step_ops.Goals as goal

pub push_tags-requires : goal.push_tags-requires
push_tags-requires c =
    let few : c.loop-index.index < length c.args.steps.now = c.loop-index-test.true in
    let near : c.index-steps-index.result.reach.now.from < 1048576 =
    subst (λ (step : Step). step.reach.now.from < 1048576) (sym c.index-steps-index.is)
    (c.requires.sources c.loop-index.index c.index-steps-index.result few) in (
      first_of-room c.args.self.now.t.now c.args.self.now.width c.index-steps-index.result.reach.now.from _ c.first_of.result c.tags_at.result.now
          c.requires.of_rules.width c.requires.of_rules.narrow (omega (arith, near)) c.first_of.ensures c.tags_at.ensures,
      first_of-room c.args.self.now.t.now c.args.self.now.width c.loop-index.index _ c.first_of-in-loop-index.result c.tags_at.result.now
          c.requires.of_rules.width c.requires.of_rules.narrow (omega (arith, few, c.requires.few)) c.first_of-in-loop-index.ensures c.tags_at.ensures,
    )
