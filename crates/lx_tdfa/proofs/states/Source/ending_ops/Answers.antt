use Rattle.std.proofs.Common.{arith}
use Rattle.lx_tdfa.proofs.Loops.RegisterBounds.{first_of-room, kinds_bound}
use Rattle.lx_tdfa.proofs.states.Source.ending_ops.Goals as goal

pub push_tags-requires : goal.push_tags-requires
push_tags-requires c =
    let narrow = c.requires.of_rules.narrow in
    let short = kinds_bound c.args.self.now.t.now c.args.ending.rule c.tags_of.result.now narrow c.tags_of.ensures in (
      first_of-room c.args.self.now.t.now c.args.self.now.width c.args.ending.reach.now.from c.args.ending.rule c.first_of.result c.tags_of.result.now
          c.requires.of_rules.width narrow (omega (arith, c.requires.source)) c.first_of.ensures c.tags_of.ensures,
      omega (arith, short),
    )
