use Rattle.lx_tdfa.proofs.Loops.RegisterBounds.{kinds_bound}
use Rattle.lx_tdfa.proofs.states.Source.accept.Goals as goal

pub held-requires : goal.held-requires
held-requires c = kinds_bound c.args.self.now.t.now _ c.tags_of.result.now c.requires.of_rules.narrow c.tags_of.ensures
