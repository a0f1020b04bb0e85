use Rattle.std.proofs.lemmas.Result.{on_ok_weaker}
use Rattle.lx_regs.proofs.SharedNames.GraphSteps.{Joins-turned}
use Rattle.lx_regs.proofs.graphs.Graph.join.Goals as goal

pub returns-then-second-first : goal.returns-then-second-first
returns-then-second-first c =
    on_ok_weaker _ (Joins-turned c.args.self.now c.join_ordered.new.self c.args.second c.args.first) c.join_ordered.ensures
