use Rattle.std.proofs.Common.{sym, subst}
use Rattle.lx_encode.specs.Starts.{AreEnded}
use Rattle.lx_encode.proofs.Residuals.{live, same_residual, step_within}
use Rattle.lx_encode.proofs.graph.UnitGraph.of.Goals as goal

pub returns-clause-graph : goal.returns-clause-graph
returns-clause-graph c =
    let rows = c.starts_of.new.table in
    let table = c.in_ok-starts.ensures.table in
    let ended = subst (λ l. AreEnded l c.in_ok-points.points.items) c.ranges-2.ensures.ranges c.in_ok-points.ensures.leads in
    let ended' = subst (λ l. AreEnded c.args.set.now l) (sym c.deref.ensures.value) ended in
    record {
      starts = c.in_ok-starts.ensures.starts c.args.set.now c.ranges-2.ensures.canonical ended';
      within = λ residual unit next lt is. step_within rows table residual lt unit next is;
      live = live rows table;
      same = same_residual rows table;
    }
