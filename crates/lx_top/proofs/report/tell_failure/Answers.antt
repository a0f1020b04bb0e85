use Rattle.std.proofs.Common.{List, ℕ, subst}
use Rattle.lx_top.specs.Endings.{PutsText}
use Rattle.lx_top.specs.Outside.{sink_view}
use Rattle.lx_top.proofs.ReportLemmas.{PutsText-answer}
use Rattle.lx_top.proofs.report.tell_failure.Goals as goal

pub returns-clause-told : goal.returns-clause-told
returns-clause-told g c =
    let err = sink_view (g.E.Sink.given c.args.err.now) (g.E.Sink.faults c.args.err.now) (g.E.Sink.wants c.args.err.now) in
    let err' = sink_view (g.E.Sink.given c.put_all.new.out) (g.E.Sink.faults c.put_all.new.out) (g.E.Sink.wants c.put_all.new.out) in
    subst (λ (text : List ℕ). PutsText text err err') c.failure_text.ensures
    (PutsText-answer c.failure_text.result.now err err' c.put_all.result c.put_all.ensures.given c.put_all.ensures.calm c.put_all.ensures.refuses c.put_all.ensures.lacks c.put_all.ensures.front)
