use Rattle.std.proofs.Common.{◌∙◌, ap, sym, ℕ, ◌%◌}
use Rattle.lx_run.specs.Texts.{run_text}
use Rattle.lx_top.specs.Outside.{SinkView, sink_view}
use Rattle.lx_top.proofs.EmittedLemmas.{BreaksOff-run, GivesOut-run, scan_fault-whole}
use Rattle.lx_top.proofs.emitted.run_scanner.Goals as goal

pub returns-in-PutFailed-clause-ends : goal.returns-in-PutFailed-clause-ends
returns-in-PutFailed-clause-ends g c =
    let piece = c.args.piece.now in
    let whole = scan_fault-whole piece c.args.units.window c.args.units.step c.args.input.items
    (ap (λ (count : ℕ). count % piece.unit) (sym (c.len.ensures ∙ c.args.input.ok.0)) ∙ c.if-len-piece-ne0.false) in
    let out : SinkView = sink_view (g.O.Sink.given c.args.out.now) (g.O.Sink.faults c.args.out.now) (g.O.Sink.wants c.args.out.now) in
    let out' : SinkView = sink_view (g.O.Sink.given c.run_over.new.out) (g.O.Sink.faults c.run_over.new.out) (g.O.Sink.wants c.run_over.new.out) in
    λ files. GivesOut-run (run_text piece c.args.input.items c.args.units.window c.args.units.step) _ whole files out out' c.in-PutFailed.ensures.ends

pub returns-in-Memory-clause-ends : goal.returns-in-Memory-clause-ends
returns-in-Memory-clause-ends g c =
    let piece = c.args.piece.now in
    let whole = scan_fault-whole piece c.args.units.window c.args.units.step c.args.input.items
    (ap (λ (count : ℕ). count % piece.unit) (sym (c.len.ensures ∙ c.args.input.ok.0)) ∙ c.if-len-piece-ne0.false) in
    let out : SinkView = sink_view (g.O.Sink.given c.args.out.now) (g.O.Sink.faults c.args.out.now) (g.O.Sink.wants c.args.out.now) in
    let out' : SinkView = sink_view (g.O.Sink.given c.run_over.new.out) (g.O.Sink.faults c.run_over.new.out) (g.O.Sink.wants c.run_over.new.out) in
    λ files. BreaksOff-run (run_text piece c.args.input.items c.args.units.window c.args.units.step) _ whole files out out' c.in-Memory.ensures.ends
