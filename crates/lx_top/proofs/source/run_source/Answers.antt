use Rattle.std.proofs.Common.{subst, sym, List, None, ℕ, ◌∙◌}
use Rattle.lx_top.specs.Emitted.{Scans}
use Rattle.lx_top.specs.Outside.{FilesView, SinkView, files_view, sink_view}
use Rattle.lx_top.specs.Sources.{IsSourceOutput}
use Rattle.lx_top.proofs.GeneratedEnds.{EndsSource-given, EndsSource-halted, EndsSource-memory, summary-run, whole-bytes}
use Rattle.lx_top.proofs.source.run_source.Goals as goal

pub returns-in_err-source : goal.returns-in_err-source
returns-in_err-source g c =
    let files : FilesView = files_view (g.F.Files.held c.args.files.now) (g.F.Files.faults c.args.files.now) (g.F.Files.write_faults c.args.files.now) in
    let out : SinkView = sink_view (g.O.Sink.given c.args.out.now) (g.O.Sink.faults c.args.out.now) (g.O.Sink.wants c.args.out.now) in
    record { ends = EndsSource-memory c.args.rules c.args.target.now files out c.from_residual.result c.from_residual.ensures.1 }

pub returns-in_err-output : goal.returns-in_err-output
returns-in_err-output g c =
    let files : FilesView = files_view (g.F.Files.held c.args.files.now) (g.F.Files.faults c.args.files.now) (g.F.Files.write_faults c.args.files.now) in
    let out : SinkView = sink_view (g.O.Sink.given c.args.out.now) (g.O.Sink.faults c.args.out.now) (g.O.Sink.wants c.args.out.now) in
    let compiled = c.in_err-output.ensures.compiles c.args.rules c.requires.few (c.deref.ensures.value ∙ c.in_ok-source.ensures) in
    record {
      ends = EndsSource-halted c.args.rules c.args.target.now files out c.from_residual-in_err-output.result c.in_err-output.field-0.0
          c.from_residual-in_err-output.ensures.1 compiled;
    }

pub returns-in_err-piece : goal.returns-in_err-piece
returns-in_err-piece g c =
    let files : FilesView = files_view (g.F.Files.held c.args.files.now) (g.F.Files.faults c.args.files.now) (g.F.Files.write_faults c.args.files.now) in
    let out : SinkView = sink_view (g.O.Sink.given c.args.out.now) (g.O.Sink.faults c.args.out.now) (g.O.Sink.wants c.args.out.now) in
    let compiled = c.in_ok-output.ensures.compiles c.args.rules c.requires.few (c.deref.ensures.value ∙ c.in_ok-source.ensures) in
    let right = subst (λ (output : List ℕ). IsSourceOutput c.args.rules compiled.0 output) (sym c.deref-2.ensures.value) compiled.1 in
    record {
      ends = EndsSource-halted c.args.rules c.args.target.now files out c.from_residual-in_err-piece.result c.in_err-piece.field-0.0
          c.from_residual-in_err-piece.ensures.1 (c.in_err-piece.ensures.found c.args.rules compiled.0 c.requires.few right);
    }

pub run_of-requires-clause-whole : goal.run_of-requires-clause-whole
run_of-requires-clause-whole g c =
    let compiled = c.in_ok-output.ensures.compiles c.args.rules c.requires.few (c.deref.ensures.value ∙ c.in_ok-source.ensures) in
    let right = subst (λ (output : List ℕ). IsSourceOutput c.args.rules compiled.0 output) (sym c.deref-2.ensures.value) compiled.1 in
    whole-bytes _ c.in_ok-piece.piece.unit (c.in_ok-piece.ensures.found c.args.rules compiled.0 c.requires.few right)

pub returns-in_err-words : goal.returns-in_err-words
returns-in_err-words g c =
    let files : FilesView = files_view (g.F.Files.held c.args.files.now) (g.F.Files.faults c.args.files.now) (g.F.Files.write_faults c.args.files.now) in
    let out : SinkView = sink_view (g.O.Sink.given c.args.out.now) (g.O.Sink.faults c.args.out.now) (g.O.Sink.wants c.args.out.now) in
    record {
      ends = EndsSource-memory c.args.rules c.args.target.now files out c.from_residual-in_err-words.result c.from_residual-in_err-words.ensures.1;
    }

pub returns-in_err-run : goal.returns-in_err-run
returns-in_err-run g c =
    let files : FilesView = files_view (g.F.Files.held c.args.files.now) (g.F.Files.faults c.args.files.now) (g.F.Files.write_faults c.args.files.now) in
    let out : SinkView = sink_view (g.O.Sink.given c.args.out.now) (g.O.Sink.faults c.args.out.now) (g.O.Sink.wants c.args.out.now) in
    record {
      ends = EndsSource-memory c.args.rules c.args.target.now files out c.from_residual-in_err-run.result c.from_residual-in_err-run.ensures.1;
    }

pub returns-in_err-text : goal.returns-in_err-text
returns-in_err-text g c =
    let files : FilesView = files_view (g.F.Files.held c.args.files.now) (g.F.Files.faults c.args.files.now) (g.F.Files.write_faults c.args.files.now) in
    let out : SinkView = sink_view (g.O.Sink.given c.args.out.now) (g.O.Sink.faults c.args.out.now) (g.O.Sink.wants c.args.out.now) in
    record {
      ends = EndsSource-memory c.args.rules c.args.target.now files out c.from_residual-in_err-text.result c.from_residual-in_err-text.ensures.1;
    }

pub returns : goal.returns
returns g c =
    let files : FilesView = files_view (g.F.Files.held c.args.files.now) (g.F.Files.faults c.args.files.now) (g.F.Files.write_faults c.args.files.now) in
    let compiled = c.in_ok-output.ensures.compiles c.args.rules c.requires.few (c.deref.ensures.value ∙ c.in_ok-source.ensures) in
    let scans = subst (λ (output : List ℕ). Scans output None c.in_ok-piece.piece) c.deref-2.ensures.value c.in_ok-piece.ensures.scans in
    let text = summary-run c.args.rules c.in_ok-piece.piece c.in_ok-text.text.items c.in_ok-source.source.items _ _ _ c.in_ok-text.ensures (c.len.ensures ∙ c.in_ok-source.source.ok.0)
    c.in_ok-source.ensures (c.deref-3.ensures.value ∙ c.in_ok-run.ensures) c.in_ok-words.ensures in
    record {
      ends = EndsSource-given c.args.rules c.args.target.now files compiled.0 c.in_ok-output.output.items compiled.1 c.in_ok-piece.piece _ c.in_ok-text.text.items _ _ _ _ c.deliver.result scans text c.deref-4.ensures.value c.deref-5.ensures.value c.deliver.ensures.ends;
    }
