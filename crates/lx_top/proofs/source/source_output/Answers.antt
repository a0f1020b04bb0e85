use Rattle.std.proofs.Common.{List, subst}
use Rattle.lx_base.specs.declared.settings.Options.{Options}
use Rattle.lx_compile.specs.FirstFault.{StopsWith}
use Rattle.lx_compile.specs.Output.{IsGiven}
use Rattle.lx_files.specs.Counts.{Rose}
use Rattle.lx_files.specs.Held.{Binds}
use Rattle.lx_files.specs.declared.files.HeldFile.{HeldFile}
use Rattle.lx_source.specs.Sources.{source_name}
use Rattle.lx_top.proofs.GeneratedLemmas.{Compiles-source, Halts-source}
use Rattle.lx_top.proofs.source.source_output.Goals as goal

pub returns-in_err-compiled : goal.returns-in_err-compiled
returns-in_err-compiled c =
    let stops = c.in_err-compiled.ensures.compiles in
    let bound = subst (λ (held : List HeldFile). Binds held c.add.new.self source_name c.args.source.now) c.new-files.ensures c.in_ok-add.ensures.bound in
    let stopped = subst (λ (options : Options). StopsWith options stops.0 source_name (Rose 0 0) c.compile.new.names c.in_err-compiled.field-0.0) c.in_ok-options.ensures stops.2 in
    record {
      compiles = λ rules few is. Halts-source rules c.add.new.self stops.0 c.args.source.now is bound stops.1 few c.compile.new.names c.in_err-compiled.field-0.0
          c.from_residual-in_err-compiled.result c.from_residual-in_err-compiled.ensures.1 stopped;
    }

pub returns : goal.returns
returns c =
    let made = c.in_ok-compiled.ensures.compiles in
    let bound = subst (λ (held : List HeldFile). Binds held c.add.new.self source_name c.args.source.now) c.new-files.ensures c.in_ok-add.ensures.bound in
    let output = c.in_ok-compiled.compiled.output in
    let right = subst (λ (options : Options). IsGiven options made.0 source_name made.2.0 output.items) c.in_ok-options.ensures made.2.2 in
    record { compiles = λ rules few is. Compiles-source rules c.add.new.self made.0 c.args.source.now is bound made.1 made.2.0 output right }
