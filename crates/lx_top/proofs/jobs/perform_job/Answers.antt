use Rattle.std.proofs.Common.{[], List, Ok, false, true, refl}
use Rattle.lx_top.specs.Jobs.{is_run, names_of}
use Rattle.lx_top.specs.Steps.{Cites}
use Rattle.lx_top.specs.declared.endings.Halt.TheVariants as halt
use Rattle.lx_compile.specs.Warnings.{warning_lines}
use Rattle.lx_compile.specs.declared.warned.PlacedWarning.{PlacedWarning}
use Rattle.lx_top.proofs.CompileLemmas.{Cites-compiled, JobEnds-compiled, lines-compiled, lines-run, lines-source, sees_any}
use Rattle.lx_top.proofs.EmittedLemmas.{Cites-asked, JobEnds-asked, names-two}
use Rattle.lx_top.proofs.GeneratedEnds.{JobEnds-generated}
use Rattle.lx_top.proofs.JobLemmas.{Cites-delivered, IfErr-residual, IfOk-residual, JobEnds-reason, JobEnds-residual}
use Rattle.lx_top.proofs.jobs.perform_job.Goals as goal

pub returns-in-Compile : goal.returns-in-Compile
returns-in-Compile g c =
    let ran = c.compile.ensures.ends in
    let options = c.args.options.now in
    let name_is = c.as_str-file.ensures in
    let ends = JobEnds-compiled options options.job c.in-Compile.file _ c.in-Compile.to _ ran.0 ran.1 _ _ _ _ c.compile.result c.in-Compile.is name_is c.name_in-to.ensures ran.3 in
    let cites = Cites-compiled options options.job c.in-Compile.file _ c.in-Compile.to ran.0 c.compile.new.names c.compile.result c.in-Compile.is name_is ran.4 in
    let lines = lines-compiled options options.job c.in-Compile.file _ c.in-Compile.to ran.0 ran.1 (warning_lines c.compile.new.names) c.compile.result c.in-Compile.is name_is ran.5 in
    record { ends = (ran.0, ran.1, ran.2, ends, cites, lines) }

pub returns-in_err-add-in-Run : goal.returns-in_err-add-in-Run
returns-in_err-add-in-Run g c =
    let any = sees_any (g.F.Files.held c.args.files.now) in
    let ends = JobEnds-reason (is_run c.args.options.now.job) _ _ _ _ _ _ _ c.from_residual.result halt.OutOfMemory c.from_residual.ensures.1 tt (refl, refl) in
    record {
      ends = (
        any.0,
        [],
        any.1,
        ends,
        IfErr-residual c.from_residual.result halt.OutOfMemory (Cites (names_of c.args.options.now c.args.options.now.job any.0) c.add.new.self) c.from_residual.ensures.1 tt,
        IfOk-residual c.from_residual.result _ _ c.from_residual.ensures.1,
      );
    }

pub returns-in_err-add-in-Run-2 : goal.returns-in_err-add-in-Run-2
returns-in_err-add-in-Run-2 g c =
    let any = sees_any (g.F.Files.held c.args.files.now) in
    let stopped = c.from_residual-in_err-add-in-Run-2.result in
    let is = c.from_residual-in_err-add-in-Run-2.ensures.1 in
    let ends = JobEnds-reason (is_run c.args.options.now.job) _ _ _ _ _ _ _ stopped halt.OutOfMemory is tt (refl, refl) in
    record {
      ends = (
        any.0,
        [],
        any.1,
        ends,
        IfErr-residual stopped halt.OutOfMemory (Cites (names_of c.args.options.now c.args.options.now.job any.0) c.add-in-Run.new.self) is tt,
        IfOk-residual stopped _ _ is,
      );
    }

pub returns-in_err-run_emitted-in-Run : goal.returns-in_err-run_emitted-in-Run
returns-in_err-run_emitted-in-Run g c =
    let ran = c.in_err-run_emitted-in-Run.ensures.ends in
    let job = c.args.options.now.job in
    let stopped = c.from_residual-in_err-run_emitted-in-Run.result in
    let is = c.from_residual-in_err-run_emitted-in-Run.ensures.1 in
    let halted = c.in_err-run_emitted-in-Run.field-0.0 in
    let ended = JobEnds-residual true _ _ _ _ _ _ _ stopped halted is ran.2 in
    let ends = JobEnds-asked c.args.options.now job _ _ _ _ _ _ _ ran.0 [] _ _ _ _ stopped c.in-Run.is c.as_str-emitted.ensures c.as_str-input.ensures ended in
    let names = names-two c.args.names.now c.add.new.self c.add-in-Run.new.self _ _ c.in-Run.emitted c.in-Run.input c.requires.names
    c.in_ok-add-in-Run.ensures.added.1 c.in_ok-add-in-Run-2.ensures.added.1 c.as_str.ensures c.as_str-in-Run.ensures in
    let cites = Cites-asked c.args.options.now job _ _ _ _ _ _ _ ran.0 c.add-in-Run.new.self stopped c.in-Run.is c.as_str-emitted.ensures c.as_str-input.ensures names
    (IfErr-residual stopped halted _ is c.in_err-run_emitted-in-Run.ensures.placed) in
    record { ends = (ran.0, [], ran.1, ends, cites, IfOk-residual stopped _ _ is) }

pub returns-in_ok-run_emitted-in-Run : goal.returns-in_ok-run_emitted-in-Run
returns-in_ok-run_emitted-in-Run g c =
    let ran = c.in_ok-run_emitted-in-Run.ensures.ends in
    let job = c.args.options.now.job in
    let none : List PlacedWarning = [] in
    let ends = JobEnds-asked c.args.options.now job _ _ _ _ _ _ _ ran.0 [] _ _ _ _ {T = List PlacedWarning} (Ok none) c.in-Run.is c.as_str-emitted.ensures c.as_str-input.ensures ran.2 in
    record { ends = (ran.0, [], ran.1, ends, tt, rw c.new.ensures (lines-run c.args.options.now job _ _ _ _ _ ran.0 [] c.in-Run.is)) }

pub returns-in_err-run_source-in-Source : goal.returns-in_err-run_source-in-Source
returns-in_err-run_source-in-Source g c =
    let any = sees_any (g.F.Files.held c.args.files.now) in
    let ran = c.in_err-run_source-in-Source.ensures.ends in
    let job = c.args.options.now.job in
    let stopped = c.from_residual-in_err-run_source-in-Source.result in
    let is = c.from_residual-in_err-run_source-in-Source.ensures.1 in
    let ended = JobEnds-residual false _ _ _ _ _ _ _ stopped c.in_err-run_source-in-Source.field-0.0 is ran.1 in
    let ends = JobEnds-generated c.args.options.now job _ _ _ any.0 ran.0 _ _ _ _ stopped c.in-Source.is c.as_str-in-Source.ensures ended in
    record {
      ends = (any.0, ran.0, any.1, ends, Cites-delivered false _ _ _ _ _ _ (names_of c.args.options.now job any.0) _ stopped ended, IfOk-residual stopped _ _ is);
    }

pub returns-in_ok-run_source-in-Source : goal.returns-in_ok-run_source-in-Source
returns-in_ok-run_source-in-Source g c =
    let any = sees_any (g.F.Files.held c.args.files.now) in
    let ran = c.in_ok-run_source-in-Source.ensures.ends in
    let job = c.args.options.now.job in
    let none : List PlacedWarning = [] in
    let ends = JobEnds-generated c.args.options.now job _ _ _ any.0 ran.0 _ _ _ _ {T = List PlacedWarning} (Ok none) c.in-Source.is c.as_str-in-Source.ensures ran.1 in
    record { ends = (any.0, ran.0, any.1, ends, tt, rw c.new-in-Source.ensures (lines-source c.args.options.now job _ _ any.0 ran.0 c.in-Source.is)) }
