use Rattle.std.proofs.Common.{[], map, refl, string_bytes, subst, sym}
use Rattle.lx_base.specs.declared.settings.Options.{Options}
use Rattle.lx_compile.specs.Warnings.{warning_lines}
use Rattle.lx_top.proofs.CompileLemmas.{sees_any}
use Rattle.lx_top.specs.Jobs.{IsWithinLimits, is_run, job_of}
use Rattle.lx_top.proofs.JobLemmas.{Cites-job, Cites-words, IfOk-residual, IsWithinLimits-words, JobEnds-reason, JobEnds-words, Reason-words, lines_for-job}
use Rattle.lx_top.proofs.jobs.perform.Goals as goal

pub returns-in_err-options : goal.returns-in_err-options
returns-in_err-options g c =
    let words = map string_bytes c.args.words.now in
    let any = sees_any (g.F.Files.held c.args.files.now) in
    let ends = JobEnds-reason (is_run (job_of words)) _ _ _ _ _ _ _ c.from_residual.result _ c.from_residual.ensures.1 (Reason-words (is_run (job_of words)) words any.0 [] _ _ c.in_err-options.ensures) (refl, refl) in
    record { ends = (any.0, [], any.1, ends, Cites-words words c.args.names.now any.0 c.from_residual.result _ c.from_residual.ensures.1 c.in_err-options.ensures c.requires, IfOk-residual c.from_residual.result _ _ c.from_residual.ensures.1) }

pub perform_job-requires-clause-limits : goal.perform_job-requires-clause-limits
perform_job-requires-clause-limits g c =
    let words = map string_bytes c.args.words.now in
    subst (λ (options : Options). IsWithinLimits options.job) (sym c.in_ok-options.ensures.1) (IsWithinLimits-words words)

pub returns : goal.returns
returns g c =
    let words = map string_bytes c.args.words.now in
    let ended = c.perform_job.ensures.ends in
    let none = c.in_ok-options.ensures.0 in
    let same = c.in_ok-options.ensures.1 in
    let ends = JobEnds-words words ended.0 ended.1 c.in_ok-options.options _ _ _ _ c.perform_job.result none same ended.3 in
    record {
      ends = (
        ended.0,
        ended.1,
        ended.2,
        ends,
        Cites-job words _ ended.0 c.in_ok-options.options c.perform_job.result none same ended.4,
        lines_for-job words ended.0 ended.1 c.in_ok-options.options (warning_lines c.perform_job.new.names) c.perform_job.result same ended.5,
      );
    }
