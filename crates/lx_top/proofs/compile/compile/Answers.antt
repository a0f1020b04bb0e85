use Rattle.std.proofs.Common.{◌≡◌, ◌∙◌, ℕ, List, None, Ok, ap, false, option_map}
use Rattle.lx_compile.specs.Warnings.{warning_lines}
use Rattle.lx_compile.specs.declared.warned.PlacedWarning.{PlacedWarning}
use Rattle.lx_split.specs.Includes.{expansion}
use Rattle.lx_top.specs.Output.{GoesTo}
use Rattle.lx_top.proofs.CompileLemmas.{Compiles-output, Ends-stopped}
use Rattle.lx_top.proofs.JobLemmas.{Cites-delivered, IfOk-residual, JobEnds-residual}
use Rattle.lx_top.proofs.compile.compile.Goals as goal

pub returns-in_err-compiled : goal.returns-in_err-compiled
returns-in_err-compiled g c =
    let stops = c.in_err-compiled.ensures.compiles in
    let ends = Ends-stopped c.args.options.now stops.0 c.args.name.now _ _ _ _ c.compile.new.names c.in_err-compiled.field-0.0 c.from_residual.result c.from_residual.ensures.1 stops.2
    c.in_err-compiled.ensures.held_stays in
    record { ends = (stops.0, ends.0, stops.1, ends.1, ends.2, IfOk-residual c.from_residual.result _ _ c.from_residual.ensures.1) }

pub returns-in_err-give_output : goal.returns-in_err-give_output
returns-in_err-give_output g c =
    let made = c.in_ok-compiled.ensures.compiles in
    let stopped = c.from_residual-in_err-give_output.result in
    let is = c.from_residual-in_err-give_output.ensures.1 in
    let target = option_map (λ name. name.now) c.args.target in
    let given = JobEnds-residual false (λ fault. fault ≡ None) target (GoesTo target (λ given. given ≡ c.in_ok-compiled.compiled.output.items)) _ _ _ _ stopped c.in_err-give_output.field-0.0 is
    (rw c.deref.ensures.value at c.in_err-give_output.ensures.ends) in
    let ends = Compiles-output c.args.options.now made.0 c.args.name.now made.2.0 made.2.1 _ _ _ c.in_ok-compiled.ensures.held_stays c.in_ok-compiled.ensures.never_falls
    c.in_ok-compiled.ensures.write_faults_stay _ _ target c.in_ok-compiled.compiled.output.items stopped made.2.2 given in
    record { ends = (made.0, made.2.0, made.1, ends, Cites-delivered false _ _ _ _ _ _ _ _ stopped given, IfOk-residual stopped _ _ is) }

pub returns : goal.returns
returns g c =
    let made = c.in_ok-compiled.ensures.compiles in
    let options = c.args.options.now in
    let names : List (List ℕ) = (expansion options made.0 c.args.name.now).met.names in
    let warnings : List PlacedWarning = c.in_ok-compiled.compiled.warnings in
    let target = option_map (λ name. name.now) c.args.target in
    let ends = Compiles-output options made.0 c.args.name.now made.2.0 made.2.1 _ _ _ c.in_ok-compiled.ensures.held_stays c.in_ok-compiled.ensures.never_falls
    c.in_ok-compiled.ensures.write_faults_stay _ _ target c.in_ok-compiled.compiled.output.items {T = List PlacedWarning} (Ok warnings) made.2.2
    (rw c.deref.ensures.value at c.in_ok-give_output.ensures.ends) in
    let lines = ap (λ (met : List (List ℕ)). warning_lines met warnings) made.2.4 ∙ ap (warning_lines names) made.2.3 in
    record { ends = (made.0, made.2.0, made.1, ends, tt, lines) }
