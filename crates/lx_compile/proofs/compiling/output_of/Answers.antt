use Rattle.std.proofs.lemmas.Result.{err_from_is_err_and}
use Rattle.lx_compile.specs.FirstFault.{setting_of}
use Rattle.lx_compile.proofs.Compilations.{IsGivenOf-parts, StopsBehind-blocks, StopsBehind-directives, StopsBehind-scanners}
use Rattle.lx_compile.proofs.MadeRuns.{IsPrintable-made}
use Rattle.lx_compile.proofs.compiling.output_of.Goals as goal

pub returns-in_err-resolution : goal.returns-in_err-resolution
returns-in_err-resolution c =
    let p = err_from_is_err_and c.from_residual.result c.from_residual.ensures.1 in
    rw (p.1, p.2) (StopsBehind-blocks c.args.options.now c.args.names.now c.args.pieces c.in_err-resolution.field-0.0 c.in_err-resolution.ensures.parts)

pub returns-in_err-made : goal.returns-in_err-made
returns-in_err-made c =
    let parts = c.in_ok-resolution.ensures.parts in
    let p = err_from_is_err_and c.from_residual-in_err-made.result c.from_residual-in_err-made.ensures.1 in
    rw (p.1, p.2)
    (StopsBehind-scanners c.args.options.now c.args.names.now c.args.pieces c.in_ok-resolution.resolution.parts parts.0 parts.1
    c.in_err-made.field-0.0 c.in_err-made.ensures)

pub write-requires-clause-valid : goal.write-requires-clause-valid
write-requires-clause-valid c =
    let parts = c.in_ok-resolution.resolution.parts in
    let is = rw (c.switch_themselves-own_switch.ensures, c.as_slice.ensures, c.as_slice-2.ensures.value, c.in_ok-names.ensures) at c.in_ok-made.ensures in
    rw c.as_slice-3.ensures (IsPrintable-made (setting_of c.args.options.now c.args.names.now parts) 1 0 parts c.in_ok-made.made is.0)

pub returns-in_err-whole : goal.returns-in_err-whole
returns-in_err-whole c =
    let names = c.args.names.now in
    let parts = c.in_ok-resolution.resolution.parts in
    let are = c.in_ok-resolution.ensures.parts in
    let is = rw (c.switch_themselves-own_switch.ensures, c.as_slice.ensures, c.as_slice-2.ensures.value, c.in_ok-names.ensures) at c.in_ok-made.ensures in
    let stops = rw (c.as_slice-3.ensures, are.2) at c.in_err-whole.ensures in
    let p = err_from_is_err_and c.from_residual-in_err-whole.result c.from_residual-in_err-whole.ensures.1 in
    rw (p.1, p.2)
    (StopsBehind-directives c.args.options.now names c.args.pieces parts are.0 are.1 is.1 c.in_ok-made.made is.0 c.in_err-whole.field-0.0 stops)

pub returns : goal.returns
returns c =
    let options = c.args.options.now in
    let names = c.args.names.now in
    let parts = c.in_ok-resolution.resolution.parts in
    let made = c.in_ok-made.made in
    let are = c.in_ok-resolution.ensures.parts in
    let is = rw (c.switch_themselves-own_switch.ensures, c.as_slice.ensures, c.as_slice-2.ensures.value, c.in_ok-names.ensures) at c.in_ok-made.ensures in
    let wrote = rw (c.as_slice-3.ensures, are.2, c.in_ok-out.ensures) at c.in_ok-whole.ensures in
    let given = rw c.as_slice-4.ensures at c.in_ok-output.ensures in
    let given_of =
    IsGivenOf-parts options names c.args.pieces parts are.0 are.1 is.1 made is.0 c.in_ok-whole.whole.items c.in_ok-output.output.items wrote.0 wrote.1 given in
    (made, given_of.0, given_of.1, c.in_ok-warnings.ensures)
