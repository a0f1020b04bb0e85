use Rattle.std.proofs.Common.{arith}
use Rattle.std.proofs.lemmas.Result.{err_from_is_err_and}
use Rattle.lx_top.proofs.WarningPuts.{GivesFront-line, HasPut-line, some-lines}
use Rattle.lx_top.proofs.warnings.put_lines.Goals as goal

pub returns-in_err-line-clause-some : goal.returns-in_err-line-clause-some
returns-in_err-line-clause-some g c =
    let p = err_from_is_err_and c.from_residual.result c.from_residual.ensures.1 in
    rw p.1 (some-lines c.args.names.now c.args.warnings.now c.loop-warning.warning-index c.warning-item.result c.loop-warning-test.true c.warning-item.is
    _ _ _ _ c.loop-warning.invariant.0)

pub returns-in_err-put_all-clause-front : goal.returns-in_err-put_all-clause-front
returns-in_err-put_all-clause-front g c =
    let p = err_from_is_err_and c.from_residual-in_err-put_all.result c.from_residual-in_err-put_all.ensures.1 in
    rw p.1 (GivesFront-line c.args.names.now c.args.warnings.now c.loop-warning.warning-index c.warning-item.result c.loop-warning-test.true c.warning-item.is
    _ _ _ _ c.loop-warning.invariant.0 _ (rw (c.as_slice.ensures, c.in_ok-line.ensures) at c.in_err-put_all.ensures.front))

pub returns-in_err-put_all-clause-some : goal.returns-in_err-put_all-clause-some
returns-in_err-put_all-clause-some g c =
    let p = err_from_is_err_and c.from_residual-in_err-put_all.result c.from_residual-in_err-put_all.ensures.1 in
    rw p.1 (some-lines c.args.names.now c.args.warnings.now c.loop-warning.warning-index c.warning-item.result c.loop-warning-test.true c.warning-item.is
    _ _ _ _ c.loop-warning.invariant.0)

pub loop-warning-preserved : goal.loop-warning-preserved
loop-warning-preserved g c =
    let more = c.loop-warning.invariant.1 in (
      HasPut-line c.args.names.now c.args.warnings.now c.loop-warning.warning-index c.warning-item.result c.loop-warning-test.true c.warning-item.is
          _ _ _ _ c.loop-warning.invariant.0 _ _ (rw (c.as_slice.ensures, c.in_ok-line.ensures) at c.in_ok-put_all.ensures.given) c.in_ok-put_all.ensures.calm,
      omega (arith, more),
    )
