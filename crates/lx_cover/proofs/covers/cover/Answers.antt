use Rattle.std.proofs.Common.{◌≡◌, ◌<◌, ◌≤◌, length, arith, subst}
use Rattle.std.proofs.lemmas.Result.{err_from_is_err_and}
use Rattle.std.specs.Prelude.{sum_by}
use Rattle.lx_cover.proofs.CoverPasses.{begin-next, covered-all, covered-next, covered-start}
use Rattle.lx_cover.proofs.covers.cover.Goals as goal

pub loop-number-init : goal.loop-number-init
loop-number-init c =
    let told = c.in_ok-covering.ensures in
    covered-start c.args.t.now c.in_ok-covering.covering told.counted told.words told.kernels told.firsts

pub pass-requires-clause-within : goal.pass-requires-clause-within
pass-requires-clause-within c =
    let within : c.loop-number.number < length c.loop-number.covering.kernels = omega (arith, c.loop-number-test.true, c.len.ensures) in within

pub pass-requires-clause-come : goal.pass-requires-clause-come
pass-requires-clause-come c =
    let within : c.loop-number.number < length c.loop-number.covering.kernels = omega (arith, c.loop-number-test.true, c.len.ensures) in
    begin-next c.args.t.now c.loop-number.covering c.loop-number.number c.loop-number.invariant within

pub loop-number-preserved : goal.loop-number-preserved
loop-number-preserved c =
    let within : c.loop-number.number < length c.loop-number.covering.kernels = omega (arith, c.loop-number-test.true, c.len.ensures) in
    let passed = c.in_ok-pass.ensures in
    covered-next c.args.t.now c.loop-number.covering c.pass.new.self c.loop-number.number c.loop-number.invariant within passed.0 passed.1 passed.2
    passed.3

pub returns-in_err-pass : goal.returns-in_err-pass
returns-in_err-pass c enc patterns of fits =
    let p = err_from_is_err_and c.from_residual-in_err-pass.result c.from_residual-in_err-pass.ensures.1 in
    rw (p.1, p.2) (c.in_err-pass.ensures enc patterns of fits)

pub returns : goal.returns
returns c enc patterns of fits =
    let covering = c.loop-number.covering in
    let all : length covering.kernels ≤ c.loop-number.number = omega (arith, c.loop-number-test.false, c.len.ensures) in
    let counted = c.loop-number.invariant.counted in
    let sum : covering.sum ≡ sum_by length covering.words = counted.sum in (
      covered-all c.args.t.now covering c.loop-number.number c.loop-number.invariant all enc patterns of fits,
      subst (λ n. n ≤ 1048576) sum counted.within,
    )
