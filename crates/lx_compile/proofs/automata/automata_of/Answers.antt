use Rattle.std.proofs.Common.{◌+◌, ◌≤◌, length, arith, drop}
use Rattle.std.proofs.Math.ListN.{drop_of_length-le}
use Rattle.std.proofs.lemmas.Result.{err_from_is_err_and}
use Rattle.lx_compile.proofs.ScannerRuns.{HaveAutos-end, HaveAutos-next, StopsWithFault-scanner, elements_from}
use Rattle.lx_compile.proofs.automata.automata_of.Goals as goal

pub scanner_auto-requires-clause-first : goal.scanner_auto-requires-clause-first
scanner_auto-requires-clause-first c =
    c.block_model-first.ensures.model c.args.frame.now.options.now (rw c.as_slice.ensures c.loop-scanner.invariant.first)

pub loop-scanner-preserved : goal.loop-scanner-preserved
loop-scanner-preserved c =
    let frame = c.args.frame.now in
    let scanners = c.args.scanners.now in
    let i = c.loop-scanner.scanner-index in
    let scanner = c.scanner-item.result in
    let have = rw (elements_from scanners i scanner (omega arith) c.scanner-item.is) at c.loop-scanner.invariant in
    let first = rw c.as_slice.ensures at c.block_model-first.ensures.first in
    let answer = c.in_ok-auto.ensures in
    rw c.in_ok-push.ensures.pushed
    (HaveAutos-next frame.options.now frame.number frame.at frame.acts.now scanners scanner (drop (i + 1) scanners) c.loop-scanner.autos
    c.loop-scanner.cover.items c.scanner_auto.new.cover.items answer.2.0 have answer.1 answer.2.1 answer.2.2 c.block_model-first.result
    c.in_ok-auto.auto first answer.0)

pub returns : goal.returns
returns c =
    let frame = c.args.frame.now in
    let scanners = c.args.scanners.now in
    let ended : length scanners ≤ c.loop-scanner.scanner-index = omega arith in
    HaveAutos-end frame.options.now frame.number frame.at frame.acts.now scanners c.loop-scanner.autos c.loop-scanner.cover.items
    (rw (drop_of_length-le scanners ended) at c.loop-scanner.invariant)

pub returns-in_err-auto : goal.returns-in_err-auto
returns-in_err-auto c =
    let frame = c.args.frame.now in
    let scanners = c.args.scanners.now in
    let i = c.loop-scanner.scanner-index in
    let scanner = c.scanner-item.result in
    let p = err_from_is_err_and c.from_residual.result c.from_residual.ensures.1 in
    let have = rw (elements_from scanners i scanner (omega arith) c.scanner-item.is) at c.loop-scanner.invariant in
    rw (p.1, p.2)
    (StopsWithFault-scanner frame.options.now frame.number frame.at frame.acts.now scanners scanner (drop (i + 1) scanners) c.loop-scanner.autos
    c.loop-scanner.cover.items c.in_err-auto.field-0.0 have c.in_err-auto.ensures)
