use Rattle.std.proofs.Common.{◌+◌, drop}
use Rattle.std.proofs.Math.ListN.{drop_of_length-le}
use Rattle.lx_compile.proofs.ItemRuns.{drop-item}
use Rattle.lx_compile.proofs.LineRuns.{HaveLines-end, HaveLines-next}
use Rattle.lx_compile.proofs.covered.append_lines.Goals as goal

pub loop-word-preserved : goal.loop-word-preserved
loop-word-preserved c =
    let matching = c.args.matching.now in
    let words = c.args.words.now in
    let place = c.loop-word.word-index in
    let have = rw (drop-item words place c.word-item.result c.loop-word-test.true c.word-item.is) at c.loop-word.invariant in
    let line = c.in_ok-append_line.ensures in
    HaveLines-next matching.options.now matching.acts.now matching.scanner.now words c.word-item.result (drop (place + 1) words) c.args.text.now.items
    c.loop-word.text.items c.append_line.new.text.items line.0 have line.1 line.2

pub returns : goal.returns
returns c =
    let matching = c.args.matching.now in
    let words = c.args.words.now in
    HaveLines-end matching.options.now matching.acts.now matching.scanner.now words c.args.text.now.items c.loop-word.text.items
    (rw (drop_of_length-le words c.loop-word-test.false) at c.loop-word.invariant)
