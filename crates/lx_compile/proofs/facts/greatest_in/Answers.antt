use Rattle.std.proofs.Common.{◌<◌, ◌∙◌, ap, sym, drop, length, ◌+◌, arith}
use Rattle.lx_compile.specs.Facts.{greatest_in}
use Rattle.lx_compile.proofs.GreatestNumbers.{greatest-max, greatest-reached, greatest_in-more}
use Rattle.lx_compile.proofs.ItemRuns.{drop-item, item-at}
use Rattle.lx_compile.proofs.facts.greatest_in.Goals as goal

pub loop-place-preserved : goal.loop-place-preserved
loop-place-preserved c =
    let lists = c.args.lists.now in
    let place = c.loop-place.place in
    let list = c.get.result.now in
    let most = c.loop-place.most in
    let within : place < length lists = omega (arith, c.loop-place-test.true, c.len-place-end.ensures) in
    let own = greatest-reached c.max_fill.result list c.max_fill.ensures.bound c.max_fill.ensures.reached in
    let more = greatest-max most list in
    sym (greatest_in-more most c.max-most.result list (drop (place + 1) lists) (omega (arith, own, more, c.max-most.ensures)))
    ∙ ap (greatest_in most) (sym (drop-item lists place list within (item-at lists place list c.get.ensures))) ∙ c.loop-place.invariant
