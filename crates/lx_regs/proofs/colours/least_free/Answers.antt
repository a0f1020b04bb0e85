use Rattle.std.proofs.Common.{◌∙◌, ap, arith}
use Rattle.lx_regs.specs.Colours.{mark_each}
use Rattle.lx_regs.proofs.SharedNames.Marks.{least-few, least-unmarked}
use Rattle.lx_regs.proofs.colours.least_free.Goals as goal

pub returns-clause-least : goal.returns-clause-least
returns-clause-least c =
    let colours = c.args.colours.now in
    let neighbours = c.args.neighbours.now in
    least-unmarked colours neighbours c.deref.result.now c.least_unmarked.result
    (c.deref.ensures.value ∙ c.mark_each.ensures ∙ ap (λ l. mark_each colours l neighbours) c.in_ok-marks.ensures)
    c.least_unmarked.ensures.free c.least_unmarked.ensures.least

pub returns-clause-few : goal.returns-clause-few
returns-clause-few c =
    let colours = c.args.colours.now in
    let neighbours = c.args.neighbours.now in
    least-few colours neighbours c.least_unmarked.result
    (least-unmarked colours neighbours c.deref.result.now c.least_unmarked.result
    (c.deref.ensures.value ∙ c.mark_each.ensures ∙ ap (λ l. mark_each colours l neighbours) c.in_ok-marks.ensures)
    c.least_unmarked.ensures.free c.least_unmarked.ensures.least)

pub overflow_cast-result : goal.overflow_cast-result
overflow_cast-result c =
    let colours = c.args.colours.now in
    let neighbours = c.args.neighbours.now in
    let few =
    least-few colours neighbours c.least_unmarked.result
    (least-unmarked colours neighbours c.deref.result.now c.least_unmarked.result
    (c.deref.ensures.value ∙ c.mark_each.ensures ∙ ap (λ l. mark_each colours l neighbours) c.in_ok-marks.ensures)
    c.least_unmarked.ensures.free c.least_unmarked.ensures.least) in
    omega (arith, few)
