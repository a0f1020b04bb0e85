use Rattle.std.proofs.Common.{◌≡◌, ◌∙◌, sym, ap, ◌+◌, ◌-◌, ◌<◌, ◌≤◌, arith}
use Rattle.lx_ccode.specs.Statements.{all_statements}
use Rattle.lx_step.specs.Numbers.{numbers_of}
use Rattle.lx_step.proofs.CountedNumbers.{count_below, count_below-end, count_below-found, count_below-none}
use Rattle.lx_step.proofs.numbers.count_of_blocks.Goals as goal

pub loop-number-init : goal.loop-number-init
loop-number-init c = record { counted = sym (count_below-none (numbers_of c.args.sort c.args.blocks.now)); fits = omega arith; few = omega arith }

pub loop-number-smaller : goal.loop-number-smaller
loop-number-smaller c =
    let found = count_below-found c.args.sort (all_statements c.args.blocks.now) c.loop-number.from c.loop-number.count c.in-Some.number c.loop-number.invariant.counted (sym c.least_of_blocks.ensures ∙ c.in-Some.is) in
    let on : c.loop-number.from ≤ c.in-Some.number = found.0 in
    let next : c.behind-from.result ≡ c.in-Some.number + 1 = c.behind-from.ensures.next in
    let fits : c.behind-from.result ≤ 4294967296 = c.behind-from.ensures.fits in
    let less : 4294967296 - c.behind-from.result < 4294967296 - c.loop-number.from = omega (arith, on, next, fits) in
    less

pub loop-number-preserved : goal.loop-number-preserved
loop-number-preserved c =
    let found = count_below-found c.args.sort (all_statements c.args.blocks.now) c.loop-number.from c.loop-number.count c.in-Some.number c.loop-number.invariant.counted (sym c.least_of_blocks.ensures ∙ c.in-Some.is) in
    let on : c.loop-number.from ≤ c.in-Some.number = found.0 in
    let next : c.behind-from.result ≡ c.in-Some.number + 1 = c.behind-from.ensures.next in
    let few : c.loop-number.count ≤ c.loop-number.from = c.loop-number.invariant.few in
    record {
      counted = found.1 ∙ ap (λ n. count_below n (numbers_of c.args.sort c.args.blocks.now)) (sym next);
      fits = c.behind-from.ensures.fits;
      few = omega (arith, on, next, few);
    }

pub returns : goal.returns
returns c = count_below-end c.args.sort (all_statements c.args.blocks.now) c.loop-number.from c.loop-number.count c.loop-number.invariant.counted (sym c.least_of_blocks.ensures ∙ c.in_default.is)
