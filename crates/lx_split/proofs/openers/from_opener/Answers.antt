use Rattle.std.proofs.Common.{arith, codes, sym}
use Rattle.lx_split.specs.Openers.{is_present, opener_at}
use Rattle.lx_split.proofs.Needles.{among-next, from_first-among, no_opener}
use Rattle.lx_split.proofs.openers.from_opener.Goals as goal

pub loop-tail-init : goal.loop-tail-init
loop-tail-init c = (
  rw c.from_opening-rest.ensures.rest (from_first-among (codes "/*!") (λ rest. is_present (opener_at c.args.opts.now rest)) (no_opener c.args.opts.now) c.args.text.now),
  c.from_opening-rest.ensures.shorter,
)

pub loop-tail-preserved : goal.loop-tail-preserved
loop-tail-preserved c =
    let shorter = c.from_opening-rest-in-Some.ensures.shorter in
    let less = c.in-Some.ensures.cases.1 in (
      rw c.from_opening-rest-in-Some.ensures.rest
          (among-next (codes "/*!") (λ rest. is_present (opener_at c.args.opts.now rest)) (no_opener c.args.opts.now) c.loop-tail.rest.now c.args.text.now c.loop-tail.invariant.0
          c.in-Some.field-0-0.now c.in-Some.tail.now c.in-Some.ensures.cases.0 (sym c.if-begins_opener.ensures)),
      omega arith,
    )
