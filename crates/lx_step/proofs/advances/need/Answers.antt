use Rattle.std.proofs.Common.{subst, ◌+◌, ◌-◌, ◌≤◌, arith, le-leb}
use Rattle.std.proofs.lemmas.Bool.{lt-leb}
use Rattle.lx_step.specs.Feeds.{feed_of}
use Rattle.lx_step.proofs.AskedSteps.{Goes-enough, Goes-need-end}
use Rattle.lx_step.proofs.advances.need.Goals as goal

pub returns-then-from-saturating_sub-clause-made : goal.returns-then-from-saturating_sub-clause-made
returns-then-from-saturating_sub-clause-made g c =
    Goes-enough c.args.piece.now c.args.units c.args.scanner.now (feed_of (g.S.Refill.ahead c.args.src.now) c.args.w.now)
    (le-leb c.args.units (c.args.scanner.now.limit - c.args.scanner.now.cursor) (omega (arith, c.from.ensures, c.saturating_sub.ensures, c.if-from-saturating_sub.true)))
    c.requires.limit

pub returns-in-NoMore-clause-made : goal.returns-in-NoMore-clause-made
returns-in-NoMore-clause-made g c =
    Goes-need-end c.args.piece.now c.args.units c.args.scanner.now (feed_of (g.S.Refill.ahead c.args.src.now) c.args.w.now) (feed_of (g.S.Refill.ahead c.ask.new.src) c.ask.new.w)
    c.requires.formed (lt-leb c.args.units (c.args.scanner.now.limit - c.args.scanner.now.cursor) (omega (arith, c.from.ensures, c.saturating_sub.ensures, c.if-from-saturating_sub.false)))
    c.requires.limit
    (subst (λ units. (c.args.scanner.now.cursor - c.args.w.now.start) + units ≤ c.args.w.now.size) c.from-2.ensures
    (subst (λ start. (c.args.scanner.now.cursor - start) + c.from-2.result ≤ c.args.w.now.size) c.start.ensures.start c.in-NoMore.ensures.asked.0))
    c.in-NoMore.ensures.asked.1
