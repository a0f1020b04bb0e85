use Rattle.std.proofs.Common.{subst, ◌+◌, ◌-◌, ◌≤◌}
use Rattle.lx_step.specs.Feeds.{feed_of}
use Rattle.lx_step.proofs.AskedSteps.{Goes-try-block, Goes-try-end}
use Rattle.lx_step.proofs.advances.try_refill.Goals as goal

pub returns-in-NoMore-clause-made : goal.returns-in-NoMore-clause-made
returns-in-NoMore-clause-made g c =
    Goes-try-end c.args.piece.now c.args.block c.args.scanner.now (feed_of (g.S.Refill.ahead c.args.src.now) c.args.w.now) (feed_of (g.S.Refill.ahead c.ask.new.src) c.ask.new.w)
    c.requires.formed c.requires.limit
    (subst (λ start. (c.args.scanner.now.limit - start) + 1 ≤ c.args.w.now.size) c.start.ensures.start c.in-NoMore.ensures.asked.0) c.in-NoMore.ensures.asked.1

pub returns-in-More-clause-made : goal.returns-in-More-clause-made
returns-in-More-clause-made g c =
    Goes-try-block c.args.piece.now c.args.block c.args.scanner.now (feed_of (g.S.Refill.ahead c.args.src.now) c.args.w.now) (feed_of (g.S.Refill.ahead c.ask.new.src) c.ask.new.w)
    c.in-More.ensures.asked.1.0 c.limit-scanner.result c.requires.formed c.requires.limit c.limit-scanner.ensures.limit
    (subst (λ start. (c.args.scanner.now.limit - start) + 1 ≤ c.args.w.now.size) c.start.ensures.start c.in-More.ensures.asked.0) c.in-More.ensures.asked.1.1
