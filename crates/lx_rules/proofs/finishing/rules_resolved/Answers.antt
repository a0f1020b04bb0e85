use Rattle.std.proofs.Common.{arith}
use Rattle.lx_rules.proofs.Blocks.FinishingSteps.{rules_finished}
use Rattle.lx_rules.proofs.finishing.rules_resolved.Goals as goal

pub returns : goal.returns
returns c = λ state holds.
    rules_finished c.args.known.now state holds c.args.at _ (λ none. absurd (c.if-len-eq0.false (omega (arith, c.len.ensures, none)))) c.new.ensures c.new-2.ensures c.in_ok-config.ensures
