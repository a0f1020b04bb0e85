use Rattle.std.proofs.Common.{arith}
use Rattle.tdfa_samples.proofs.tests.OneRuleLists.{within_one}
use Rattle.tdfa_samples.proofs.tests.terms.one.Goals as goal

pub returns : goal.returns
returns c =
    rw c.in_ok-push.ensures.pushed (rw c.new-rules.ensures
    (within_one c.args.expr c.in_ok-tags.tags c.args.count c.in_ok-tags.ensures (omega (arith, c.size-size.ensures, c.if-size-gt4096.false))
    (omega (arith, c.if-count-gt128.false)) c.requires))
