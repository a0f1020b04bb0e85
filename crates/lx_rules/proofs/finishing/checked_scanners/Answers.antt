use Rattle.std.proofs.Common.{subst}
use Rattle.lx_rules.proofs.Blocks.FinishingSteps.{scanners_end, whole_stops}
use Rattle.lx_rules.specs.Finishing.{WholeChecks}
use Rattle.lx_rules.proofs.finishing.checked_scanners.Goals as goal

pub returns-in-Some : goal.returns-in-Some
returns-in-Some c = λ state holds usually.
    let options = c.args.options.now in
    whole_stops options.custom options.format c.args.at state c.in-Some.fault
    (subst (WholeChecks options.custom options.format c.args.at state) c.in-Some.is (c.in_ok-whole.ensures state holds usually))

pub returns : goal.returns
returns c = λ state holds usually.
    let options = c.args.options.now in
    scanners_end options.conds options.custom options.format c.args.at state c.scanners.result
    (subst (WholeChecks options.custom options.format c.args.at state) c.in_default.is (c.in_ok-whole.ensures state holds usually))
    (c.scanners.ensures state holds)
