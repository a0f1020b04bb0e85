use Rattle.std.proofs.Common.{false, replicate}
use Rattle.lx_dispatch.specs.UnitSwitches.{units_in}
use Rattle.lx_dispatch.proofs.UnitMarks.{AreNew-none, unseen-start}
use Rattle.lx_dispatch.proofs.case_checks.are_units_once.Goals as goal

pub returns : goal.returns
returns c =
    let none = AreNew-none (replicate 256 false) (units_in c.args.cases.now) unseen-start in
    (λ yes. none.0 (c.add_cases.ensures.0 yes), λ once. c.add_cases.ensures.1 (none.1 once))
