use Rattle.std.proofs.Common.{None, Some, map}
use Rattle.lx_rules.proofs.Rules.HeadSteps.{end_first}
use Rattle.lx_rules.proofs.items.Known.first_end.Goals as goal

pub returns-in-Some : goal.returns-in-Some
returns-in-Some c = λ state holds. end_first c.args.self.now state holds (map (λ cond. cond.now) c.args.conds.now) (Some c.in-Some.rule) c.in-Some.ensures

pub returns-in-None : goal.returns-in-None
returns-in-None c = λ state holds. end_first c.args.self.now state holds (map (λ cond. cond.now) c.args.conds.now) None c.in-None.ensures
