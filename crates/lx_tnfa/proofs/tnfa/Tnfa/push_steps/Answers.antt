use Rattle.lx_tnfa.proofs.Leaves.FormedLeaves.{steps_lead_of}
use Rattle.lx_tnfa.proofs.tnfa.Tnfa.push_steps.Goals as goal

pub returns-then-branch-eq0-clause-targets : goal.returns-then-branch-eq0-clause-targets
returns-then-branch-eq0-clause-targets c = steps_lead_of c.args.self.now _ c.self.view_is c.self.invariant.2 c.args.branch.state

pub returns-in-Some-Moves-clause-targets : goal.returns-in-Some-Moves-clause-targets
returns-in-Some-Moves-clause-targets c = steps_lead_of c.args.self.now _ c.self.view_is c.self.invariant.2 c.args.branch.state

pub returns-in-Some-clause-targets : goal.returns-in-Some-clause-targets
returns-in-Some-clause-targets c = steps_lead_of c.args.self.now _ c.self.view_is c.self.invariant.2 c.args.branch.state

pub returns-in-Some-AnyUnit-clause-targets : goal.returns-in-Some-AnyUnit-clause-targets
returns-in-Some-AnyUnit-clause-targets c = steps_lead_of c.args.self.now _ c.self.view_is c.self.invariant.2 c.args.branch.state
