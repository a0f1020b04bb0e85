use Rattle.lx_warn.specs.Entered.{AreEntered, rule_at}
use Rattle.lx_warn.proofs.entered.entered_rules.Given as goal

abbrev pub invariant-loop-state : goal.invariant-loop-state
invariant-loop-state l = AreEntered (rule_at l.auto' l.marks l.start) l.fn.at_end l.state l.numbers.items
