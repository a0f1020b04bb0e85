use Rattle.lx_tnfa.proofs.Construction.WholeTable.{RulesMade}
use Rattle.lx_tnfa.proofs.tnfa.Tnfa.of.Given as goal

abbrev pub invariant-loop-rule : goal.invariant-loop-rule
invariant-loop-rule l = RulesMade l.rule-items l.initial.making l.making l.rule-index
