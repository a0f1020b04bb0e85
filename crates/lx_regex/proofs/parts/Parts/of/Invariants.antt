use Rattle.lx_regex.proofs.PartTables.RuleParts.{RulesLeft}
use Rattle.lx_regex.proofs.parts.Parts.of.Given as goal

abbrev pub invariant-loop-place : goal.invariant-loop-place
invariant-loop-place l = RulesLeft l.rule-items l.parts.items l.place
