use Rattle.std.proofs.Common.{◌≡◌, ℕ, drop}
use Rattle.std.specs.List.{AllByRecursion}
use Rattle.lx_ccode.specs.Validity.{IsLine}
use Rattle.lx_layout.specs.declared.rule_ends.RuleEnd.{RuleEnd}
use Rattle.lx_gen.specs.Generated.{endings_by}
use Rattle.lx_gen.specs.Seen.{seen_marks}
use Rattle.lx_gen.proofs.RuleEndings.{endings_over}
use Rattle.lx_gen.proofs.scanner_ends.rule_ends.Given as goal

abbrev pub invariant-loop-rule : goal.invariant-loop-rule
invariant-loop-rule l = record {
  endings : (number : ℕ) → endings_over l.ends.items (endings_by (seen_marks l.marks) l.acts (drop l.rule-index l.rules)) number
      ≡ endings_by (seen_marks l.marks) l.acts l.rules number;
  lines : AllByRecursion (λ (end : RuleEnd). IsLine end.line) l.ends.items;
}
