use Rattle.std.proofs.Common.{ℕ, [], ◌∷◌}
use Rattle.lx_regex.specs.Expr.{term_of}
use Rattle.tdfa_samples.proofs.tests.OneRuleLists.{HasTags}
use Rattle.tdfa_samples.proofs.tests.terms.nested_choice.Given as goal

abbrev pub invariant-loop : goal.invariant-loop
invariant-loop l = (tags : ℕ) → HasTags (term_of tags l.expr) (0 ∷ [])
