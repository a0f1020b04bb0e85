use Rattle.std.proofs.Common.{◌≡◌, ℕ, map}
use Rattle.lx_regex.specs.Expr.{term_of}
use Rattle.lx_regex.specs.Limits.{numbers_from}
use Rattle.lx_regex.specs.Term.{tag}
use Rattle.tdfa_samples.proofs.tests.terms.marks.Given as goal

abbrev pub invariant-loop-number : goal.invariant-loop-number
invariant-loop-number l = (tags : ℕ) → map (term_of tags) l.list.items ≡ map tag (numbers_from 0 l.number)
