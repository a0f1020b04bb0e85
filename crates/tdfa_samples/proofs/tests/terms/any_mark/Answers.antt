use Rattle.std.proofs.Common.{ap, ◌∙◌}
use Rattle.lx_regex.specs.Expr.{members_of, term_of}
use Rattle.lx_regex.specs.Term.{alt}
use Rattle.tdfa_samples.proofs.tests.terms.any_mark.Goals as goal

pub returns : goal.returns
returns c = λ tags. c.choice-expr.ensures tags ∙ ap (λ list. alt (members_of list)) (c.in_ok-members.ensures tags)
