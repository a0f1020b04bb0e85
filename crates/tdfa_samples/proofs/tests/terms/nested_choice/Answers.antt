use Rattle.std.proofs.Common.{refl}
use Rattle.lx_regex.specs.Expr.{term_of}
use Rattle.tdfa_samples.proofs.tests.OneRuleLists.{sound_or_nothing}
use Rattle.tdfa_samples.proofs.tests.terms.nested_choice.Goals as goal

pub loop-init : goal.loop-init
loop-init c = λ tags. rw (c.s_tag-expr.ensures tags) (tt, refl, tt)

pub loop-preserved : goal.loop-preserved
loop-preserved c =
    λ tags. sound_or_nothing (term_of tags c.loop.expr) (term_of tags c.in_ok-expr.expr) (c.in_ok-expr.ensures tags) (c.loop.invariant tags)
