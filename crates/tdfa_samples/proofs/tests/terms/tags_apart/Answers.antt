use Rattle.std.specs.Prelude.{Some}
use Rattle.lx_regex.specs.Expr.{term_of}
use Rattle.lx_regex.specs.Limits.{numbers_from}
use Rattle.tdfa_samples.proofs.tests.MarkLists.{sound_choice_of_marks}
use Rattle.tdfa_samples.proofs.tests.OneRuleLists.{sound_repeat}
use Rattle.tdfa_samples.proofs.tests.terms.tags_apart.Goals as goal

pub one-requires : goal.one-requires
one-requires c =
    λ tags.
    sound_repeat (term_of tags c.in_ok-body.body) (term_of tags c.in_ok-expr.expr) 31 (Some 31) (numbers_from 0 128) (c.in_ok-expr.ensures tags)
    (sound_choice_of_marks 128 (term_of tags c.in_ok-body.body) (c.in_ok-body.ensures tags))
