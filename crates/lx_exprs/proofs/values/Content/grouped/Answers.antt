use Rattle.lx_exprs.proofs.Contents.ValueContents.{grouped_below, grouped_one}
use Rattle.std.proofs.Common.{◌+◌, ◌∙◌, ap, subst, sym}
use Rattle.lx_regex.specs.Kinds.{HaveKinds, kinds_of}
use Rattle.lx_regex.proofs.Trees.Kinds.{kinds_of-group}
use Rattle.lx_exprs.proofs.values.Content.grouped.Goals as goal

pub returns-clause-stands : goal.returns-clause-stands
returns-clause-stands c built around meaning is off many =
    grouped_one meaning c.in-Some.body c.in_ok-body.body c.args.before c.if-before-ge-TAG_LIMIT.false c.in_ok-body.ensures.ok (c.in-Some.ensures.built built meaning is)

pub returns-clause-tags : goal.returns-clause-tags
returns-clause-tags c bound below few =
    grouped_below bound c.in-Some.body c.in_ok-body.body c.args.before c.in_ok-body.ensures.ok (few c.if-before-ge-TAG_LIMIT.false)
    (c.in-Some.ensures.tags bound below)

pub returns-clause-kinds : goal.returns-clause-kinds
returns-clause-kinds c tags are =
    subst (HaveKinds tags)
    (sym (kinds_of-group (c.args.before + 1) c.in_ok-body.body ∙ ap kinds_of c.in_ok-body.ensures.ok ∙ c.in-Some.ensures.kinds)) are
