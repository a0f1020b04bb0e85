use Rattle.lx_exprs.proofs.TagLists.TermTags.{HasTagsBelow-whole}
use Rattle.lx_regex.specs.Expr.{term_of}
use Rattle.lx_rules.proofs.Rules.ContextExprs.{around-kinds, around-tags}
use Rattle.std.proofs.Common.{◌∙◌, ◌++◌, ◌∷◌, ap, false}
use Rattle.lx_regex.specs.Kinds.{kinds_of}
use Rattle.lx_rules.proofs.rule_exprs.around_slash.Goals as goal

pub returns-clause-tags : goal.returns-clause-tags
returns-clause-tags c bound here there less =
    around-tags c.in_ok-members.members c.in_ok-front.front c.args.back c.args.number c.in_ok-members.ensures.items bound
    (c.in_ok-front.ensures.tags bound here) (HasTagsBelow-whole bound (term_of 0 c.args.back) there) less

pub returns-clause-kinds : goal.returns-clause-kinds
returns-clause-kinds c =
    around-kinds c.in_ok-members.members c.in_ok-front.front c.args.back c.args.number c.in_ok-members.ensures.items
    ∙ ap (λ kinds. kinds ++ (c.args.number, false) ∷ kinds_of c.args.back) c.in_ok-front.ensures.kinds
