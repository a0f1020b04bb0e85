use Rattle.std.proofs.Common.{◌∙◌, IfOk, None, ap, map, subst, sym}
use Rattle.lx_exprs.specs.Defined.{classes_in}
use Rattle.lx_exprs.specs.Values.{HasPoints}
use Rattle.lx_regex.specs.Expr.{members_of, term_of}
use Rattle.lx_exprs.proofs.Contents.ValueContents.{one_class, row_class, choice_class}
use Rattle.lx_exprs.proofs.values.Content.into_class.Goals as goal

pub returns-in-One : goal.returns-in-One
returns-in-One c built meaning is =
    subst (λ ranges. IfOk c.class_of.result (λ class. HasPoints class ranges)) (one_class built meaning c.args.self c.in-One.expr c.in-One.is is) c.class_of.ensures

pub returns-in-Row : goal.returns-in-Row
returns-in-Row c built meaning is =
    subst (HasPoints None) (sym (row_class built meaning c.args.self c.in-Row._members c.in-Row.is is)) tt

pub returns-in-Choice : goal.returns-in-Choice
returns-in-Choice c built meaning is =
    subst (λ ranges. IfOk c.class_of_all.result (λ class. HasPoints class ranges))
    (ap (λ l. classes_in (members_of (map (term_of 0) l))) c.deref.ensures.value
    ∙ sym (choice_class built meaning c.args.self c.in-Choice.members c.in-Choice.is is)) c.class_of_all.ensures
