use Rattle.std.proofs.Common.{◌≡◌, ◌∙◌, ◌+◌, suc, ap, subst, sym, arith, map, take, Some}
use Rattle.std.proofs.lemmas.List.{take_all}
use Rattle.lx_regex.specs.Expr.{members_of, term_of}
use Rattle.lx_regex.proofs.Trees.Folds.{term_of-class}
use Rattle.lx_exprs.specs.Defined.{class_in, classes_in}
use Rattle.lx_exprs.specs.Values.{HasPoints}
use Rattle.lx_exprs.proofs.Contents.ValueContents.{has_set, has_none, classes-next}
use Rattle.lx_exprs.proofs.values.+class_of.Goals as goal

pub class_of-returns-in_ok-of_set-in-Class : goal.class_of-returns-in_ok-of_set-in-Class
class_of-returns-in_ok-of_set-in-Class t c =
    subst (λ e. HasPoints (Some c.in_ok-of_set-in-Class.field-0) (class_in e))
    (sym (ap (term_of 0) c.in-Class.is ∙ term_of-class 0 c.in-Class.set))
    (has_set c.in-Class.set c.in_ok-of_set-in-Class.field-0 c.in_ok-of_set-in-Class.ensures)

pub class_of_all-loop-member-init : goal.class_of_all-loop-member-init
class_of_all-loop-member-init t c = has_none c.none.result c.none.ensures

pub class_of_all-loop-member-preserved : goal.class_of_all-loop-member-preserved
class_of_all-loop-member-preserved t c =
    let next : c.loop-member.member-index + 1 ≡ suc c.loop-member.member-index = omega arith in
    rw next
    (rw (classes-next c.loop-member.member-index c.args.members.now c.member-item.result c.loop-member-test.true c.member-item.is)
    (c.in_ok-all.ensures (classes_in (members_of (map (term_of 0) (take c.loop-member.member-index c.args.members.now))))
    (class_in (term_of 0 c.member-item.result)) c.loop-member.invariant c.in_ok-class.ensures))

pub class_of_all-returns : goal.class_of_all-returns
class_of_all-returns t c =
    subst (λ l. HasPoints c.loop-member.all (classes_in (members_of (map (term_of 0) l))))
    (take_all c.loop-member.member-index c.args.members.now c.loop-member-test.false) c.loop-member.invariant
