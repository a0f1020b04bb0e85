use Rattle.std.proofs.Common.{◌≡◌, ◌+◌, ◌≤◌, map, sum, IfSome, refl, subst, arith}
use Rattle.lx_regex.specs.Expr.{members_of, size_of, term_of}
use Rattle.lx_exprs.specs.Defined.{meant_class}
use Rattle.lx_exprs.specs.Meanings.{in_choice}
use Rattle.lx_exprs.specs.Values.{HaveTagsBelow, content_kinds, content_size, is_past}
use Rattle.lx_exprs.proofs.Contents.ValueContents.{below-more, choice_more, has_choice, past_of, past_unbuilt, sizes-more}
use Rattle.lx_regex.specs.Kinds.{joined, kinds_of}
use Rattle.lx_exprs.proofs.Contents.KindContents.{kinds-more}
use Rattle.lx_exprs.proofs.values.Content.beside.Goals as goal
use Rattle.lx_exprs.proofs.values.Content.beside.Goals.{then-not-is_built-via-then-not-is_built, then-not-is_built-via-else-not-is_built+then-not-is_built-2}

pub returns-then-not-is_built-clause-stands : goal.returns-then-not-is_built-clause-stands
returns-then-not-is_built-clause-stands c left right around first second is is' off off' = (
  elim c.then-not-is_built.branch [
    | then-not-is_built-via-then-not-is_built w ↦ off (past_unbuilt left first c.args.self is (past_of (is_past c.args.self) w.if-not-is_built.ensures))
    | then-not-is_built-via-else-not-is_built+then-not-is_built-2 w ↦ off' (past_unbuilt right second c.args.right is' (past_of (is_past c.args.right) w.if-not-is_built-2.ensures))
  ],
  has_choice c.in_ok-both.both first second
      (c.in_ok-both.ensures (meant_class first) (meant_class second) (c.in_ok-class.ensures left first is) (c.in_ok-other.ensures right second is')),
  refl,
)

pub returns-clause-stands : goal.returns-clause-stands
returns-clause-stands c left right around first second is is' off off' =
    choice_more first second c.in-Some.members.items c.push.new.self.items c.in-Some-into_expr.expr c.in_ok-push.ensures.items
    (subst (λ o. IfSome o (λ members. map (term_of 0) members.items ≡ in_choice first.shape)) c.in-Some.is (c.in_ok-members.ensures.built left first is)) (c.in-Some-into_expr.ensures.built right second is')

pub returns-clause-choice : goal.returns-clause-choice
returns-clause-choice c choice =
    let all = sizes-more c.in-Some.members.items c.push.new.self.items c.in-Some-into_expr.expr c.in_ok-push.ensures.items in
    let some = subst (λ o. IfSome o (λ members. sum (map size_of members.items) + 1 ≤ content_size c.args.self)) c.in-Some.is (c.in_ok-members.ensures.choice choice) in
    let one = c.in-Some-into_expr.ensures.size in
    omega (arith, all, some, one)

pub returns-clause-tags : goal.returns-clause-tags
returns-clause-tags c bound left right =
    below-more bound c.in-Some.members.items c.push.new.self.items c.in-Some-into_expr.expr c.in_ok-push.ensures.items
    (subst (λ o. IfSome o (λ members. HaveTagsBelow 1 bound (members_of (map (term_of 0) members.items)))) c.in-Some.is (c.in_ok-members.ensures.tags bound left))
    (c.in-Some-into_expr.ensures.tags bound right)

pub returns-clause-kinds : goal.returns-clause-kinds
returns-clause-kinds c tags left right =
    kinds-more tags c.in-Some.members.items c.push.new.self.items c.in-Some-into_expr.expr (content_kinds c.args.self) (content_kinds c.args.right) c.in_ok-push.ensures.items
    (subst (λ o. IfSome o (λ members. joined (map kinds_of members.items) ≡ content_kinds c.args.self)) c.in-Some.is c.in_ok-members.ensures.kinds)
    c.in-Some-into_expr.ensures.kinds left right
