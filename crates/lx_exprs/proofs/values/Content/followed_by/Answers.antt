use Rattle.std.proofs.Common.{◌≡◌, IfSome, map, subst}
use Rattle.lx_regex.specs.Expr.{members_of, term_of}
use Rattle.lx_exprs.specs.Meanings.{in_row}
use Rattle.lx_exprs.specs.Values.{HaveTagsBelow, content_kinds}
use Rattle.lx_exprs.proofs.Contents.ValueContents.{below-both, row_more}
use Rattle.lx_regex.specs.Kinds.{joined, kinds_of}
use Rattle.lx_exprs.proofs.Contents.KindContents.{kinds-both}
use Rattle.lx_exprs.proofs.values.Content.followed_by.Goals as goal

pub returns-clause-stands : goal.returns-clause-stands
returns-clause-stands c front back around first second is is' off off' =
    row_more first second c.in-Some.front.items c.in-Some-back.back.items c.in_ok-joined.field-0.items c.in_ok-joined.ensures
    (subst (λ o. IfSome o (λ members. map (term_of 0) members.items ≡ in_row first.shape)) c.in-Some.is (c.in_ok-front.ensures.built front first is))
    (subst (λ o. IfSome o (λ members. map (term_of 0) members.items ≡ in_row second.shape)) c.in-Some-back.is (c.in_ok-back.ensures.built back second is'))

pub returns-clause-tags : goal.returns-clause-tags
returns-clause-tags c bound left right =
    below-both bound c.in-Some.front.items c.in-Some-back.back.items c.in_ok-joined.field-0.items c.in_ok-joined.ensures
    (subst (λ o. IfSome o (λ members. HaveTagsBelow 1 bound (members_of (map (term_of 0) members.items)))) c.in-Some.is (c.in_ok-front.ensures.tags bound left))
    (subst (λ o. IfSome o (λ members. HaveTagsBelow 1 bound (members_of (map (term_of 0) members.items)))) c.in-Some-back.is (c.in_ok-back.ensures.tags bound right))

pub returns-clause-kinds : goal.returns-clause-kinds
returns-clause-kinds c tags left right =
    kinds-both tags c.in-Some.front.items c.in-Some-back.back.items c.in_ok-joined.field-0.items (content_kinds c.args.self) (content_kinds c.args.back) c.in_ok-joined.ensures
    (subst (λ o. IfSome o (λ members. joined (map kinds_of members.items) ≡ content_kinds c.args.self)) c.in-Some.is c.in_ok-front.ensures.kinds)
    (subst (λ o. IfSome o (λ members. joined (map kinds_of members.items) ≡ content_kinds c.args.back)) c.in-Some-back.is c.in_ok-back.ensures.kinds) left right
