use Rattle.std.proofs.Common.{◌≡◌, ◌+◌, ◌∙◌, suc, ap, sym, arith, rules, subst, take}
use Rattle.std.proofs.lemmas.Result.{IfOk-weaker}
use Rattle.lx_regex.specs.Expr.{term_of}
use Rattle.lx_regex.specs.declared.expr.Expr.{the_lemmas}
use Rattle.lx_regex.proofs.Trees.NoUnits.{terms_in}
use Rattle.lx_tnfa.specs.Shapes.{HasShape, HaveShapes, IsAround}
use Rattle.lx_tnfa.specs.declared.shape.Shape.TheViews.{out-roll-Shape}
use Rattle.lx_tnfa.proofs.Construction.Members.{ends_at}
use Rattle.lx_tnfa.proofs.Construction.ShapeFacts.{have_push, members_shape, repeat_shape}
use Rattle.lx_tnfa.proofs.shape.+shape.Goals as goal

pub shapes_of-shape_of-requires-in-loop-member : goal.shapes_of-shape_of-requires-in-loop-member
shapes_of-shape_of-requires-in-loop-member t c =
    (search (rules, the_lemmas), ends_at c.args.tags c.args.members.now c.loop-member.member-index c.member-item.result c.loop-member-test.true c.member-item.is c.requires)

pub shapes_of-loop-member-preserved : goal.shapes_of-loop-member-preserved
shapes_of-loop-member-preserved t c =
    let i = c.loop-member.member-index in
    let tags = c.args.tags in
    let members = c.args.members.now in
    let next : suc i ≡ i + 1 = omega arith in
    subst
    (λ n. HaveShapes (terms_in tags (take n members)) c.push.new.self.items) next
    (subst (HaveShapes (terms_in tags (take (suc i) members))) (sym c.in_ok-push.ensures.items)
    (have_push tags members i c.member-item.result c.loop-member.shapes.items c.in_ok-shape_of.field-0 c.loop-member-test.true c.member-item.is
    c.loop-member.invariant c.in_ok-shape_of.ensures))

pub shape_of-returns-in_ok-shapes_of-in-Cat : goal.shape_of-returns-in_ok-shapes_of-in-Cat
shape_of-returns-in_ok-shapes_of-in-Cat t c =
    let shapes = rw c.deref-in-Cat.ensures.value at c.in_ok-shapes_of-in-Cat.ensures in
    IfOk-weaker c.around-in-Cat.result (IsAround c.in_ok-shapes_of-in-Cat.field-0.items) (HasShape (term_of c.args.tags c.args.expr.now))
    (λ shape around. members_shape c.args.tags c.args.expr.now c.in-Cat.members c.in_ok-shapes_of-in-Cat.field-0.items shape c.in-Cat.is shapes around)
    c.around-in-Cat.ensures

pub shape_of-returns-in_ok-only-in-Rep : goal.shape_of-returns-in_ok-only-in-Rep
shape_of-returns-in_ok-only-in-Rep t c =
    let inner = c.in_ok-inner-in-Rep.inner in
    let has = rw c.deref.ensures at c.in_ok-inner-in-Rep.ensures in
    let rolled = out-roll-Shape (record { parts = c.capped.result; tags = c.in_ok-from_slice-in-Rep.field-0; members = c.in_ok-only-in-Rep.field-0 }) in
    let count = rw c.copies.ensures at c.capped.ensures in
    repeat_shape c.args.tags c.args.expr.now c.in-Rep.body c.in-Rep.low c.in-Rep.high inner _ c.in-Rep.is has
    (ap (λ r. r.parts) rolled ∙ count)
    (ap (λ r. r.tags.items) rolled ∙ c.in_ok-from_slice-in-Rep.ensures.items ∙ c.deref-in-Rep.ensures.value)
    (ap (λ r. r.members.items) rolled ∙ c.in_ok-only-in-Rep.ensures)
