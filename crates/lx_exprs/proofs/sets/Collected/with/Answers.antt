use Rattle.std.proofs.Common.{◌≡◌, ◌∙◌, ◌++◌, ap, subst, sym}
use Rattle.std.proofs.lemmas.Result.{IfOk-weaker}
use Rattle.lx_class.specs.Ranges.{HaveSamePoints, IsUnion}
use Rattle.lx_exprs.proofs.Classes.PointSets.{union_appended, union_same}
use Rattle.lx_exprs.proofs.sets.Collected.with.Goals as goal

pub returns-then-len-saturating_mul : goal.returns-then-len-saturating_mul
returns-then-len-saturating_mul c =
    let these = c.args.self in
    let others = c.args.others.now in
    let all = c.extend_from_slice.new.self.items in
    let union = union_appended these others all (c.in_ok-extend_from_slice.ensures.items ∙ ap (λ l. l ++ others) c.self.view_is) in
    let points = subst (λ l. HaveSamePoints l c.in_ok-set.set) c.deref.ensures.value c.in_ok-set.ensures.points in
    IfOk-weaker c.of_set.result (λ collected. collected ≡ c.in_ok-set.set) (IsUnion these others)
    (λ collected same. subst (IsUnion these others) (sym same) (union_same these others all c.in_ok-set.set union points)) c.of_set.ensures

pub returns : goal.returns
returns c =
    union_appended c.args.self c.args.others.now c.extend_from_slice.new.self.items
    (c.in_ok-extend_from_slice.ensures.items ∙ ap (λ l. l ++ c.args.others.now) c.self.view_is)
