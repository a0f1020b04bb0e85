use Rattle.std.proofs.Common.{◌≡◌, ◌∙◌, All, None, Some, [], ap, inr, map, refl, subst, sym}
use Rattle.std.proofs.lemmas.Result.{MatchResult-weaker}
use Rattle.lx_token.specs.declared.classes.Class.{Class}
use Rattle.lx_token.specs.declared.kinds.TokenKind.TheVariants as kind
use Rattle.lx_exprs.specs.Checks.{ClassHas, LeafHas, PointsAre, class_ranges, range_of}
use Rattle.lx_exprs.specs.Defined.{count_of}
use Rattle.lx_exprs.specs.Meanings.{IsSetOf}
use Rattle.lx_exprs.specs.Points.{points_fault}
use Rattle.lx_exprs.specs.Seen.{IsOrdered, scope_view}
use Rattle.lx_forms.specs.Seen.{lexeme_view}
use Rattle.lx_exprs.proofs.Contents.LeafSteps.{class-read, class-stops, kind-stops}
use Rattle.lx_exprs.proofs.Classes.PointSets.{class_ordered, points_taken}
use Rattle.lx_exprs.proofs.leaves.read_class.Goals as goal

pub returns-in-Some-clause-read : goal.returns-in-Some-clause-read
returns-in-Some-clause-read c before count =
    let options = c.args.reader.options.now in
    let lexeme = lexeme_view c.args.lexeme.now in
    let ranges = c.in_ok-ranges.ensures ∙ ap (map range_of) (c.as_slice.ensures ∙ ap (λ (class : Class). class.ranges) c.in_ok-class.ensures) in
    let found : Some c.in-Some.fault ≡ points_fault options.enc options.surrogates lexeme.at (class_ranges lexeme) =
    sym c.in-Some.is ∙ c.points_fault.ensures ∙ ap (points_fault options.enc options.surrogates lexeme.at) (c.deref.ensures.value ∙ ranges) in
    kind-stops options (scope_view c.args.reader.scope) c.args.reader.room c.args.is_operand before lexeme kind.Class c.requires.sort c.in-Some.fault
    (inr (c.in-Some.fault, found, refl))

pub class_set-requires-clause-ordered : goal.class_set-requires-clause-ordered
class_set-requires-clause-ordered c =
    let options = c.args.reader.options.now in
    let lexeme = lexeme_view c.args.lexeme.now in
    let ranges = c.in_ok-ranges.ensures ∙ ap (map range_of) (c.as_slice.ensures ∙ ap (λ (class : Class). class.ranges) c.in_ok-class.ensures) in
    let none = ap (points_fault options.enc options.surrogates lexeme.at) (sym (c.deref.ensures.value ∙ ranges)) ∙ sym c.points_fault.ensures ∙ c.in_default.is in
    subst (All IsOrdered) (sym (c.deref-2.ensures.value ∙ ranges))
    (class_ordered options.enc lexeme.text (points_taken options.enc options.surrogates lexeme.at (class_ranges lexeme) none).0)

pub class_set-requires-clause-fits : goal.class_set-requires-clause-fits
class_set-requires-clause-fits c =
    let options = c.args.reader.options.now in
    let none = ap (points_fault options.enc options.surrogates c.args.lexeme.now.at) (c.deref-2.ensures.value ∙ sym c.deref.ensures.value) ∙ sym c.points_fault.ensures ∙ c.in_default.is in
    (points_taken options.enc options.surrogates c.args.lexeme.now.at c.deref-2.result.now none).0

pub class_set-requires-clause-allowed : goal.class_set-requires-clause-allowed
class_set-requires-clause-allowed c =
    let options = c.args.reader.options.now in
    let none = ap (points_fault options.enc options.surrogates c.args.lexeme.now.at) (c.deref-2.ensures.value ∙ sym c.deref.ensures.value) ∙ sym c.points_fault.ensures ∙ c.in_default.is in
    (points_taken options.enc options.surrogates c.args.lexeme.now.at c.deref-2.result.now none).1

pub returns-clause-read : goal.returns-clause-read
returns-clause-read c before count =
    let reader = c.args.reader in
    let options = reader.options.now in
    let definitions = scope_view reader.scope in
    let lexeme = lexeme_view c.args.lexeme.now in
    let ranges = c.in_ok-ranges.ensures ∙ ap (map range_of) (c.as_slice.ensures ∙ ap (λ (class : Class). class.ranges) c.in_ok-class.ensures) in
    let none : PointsAre options definitions lexeme (class_ranges lexeme) None =
    sym (ap (points_fault options.enc options.surrogates lexeme.at) (sym (c.deref.ensures.value ∙ ranges)) ∙ sym c.points_fault.ensures ∙ c.in_default.is) in
    let has : IsSetOf (LeafHas options definitions kind.Class lexeme) c.in_ok-set.set =
    subst (λ (class : Class). IsSetOf (λ point. ClassHas options definitions class.is_negated (map range_of class.ranges) point) c.in_ok-set.set) c.in_ok-class.ensures
    (subst (λ l. IsSetOf (ClassHas options definitions c.in_ok-class.class.is_negated l) c.in_ok-set.set)
    (c.deref-2.ensures.value ∙ c.in_ok-ranges.ensures ∙ ap (map range_of) c.as_slice.ensures) (c.in_ok-set.ensures definitions)) in
    MatchResult-weaker c.read_set.result (c.read_set.ensures.read definitions 0 (count_of before) [] refl count)
    (λ value is. class-read options definitions reader.room c.args.is_operand before lexeme c.requires.sort c.in_ok-set.set none has value is)
    (λ stopped is. class-stops options definitions reader.room c.args.is_operand before lexeme c.requires.sort c.in_ok-set.set none has stopped is)
