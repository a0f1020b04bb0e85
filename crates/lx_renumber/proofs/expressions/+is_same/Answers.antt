use Rattle.std.proofs.Common.{◌≡◌, map, refl, sym, ap, ◌∙◌, arith}
use Rattle.std.proofs.lemmas.Bool.Decides.{Decides-eqb}
use Rattle.lx_regex.specs.Expr.{term_of}
use Rattle.lx_regex.specs.Kinds.{kinds_of}
use Rattle.lx_regex.proofs.Trees.Kinds.{kinds_of-class, kinds_of-group, kinds_of-rep}
use Rattle.lx_regex.specs.declared.expr.Expr.{Expr}
use Rattle.lx_regex.specs.declared.expr.Expr.TheVariants.{Alt, Cat, Class, Group, Rep}
use Rattle.lx_renumber.proofs.EqualValues.{option_eq-same, same_ranges}
use Rattle.lx_renumber.proofs.Images.{map-take_all, map-take_more}
use Rattle.lx_renumber.proofs.SameExpressions.{same-alt, same-cat, same-group, same-rep, same_kinds-alt, same_kinds-cat}
use Rattle.lx_renumber.proofs.expressions.+is_same.Goals as goal
use Rattle.lx_renumber.proofs.expressions.+is_same.Goals.{is_same-then-low-least, is_same-else-low-least}

-- what the forms that two expressions have have in common
by_forms : {A : Type 0} (f : Expr → A) (expr other form another : Expr) → expr ≡ form → other ≡ another
    → f another ≡ f form → f other ≡ f expr
by_forms f expr other form another is also same = ap f also ∙ same ∙ ap f (sym is)

pub are_same-loop-place-preserved : goal.are_same-loop-place-preserved
are_same-loop-place-preserved t c = record {
  terms = λ tags.
      map-take_more (term_of tags) (term_of tags) c.loop-place.place c.args.members.now c.args.others.now c.index-members-place.result
      c.index-others-place.result c.loop-place-test.true c.if-members-others.false c.index-members-place.is c.index-others-place.is
      (c.if-not-is_same.ensures.term refl tags) (c.loop-place.invariant.terms tags);
  kinds =
      map-take_more kinds_of kinds_of c.loop-place.place c.args.members.now c.args.others.now c.index-members-place.result
      c.index-others-place.result c.loop-place-test.true c.if-members-others.false c.index-members-place.is c.index-others-place.is
      (c.if-not-is_same.ensures.kinds refl) c.loop-place.invariant.kinds;
}

pub are_same-returns-clause-terms : goal.are_same-returns-clause-terms
are_same-returns-clause-terms t c same tags =
    map-take_all (term_of tags) (term_of tags) c.loop-place.place c.args.members.now c.args.others.now (omega arith)
    c.if-members-others.false (c.loop-place.invariant.terms tags)

pub are_same-returns-clause-kinds : goal.are_same-returns-clause-kinds
are_same-returns-clause-kinds t c same =
    map-take_all kinds_of kinds_of c.loop-place.place c.args.members.now c.args.others.now (omega arith)
    c.if-members-others.false c.loop-place.invariant.kinds

pub is_same-returns-in-Class-Class-clause-term : goal.is_same-returns-in-Class-Class-clause-term
is_same-returns-in-Class-Class-clause-term t c same tags =
    by_forms (term_of tags) c.args.expr.now c.args.other.now (Class c.in-Class-Class.set) (Class c.in-Class-Class.also) c.in-Class-Class.is-0
    c.in-Class-Class.is-1
    (ap (λ set. term_of tags (Class set))
    (sym c.ranges-in-Class-Class-2.ensures.ranges
    ∙ sym (same_ranges c.ranges-in-Class-Class.result.now c.ranges-in-Class-Class-2.result.now c.eq.result c.eq.ensures same)
    ∙ c.ranges-in-Class-Class.ensures.ranges))

pub is_same-returns-in-Cat-Cat-clause-term : goal.is_same-returns-in-Cat-Cat-clause-term
is_same-returns-in-Cat-Cat-clause-term t c same tags =
    by_forms (term_of tags) c.args.expr.now c.args.other.now (Cat c.in-Cat-Cat.members) (Cat c.in-Cat-Cat.others) c.in-Cat-Cat.is-0 c.in-Cat-Cat.is-1
    (same-cat tags c.in-Cat-Cat.members c.in-Cat-Cat.others
    (ap (map (term_of tags)) (sym c.deref-in-Cat-Cat.ensures.value) ∙ c.are_same.ensures.terms same tags
    ∙ ap (map (term_of tags)) c.deref.ensures.value))

pub is_same-returns-in-Alt-Alt-clause-term : goal.is_same-returns-in-Alt-Alt-clause-term
is_same-returns-in-Alt-Alt-clause-term t c same tags =
    by_forms (term_of tags) c.args.expr.now c.args.other.now (Alt c.in-Alt-Alt.members) (Alt c.in-Alt-Alt.others) c.in-Alt-Alt.is-0 c.in-Alt-Alt.is-1
    (same-alt tags c.in-Alt-Alt.members c.in-Alt-Alt.others
    (ap (map (term_of tags)) (sym c.deref-in-Alt-Alt-2.ensures.value) ∙ c.are_same-in-Alt-Alt.ensures.terms same tags
    ∙ ap (map (term_of tags)) c.deref-in-Alt-Alt.ensures.value))

pub is_same-returns-then-number-same-clause-term : goal.is_same-returns-then-number-same-clause-term
is_same-returns-then-number-same-clause-term t c same tags =
    by_forms (term_of tags) c.args.expr.now c.args.other.now (Group c.in-Group-Group.number c.in-Group-Group.body)
    (Group c.in-Group-Group.same c.in-Group-Group.inner) c.in-Group-Group.is-0 c.in-Group-Group.is-1
    (same-group tags c.in-Group-Group.body c.in-Group-Group.inner c.in-Group-Group.number c.in-Group-Group.same
    (omega arith)
    (ap (term_of tags) (sym c.deref-then-number-same-2.ensures) ∙ c.is_same-then-number-same.ensures.term same tags
    ∙ ap (term_of tags) c.deref-then-number-same.ensures))

pub is_same-returns-then-eq-clause-term : goal.is_same-returns-then-eq-clause-term
is_same-returns-then-eq-clause-term t c same tags = elim c.if-low-least.branch [
  | is_same-then-low-least w ↦
      by_forms (term_of tags) c.args.expr.now c.args.other.now (Rep c.in-Rep-Rep.body c.in-Rep-Rep.low c.in-Rep-Rep.high)
      (Rep c.in-Rep-Rep.same c.in-Rep-Rep.least c.in-Rep-Rep.most) c.in-Rep-Rep.is-0 c.in-Rep-Rep.is-1
      (same-rep tags c.in-Rep-Rep.body c.in-Rep-Rep.same c.in-Rep-Rep.low c.in-Rep-Rep.least c.in-Rep-Rep.high c.in-Rep-Rep.most
      (sym w.if-low-least.true)
      (sym (option_eq-same c.in-Rep-Rep.high c.in-Rep-Rep.most (sym w.eq-then-low-least.ensures ∙ sym w.value-is ∙ c.if-eq.true)))
      (ap (term_of tags) (sym c.deref-then-eq-2.ensures) ∙ c.is_same.ensures.term same tags ∙ ap (term_of tags) c.deref-then-eq.ensures))
  | is_same-else-low-least w ↦
      absurd (w.if-low-least.false ((Decides-eqb c.in-Rep-Rep.low c.in-Rep-Rep.least).0 (sym w.value-is ∙ c.if-eq.true)))
]

pub is_same-returns-in-Class-Class-clause-kinds : goal.is_same-returns-in-Class-Class-clause-kinds
is_same-returns-in-Class-Class-clause-kinds t c same =
    by_forms kinds_of c.args.expr.now c.args.other.now (Class c.in-Class-Class.set) (Class c.in-Class-Class.also) c.in-Class-Class.is-0
    c.in-Class-Class.is-1 (kinds_of-class c.in-Class-Class.also ∙ sym (kinds_of-class c.in-Class-Class.set))

pub is_same-returns-in-Cat-Cat-clause-kinds : goal.is_same-returns-in-Cat-Cat-clause-kinds
is_same-returns-in-Cat-Cat-clause-kinds t c same =
    by_forms kinds_of c.args.expr.now c.args.other.now (Cat c.in-Cat-Cat.members) (Cat c.in-Cat-Cat.others) c.in-Cat-Cat.is-0 c.in-Cat-Cat.is-1
    (same_kinds-cat c.in-Cat-Cat.members c.in-Cat-Cat.others
    (ap (map kinds_of) (sym c.deref-in-Cat-Cat.ensures.value) ∙ c.are_same.ensures.kinds same ∙ ap (map kinds_of) c.deref.ensures.value))

pub is_same-returns-in-Alt-Alt-clause-kinds : goal.is_same-returns-in-Alt-Alt-clause-kinds
is_same-returns-in-Alt-Alt-clause-kinds t c same =
    by_forms kinds_of c.args.expr.now c.args.other.now (Alt c.in-Alt-Alt.members) (Alt c.in-Alt-Alt.others) c.in-Alt-Alt.is-0 c.in-Alt-Alt.is-1
    (same_kinds-alt c.in-Alt-Alt.members c.in-Alt-Alt.others
    (ap (map kinds_of) (sym c.deref-in-Alt-Alt-2.ensures.value) ∙ c.are_same-in-Alt-Alt.ensures.kinds same
    ∙ ap (map kinds_of) c.deref-in-Alt-Alt.ensures.value))

pub is_same-returns-then-number-same-clause-kinds : goal.is_same-returns-then-number-same-clause-kinds
is_same-returns-then-number-same-clause-kinds t c same =
    by_forms kinds_of c.args.expr.now c.args.other.now (Group c.in-Group-Group.number c.in-Group-Group.body)
    (Group c.in-Group-Group.same c.in-Group-Group.inner) c.in-Group-Group.is-0 c.in-Group-Group.is-1
    (kinds_of-group c.in-Group-Group.same c.in-Group-Group.inner
    ∙ (ap kinds_of (sym c.deref-then-number-same-2.ensures) ∙ c.is_same-then-number-same.ensures.kinds same
    ∙ ap kinds_of c.deref-then-number-same.ensures)
    ∙ sym (kinds_of-group c.in-Group-Group.number c.in-Group-Group.body))

pub is_same-returns-then-eq-clause-kinds : goal.is_same-returns-then-eq-clause-kinds
is_same-returns-then-eq-clause-kinds t c same =
    by_forms kinds_of c.args.expr.now c.args.other.now (Rep c.in-Rep-Rep.body c.in-Rep-Rep.low c.in-Rep-Rep.high)
    (Rep c.in-Rep-Rep.same c.in-Rep-Rep.least c.in-Rep-Rep.most) c.in-Rep-Rep.is-0 c.in-Rep-Rep.is-1
    (kinds_of-rep c.in-Rep-Rep.same c.in-Rep-Rep.least c.in-Rep-Rep.most
    ∙ (ap kinds_of (sym c.deref-then-eq-2.ensures) ∙ c.is_same.ensures.kinds same ∙ ap kinds_of c.deref-then-eq.ensures)
    ∙ sym (kinds_of-rep c.in-Rep-Rep.body c.in-Rep-Rep.low c.in-Rep-Rep.high))
