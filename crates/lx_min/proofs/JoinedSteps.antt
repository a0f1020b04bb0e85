-- When a step continues another, and what then becomes of both.
use Rattle.std.proofs.Common.{◌≡◌, ◌+◌, List, ◌∷◌, true, false, ap, if◌then◌else◌}
use Rattle.std.proofs.lemmas.Bool.{and_from, and_parts, eq-eqb, eqb-true}
use Rattle.lx_min.specs.declared.joined.Step.{Step}
use Rattle.lx_min.specs.Joined.{continues, joined_to}

-- what it says that a step continues another
pub record Continues (step next : Step) : Type 0 where
  pub touches : step.hi + 1 ≡ next.lo
  pub leave : step.leave ≡ next.leave
  pub ops : step.ops ≡ next.ops
  pub class : step.class ≡ next.class

pub Continues-true : (step next : Step) → continues step next ≡ true → Continues step next
Continues-true step next is =
    let last = and_parts _ _ is in
    let third = and_parts _ _ last.0 in
    let second = and_parts _ _ third.0 in
    record {
      touches = eqb-true (step.hi + 1) next.lo second.0;
      leave = eqb-true step.leave next.leave second.1;
      ops = eqb-true step.ops next.ops third.1;
      class = eqb-true step.class next.class last.1;
    }

pub true-Continues : (step next : Step) → Continues step next → continues step next ≡ true
true-Continues step next is =
    and_from _ _ (and_from _ _ (and_from _ _ (eq-eqb (step.hi + 1) next.lo is.touches) (eq-eqb step.leave next.leave is.leave))
    (eq-eqb step.ops next.ops is.ops)) (eq-eqb step.class next.class is.class)

-- both as one
abbrev pub as_one : Step → Step → Step
as_one step next = record next { lo = step.lo }

pub joined_to-yes : (step next : Step) (steps : List Step) → continues step next ≡ true
    → joined_to step (next ∷ steps) ≡ as_one step next ∷ steps
joined_to-yes step next steps is = ap (λ b. if b then as_one step next ∷ steps else step ∷ next ∷ steps) is

pub joined_to-no : (step next : Step) (steps : List Step) → continues step next ≡ false
    → joined_to step (next ∷ steps) ≡ step ∷ next ∷ steps
joined_to-no step next steps is = ap (λ b. if b then as_one step next ∷ steps else step ∷ next ∷ steps) is
