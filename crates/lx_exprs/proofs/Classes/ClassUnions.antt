-- The ranges of classes one beside another.
use Rattle.std.proofs.Common.{◌≡◌, ℕ, List, [], ◌∷◌, ◌++◌, Option, None, Some, refl, sym, ap, ◌∙◌, append_assoc}
use Rattle.std.proofs.lemmas.List.{append-nil}
use Rattle.lx_regex.specs.Term.{Term}
use Rattle.lx_regex.specs.Expr.{members_of}
use Rattle.lx_exprs.specs.Defined.{Shape, one, row, choice, both_classes, class_in, classes_in, whole}
use Rattle.lx_exprs.specs.Meanings.{in_choice}

pub both_classes-assoc : (first second third : Option (List (ℕ × ℕ)))
    → both_classes (both_classes first second) third ≡ both_classes first (both_classes second third)
both_classes-assoc None second third = refl
both_classes-assoc (Some ranges) None third = refl
both_classes-assoc (Some ranges) (Some others) None = refl
both_classes-assoc (Some ranges) (Some others) (Some more) = ap Some (append_assoc ranges others more)

-- no ranges behind a class, and before one
pub both_classes-nil : (class : Option (List (ℕ × ℕ))) → both_classes class (Some []) ≡ class
both_classes-nil None = refl
both_classes-nil (Some ranges) = ap Some (append-nil ranges)

both_classes-before : (class : Option (List (ℕ × ℕ))) → both_classes (Some []) class ≡ class
both_classes-before None = refl
both_classes-before (Some ranges) = refl

-- one member more
pub classes_in-append : (terms : List Term) (term : Term)
    → classes_in (members_of (terms ++ term ∷ [])) ≡ both_classes (classes_in (members_of terms)) (class_in term)
classes_in-append [] term = both_classes-nil (class_in term) ∙ sym (both_classes-before (class_in term))
classes_in-append (first ∷ terms) term =
    ap (both_classes (class_in first)) (classes_in-append terms term)
    ∙ sym (both_classes-assoc (class_in first) (classes_in (members_of terms)) (class_in term))

-- one alternative more, whatever stands before it
pub class_in-choice : (shape : Shape) (term : Term)
    → class_in (whole (choice (in_choice shape ++ term ∷ []))) ≡ both_classes (class_in (whole shape)) (class_in term)
class_in-choice (choice terms) term = classes_in-append terms term
class_in-choice (one first) term =
    classes_in-append (first ∷ []) term ∙ ap (λ class. both_classes class (class_in term)) (both_classes-nil (class_in first))
class_in-choice (row terms) term = refl
