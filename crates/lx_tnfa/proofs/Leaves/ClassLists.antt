-- Lists of classes to which some are added.
use Rattle.std.proofs.Common.{◌≡◌, ℕ, zero, suc, List, [], ◌∷◌, ◌++◌, length, Some, refl, sym, ap, ◌∙◌, subst}
use Rattle.std.specs.Prelude.{slice_get}
use Rattle.lx_base.specs.declared.settings.Enc.{Enc}
use Rattle.lx_class.specs.declared.ranges.Range.{Range}
use Rattle.lx_encode.specs.Graph.{IsGraphOf}
use Rattle.lx_tnfa.specs.Classes.{AreClasses, HasClass}
use Rattle.lx_tnfa.specs.declared.classes.ClassGraph.{ClassGraph}

pub classes_push : (enc : Enc) (classes new : List ClassGraph) (class : ClassGraph) → new ≡ classes ++ class ∷ [] → AreClasses enc classes
    → IsGraphOf enc class.set class.graph → AreClasses enc new
classes_push enc classes new class is are graph = subst (AreClasses enc) (sym is) (at classes are)
  where
    at : (classes : List ClassGraph) → AreClasses enc classes → AreClasses enc (classes ++ class ∷ [])
    at [] are = (graph, tt)
    at (x ∷ classes) are = (are.0, at classes are.1)

pub last_at : {A : Type 0} (xs : List A) (x : A) → slice_get (xs ++ x ∷ []) (length xs) ≡ Some x
last_at [] x = refl
last_at (y ∷ xs) x = last_at xs x

pub get_front : {A : Type 0} (xs more : List A) (i : ℕ) (x : A) → slice_get xs i ≡ Some x → slice_get (xs ++ more) i ≡ Some x
get_front [] more i x e = cc
get_front (y ∷ xs) more zero x e = e
get_front (y ∷ xs) more (suc i) x e = get_front xs more i x e

pub class_last : (classes new : List ClassGraph) (class : ClassGraph) (number : ℕ) (set : List Range) → new ≡ classes ++ class ∷ []
    → number ≡ length classes → class.set ≡ set → HasClass new number set
class_last classes new class number set is at same =
    (class, ap (λ l. slice_get l number) is ∙ ap (slice_get (classes ++ class ∷ [])) at ∙ last_at classes class, same)

pub class_front : (classes new later : List ClassGraph) (number : ℕ) (set : List Range) → new ≡ classes ++ later → HasClass classes number set
    → HasClass new number set
class_front classes new later number set is has =
    (has.0, ap (λ l. slice_get l number) is ∙ get_front classes later number has.0 has.1, has.2)
