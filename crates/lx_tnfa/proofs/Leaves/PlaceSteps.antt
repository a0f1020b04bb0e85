-- The states at places, and the rows of their graphs.
use Rattle.std.proofs.Common.{◌≡◌, ℕ, zero, suc, ◌*◌, ◌<◌, arith, true, false, List, [], ◌∷◌, length, get_or, sym, ap, ◌∙◌, subst}
use Rattle.std.proofs.lemmas.Bool.{false≢true}
use Rattle.std.proofs.lemmas.List.{get_or_read}
use Rattle.lx_encode.specs.Table.{Finishes, Rows}
use Rattle.lx_tnfa.specs.Tnfa.{Tnfa, AreNumbered, IsNumbered, FinishesPlace, FinishesRest, rows_at, state_at}
use Rattle.lx_tnfa.specs.declared.classes.ClassGraph.{ClassGraph}
use Rattle.lx_tnfa.specs.declared.places.Place.{Place}
use Rattle.lx_tnfa.specs.declared.states.State.{State}
use Rattle.lx_tnfa.specs.declared.states.State.TheVariants.{Moves, Class}

pub state_is : (tnfa : Tnfa) (place : Place) (states : List State) (state : State) → tnfa.states ≡ states → 2 * place.part < length tnfa.states
    → state ≡ get_or states (2 * place.part) state → state_at tnfa place ≡ state
state_is tnfa place states state same lt is =
    ap (λ l. get_or l (2 * place.part) (Moves [])) same
    ∙ sym (get_or_read states (2 * place.part) state (subst (λ l. 2 * place.part < length l) same lt) is (Moves []))

pub numbered_at : (count : ℕ) (states : List State) (i : ℕ) (state : State) (number : ℕ) → AreNumbered count states → i < length states
    → state ≡ get_or states i state → state ≡ Class number → number < count
numbered_at count [] i state number are lt is named = absurd (omega arith)
numbered_at count (x ∷ states) zero state number are lt is named = subst (IsNumbered count) (sym is ∙ named) are.0
numbered_at count (x ∷ states) (suc i) state number are lt is named = numbered_at count states i state number are.1 (omega arith) is named

pub rows_are : (classes : List ClassGraph) (number : ℕ) (class : ClassGraph) → number < length classes → class ≡ get_or classes number class
    → rows_at classes number ≡ class.graph.rows
rows_are [] number class lt is = absurd (omega arith)
rows_are (x ∷ classes) zero class lt is = ap (λ (y : ClassGraph). y.graph.rows) (sym is)
rows_are (x ∷ classes) (suc number) class lt is = rows_are classes number class (omega arith) is

-- a result that is there says that some units go on
pub goes_on : (finishes : List ℕ → Type 0) (units : List ℕ) → finishes units
    → (true ≡ false → (units : List ℕ) → finishes units → ⊥) × (((units : List ℕ) → ¬ finishes units) → true ≡ false)
goes_on finishes units fin = ((λ e. absurd (false≢true (sym e))), (λ none. absurd (none units fin)))

pub class_goes_on : (tnfa : Tnfa) (place : Place) (number unit : ℕ) (rows : Rows) → state_at tnfa place ≡ Class number
    → rows_at tnfa.classes number ≡ rows
    → (((units : List ℕ) → ¬ Finishes rows place.rest.0 (unit ∷ units)) → true ≡ false)
    → (true ≡ false → (units : List ℕ) → FinishesPlace tnfa place (unit ∷ units) → ⊥)
    × (((units : List ℕ) → ¬ FinishesPlace tnfa place (unit ∷ units)) → true ≡ false)
class_goes_on tnfa place number unit rows state same some = (
  (λ e. absurd (false≢true (sym e))),
  (λ none. some (λ units fin. none units
      (subst (λ s. FinishesRest tnfa.classes s place.rest.0 (unit ∷ units)) (sym state)
      (subst (λ r. Finishes r place.rest.0 (unit ∷ units)) (sym same) fin)))),
)
