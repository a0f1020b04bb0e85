-- Residuals that the same units finish are equal, and so are the places of cuts at one place.
use Rattle.std.proofs.Common.{◌≡◌, ℕ, zero, suc, ◌<◌, ◌↔◌, arith, List, [], ◌∷◌, length, refl, sym, ap, ap₂, ◌∙◌, subst}
use Rattle.lx_base.specs.declared.settings.Enc.{Enc}
use Rattle.lx_encode.specs.Table.{Finishes}
use Rattle.lx_regex.specs.Cut as cuts
use Rattle.lx_regex.specs.Cut.{Cut, IsCut, SamePlace}
use Rattle.lx_regex.specs.Pattern.{Pattern, terms_of}
use Rattle.lx_regex.proofs.KernelCuts.RuleCuts.{cuts_one_rule}
use Rattle.lx_tnfa.specs.Classes.{AreClasses}
use Rattle.lx_tnfa.specs.CutPlaces.{StandsAt}
use Rattle.lx_tnfa.specs.Tnfa.{Tnfa, FinishesPlace, FinishesRest, IsRest, IsTnfaOf, rows_at, state_at}
use Rattle.lx_tnfa.specs.declared.classes.ClassGraph.{ClassGraph}
use Rattle.lx_tnfa.specs.declared.places.Place.{Place}
use Rattle.lx_tnfa.specs.declared.states.State.{State}
use Rattle.lx_tnfa.specs.declared.states.State.TheVariants.{Moves, Class, AnyUnit}

-- in one graph residuals that the same units finish are equal
pub graph_same : (enc : Enc) (classes : List ClassGraph) (number r s : ℕ) → AreClasses enc classes → r < length (rows_at classes number)
    → s < length (rows_at classes number)
    → ((units : List ℕ) → Finishes (rows_at classes number) r units ↔ Finishes (rows_at classes number) s units) → r ≡ s
graph_same enc [] number r s are lt lt' same = absurd (omega arith)
graph_same enc (class ∷ classes) zero r s are lt lt' same = are.0.same r s lt lt' same
graph_same enc (class ∷ classes) (suc number) r s are lt lt' same = graph_same enc classes number r s are.1 lt lt' same

-- there are so many units
some_units : (n : ℕ) → (units : List ℕ) × (length units ≡ n)
some_units zero = ([], refl)
some_units (suc n) = let more = some_units n in (0 ∷ more.0, ap suc more.1)

rest_same : (enc : Enc) (classes : List ClassGraph) (state : State) (part r s : ℕ) → AreClasses enc classes → IsRest classes state part r
    → IsRest classes state part s → ((units : List ℕ) → FinishesRest classes state r units ↔ FinishesRest classes state s units) → r ≡ s
rest_same enc classes (Moves ways) part r s are is is' same = is.1 ∙ sym is'.1
rest_same enc classes (Class number) part r s are is is' same = graph_same enc classes number r s are is is' same
rest_same enc classes AnyUnit part r s are is is' same =
    let some = some_units r in sym some.1 ∙ (same some.0).0 some.1

place_is : (place there : Place) → place.part ≡ there.part → place.rest.0 ≡ there.rest.0 → place ≡ there
place_is place there part rest = ap₂ (λ p n. make p n) part rest
  where
    make : ℕ → ℕ → Place
    make p n = record { part = p; rest = record { 0 = n } }

both : {A B C : Type 0} → A ↔ B → B ↔ C → A ↔ C
both f g = ((λ a. g.0 (f.0 a)), (λ c. f.1 (g.1 c)))

back : {A B : Type 0} → A ↔ B → B ↔ A
back f = (f.1, f.0)

pub one_place : (enc : Enc) (patterns : List Pattern) (tnfa : Tnfa) (word other_word : List ℕ) (cut other : Cut) (place there : Place)
    → IsTnfaOf enc patterns tnfa → IsCut enc (terms_of patterns) word cut → IsCut enc (terms_of patterns) other_word other
    → StandsAt enc (terms_of patterns) tnfa cut place → StandsAt enc (terms_of patterns) tnfa other there
    → SamePlace enc (terms_of patterns) cut other ↔ (place ≡ there)
one_place enc patterns tnfa word other_word cut other place there of is is' at at' = (
  (λ same.
      let part : place.part ≡ there.part = at.part ∙ same.part ∙ sym at'.part in
      let state : state_at tnfa place ≡ state_at tnfa there = ap (λ n. state_of n) part in
      let rest : place.rest.0 ≡ there.rest.0 =
      rest_same enc tnfa.classes (state_at tnfa place) place.part place.rest.0 there.rest.0 of.classes at.is_place.rest
      (subst (λ s. IsRest tnfa.classes s place.part there.rest.0) (sym state)
      (subst (λ n. IsRest tnfa.classes (state_at tnfa there) n there.rest.0) (sym part) at'.is_place.rest))
      (λ units.
      subst
      (λ s. FinishesPlace tnfa place units ↔ FinishesRest tnfa.classes s there.rest.0 units) (sym state)
      (both (back (at.left units)) (both (same.left units) (at'.left units)))) in
      place_is place there part rest),
  (λ e.
      let part = sym at.part ∙ ap (λ (p : Place). p.part) e ∙ at'.part in record {
        rule =
            cuts_one_rule enc (terms_of patterns) cut other is.possible.0 is'.possible.0 is.after_unit is'.after_unit is.possible.1 is'.possible.1
            part;
        part = part;
        left = λ units.
            both (at.left units) (subst (λ p. FinishesPlace tnfa p units ↔ cuts.Finishes enc (terms_of patterns) other units) (sym e) (back (at'.left units)));
      }),
)
  where
    state_of : ℕ → State
    state_of n = state_at tnfa (record { part = n; rest = record { 0 = 0 } })
