-- Where cuts stand in the automaton of the program.
use Rattle.std.specs.Prelude.{◌≡◌, ℕ, ◌↔◌, List}
use Rattle.lx_base.specs.declared.settings.Enc.{Enc}
use Rattle.lx_regex.specs.Cut.{Cut, Finishes, last_part}
use Rattle.lx_regex.specs.Term.{Term}
use Rattle.lx_tnfa.specs.Tnfa.{Tnfa, FinishesPlace, IsPlace}
use Rattle.lx_tnfa.specs.declared.places.Place.{Place}

-- the cut stands at the place: in its leaf, and the same units finish the leaf
pub record StandsAt (enc : Enc) (rules : List Term) (tnfa : Tnfa) (cut : Cut) (place : Place) : Type 0 where
  pub is_place : IsPlace tnfa place
  pub part : place.part ≡ last_part 0 cut.front
  pub left : (left : List ℕ) → Finishes enc rules cut left ↔ FinishesPlace tnfa place left
