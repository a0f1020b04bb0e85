-- Places in sets.
use Rattle.std.proofs.Common.{◌≡◌, true, rules}
use Rattle.lx_tnfa.specs.contracts.places.PlacePartialEq.TheImpl.{eq-value}
use Rattle.lx_tnfa.specs.declared.places.Place.{Place}
use Rattle.lx_tnfa.specs.Equality.{TellsEqual}

-- equal places are those that the program takes for equal
pub same_place : (place other : Place) → eq-value.it place other ≡ true → place ≡ other
same_place place other e = search rules

pub place_same : (place other : Place) → place ≡ other → eq-value.it place other ≡ true
place_same place other e = search rules

pub TellsEqual-places : TellsEqual eq-value.it
TellsEqual-places = record { equal = same_place; itself = place_same }
