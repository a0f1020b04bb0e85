-- Classes that are numbered anew, by the order of their chosen states.
use Rattle.std.specs.Prelude.{◌≡◌, ◌<◌, ◌≤◌, ℕ, List, length, slice_index, slice_index_or}
use Rattle.lx_auto.specs.declared.automaton.Auto.{Auto}
use Rattle.lx_min.specs.Merges.{AreClasses, AreClassesApart, Classes}
use Rattle.lx_min.specs.declared.numbering.Numbering.{Numbering}

-- the classes of a numbering as the program keeps them
abbrev pub numbered_classes : Numbering → Classes
numbered_classes numbering = record {
  of = λ state. slice_index_or numbering.rank.items (slice_index_or numbering.class.items state 0) 0;
  chosen = λ class. slice_index_or numbering.chosen.items class 0;
  count = length numbering.chosen.items;
}

-- one number after another
abbrev pub IsAscending : List ℕ → Type 0
IsAscending numbers = (place other : ℕ) → place < other → other < length numbers → slice_index numbers place < slice_index numbers other

-- States of one class are alike, and a word tells others apart. There are no more classes than states, and their numbers are in the
-- order of the chosen states.
pub record IsNumbering (auto : Auto) (numbering : Numbering) : Type 0 where
  pub classes : AreClasses auto (numbered_classes numbering)
  pub apart : AreClassesApart auto (numbered_classes numbering)
  pub few : length numbering.chosen.items ≤ length auto.states
  pub order : IsAscending numbering.chosen.items

-- by the class of each state, and the state that is chosen for each class
module _ (class chosen : List ℕ) where
  -- the state is the one that is chosen for its class
  abbrev pub IsChosen : (state : ℕ) → Type 0
  IsChosen state = (slice_index class state < length chosen) × (slice_index chosen (slice_index class state) ≡ state)

  -- the state that is chosen for a class is in the class, and state 0 is chosen for class 0
  pub record AreChosen : Type 0 where
    pub back : (number : ℕ) → number < length chosen → slice_index class (slice_index chosen number) ≡ number
    pub first : slice_index chosen 0 ≡ 0

  -- of the states below a bound those that are chosen stand in a list, in order, and the place of each is the number of its class
  pub record AreNumbered (rank listed : List ℕ) (bound : ℕ) : Type 0 where
    pub fit : length rank ≡ length chosen
    pub few : length listed ≤ bound
    pub order : IsAscending listed
    pub start : slice_index rank 0 ≡ 0
    pub ranks : (number : ℕ) → number < length chosen → slice_index chosen number < bound
        → (slice_index rank number < length listed) × (slice_index listed (slice_index rank number) ≡ slice_index chosen number)
    pub states : (place : ℕ) → place < length listed
        → (slice_index listed place < bound) × IsChosen (slice_index listed place)
        × (slice_index rank (slice_index class (slice_index listed place)) ≡ place)

-- the same in the form of the program
abbrev pub IsNumberedTo : (chosen : List ℕ) → Numbering → (bound : ℕ) → Type 0
IsNumberedTo chosen numbering bound = AreNumbered numbering.class.items chosen numbering.rank.items numbering.chosen.items bound
