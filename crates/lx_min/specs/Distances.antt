-- How far states of one class are from those of other classes.
use Rattle.std.specs.Prelude.{◌≡◌, ◌≢◌, ℕ, ◌+◌, ◌<◌, Bool, true, List, [], ◌∷◌, length, Option, Some, None, nat_eq, nat_lt, if◌then◌else◌}
use Rattle.lx_auto.specs.declared.automaton.Accept.{Accept}
use Rattle.lx_auto.specs.declared.automaton.Auto.{Auto}
use Rattle.lx_auto.specs.declared.automaton.Edge.{Edge}
use Rattle.lx_auto.specs.declared.automaton.State.{State}
use Rattle.lx_auto.specs.Automaton.{state_of}
use Rattle.lx_auto.specs.MetStates.{is_marked}
use Rattle.lx_auto.specs.Points.{IsMet}
use Rattle.lx_auto.specs.ToldApart.{AreToldApart}
use Rattle.lx_min.specs.declared.distances.Scale.{Scale}
use Rattle.lx_min.specs.Joined.{class_in}

-- by the distance of each state
module _ (distances : List ℕ) where
  -- the lesser of a state's distance and a number
  abbrev pub nearer : (state least : ℕ) → ℕ
  nearer state least = if nat_lt (class_in distances state) least then class_in distances state else least

  -- the least distance of the states to which edges lead, or `least` where it is less
  abbrev pub nearest : List Edge → (least : ℕ) → ℕ
  nearest [] least = least
  nearest (edge ∷ edges) least = nearest edges (nearer edge.to least)

  -- the class of a state; of one of the wide class, a step more than the distance of the nearest state to which it has an edge, if that
  -- is nearer than what is far
  abbrev pub distance_of : Scale → (class : ℕ) → List Edge → ℕ
  distance_of scale class edges = if nat_eq class scale.wide then scale.step + nearest edges scale.far else class

-- each state has its distance
abbrev pub AreDistances : Auto → (classes : List ℕ) → Scale → (distances : List ℕ) → Type 0
AreDistances auto classes scale distances =
    (state : ℕ) → state < length auto.states
    → class_in distances state ≡ distance_of distances scale (class_in classes state) (state_of auto.states state).edges

-- the class of a state by whether it accepts
abbrev pub accept_class : Option Accept → ℕ
accept_class (Some accept) = 0
accept_class None = 1

-- the classes of the first so many states
pub record AreAccepts (states : List State) (count : ℕ) (classes : List ℕ) : Type 0 where
  pub fit : length classes ≡ count
  pub each : (state : ℕ) → state < count → class_in classes state ≡ accept_class (state_of states state).accept

-- where states to which walks come have different numbers, a word tells them apart
abbrev pub TellApart : Auto → (numbers : List ℕ) → Type 0
TellApart auto numbers =
    (state other : ℕ) → IsMet auto state → IsMet auto other → class_in numbers state ≢ class_in numbers other
    → (word : List ℕ) × AreToldApart auto state other word

-- no two of the numbers are equal
abbrev pub AllDiffer : (numbers : List ℕ) → Type 0
AllDiffer numbers =
    (state other : ℕ) → state < length numbers → other < length numbers → class_in numbers state ≡ class_in numbers other → state ≡ other

-- each of the first so many numbers is marked, and no two of them are equal
pub record AreSeen (count : ℕ) (numbers : List ℕ) (marks : List Bool) : Type 0 where
  pub marked : (state : ℕ) → state < count → is_marked marks (class_in numbers state) ≡ true
  pub differ : (state other : ℕ) → state < count → other < count → class_in numbers state ≡ class_in numbers other → state ≡ other
