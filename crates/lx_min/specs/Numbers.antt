-- Numbers of lists of operations and of accepts: places where each stands once.
use Rattle.std.specs.Prelude.{◌≡◌, ℕ, List, map, Option, Some, None, slice_get, Vec}
use Rattle.std.specs.Borrow.{Bor}
use Rattle.std.specs.List.{AllZip}
use Rattle.std.specs.Option.{option_map}
use Rattle.lx_auto.specs.declared.automaton.Accept.{Accept}
use Rattle.lx_auto.specs.declared.automaton.Edge.{Edge}
use Rattle.lx_auto.specs.declared.automaton.Held.{Held}
use Rattle.lx_auto.specs.declared.automaton.State.{State}
use Rattle.lx_auto.specs.declared.ops.Op.{Op}
use Rattle.lx_min.specs.Canonical.{canonical}
use Rattle.lx_min.specs.declared.accept_numbers.AcceptKey.{AcceptKey}
use Rattle.lx_min.specs.declared.looks.Look.{Look}
use Rattle.lx_min.specs.declared.looks.Way.{Way}

-- no item stands at two places
abbrev pub AreDistinct : {X : Type 0} → List X → Type 0
AreDistinct {X} items = (place other : ℕ) (item : X) → slice_get items place ≡ Some item → slice_get items other ≡ Some item → place ≡ other

-- each item stands where it stood before
abbrev pub Keeps : {X : Type 0} → (old new : List X) → Type 0
Keeps {X} old new = (place : ℕ) (item : X) → slice_get old place ≡ Some item → slice_get new place ≡ Some item

-- the lists, as the program keeps them
abbrev pub seen_lists : {A : Type 0} → List (Vec Op A) → List (List Op)
seen_lists lists = map (λ list. list.items) lists

-- the number of a list: the place of its canonical list
abbrev pub IsListNumber : (lists : List (List Op)) → List Op → ℕ → Type 0
IsListNumber lists ops number = slice_get lists number ≡ Some (canonical ops)

-- each list that was met has its number
abbrev pub AreListNumbers : (lists : List (List Op)) → (number : Bor (List Op) → Option ℕ) → Type 0
AreListNumbers lists number = (ops : Bor (List Op)) (place : ℕ) → number ops ≡ Some place → IsListNumber lists ops.now place

-- what is accepted, where lists of operations have numbers
pub record NumberedAccept : Type 0 where
  pub rule : ℕ
  pub ops : ℕ
  pub values : List Held

-- the same, as the program keeps it
abbrev pub seen_accept : Option AcceptKey → Option NumberedAccept
seen_accept accept = option_map (λ key. record { rule = key.rule; ops = key.ops; values = key.values.now }) accept

abbrev pub seen_accepts : List (Option AcceptKey) → List (Option NumberedAccept)
seen_accepts accepts = map seen_accept accepts

module _ (lists : List (List Op)) where
  -- the accept, with the number of its list
  abbrev pub IsNumbered : Option Accept → Option NumberedAccept → Type 0
  IsNumbered None None = Unit {0}
  IsNumbered None (Some other) = ⊥
  IsNumbered (Some accept) None = ⊥
  IsNumbered (Some accept) (Some other) =
      (other.rule ≡ accept.rule) × (other.values ≡ accept.values) × IsListNumber lists accept.ops other.ops

  -- the edge, with the numbers of lists
  pub record IsWay (leave : List Op) (edge : Edge) (way : Way) : Type 0 where
    pub lo : way.lo ≡ edge.lo
    pub hi : way.hi ≡ edge.hi
    pub leaves : IsListNumber lists leave way.leave
    pub ops : IsListNumber lists edge.ops way.ops
    pub to : way.to ≡ edge.to

-- the state, with the numbers of lists and the number of what it accepts
pub record IsLook (lists : List (List Op)) (accepts : List (Option NumberedAccept)) (state : State) (look : Look) : Type 0 where
  pub key : Option NumberedAccept
  pub numbered : IsNumbered lists state.accept key
  pub accept : slice_get accepts look.accept ≡ Some key
  pub ways : AllZip (IsWay lists state.leave) state.edges look.ways.items
