-- What is asked of the scanners of a piece, and what is told of all of them.
use Rattle.std.specs.Prelude.{◌≡◌, ℕ, ◌+◌, ◌≤◌, Bool, All, List, [], ◌∷◌, Option, Some, None, IsSome}
use Rattle.std.specs.List.{AllByRecursion}
use Rattle.lx_auto.specs.Automaton.{IsAuto}
use Rattle.lx_auto.specs.declared.automaton.Edge.{Edge}
use Rattle.lx_auto.specs.declared.automaton.State.{State}
use Rattle.lx_dispatch.specs.Dispatch.{IsTable}
use Rattle.lx_layout.specs.Parts.{IsPartOf, Part, given_asked}

-- The marks and the trees of a scanner are right for units up to a greatest one, its automaton is well formed and reads no other units, a rule
-- stands at the end of its input only where a unit does, and the sets that are tested stand in a table.
pub record IsFormed (greatest : ℕ) (part : Part) : Type 0 where
  pub chosen : IsPartOf greatest part.given part
  pub auto : IsAuto part.given.auto
  pub units : All (λ (state : State). All (λ (edge : Edge). edge.hi ≤ greatest) state.edges) part.given.auto.states
  pub ends : IsSome part.given.end_rule → IsSome part.given.demand.eof
  pub table : IsTable part.given.demand.table

abbrev pub AreFormed : (greatest : ℕ) → List Part → Type 0
AreFormed greatest parts = AllByRecursion (IsFormed greatest) parts

-- the conditions of those scanners that have one, in order
abbrev pub with_cond : Option (List ℕ) → List (List ℕ) → List (List ℕ)
with_cond None conds = conds
with_cond (Some cond) conds = cond ∷ conds

abbrev pub conds_of : List Part → List (List ℕ)
conds_of [] = []
conds_of (part ∷ parts) = with_cond part.given.cond (conds_of parts)

-- how many states all scanners store, if they store any
abbrev pub all_asked : List Part → ℕ
all_asked [] = 0
all_asked (part ∷ parts) = given_asked part.given + all_asked parts

-- what reads is stored before a refill by all scanners, or by none
abbrev pub AllStore : (stores : Bool) → List Part → Type 0
AllStore stores parts = AllByRecursion (λ (part : Part). part.given.demand.stores ≡ stores) parts
