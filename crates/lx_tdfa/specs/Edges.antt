-- Edges that do the same, and the units between cuts.
use Rattle.std.specs.Prelude.{◌≡◌, ℕ, suc, ◌+◌, ◌<◌, ◌≤◌, List, [], ◌∷◌, Option, Some, None, Bool, map, slice_get}
use Rattle.std.specs.Option.{option_map}
use Rattle.lx_auto.specs.Automaton.{AreApart, edge_on}
use Rattle.lx_auto.specs.declared.automaton.Edge.{Edge}
use Rattle.lx_auto.specs.declared.ops.Op.{Op}
use Rattle.lx_encode.specs.Graph.{NoneBetween}
use Rattle.lx_tnfa.specs.Tnfa.{Tnfa}
use Rattle.lx_tnfa.specs.declared.closure.Reach.{Reach}
use Rattle.lx_tdfa.specs.Steps.{step_on}
use Rattle.lx_tdfa.specs.Table.{IsEdgeOf, Onward}

-- where the edge on a unit leads, and its operations
abbrev pub effect_on : List Edge → (unit : ℕ) → Option (ℕ × List Op)
effect_on edges unit = option_map (λ (edge : Edge). (edge.to, edge.ops)) (edge_on edges unit)

-- no unit is above the bound
abbrev pub EndBy : (bound : ℕ) → List Edge → Type 0
EndBy bound [] = Unit {0}
EndBy bound (edge ∷ edges) = (edge.hi ≤ bound) × EndBy bound edges

-- all units are below the bound
abbrev pub StartBelow : (bound : ℕ) → List Edge → Type 0
StartBelow bound [] = Unit {0}
StartBelow bound (edge ∷ edges) = (edge.hi < bound) × StartBelow bound edges

-- the second edge has the units that follow those of the first, and does the same
pub record GoesOn (edge next : Edge) : Type 0 where
  pub units : edge.hi + 1 ≡ next.lo
  pub to : edge.to ≡ next.to
  pub ops : edge.ops ≡ next.ops

-- edges with the same effect on each unit, apart from one another, and none goes further
pub record AreSameEdges (edges other : List Edge) : Type 0 where
  pub apart : AreApart other
  pub effects : (unit : ℕ) → effect_on other unit ≡ effect_on edges unit
  pub ends : (bound : ℕ) → EndBy bound edges → EndBy bound other

-- the unit stands before the cut with this index, if there is one
abbrev pub StandsBefore : Option ℕ → (unit : ℕ) → Type 0
StandsBefore None unit = Unit {0}
StandsBefore (Some cut) unit = unit < cut

-- between cuts each target goes on over each unit in the same way
abbrev pub CutSteps : Tnfa → List Reach → (cuts : List ℕ) → Type 0
CutSteps tnfa reaches cuts = (first second : ℕ) → first ≤ second → NoneBetween first second cuts
    → map (step_on tnfa first) reaches ≡ map (step_on tnfa second) reaches

-- each cut is at most the next
abbrev pub IsAscending : (cuts : List ℕ) → Type 0
IsAscending cuts = (index other : ℕ) (cut next : ℕ) → index ≤ other → slice_get cuts index ≡ Some cut → slice_get cuts other ≡ Some next → cut ≤ next

-- the units from a cut to the last one, which is at most the greatest: then the next cut comes, or no unit
pub record IsRangeEnd (cuts : List ℕ) (index greatest last : ℕ) : Type 0 where
  pub cut : ℕ
  pub first : slice_get cuts index ≡ Some cut
  pub some : cut ≤ last
  pub within : last ≤ greatest
  pub before : StandsBefore (slice_get cuts (suc index)) last
  pub all : (unit : ℕ) → unit ≤ greatest → StandsBefore (slice_get cuts (suc index)) unit → unit ≤ last

-- no unit up to the greatest stands between a cut and the next one
abbrev pub IsRangeEmpty : (cuts : List ℕ) → (index greatest : ℕ) → Type 0
IsRangeEmpty cuts index greatest = (unit : ℕ) → unit ≤ greatest → StandsBefore (slice_get cuts (suc index)) unit
    → StandsBefore (slice_get cuts index) unit

-- between cuts a state goes on over each unit in the same way
abbrev pub GoesOnAlike : {K : Type 0} → Onward K → (cuts : List ℕ) → Type 0
GoesOnAlike onward cuts = (first second : ℕ) → first ≤ second → NoneBetween first second cuts
    → (onward.steps first ≡ onward.steps second) × (onward.next first ≡ onward.next second)

-- the edges for the units up to the greatest that stand before a cut
pub record AreEdgesBefore {K : Type 0} (tnfa : Tnfa) (greatest : ℕ) (kernels : List K) (first : Bool) (onward : Onward K) (cut : Option ℕ) (edges : List Edge) : Type 0 where
  pub apart : AreApart edges
  pub before : (bound : ℕ) → cut ≡ Some bound → StartBelow bound edges
  pub units : EndBy greatest edges
  pub right : (unit : ℕ) → unit ≤ greatest → StandsBefore cut unit
      → IsEdgeOf tnfa kernels first (onward.steps unit) (onward.next unit) (edge_on edges unit)
