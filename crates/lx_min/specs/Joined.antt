-- Edges as steps to classes, where neighbours that do the same are one.
use Rattle.std.specs.Prelude.{ℕ, ◌+◌, List, [], ◌∷◌, Bool, nat_eq, ◌&&◌, if◌then◌else◌, slice_index_or}
use Rattle.lx_min.specs.declared.joined.Step.{Step}
use Rattle.lx_min.specs.declared.looks.Way.{Way}

-- the class of a state, or 0 where there is no such state
abbrev pub class_in : (classes : List ℕ) → (state : ℕ) → ℕ
class_in classes state = slice_index_or classes state 0

-- an edge, by the class of each state
abbrev pub step_of : (class : ℕ → ℕ) → Way → Step
step_of class way = record { lo = way.lo; hi = way.hi; leave = way.leave; ops = way.ops; class = class way.to }

-- the second step begins where the first one ends, and does the same
abbrev pub continues : Step → Step → Bool
continues step next =
    nat_eq (step.hi + 1) next.lo && nat_eq step.leave next.leave && nat_eq step.ops next.ops && nat_eq step.class next.class

-- a step before others: it is one with the first of them if that continues it
abbrev pub joined_to : Step → List Step → List Step
joined_to step [] = step ∷ []
joined_to step (next ∷ steps) = if continues step next then record next { lo = step.lo } ∷ steps else step ∷ next ∷ steps

-- steps in order, where neighbours that do the same are one
abbrev pub joined : List Step → List Step
joined [] = []
joined (step ∷ steps) = joined_to step (joined steps)
