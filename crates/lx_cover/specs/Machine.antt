-- Where a machine stands in the run of an automaton, and where the run on a word stops.
use Rattle.std.specs.Prelude.{◌≡◌, ℕ, ◌<◌, List, [], ◌∷◌, Option, Some, None, length, map}
use Rattle.lx_auto.specs.Automaton.{AreOps, state_of}
use Rattle.lx_auto.specs.Run as run_of
use Rattle.lx_auto.specs.Run.{Standing, step}
use Rattle.lx_auto.specs.declared.automaton.Accept.{Accept}
use Rattle.lx_auto.specs.declared.automaton.Auto.{Auto}
use Rattle.lx_auto.specs.declared.automaton.Edge.{Edge}
use Rattle.lx_tdfa.specs.Promise.{tag_value}
use Rattle.lx_cover.specs.Matches.{value_of}
use Rattle.lx_cover.specs.Registers.{HasAll, bank_of}
use Rattle.lx_cover.specs.declared.machine.LastLeft.{LastLeft}
use Rattle.lx_cover.specs.declared.machine.Machine.{Machine}
use Rattle.lx_cover.specs.declared.machine.Taken.{Taken}

-- a state that was left, by what it accepts
abbrev pub left_by : LastLeft → Option Accept → Option run_of.Left
left_by left None = None
left_by left (Some accept) = Some (record { state = left.state; accept = accept; offset = left.offset })

-- the same of the one that was left last, if there is one
abbrev pub left_of : Auto → Option LastLeft → Option run_of.Left
left_of auto None = None
left_of auto (Some left) = left_by left (state_of auto.states left.state).accept

-- where the machine stands
abbrev pub standing_of : Auto → Machine → Standing
standing_of auto machine = record {
  state = machine.state;
  offset = machine.offset;
  bank = bank_of machine.registers;
  left = left_of auto machine.left;
}

-- the state that was left last, if there is one, is one of the automaton's
abbrev pub IsLeftWithin : Auto → Option LastLeft → Type 0
IsLeftWithin auto None = Unit {0}
IsLeftWithin auto (Some left) = left.state < length auto.states

-- the machine is one of the automaton: its states are there, and so are the registers
pub record IsMachineOf (auto : Auto) (machine : Machine) : Type 0 where
  pub within : machine.state < length auto.states
  pub registers : HasAll auto machine.registers
  pub left : IsLeftWithin auto machine.left

-- the machine stands so in a run of the automaton
pub record Stands (auto : Auto) (standing : Standing) (machine : Machine) : Type 0 where
  pub is_of : IsMachineOf auto machine
  pub stands : standing_of auto machine ≡ standing

-- the edge leads to a state that is there, by operations on registers that are there
pub record LeadsWithin (auto : Auto) (edge : Edge) : Type 0 where
  pub target : edge.to < length auto.states
  pub ops : AreOps auto.regs auto.mregs edge.ops

-- on from the next standing, or here where there is none
abbrev pub or_here : Standing → Option Standing → (Standing → Standing) → Standing
or_here standing None onward = standing
or_here standing (Some next) onward = onward next

-- where a run stands that goes on while there is an edge on the next unit
abbrev pub last_standing : Auto → Standing → (word : List ℕ) → Standing
last_standing auto standing [] = standing
last_standing auto standing (unit ∷ word) = or_here standing (step auto standing unit) (λ next. last_standing auto next word)

-- what is taken is the match that is found, with the values of its tags
abbrev pub IsTaken : Option run_of.Found → Option Taken → Type 0
IsTaken None None = Unit {0}
IsTaken None (Some taken) = ⊥
IsTaken (Some found) None = ⊥
IsTaken (Some found) (Some taken) =
    (taken.rule ≡ found.rule) × (taken.offset ≡ found.offset) × (map value_of taken.values ≡ map tag_value found.values)
