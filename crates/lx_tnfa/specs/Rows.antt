-- How the program's states stand for those of an automaton.
use Rattle.std.specs.Prelude.{◌≡◌, ℕ, ◌+◌, ◌*◌, ◌^◌, ◌<◌, ◌≤◌, List, [], ◌∷◌, ◌++◌, map, length}
use Rattle.lx_base.specs.declared.settings.Enc.{Enc}
use Rattle.lx_regex.specs.Automaton as spec
use Rattle.lx_regex.specs.Automaton.{moves, leaf, unit_leaf}
use Rattle.lx_regex.specs.ClassLimits.{ClassesFit, ClassesFitAmong}
use Rattle.lx_regex.specs.PartList.{set_of}
use Rattle.lx_regex.specs.Term.{Term, Terms}
use Rattle.lx_tnfa.specs.Classes.{AreClasses, HasClass}
use Rattle.lx_tnfa.specs.Ends.{EndsFit, EndsFitAmong}
use Rattle.lx_tnfa.specs.Moves.{shown_move}
use Rattle.lx_tnfa.specs.declared.building.Building.{Building}
use Rattle.lx_tnfa.specs.declared.classes.ClassGraph.{ClassGraph}
use Rattle.lx_tnfa.specs.declared.states.State.{State}
use Rattle.lx_tnfa.specs.declared.states.State.TheVariants.{Moves, Class, AnyUnit}

-- the program's state stands for one of the definition: by the same moves, or for a leaf by the number of its class
abbrev pub Represents : List ClassGraph → spec.State → State → Type 0
Represents classes (moves ways) (Moves held) = held ≡ map shown_move ways
Represents classes (moves ways) (Class number) = ⊥
Represents classes (moves ways) AnyUnit = ⊥
Represents classes (leaf ranges) (Moves held) = ⊥
Represents classes (leaf ranges) (Class number) = HasClass classes number (set_of ranges)
Represents classes (leaf ranges) AnyUnit = ⊥
Represents classes unit_leaf (Moves held) = ⊥
Represents classes unit_leaf (Class number) = ⊥
Represents classes unit_leaf AnyUnit = Unit {0}

-- the same of states one by one
abbrev pub RepresentEach : List ClassGraph → List spec.State → List State → Type 0
RepresentEach classes [] [] = Unit {0}
RepresentEach classes [] (state ∷ states) = ⊥
RepresentEach classes (row ∷ rows) [] = ⊥
RepresentEach classes (row ∷ rows) (state ∷ states) = Represents classes row state × RepresentEach classes rows states

-- a term of which the states can be built: its group ends have 32 bits, and its classes fit the encoding
abbrev pub IsBuildable : Enc → Term → Type 0
IsBuildable enc e = EndsFit e × ClassesFit enc e

abbrev pub AreBuildable : Enc → Terms → Type 0
AreBuildable enc members = EndsFitAmong members × ClassesFitAmong enc members

-- so many parts can be built from this part on
pub record HasRoom (building : Building) (part count : ℕ) : Type 0 where
  pub parts : part + count < 2 ^ 31
  pub classes : length building.classes.list.items ≤ part
  pub are_classes : AreClasses building.classes.enc building.classes.list.items

-- these states came to those that were there
pub record Builds (old new : Building) (rows : List spec.State) : Type 0 where
  pub enc : new.classes.enc ≡ old.classes.enc
  pub are_classes : AreClasses new.classes.enc new.classes.list.items
  pub later : List ClassGraph
  pub classes : new.classes.list.items ≡ old.classes.list.items ++ later
  pub few : 2 * length later ≤ length rows
  pub more : List State
  pub states : new.states.items ≡ old.states.items ++ more
  pub held : RepresentEach new.classes.list.items rows more
