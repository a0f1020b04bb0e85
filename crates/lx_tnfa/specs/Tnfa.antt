-- What contracts see of an automaton, its places, and how a unit moves one on.
use Rattle.std.specs.Prelude.{◌≡◌, ℕ, ◌+◌, ◌*◌, ◌<◌, ◌≤◌, max, List, [], ◌∷◌, map, length, Option, Some, None, Bool, slice_index_or, nat_eq, if◌then◌else◌}
use Rattle.std.specs.Option.{option_map}
use Rattle.lx_base.specs.declared.settings.Enc.{Enc}
use Rattle.lx_encode.specs.Table.{Rows, Finishes, step_of}
use Rattle.lx_encode.specs.Graph.{numbered}
use Rattle.lx_regex.specs.Automaton.{automaton}
use Rattle.lx_regex.specs.Parts.{Part, parts_of}
use Rattle.lx_regex.specs.Pattern.{Pattern, sorts_of, terms_of}
use Rattle.lx_regex.specs.Term.{Term, parts}
use Rattle.lx_tnfa.specs.Classes.{AreClasses}
use Rattle.lx_tnfa.specs.Live.{AreLive}
use Rattle.lx_tnfa.specs.Rows.{RepresentEach}
use Rattle.lx_tnfa.specs.declared.classes.ClassGraph.{ClassGraph}
use Rattle.lx_tnfa.specs.declared.places.Place.{Place}
use Rattle.lx_tnfa.specs.declared.states.State.{State}
use Rattle.lx_tnfa.specs.declared.states.State.TheVariants.{Moves, Class, AnyUnit}

-- An automaton: its encoding, its states, the classes of their leaves with their graphs, for each part the number of its rule,
-- for each rule its number and of each of its tags whether it is an m-tag, the beginnings of rules, and of each state whether an
-- end can be reached from it.
pub record Tnfa : Type 0 where
  pub enc : Enc
  pub states : List State
  pub classes : List ClassGraph
  pub owners : List ℕ
  pub rules : List (ℕ × List Bool)
  pub begins : List ℕ
  pub live : List Bool

-- the rows of the graph of the class with this number
abbrev pub rows_at : List ClassGraph → ℕ → Rows
rows_at classes number = slice_index_or (map (λ (class : ClassGraph). class.graph.rows) classes) number []

-- the state at the beginning of the part of a place
abbrev pub state_at : Tnfa → Place → State
state_at tnfa place = slice_index_or tnfa.states (2 * place.part) (Moves [])

-- a residual of a leaf; a part that is no leaf has none but that of the start
abbrev pub IsRest : List ClassGraph → State → (part rest : ℕ) → Type 0
IsRest classes (Moves ways) part rest = (part ≡ 0) × (rest ≡ 0)
IsRest classes (Class number) part rest = rest < length (rows_at classes number)
IsRest classes AnyUnit part rest = rest ≤ 1

-- the place is one of the automaton: the start, or one in a leaf
pub record IsPlace (tnfa : Tnfa) (place : Place) : Type 0 where
  pub part : 2 * place.part < length tnfa.states
  pub rest : IsRest tnfa.classes (state_at tnfa place) place.part place.rest.0

-- where a unit leads from a residual of a leaf; where it reads any unit, one is left before its unit and none behind it
abbrev pub rest_after : List ClassGraph → State → (rest unit : ℕ) → Option ℕ
rest_after classes (Moves ways) rest unit = None
rest_after classes (Class number) rest unit = step_of (rows_at classes number) rest unit
rest_after classes AnyUnit rest unit = if nat_eq rest 1 then Some 0 else None

-- the place in the same leaf after one more unit
abbrev pub place_after : Tnfa → Place → (unit : ℕ) → Option Place
place_after tnfa place unit =
    option_map (λ rest. record { part = place.part; rest = numbered rest }) (rest_after tnfa.classes (state_at tnfa place) place.rest.0 unit)

-- the units finish a leaf from a residual
abbrev pub FinishesRest : List ClassGraph → State → (rest : ℕ) → List ℕ → Type 0
FinishesRest classes (Moves ways) rest units = ⊥
FinishesRest classes (Class number) rest units = Finishes (rows_at classes number) rest units
FinishesRest classes AnyUnit rest units = length units ≡ rest

-- the units finish the leaf of a place
abbrev pub FinishesPlace : Tnfa → Place → List ℕ → Type 0
FinishesPlace tnfa place units = FinishesRest tnfa.classes (state_at tnfa place) place.rest.0 units

-- of each tag of the rule with this number, whether it is an m-tag
abbrev pub kinds_for : List (ℕ × List Bool) → (number : ℕ) → Option (List Bool)
kinds_for [] number = None
kinds_for (rule ∷ rules) number = if nat_eq rule.0 number then Some rule.1 else kinds_for rules number

-- the most tags that a rule has
abbrev pub most_tags : List (ℕ × List Bool) → ℕ
most_tags [] = 0
most_tags (rule ∷ rules) = max (length rule.1) (most_tags rules)

-- each class that a state names is there
abbrev pub IsNumbered : (count : ℕ) → State → Type 0
IsNumbered count (Moves ways) = Unit {0}
IsNumbered count (Class number) = number < count
IsNumbered count AnyUnit = Unit {0}

abbrev pub AreNumbered : (count : ℕ) → List State → Type 0
AreNumbered count [] = Unit {0}
AreNumbered count (state ∷ states) = IsNumbered count state × AreNumbered count states

-- the state is no leaf
abbrev pub HasMoves : State → Type 0
HasMoves (Moves ways) = Unit {0}
HasMoves (Class number) = ⊥
HasMoves AnyUnit = ⊥

-- no end of a part is a leaf: leaves stand at even numbers only
abbrev pub NoEndIsLeaf : List State → Type 0
NoEndIsLeaf [] = Unit {0}
NoEndIsLeaf (state ∷ []) = Unit {0}
NoEndIsLeaf (state ∷ last ∷ states) = HasMoves last × NoEndIsLeaf states

-- leaves stand at the beginnings of parts, and each graph is that of its class
unfoldable pub IsFormed : Enc → List ClassGraph → List State → Type 0
IsFormed enc classes states = NoEndIsLeaf states × AreClasses enc classes

-- the states at the beginnings of rules, of which the first is this part
abbrev pub beginnings_from : List Term → (part : ℕ) → List ℕ
beginnings_from [] part = []
beginnings_from (e ∷ rules) part = 2 * part ∷ beginnings_from rules (part + parts e)

-- the automaton of a rule list
pub record IsTnfaOf (encoding : Enc) (patterns : List Pattern) (tnfa : Tnfa) : Type 0 where
  pub enc : tnfa.enc ≡ encoding
  pub states : RepresentEach tnfa.classes (automaton (terms_of patterns)) tnfa.states
  pub classes : AreClasses encoding tnfa.classes
  pub owners : tnfa.owners ≡ map (λ (part : Part). part.rule) (parts_of patterns)
  pub rules : tnfa.rules ≡ map (λ (pattern : Pattern). (pattern.number, sorts_of pattern)) patterns
  pub begins : tnfa.begins ≡ beginnings_from (terms_of patterns) 1
  pub marks : length tnfa.live ≡ length tnfa.states
  pub live : AreLive tnfa.classes tnfa.states tnfa.live
