-- Numbers for the places of an automaton: those of the states, and beyond them one for each residual and leaf.
use Rattle.std.specs.Prelude.{ℕ, zero, suc, ◌+◌, ◌*◌, ◌/◌, ◌%◌, max, min, List, [], ◌∷◌, ◌++◌, map, length, Bool, true, false, nat_eq, nat_le, if◌then◌else◌, slice_index, slice_index_or, filter_map, option_to_list}
use Rattle.std.specs.List.{list_any}
use Rattle.std.specs.Option.{option_map, unwrap_or}
use Rattle.lx_base.specs.declared.settings.Enc.{Enc}
use Rattle.lx_class.specs.declared.ranges.Range.{Range}
use Rattle.lx_encode.specs.Graph.{parts}
use Rattle.lx_encode.specs.Table.{row_of}
use Rattle.lx_encode.specs.declared.graph.Residual.{Residual}
use Rattle.lx_encode.specs.declared.runs.Run.{Run}
use Rattle.lx_regex.specs.Expr.{ranges_of}
use Rattle.lx_regex.specs.Script.{Symbol, choices, leaf_choice, reads, units}
use Rattle.lx_regex.specs.Walk.{mark}
use Rattle.lx_tnfa.specs.Live.{mark_at, starts_at, state_of}
use Rattle.lx_tnfa.specs.Tnfa.{Tnfa, rest_after, rows_at}
use Rattle.lx_tnfa.specs.declared.classes.ClassGraph.{ClassGraph}
use Rattle.lx_tnfa.specs.declared.states.State.{State}
use Rattle.lx_tnfa.specs.declared.states.State.TheVariants.{Moves, Class, AnyUnit}

-- no unit is left to be read
abbrev pub is_last : List Run → Bool
is_last [] = true
is_last (run ∷ runs) = false

-- a leaf is finished where this residual is left of it
abbrev pub is_finished : List ClassGraph → State → (rest : ℕ) → Bool
is_finished classes (Moves ways) rest = false
is_finished classes (Class number) rest = is_last (row_of (rows_at classes number) rest)
is_finished classes AnyUnit rest = nat_eq rest 0

-- the number of the place in a leaf at which this residual is left: behind a finished leaf that of the next state
abbrev pub place_number : Tnfa → (leaf rest : ℕ) → ℕ
place_number tnfa leaf rest =
    if is_finished tnfa.classes (state_of tnfa.states leaf) rest then leaf + 1 else suc rest * length tnfa.states + leaf

-- the set of the class with this number
abbrev pub set_at : List ClassGraph → ℕ → List Range
set_at classes number = slice_index_or (map (λ (class : ClassGraph). class.set) classes) number []

-- the set has a point of the part
abbrev pub has_point : List Range → (part : Range) → Bool
has_point set part = list_any (λ (range : Range). nat_le (max range.lo part.lo) (min range.hi part.hi)) set

-- The starts of a class, each with its choice, which is that of the points of its part. A part has a start where it has a point.
abbrev pub class_starts : Enc → List Range → (parts : List Range) → List Residual → List (List Symbol × ℕ)
class_starts enc set [] starts = []
class_starts enc set (part ∷ others) [] = []
class_starts enc set (part ∷ others) (start ∷ starts) =
    if has_point set part then (leaf_choice enc (ranges_of set) part.lo, start.0) ∷ class_starts enc set others starts
    else class_starts enc set others (start ∷ starts)

-- where a leaf begins: the choices, if there are any, and the residuals, in order
abbrev pub leaf_starts : Tnfa → State → List (List Symbol × ℕ)
leaf_starts tnfa (Moves ways) = []
leaf_starts tnfa (Class number) =
    class_starts tnfa.enc (set_at tnfa.classes number) (parts tnfa.enc) (starts_at tnfa.classes number)
leaf_starts tnfa AnyUnit = ([], 1) ∷ []

-- the ways in which a leaf reads a first unit: their choices, and the residuals to which they lead
abbrev pub ways_to_read : Tnfa → State → (unit : ℕ) → List (List Symbol × ℕ)
ways_to_read tnfa state unit =
    filter_map (λ (start : List Symbol × ℕ). option_map (λ rest. (start.0, rest)) (rest_after tnfa.classes state start.1 unit)) (leaf_starts tnfa state)

-- the numbers after a unit, from a state, of which an end must be in reach behind the leaf; or from a residual of a leaf
abbrev pub numbers_from : Tnfa → (turn leaf unit : ℕ) → List ℕ
numbers_from tnfa zero leaf unit =
    if mark_at tnfa.live (leaf + 1)
    then map (λ (way : List Symbol × ℕ). place_number tnfa leaf way.1) (ways_to_read tnfa (state_of tnfa.states leaf) unit) else []
numbers_from tnfa (suc rest) leaf unit =
    map (place_number tnfa leaf) (option_to_list (rest_after tnfa.classes (state_of tnfa.states leaf) rest unit))

-- the numbers of the places after a number and a unit
abbrev pub numbers_after : Tnfa → (number unit : ℕ) → List ℕ
numbers_after tnfa number unit = numbers_from tnfa (number / length tnfa.states) (number % length tnfa.states) unit

-- the symbols that a way to one of them adds
abbrev pub symbols_from : Tnfa → (turn leaf unit index : ℕ) → List Symbol
symbols_from tnfa zero leaf unit index =
    mark leaf ∷ ((slice_index_or (ways_to_read tnfa (state_of tnfa.states leaf) unit) index ([], 0)).0 ++ reads unit ∷ [])
symbols_from tnfa (suc rest) leaf unit index = reads unit ∷ []

abbrev pub symbols_added : Tnfa → (number unit index : ℕ) → List Symbol
symbols_added tnfa number unit index = symbols_from tnfa (number / length tnfa.states) (number % length tnfa.states) unit index

-- the start with the choices that were picked
abbrev pub start_picked : List (List Symbol × ℕ) → (picked : List ℕ) → ℕ
start_picked [] picked = 0
start_picked (start ∷ starts) picked =
    if nat_eq (slice_index (choices start.0) 0) (slice_index picked 0) then start.1 else start_picked starts picked

-- the residual behind more units
abbrev pub rest_behind : List ClassGraph → State → (rest : ℕ) → List ℕ → ℕ
rest_behind classes state rest [] = rest
rest_behind classes state rest (unit ∷ units) = rest_behind classes state (unwrap_or (rest_after classes state rest unit) 0) units

-- the residual behind what was read in a leaf
abbrev pub rest_left : Tnfa → (leaf : ℕ) → List Symbol → ℕ
rest_left tnfa leaf symbols =
    rest_behind tnfa.classes (state_of tnfa.states leaf) (start_picked (leaf_starts tnfa (state_of tnfa.states leaf)) (choices symbols)) (units symbols)

-- the number of the place behind what was read in a leaf
abbrev pub number_behind : Tnfa → (leaf : ℕ) → List Symbol → ℕ
number_behind tnfa leaf symbols = place_number tnfa leaf (rest_left tnfa leaf symbols)
