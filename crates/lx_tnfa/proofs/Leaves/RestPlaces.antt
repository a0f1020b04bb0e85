-- The residuals of a leaf are among those of its graph, so that they make places.
use Rattle.std.proofs.Common.{◌≡◌, ℕ, zero, suc, ◌<◌, ◌≤◌, ◌↔◌, arith, List, [], ◌∷◌, ◌++◌, length, refl, sym, ap, subst, Some}
use Rattle.std.proofs.lemmas.Bool.{false≢true}
use Rattle.std.specs.Option.{unwrap_or}
use Rattle.lx_base.specs.declared.settings.Enc.{Enc}
use Rattle.lx_encode.specs.Graph.{parts}
use Rattle.lx_encode.specs.Table.{step_of}
use Rattle.lx_regex.specs.Automaton as spec
use Rattle.lx_regex.specs.Automaton.{leaf, moves, unit_leaf}
use Rattle.lx_regex.specs.PartList.{set_of}
use Rattle.lx_regex.specs.Script.{Symbol}
use Rattle.lx_tnfa.specs.Classes.{AreClasses}
use Rattle.lx_tnfa.specs.LeafReadings.{IsNth}
use Rattle.lx_tnfa.specs.Live.{starts_at}
use Rattle.lx_tnfa.specs.PlaceNumbers.{class_starts, leaf_starts, rest_behind}
use Rattle.lx_tnfa.specs.Rows.{Represents}
use Rattle.lx_tnfa.specs.Tnfa.{FinishesRest, IsRest, Tnfa, rest_after, rows_at}
use Rattle.lx_tnfa.specs.declared.classes.ClassGraph.{ClassGraph}
use Rattle.lx_tnfa.specs.declared.states.State.{State}
use Rattle.lx_tnfa.specs.declared.states.State.TheVariants.{Moves, Class, AnyUnit}
use Rattle.lx_tnfa.proofs.Leaves.ClassStarts.{start_stands}
use Rattle.lx_tnfa.proofs.Leaves.LeafGraphs.{EndsBy, any_step, ends_finishes, ends_step, finishes_ends, no_end}
use Rattle.lx_tnfa.proofs.Leaves.LeafStarts.{class_graph}

-- a unit leads from a residual of a class to one of the same class
abbrev pub StepsStay : List ClassGraph → Type 0
StepsStay classes =
    (number rest unit next : ℕ) → rest < length (rows_at classes number) → step_of (rows_at classes number) rest unit ≡ Some next
    → next < length (rows_at classes number)

pub steps_stay : (enc : Enc) (classes : List ClassGraph) → AreClasses enc classes → StepsStay classes
steps_stay enc [] are number rest unit next lt e = absurd (omega arith)
steps_stay enc (class ∷ classes) are zero rest unit next lt e = are.0.within rest unit next lt e
steps_stay enc (class ∷ classes) are (suc number) rest unit next lt e = steps_stay enc classes are.1 number rest unit next lt e

any_ends : (classes : List ClassGraph) (rest : ℕ) (units : List ℕ) → rest ≤ 1 → EndsBy classes AnyUnit rest units ↔ (length units ≡ rest)
any_ends classes zero [] le = ((λ h. refl), (λ h. refl))
any_ends classes zero (unit ∷ units) le = ((λ h. absurd h), (λ h. absurd (omega arith)))
any_ends classes (suc zero) [] le = ((λ h. absurd (false≢true h)), (λ h. absurd (omega arith)))
any_ends classes (suc zero) (unit ∷ units) le =
    let later = any_ends classes zero units (omega arith) in
    ((λ h. let none : length units ≡ 0 = later.0 h in omega arith), (λ h. later.1 (omega arith)))
any_ends classes (suc (suc rest)) units le = absurd (omega arith)

-- the units that finish a place
pub rest_ends : (classes : List ClassGraph) (state : State) (part rest : ℕ) (units : List ℕ) → IsRest classes state part rest
    → EndsBy classes state rest units ↔ FinishesRest classes state rest units
rest_ends classes (Moves ways) part rest units is = ((λ h. no_end classes ways rest units h), (λ h. absurd h))
rest_ends classes (Class number) part rest units is = (ends_finishes classes number rest units, finishes_ends classes number rest units)
rest_ends classes AnyUnit part rest units is = any_ends classes rest units is

pub rest_stays : (classes : List ClassGraph) (state : State) (part rest unit next : ℕ) → StepsStay classes → IsRest classes state part rest
    → rest_after classes state rest unit ≡ Some next → IsRest classes state part next
rest_stays classes (Moves ways) part rest unit next stay is e = cc
rest_stays classes (Class number) part rest unit next stay is e = stay number rest unit next is e
rest_stays classes AnyUnit part rest unit next stay is e = let s = any_step rest unit next classes e in omega (arith, s.1)

pub behind_rest : (classes : List ClassGraph) (state : State) (part rest : ℕ) (units left : List ℕ) → StepsStay classes
    → IsRest classes state part rest → EndsBy classes state rest (units ++ left) → IsRest classes state part (rest_behind classes state rest units)
behind_rest classes state part rest [] left stay is ends = is
behind_rest classes state part rest (unit ∷ units) left stay is ends =
    let step = ends_step classes state rest unit (units ++ left) ends in
    subst (λ o. IsRest classes state part (rest_behind classes state (unwrap_or o 0) units)) (sym step.1)
    (behind_rest classes state part step.0 units left stay (rest_stays classes state part rest unit step.0 stay is step.1) step.2)

-- a start is one of them
pub start_rest : (tnfa : Tnfa) → AreClasses tnfa.enc tnfa.classes → (row : spec.State) (state : State) (part index rest : ℕ) (choice : List Symbol)
    → Represents tnfa.classes row state → IsNth (leaf_starts tnfa state) index (choice, rest) → IsRest tnfa.classes state part rest
start_rest tnfa are row (Moves ways) part index rest choice held nth = absurd nth
start_rest tnfa are (moves ways) (Class number) part index rest choice held nth = absurd held
start_rest tnfa are (leaf ranges) (Class number) part index rest choice held nth =
    let graph = class_graph tnfa.enc tnfa.classes number (set_of ranges) are held in
    (start_stands (rows_at tnfa.classes number) tnfa.enc (set_of ranges) graph.1.live (parts tnfa.enc) (starts_at tnfa.classes number) index
    (choice, rest) graph.1.starts
    (subst (λ s. IsNth (class_starts tnfa.enc s (parts tnfa.enc) (starts_at tnfa.classes number)) index (choice, rest)) graph.0 nth)).is.0
start_rest tnfa are unit_leaf (Class number) part index rest choice held nth = absurd held
start_rest tnfa are row AnyUnit part zero rest choice held nth =
    let same : 1 ≡ rest = ap (λ (s : List Symbol × ℕ). s.1) nth in omega arith
start_rest tnfa are row AnyUnit part (suc index) rest choice held nth = absurd nth
