-- What units leave of a leaf: the lists that finish a residual, and the residual behind units.
use Rattle.std.proofs.Common.{◌≡◌, ℕ, zero, suc, ◌<◌, ◌↔◌, arith, Bool, true, false, List, [], ◌∷◌, ◌++◌, length, refl, sym, ap, ◌∙◌, subst, Some, None, ⊎_elim}
use Rattle.std.proofs.lemmas.Bool.{cases_lt, eqb-true, false≢true}
use Rattle.std.proofs.lemmas.List.{get_or_past}
use Rattle.std.specs.Option.{unwrap_or}
use Rattle.std.specs.Prelude.{IsSomeAnd, Option, nat_eq, if◌then◌else◌}
use Rattle.lx_base.specs.declared.settings.Enc.{Enc}
use Rattle.lx_encode.specs.Runs.{target_of}
use Rattle.lx_encode.specs.Table.{Finishes, row_of}
use Rattle.lx_encode.specs.declared.runs.Run.{Run}
use Rattle.lx_tnfa.specs.Classes.{AreClasses}
use Rattle.lx_tnfa.specs.PlaceNumbers.{is_finished, is_last, rest_behind}
use Rattle.lx_tnfa.specs.Tnfa.{rest_after, rows_at}
use Rattle.lx_tnfa.specs.declared.classes.ClassGraph.{ClassGraph}
use Rattle.lx_tnfa.specs.declared.states.State.{State}
use Rattle.lx_tnfa.specs.declared.states.State.TheVariants.{Moves, Class, AnyUnit}
use Rattle.lx_tnfa.proofs.Leaves.OnePlace.{graph_same}

-- the units finish the leaf from the residual, unit by unit
abbrev pub EndsBy : List ClassGraph → State → (rest : ℕ) → List ℕ → Type 0
EndsBy classes state rest [] = is_finished classes state rest ≡ true
EndsBy classes state rest (unit ∷ units) = IsSomeAnd (rest_after classes state rest unit) (λ next. EndsBy classes state next units)

some_and : (o : Option ℕ) (P Q : ℕ → Type 0) → ((n : ℕ) → P n → Q n) → IsSomeAnd o P → IsSomeAnd o Q
some_and None P Q f h = h
some_and (Some n) P Q f h = f n h

last_is : (runs : List Run) → is_last runs ≡ true → runs ≡ []
last_is [] e = refl
last_is (run ∷ runs) e = absurd (false≢true e)

-- in a class these are the units that finish the residual of its graph
pub ends_finishes : (classes : List ClassGraph) (number rest : ℕ) (units : List ℕ) → EndsBy classes (Class number) rest units
    → Finishes (rows_at classes number) rest units
ends_finishes classes number rest [] h = last_is (row_of (rows_at classes number) rest) h
ends_finishes classes number rest (unit ∷ units) h =
    some_and (rest_after classes (Class number) rest unit) (λ next. EndsBy classes (Class number) next units)
    (λ next. Finishes (rows_at classes number) next units) (λ next k. ends_finishes classes number next units k) h

pub finishes_ends : (classes : List ClassGraph) (number rest : ℕ) (units : List ℕ) → Finishes (rows_at classes number) rest units
    → EndsBy classes (Class number) rest units
finishes_ends classes number rest [] h = ap is_last h
finishes_ends classes number rest (unit ∷ units) h =
    some_and (rest_after classes (Class number) rest unit) (λ next. Finishes (rows_at classes number) next units)
    (λ next. EndsBy classes (Class number) next units) (λ next k. finishes_ends classes number next units k) h

pub ends_step : (classes : List ClassGraph) (state : State) (rest unit : ℕ) (units : List ℕ) → EndsBy classes state rest (unit ∷ units)
    → (next : ℕ) × (rest_after classes state rest unit ≡ Some next) × EndsBy classes state next units
ends_step classes state rest unit units h = at (rest_after classes state rest unit) h
  where
    at : (o : Option ℕ) → IsSomeAnd o (λ next. EndsBy classes state next units)
        → (next : ℕ) × (o ≡ Some next) × EndsBy classes state next units
    at None h = absurd h
    at (Some next) h = (next, refl, h)

pub step_ends : (classes : List ClassGraph) (state : State) (rest unit : ℕ) (units : List ℕ) (next : ℕ)
    → rest_after classes state rest unit ≡ Some next → EndsBy classes state next units → EndsBy classes state rest (unit ∷ units)
step_ends classes state rest unit units next e h = subst (λ o. IsSomeAnd o (λ next. EndsBy classes state next units)) (sym e) h

-- in a leaf that reads any unit only residual 1 goes on, to 0
pub any_step : (rest unit next : ℕ) (classes : List ClassGraph) → rest_after classes AnyUnit rest unit ≡ Some next → (rest ≡ 1) × (next ≡ 0)
any_step rest unit next classes e = at (nat_eq rest 1) refl e
  where
    at : (b : Bool) → nat_eq rest 1 ≡ b → (if b then Some 0 else None) ≡ Some next → (rest ≡ 1) × (next ≡ 0)
    at true s e = (eqb-true rest 1 s, cc)
    at false s e = cc

-- what goes on is not finished
pub goes_unfinished : (classes : List ClassGraph) (state : State) (rest unit next : ℕ) → rest_after classes state rest unit ≡ Some next
    → is_finished classes state rest ≡ false
goes_unfinished classes (Moves ways) rest unit next e = refl
goes_unfinished classes (Class number) rest unit next e = at (row_of (rows_at classes number) rest) e
  where
    at : (runs : List Run) → target_of runs unit ≡ Some next → is_last runs ≡ false
    at [] e = cc
    at (run ∷ runs) e = refl
goes_unfinished classes AnyUnit rest unit next e = ap (λ n. nat_eq n 0) (any_step rest unit next classes e).0

-- no unit finishes what is finished
pub finished_only : (classes : List ClassGraph) (state : State) (rest : ℕ) (units : List ℕ) → is_finished classes state rest ≡ true
    → EndsBy classes state rest units → units ≡ []
finished_only classes state rest [] e h = refl
finished_only classes state rest (unit ∷ units) e h =
    let s = ends_step classes state rest unit units h in
    absurd (false≢true (sym (goes_unfinished classes state rest unit s.0 s.1) ∙ e))

graph_live : (enc : Enc) (classes : List ClassGraph) (number rest : ℕ) → AreClasses enc classes → rest < length (rows_at classes number)
    → (units : List ℕ) × Finishes (rows_at classes number) rest units
graph_live enc [] number rest are lt = absurd (omega arith)
graph_live enc (class ∷ classes) zero rest are lt = are.0.live rest lt
graph_live enc (class ∷ classes) (suc number) rest are lt = graph_live enc classes number rest are.1 lt

-- some units finish what a unit leaves
pub some_finish : (enc : Enc) (classes : List ClassGraph) (state : State) (rest unit next : ℕ) → AreClasses enc classes
    → rest_after classes state rest unit ≡ Some next → (units : List ℕ) × EndsBy classes state next units
some_finish enc classes (Moves ways) rest unit next are e = cc
some_finish enc classes (Class number) rest unit next are e =
    ⊎_elim
    (λ lt. let live = graph_live enc classes number next are lt in (live.0, finishes_ends classes number next live.0 live.1))
    (λ le. ([], ap is_last (get_or_past (rows_at classes number) next [] le)))
    (cases_lt next (length (rows_at classes number)))
some_finish enc classes AnyUnit rest unit next are e = ([], ap (λ n. nat_eq n 0) (any_step rest unit next classes e).1)

unfinished_within : (classes : List ClassGraph) (number rest : ℕ) → is_finished classes (Class number) rest ≡ false
    → rest < length (rows_at classes number)
unfinished_within classes number rest e =
    ⊎_elim (λ lt. lt) (λ le. absurd (false≢true (sym e ∙ ap is_last (get_or_past (rows_at classes number) rest [] le))))
    (cases_lt rest (length (rows_at classes number)))

any_unfinished : (classes : List ClassGraph) (rest : ℕ) (units : List ℕ) → is_finished classes AnyUnit rest ≡ false
    → EndsBy classes AnyUnit rest units → rest ≡ 1
any_unfinished classes rest [] e h = absurd (false≢true (sym e ∙ h))
any_unfinished classes rest (unit ∷ units) e h =
    let s = ends_step classes AnyUnit rest unit units h in (any_step rest unit s.0 classes s.1).0

pub no_end : (classes : List ClassGraph) (ways : _) (rest : ℕ) (units : List ℕ) → EndsBy classes (Moves ways) rest units → ⊥
no_end classes ways rest [] h = false≢true h
no_end classes ways rest (unit ∷ units) h = h

-- residuals that are not finished, and that the same units finish, are equal
pub residuals_same : (enc : Enc) (classes : List ClassGraph) (state : State) (rest other : ℕ) (units others : List ℕ) → AreClasses enc classes
    → is_finished classes state rest ≡ false → is_finished classes state other ≡ false → EndsBy classes state rest units
    → EndsBy classes state other others → ((left : List ℕ) → EndsBy classes state rest left ↔ EndsBy classes state other left) → rest ≡ other
residuals_same enc classes (Moves ways) rest other units others are e f h k same = absurd (no_end classes ways rest units h)
residuals_same enc classes (Class number) rest other units others are e f h k same =
    graph_same enc classes number rest other are (unfinished_within classes number rest e) (unfinished_within classes number other f)
    (λ left. (
      (λ a. ends_finishes classes number other left ((same left).0 (finishes_ends classes number rest left a))),
      (λ b. ends_finishes classes number rest left ((same left).1 (finishes_ends classes number other left b))),
    ))
residuals_same enc classes AnyUnit rest other units others are e f h k same =
    any_unfinished classes rest units e h ∙ sym (any_unfinished classes other others f k)

-- what is left behind units is what they leave of the lists that they begin
pub ends_behind : (classes : List ClassGraph) (state : State) (rest : ℕ) (units left : List ℕ) → EndsBy classes state rest (units ++ left)
    → EndsBy classes state (rest_behind classes state rest units) left
ends_behind classes state rest [] left h = h
ends_behind classes state rest (unit ∷ units) left h =
    let s = ends_step classes state rest unit (units ++ left) h in
    subst (λ o. EndsBy classes state (rest_behind classes state (unwrap_or o 0) units) left) (sym s.1)
    (ends_behind classes state s.0 units left s.2)

pub behind_ends : (classes : List ClassGraph) (state : State) (rest : ℕ) (units left known : List ℕ) → EndsBy classes state rest (units ++ known)
    → EndsBy classes state (rest_behind classes state rest units) left → EndsBy classes state rest (units ++ left)
behind_ends classes state rest [] left known k h = h
behind_ends classes state rest (unit ∷ units) left known k h =
    let s = ends_step classes state rest unit (units ++ known) k in
    step_ends classes state rest unit (units ++ left) s.0 s.1
    (behind_ends classes state s.0 units left known s.2
    (subst (λ o. EndsBy classes state (rest_behind classes state (unwrap_or o 0) units) left) s.1 h))

pub rest_behind-more : (classes : List ClassGraph) (state : State) (rest : ℕ) (units : List ℕ) (unit : ℕ)
    → rest_behind classes state rest (units ++ unit ∷ []) ≡ unwrap_or (rest_after classes state (rest_behind classes state rest units) unit) 0
rest_behind-more classes state rest [] unit = refl
rest_behind-more classes state rest (first ∷ units) unit =
    rest_behind-more classes state (unwrap_or (rest_after classes state rest first) 0) units unit
