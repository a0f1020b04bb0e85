-- Numbers tell places in leaves apart.
use Rattle.std.proofs.Common.{ap, ap₂, sym, ◌∙◌, subst, arith, length-append}
use Rattle.std.proofs.lemmas.Bool.{eqb-true}
use Rattle.std.specs.Prelude.{◌≡◌, ◌↔◌, ℕ, suc, ◌+◌, ◌*◌, ◌<◌, List, [], ◌∷◌, length, IsSomeAnd, Bool, true, false, refl}
use Rattle.lx_base.specs.declared.settings.Enc.{Enc}
use Rattle.lx_encode.specs.Runs.{target_of}
use Rattle.lx_encode.specs.Table.{Finishes, Rows, row_of}
use Rattle.lx_encode.specs.declared.runs.Run.{Run}
use Rattle.lx_regex.specs.Automaton as spec
use Rattle.lx_regex.specs.Automaton.{automaton, final, rules_table, table}
use Rattle.lx_regex.specs.Pattern.{Pattern, terms_of}
use Rattle.lx_regex.specs.Term.{Term, parts}
use Rattle.lx_regex.proofs.PartTables.Rows.{table_length}
use Rattle.lx_tnfa.specs.Live.{state_of}
use Rattle.lx_tnfa.specs.PlaceNumbers.{is_finished, is_last}
use Rattle.lx_tnfa.specs.Rows.{RepresentEach}
use Rattle.lx_tnfa.specs.Tnfa.{IsRest, IsTnfaOf, Tnfa, rows_at, state_at}
use Rattle.lx_tnfa.specs.Classes.{AreClasses}
use Rattle.lx_tnfa.specs.declared.classes.ClassGraph.{ClassGraph}
use Rattle.lx_tnfa.specs.declared.places.Place.{Place}
use Rattle.lx_tnfa.specs.declared.states.State.{State}
use Rattle.lx_tnfa.specs.declared.states.State.TheVariants.{AnyUnit, Class, Moves}
use Rattle.lx_tnfa.proofs.Leaves.LeafNumbers.{finished_number, number_same, unfinished_number}
use Rattle.lx_tnfa.proofs.Leaves.OnePlace.{graph_same}
use Rattle.lx_tdfa.specs.Steps.{IsInLeaf}
use Rattle.lx_tdfa.proofs.Walks.ClosureSearches.{number_of}
use Rattle.lx_tdfa.proofs.Rules.WithinStates.{rules_parts}

-- the states of rules, two for each part
pub rules_table-length : (rules : List Term) (part : ℕ) → length (rules_table rules part) ≡ 2 * rules_parts rules
rules_table-length [] part = refl
rules_table-length (e ∷ rules) part =
    let first = table_length e part final in
    let rest = rules_table-length rules (part + parts e) in
    omega (arith, length-append (table e part final) (rules_table rules (part + parts e)))

pub held_length : (classes : List ClassGraph) (rows : List spec.State) (states : List State) → RepresentEach classes rows states
    → length rows ≡ length states
held_length classes [] [] held = refl
held_length classes [] (state ∷ states) held = absurd held
held_length classes (row ∷ rows) [] held = absurd held
held_length classes (row ∷ rows) (state ∷ states) held = ap suc (held_length classes rows states held.1)

none_left : (runs : List Run) → is_last runs ≡ true → runs ≡ []
none_left [] e = refl
none_left (run ∷ runs) e = cc

-- a finished residual is finished by no unit alone
finished_by : (rows : Rows) (rest : ℕ) → row_of rows rest ≡ [] → (units : List ℕ) → Finishes rows rest units ↔ (units ≡ [])
finished_by rows rest none [] = ((λ h. refl), (λ h. none))
finished_by rows rest none (unit ∷ units) =
    ((λ h. absurd (subst (λ r. IsSomeAnd (target_of r unit) (λ next. Finishes rows next units)) none h)), (λ e. cc))

-- one residual of a leaf is finished
finished_same : (enc : Enc) (classes : List ClassGraph) (state : State) (part rest next : ℕ) → AreClasses enc classes → IsRest classes state part rest
    → IsRest classes state part next → is_finished classes state rest ≡ true → is_finished classes state next ≡ true → rest ≡ next
finished_same enc classes (Moves ways) part rest next are is too e f = cc
finished_same enc classes (Class number) part rest next are is too e f =
    let first = none_left (row_of (rows_at classes number) rest) e in
    let second = none_left (row_of (rows_at classes number) next) f in
    graph_same enc classes number rest next are is too
    (λ units.
    let a = finished_by (rows_at classes number) rest first units in
    let b = finished_by (rows_at classes number) next second units in
    ((λ h. b.1 (a.0 h)), (λ h. a.1 (b.0 h))))
finished_same enc classes AnyUnit part rest next are is too e f = eqb-true rest 0 e ∙ sym (eqb-true next 0 f)

module _ (enc : Enc) (patterns : List Pattern) (tnfa : Tnfa) (of : IsTnfaOf enc patterns tnfa) where
  -- behind each leaf there is a state
  state_behind : (part : ℕ) → 2 * part < length tnfa.states → 2 * part + 1 < length tnfa.states
  state_behind part lt =
      let rows : length (automaton (terms_of patterns)) ≡ length tnfa.states =
      held_length tnfa.classes (automaton (terms_of patterns)) tnfa.states of.states in
      even (rules_table (terms_of patterns) 1) (rules_parts (terms_of patterns)) (length tnfa.states) (rules_table-length (terms_of patterns) 1) rows lt
    where
      even : (rows : List spec.State) (n count : ℕ) → length rows ≡ 2 * n → suc (suc (length rows)) ≡ count → 2 * part < count → 2 * part + 1 < count
      even rows n count e f lt = omega arith

  pub number_of-apart : (place other : Place) → IsInLeaf tnfa place → IsInLeaf tnfa other → number_of tnfa place ≡ number_of tnfa other → place ≡ other
  number_of-apart place other is too same =
      by (is_finished tnfa.classes (state_of tnfa.states (2 * place.part)) place.rest.0)
      (is_finished tnfa.classes (state_of tnfa.states (2 * other.part)) other.rest.0) refl refl
    where
      make : ℕ → ℕ → Place
      make part rest = record { part = part; rest = record { 0 = rest } }

      pair : place.part ≡ other.part → place.rest.0 ≡ other.rest.0 → place ≡ other
      pair e f = ap₂ (λ p n. make p n) e f

      by : (a b : Bool) → is_finished tnfa.classes (state_of tnfa.states (2 * place.part)) place.rest.0 ≡ a
          → is_finished tnfa.classes (state_of tnfa.states (2 * other.part)) other.rest.0 ≡ b → place ≡ other
      by true true e f =
          let n : 2 * place.part + 1 ≡ 2 * other.part + 1 =
          sym (finished_number tnfa (2 * place.part) place.rest.0 e) ∙ same ∙ finished_number tnfa (2 * other.part) other.rest.0 f in
          let part : other.part ≡ place.part = omega arith in
          let rest : IsRest tnfa.classes (state_at tnfa place) place.part other.rest.0 =
          subst (λ p. IsRest tnfa.classes (state_of tnfa.states (2 * p)) p other.rest.0) part too.0.rest in
          let done = subst (λ p. is_finished tnfa.classes (state_of tnfa.states (2 * p)) other.rest.0 ≡ true) part f in
          pair (sym part)
          (finished_same enc tnfa.classes (state_at tnfa place) place.part place.rest.0 other.rest.0 of.classes is.0.rest rest e done)
      by true false e f =
          let n : 2 * place.part + 1 ≡ suc other.rest.0 * length tnfa.states + 2 * other.part =
          sym (finished_number tnfa (2 * place.part) place.rest.0 e) ∙ same ∙ unfinished_number tnfa (2 * other.part) other.rest.0 f in
          let lt = state_behind place.part is.0.part in
          absurd (omega arith)
      by false true e f =
          let n : suc place.rest.0 * length tnfa.states + 2 * place.part ≡ 2 * other.part + 1 =
          sym (unfinished_number tnfa (2 * place.part) place.rest.0 e) ∙ same ∙ finished_number tnfa (2 * other.part) other.rest.0 f in
          let lt = state_behind other.part too.0.part in
          absurd (omega arith)
      by false false e f =
          let lt = state_behind place.part is.0.part in
          let lt' = state_behind other.part too.0.part in
          let r = number_same tnfa (2 * place.part) place.rest.0 (2 * other.part) other.rest.0 lt lt' e f same in
          let twice : 2 * place.part ≡ 2 * other.part = r.0 in
          let part : place.part ≡ other.part = omega arith in
          pair part r.1
