-- The automaton's numbers for places read as its leaves do.
use Rattle.std.proofs.Common.{◌≡◌, ℕ, zero, suc, ◌+◌, ◌/◌, ◌%◌, ◌<◌, ◌≤◌, ◌↔◌, arith, Bool, true, false, List, [], ◌∷◌, ◌++◌, map, length, refl, sym, ap, ◌∙◌, subst, append-nil, Some, ⊎_elim}
use Rattle.std.proofs.lemmas.Bool.{false≢true}
use Rattle.std.specs.Option.{option_map, unwrap_or}
use Rattle.std.specs.Prelude.{option_to_list, slice_get, if◌then◌else◌}
use Rattle.lx_regex.specs.ClassLimits.{AllClassesFit}
use Rattle.lx_base.specs.declared.settings.Enc.{Enc}
use Rattle.lx_regex.specs.Automaton as spec
use Rattle.lx_regex.specs.Automaton.{automaton}
use Rattle.lx_regex.specs.Pattern.{Pattern, terms_of}
use Rattle.lx_regex.specs.Reading.{IsReading}
use Rattle.lx_regex.specs.Script.{Symbol, choices, reads}
use Rattle.lx_regex.specs.Term.{Term}
use Rattle.lx_regex.specs.Walk.{Walk, mark}
use Rattle.lx_regex.proofs.KernelCuts.Cuts.{paired_rules}
use Rattle.lx_regex.proofs.Walks.Fronts.{choices_append, choices_mark}
use Rattle.lx_regex.proofs.Walks.Readings.{code_quiet}
use Rattle.lx_tnfa.specs.Classes.{AreClasses}
use Rattle.lx_tnfa.specs.LeafReadings.{HasBegun, IsLeft, IsNth, NumbersLeaves}
use Rattle.lx_tnfa.specs.Live.{AreLive, mark_at, state_of}
use Rattle.lx_tnfa.specs.PlaceNumbers.{is_finished, leaf_starts, number_behind, numbers_after, numbers_from, place_number, rest_left, symbols_added, symbols_from, ways_to_read}
use Rattle.lx_tnfa.specs.Rows.{RepresentEach}
use Rattle.lx_tnfa.specs.Tnfa.{IsTnfaOf, Tnfa, rest_after}
use Rattle.lx_tnfa.specs.declared.states.State.{State}
use Rattle.lx_tnfa.proofs.Construction.HeldStates.{held_at}
use Rattle.lx_tnfa.proofs.Leaves.LeafGraphs.{EndsBy, ends_step, finished_only, goes_unfinished, residuals_same, some_finish, step_ends}
use Rattle.lx_tnfa.proofs.Leaves.LeafNumbers.{beyond, finished_number, number_same, read_at, start_of, state_turn, unfinished_number, way_of}
use Rattle.lx_tnfa.proofs.Leaves.LeafRests.{ends_left, left_below, left_ends, left_more, rest_left-more, rest_left-start}
use Rattle.lx_tnfa.proofs.Leaves.LeafStarts.{leaf_rise, starts_have, starts_read}
use Rattle.lx_tnfa.proofs.Liveness.LiveWalks.{reaches_walk, walk_reaches}
use Rattle.lx_tnfa.proofs.Construction.NthLists.{kept_from, kept_has, kept_order, nth_map, nth_option, nth_read, nth_unmap}
use Rattle.lx_tnfa.proofs.Leaves.TableLeaves.{leaf_below, leaf_fits, row_or_none}
use Rattle.lx_tnfa.proofs.Construction.WholeTable.{held_length}

module _ (tnfa : Tnfa) (rules : List Term) (are : AreClasses tnfa.enc tnfa.classes) (states : RepresentEach tnfa.classes (automaton rules) tnfa.states) (fits : AllClassesFit tnfa.enc rules) (live : AreLive tnfa.classes tnfa.states tnfa.live) where
  -- the state of the program at a number
  abbrev at_number : ℕ → State
  at_number number = state_of tnfa.states number

  count : length tnfa.states ≡ length (automaton rules)
  count = held_length tnfa.classes (automaton rules) tnfa.states states

  within : (leaf : ℕ) (symbols : List Symbol) (left : List ℕ) → IsLeft tnfa.enc rules leaf symbols left → leaf + 1 < length tnfa.states
  within leaf symbols left so =
      let below = left_below tnfa are rules states fits leaf symbols left so in omega (arith, below, count)

  -- the ways to read a unit, where the mark behind the leaf stands
  marked : {A : Type 0} (b : Bool) (index next : ℕ) (numbers : List ℕ) → (b ≡ true → IsNth numbers index next → A)
      → IsNth (if b then numbers else []) index next → A
  marked true index next numbers f nth = f refl nth
  marked false index next numbers f nth = absurd nth

  -- the number behind a first unit
  first_number : (leaf index rest unit next : ℕ) (choice : List Symbol) (left : List ℕ) (row : spec.State) → IsReading tnfa.enc row choice left
      → IsNth (leaf_starts tnfa (at_number leaf)) index (choice, rest) → rest_after tnfa.classes (at_number leaf) rest unit ≡ Some next
      → place_number tnfa leaf next ≡ number_behind tnfa leaf (choice ++ reads unit ∷ [])
  first_number leaf index rest unit next choice left row reading nth leads =
      ap (place_number tnfa leaf)
      (sym
      (rest_left-start tnfa are leaf index rest (choice ++ reads unit ∷ []) choice (unit ∷ []) refl (code_quiet tnfa.enc reading) nth
      ∙ ap (λ o. unwrap_or o 0) leads))

  first_symbols : (leaf unit index : ℕ) (choice : List Symbol) (next : ℕ) → leaf < length tnfa.states
      → IsNth (ways_to_read tnfa (at_number leaf) unit) index (choice, next)
      → symbols_added tnfa leaf unit index ≡ mark leaf ∷ (choice ++ reads unit ∷ [])
  first_symbols leaf unit index choice next lt nth =
      read_at tnfa (λ turn l. symbols_from tnfa turn l unit index) leaf 0 leaf lt (state_turn tnfa leaf)
      ∙ ap (λ (way : List Symbol × ℕ). mark leaf ∷ (way.0 ++ reads unit ∷ []))
      (nth_read (ways_to_read tnfa (at_number leaf) unit) index (choice, next) ([], 0) nth)

  -- what a leaf of the table reads
  record Read (state unit index next : ℕ) : Type 0 where
    pub row : spec.State
    pub choice : List Symbol
    pub left : List ℕ
    pub at : slice_get (automaton rules) state ≡ Some row
    pub reading : IsReading tnfa.enc row choice (unit ∷ left)
    pub number : next ≡ number_behind tnfa state (choice ++ reads unit ∷ [])
    pub symbols : symbols_added tnfa state unit index ≡ mark state ∷ (choice ++ reads unit ∷ [])
    pub walk : Walk (automaton rules) 0 (state + 1)

  way_read : (state unit index next : ℕ) → state < length tnfa.states → mark_at tnfa.live (state + 1) ≡ true → (way : List Symbol × ℕ)
      → IsNth (ways_to_read tnfa (at_number state) unit) index way → place_number tnfa state way.1 ≡ next → Read state unit index next
  way_read state unit index next lt marks way nth is =
      let from = kept_from (way_of tnfa (at_number state) unit) (leaf_starts tnfa (at_number state)) index way nth in
      let start = start_of tnfa (at_number state) unit way from in
      let some = some_finish tnfa.enc tnfa.classes (at_number state) start.rest unit way.1 are start.leads in
      ⊎_elim
      (λ row.
      let reading =
      starts_read tnfa are row.0 (at_number state) from.index way.0 start.rest (unit ∷ some.0) row.2 start.nth
      (step_ends tnfa.classes (at_number state) start.rest unit some.0 way.1 start.leads some.1) in
      let below : state + 1 < length tnfa.states =
      omega (arith, count, leaf_below tnfa.enc (automaton rules) state row.0 (paired_rules rules 1) row.1 reading) in
      record {
        row = row.0;
        choice = way.0;
        left = some.0;
        at = row.1;
        reading = reading;
        number = sym is ∙ first_number state from.index start.rest unit way.1 way.0 (unit ∷ some.0) row.0 reading start.nth start.leads;
        symbols = first_symbols state unit index way.0 way.1 lt nth;
        walk = reaches_walk tnfa rules are states (state + 1) ((live (state + 1) below).0 marks);
      })
      (λ none. absurd (subst (λ s. IsNth (leaf_starts tnfa s) from.index (way.0, start.rest)) none start.nth))
      (row_or_none tnfa.classes (automaton rules) tnfa.states state states)

  leaf_read : (state unit index next : ℕ) → state < length (automaton rules) → IsNth (numbers_after tnfa state unit) index next
      → Read state unit index next
  leaf_read state unit index next lt nth =
      let lt' : state < length tnfa.states = omega (arith, count) in
      let e : numbers_after tnfa state unit ≡ numbers_from tnfa 0 state unit =
      read_at tnfa (λ turn l. numbers_from tnfa turn l unit) state 0 state lt' (state_turn tnfa state) in
      marked (mark_at tnfa.live (state + 1)) index next _
      (λ marks more.
      let way = nth_unmap (λ (way : List Symbol × ℕ). place_number tnfa state way.1) (ways_to_read tnfa (at_number state) unit) index next more in
      way_read state unit index next lt' marks way.0 way.1 way.2)
      (subst (λ l. IsNth l index next) e nth)

  leaf_has : (state unit : ℕ) (row : spec.State) (choice : List Symbol) (left : List ℕ) → slice_get (automaton rules) state ≡ Some row
      → IsReading tnfa.enc row choice (unit ∷ left) → Walk (automaton rules) 0 (state + 1)
      → (index : ℕ) × IsNth (numbers_after tnfa state unit) index (number_behind tnfa state (choice ++ reads unit ∷ []))
      × (symbols_added tnfa state unit index ≡ mark state ∷ (choice ++ reads unit ∷ []))
  leaf_has state unit row choice left at reading walk =
      let below : state + 1 < length tnfa.states =
      omega (arith, count, leaf_below tnfa.enc (automaton rules) state row (paired_rules rules 1) at reading) in
      let start =
      starts_have tnfa are row (at_number state) choice (unit ∷ left)
      (held_at tnfa.classes (automaton rules) tnfa.states state row states at) (leaf_fits tnfa.enc rules state row fits at) reading in
      let step = ends_step tnfa.classes (at_number state) start.rest unit left start.ends in
      let way =
      kept_has (way_of tnfa (at_number state) unit) (leaf_starts tnfa (at_number state)) start.index (choice, start.rest) (choice, step.0) start.nth
      (ap (option_map (λ rest. (choice, rest))) step.1) in
      let marks = (live (state + 1) below).1 (walk_reaches tnfa rules are states fits walk) in
      let e : numbers_after tnfa state unit ≡ numbers_from tnfa 0 state unit =
      read_at tnfa (λ turn l. numbers_from tnfa turn l unit) state 0 state (omega arith) (state_turn tnfa state) in
      let number = first_number state start.index start.rest unit step.0 choice (unit ∷ left) row reading start.nth step.1 in
      let shown =
      map (λ (way : List Symbol × ℕ). place_number tnfa state way.1) (ways_to_read tnfa (at_number state) unit) in (
        way.0,
        subst (λ l. IsNth l way.0 (number_behind tnfa state (choice ++ reads unit ∷ []))) (sym e)
            (subst (λ b. IsNth (if b then shown else []) way.0 (number_behind tnfa state (choice ++ reads unit ∷ []))) (sym marks)
            (subst (IsNth shown way.0) number
            (nth_map (λ (way : List Symbol × ℕ). place_number tnfa state way.1) (ways_to_read tnfa (at_number state) unit) way.0 (choice, step.0) way.1))),
        first_symbols state unit way.0 choice step.0 (omega arith) way.1,
      )

  -- within a leaf
  middle_numbers : (leaf rest unit : ℕ) → leaf + 1 < length tnfa.states → is_finished tnfa.classes (at_number leaf) rest ≡ false
      → numbers_after tnfa (place_number tnfa leaf rest) unit
      ≡ map (place_number tnfa leaf) (option_to_list (rest_after tnfa.classes (at_number leaf) rest unit))
  middle_numbers leaf rest unit lt e =
      read_at tnfa (λ turn l. numbers_from tnfa turn l unit) (place_number tnfa leaf rest) (suc rest) leaf (omega arith) (unfinished_number tnfa leaf rest e)

  middle_symbols : (leaf rest unit index : ℕ) → leaf + 1 < length tnfa.states → is_finished tnfa.classes (at_number leaf) rest ≡ false
      → symbols_added tnfa (place_number tnfa leaf rest) unit index ≡ reads unit ∷ []
  middle_symbols leaf rest unit index lt e =
      read_at tnfa (λ turn l. symbols_from tnfa turn l unit index) (place_number tnfa leaf rest) (suc rest) leaf (omega arith) (unfinished_number tnfa leaf rest e)

  more_number : (leaf : ℕ) (symbols : List Symbol) (unit next : ℕ) → rest_after tnfa.classes (at_number leaf) (rest_left tnfa leaf symbols) unit ≡ Some next
      → place_number tnfa leaf next ≡ number_behind tnfa leaf (symbols ++ reads unit ∷ [])
  more_number leaf symbols unit next e =
      ap (place_number tnfa leaf) (sym (rest_left-more tnfa are leaf symbols unit ∙ ap (λ o. unwrap_or o 0) e))

  mid_sound : (leaf : ℕ) (symbols : List Symbol) (left : List ℕ) (unit index next : ℕ) → IsLeft tnfa.enc rules leaf symbols left → HasBegun symbols
      → length (automaton rules) ≤ number_behind tnfa leaf symbols → IsNth (numbers_after tnfa (number_behind tnfa leaf symbols) unit) index next
      → (later : List ℕ) × IsLeft tnfa.enc rules leaf (symbols ++ reads unit ∷ []) later
      × (next ≡ number_behind tnfa leaf (symbols ++ reads unit ∷ []))
      × (symbols_added tnfa (number_behind tnfa leaf symbols) unit index ≡ reads unit ∷ []) × (index ≡ 0)
  mid_sound leaf symbols left unit index next so begun le nth = at (is_finished tnfa.classes (at_number leaf) (rest_left tnfa leaf symbols)) refl
    where
      below : leaf + 1 < length tnfa.states
      below = within leaf symbols left so

      at : (b : Bool) → is_finished tnfa.classes (at_number leaf) (rest_left tnfa leaf symbols) ≡ b
          → (later : List ℕ) × IsLeft tnfa.enc rules leaf (symbols ++ reads unit ∷ []) later
          × (next ≡ number_behind tnfa leaf (symbols ++ reads unit ∷ []))
          × (symbols_added tnfa (number_behind tnfa leaf symbols) unit index ≡ reads unit ∷ []) × (index ≡ 0)
      at true e = absurd (omega (arith, finished_number tnfa leaf (rest_left tnfa leaf symbols) e, below, count, le))
      at false e =
          let step =
          nth_option (place_number tnfa leaf) (rest_after tnfa.classes (at_number leaf) (rest_left tnfa leaf symbols) unit) index next
          (subst (λ l. IsNth l index next) (middle_numbers leaf (rest_left tnfa leaf symbols) unit below e) nth) in
          let some = some_finish tnfa.enc tnfa.classes (at_number leaf) (rest_left tnfa leaf symbols) unit step.0 are step.1 in (
            some.0,
            left_more tnfa are rules states fits leaf symbols unit some.0
                (ends_left tnfa are rules states fits leaf symbols (unit ∷ some.0) left so
                (step_ends tnfa.classes (at_number leaf) (rest_left tnfa leaf symbols) unit some.0 step.0 step.1 some.1)),
            sym step.2 ∙ more_number leaf symbols unit step.0 step.1,
            middle_symbols leaf (rest_left tnfa leaf symbols) unit index below e,
            step.3,
          )

  mid_has : (leaf : ℕ) (symbols : List Symbol) (unit : ℕ) (left : List ℕ) → IsLeft tnfa.enc rules leaf symbols (unit ∷ left) → HasBegun symbols
      → IsNth (numbers_after tnfa (number_behind tnfa leaf symbols) unit) 0 (number_behind tnfa leaf (symbols ++ reads unit ∷ []))
      × (symbols_added tnfa (number_behind tnfa leaf symbols) unit 0 ≡ reads unit ∷ [])
      × (length (automaton rules) ≤ number_behind tnfa leaf symbols)
  mid_has leaf symbols unit left so begun =
      let rest = rest_left tnfa leaf symbols in
      let below = within leaf symbols (unit ∷ left) so in
      let step = ends_step tnfa.classes (at_number leaf) rest unit left (left_ends tnfa are rules states fits leaf symbols (unit ∷ left) so) in
      let e = goes_unfinished tnfa.classes (at_number leaf) rest unit step.0 step.1 in (
        subst (λ l. IsNth l 0 (number_behind tnfa leaf (symbols ++ reads unit ∷ []))) (sym (middle_numbers leaf rest unit below e))
            (subst (λ o. IsNth (map (place_number tnfa leaf) (option_to_list o)) 0 (number_behind tnfa leaf (symbols ++ reads unit ∷ []))) (sym step.1)
            (more_number leaf symbols unit step.0 step.1)),
        middle_symbols leaf rest unit 0 below e,
        omega (arith, count, unfinished_number tnfa leaf rest e, beyond tnfa leaf rest (length tnfa.states)),
      )

  -- only nothing finishes a finished leaf
  finished_left : (leaf : ℕ) (symbols : List Symbol) (left : List ℕ) → IsLeft tnfa.enc rules leaf symbols left
      → is_finished tnfa.classes (at_number leaf) (rest_left tnfa leaf symbols) ≡ true → left ≡ []
  finished_left leaf symbols left so e =
      finished_only tnfa.classes (at_number leaf) (rest_left tnfa leaf symbols) left e (left_ends tnfa are rules states fits leaf symbols left so)

  same : (leaf other : ℕ) (symbols others : List Symbol) (left behind : List ℕ) → IsLeft tnfa.enc rules leaf symbols left
      → IsLeft tnfa.enc rules other others behind → number_behind tnfa leaf symbols ≡ number_behind tnfa other others
      → (leaf ≡ other) × ((later : List ℕ) → IsLeft tnfa.enc rules leaf symbols later → IsLeft tnfa.enc rules other others later)
  same leaf other symbols others left behind so so' e =
      at (is_finished tnfa.classes (at_number leaf) (rest_left tnfa leaf symbols))
      (is_finished tnfa.classes (at_number other) (rest_left tnfa other others)) refl refl
    where
      below : leaf + 1 < length tnfa.states
      below = within leaf symbols left so

      below' : other + 1 < length tnfa.states
      below' = within other others behind so'

      at : (a b : Bool) → is_finished tnfa.classes (at_number leaf) (rest_left tnfa leaf symbols) ≡ a
          → is_finished tnfa.classes (at_number other) (rest_left tnfa other others) ≡ b
          → (leaf ≡ other) × ((later : List ℕ) → IsLeft tnfa.enc rules leaf symbols later → IsLeft tnfa.enc rules other others later)
      at true true f g = (
        omega (arith, finished_number tnfa leaf (rest_left tnfa leaf symbols) f, finished_number tnfa other (rest_left tnfa other others) g, e),
        λ later more.
            subst (IsLeft tnfa.enc rules other others) (finished_left other others behind so' g ∙ sym (finished_left leaf symbols later more f)) so',
      )
      at true false f g =
          absurd (omega (arith, finished_number tnfa leaf (rest_left tnfa leaf symbols) f, unfinished_number tnfa other (rest_left tnfa other others) g, beyond tnfa other (rest_left tnfa other others) (length tnfa.states), e, below))
      at false true f g =
          absurd (omega (arith, unfinished_number tnfa leaf (rest_left tnfa leaf symbols) f, finished_number tnfa other (rest_left tnfa other others) g, beyond tnfa leaf (rest_left tnfa leaf symbols) (length tnfa.states), e, below'))
      at false false f g =
          let equal = number_same tnfa leaf (rest_left tnfa leaf symbols) other (rest_left tnfa other others) below below' f g e in (
            equal.0,
            λ later more.
                ends_left tnfa are rules states fits other others later behind so'
                (subst (λ n. EndsBy tnfa.classes (at_number other) n later) equal.1
                (subst (λ n. EndsBy tnfa.classes (at_number n) (rest_left tnfa leaf symbols) later) equal.0
                (left_ends tnfa are rules states fits leaf symbols later more))),
          )

  exact : (leaf : ℕ) (symbols others : List Symbol) (left behind : List ℕ) → IsLeft tnfa.enc rules leaf symbols left
      → IsLeft tnfa.enc rules leaf others behind
      → ((later : List ℕ) → IsLeft tnfa.enc rules leaf symbols later ↔ IsLeft tnfa.enc rules leaf others later)
      → number_behind tnfa leaf symbols ≡ number_behind tnfa leaf others
  exact leaf symbols others left behind so so' alike =
      at (is_finished tnfa.classes (at_number leaf) (rest_left tnfa leaf symbols))
      (is_finished tnfa.classes (at_number leaf) (rest_left tnfa leaf others)) refl refl
    where
      forth : (later : List ℕ) → EndsBy tnfa.classes (at_number leaf) (rest_left tnfa leaf symbols) later
          → EndsBy tnfa.classes (at_number leaf) (rest_left tnfa leaf others) later
      forth later ends =
          left_ends tnfa are rules states fits leaf others later ((alike later).0 (ends_left tnfa are rules states fits leaf symbols later left so ends))

      back : (later : List ℕ) → EndsBy tnfa.classes (at_number leaf) (rest_left tnfa leaf others) later
          → EndsBy tnfa.classes (at_number leaf) (rest_left tnfa leaf symbols) later
      back later ends =
          left_ends tnfa are rules states fits leaf symbols later ((alike later).1 (ends_left tnfa are rules states fits leaf others later behind so' ends))

      at : (a b : Bool) → is_finished tnfa.classes (at_number leaf) (rest_left tnfa leaf symbols) ≡ a
          → is_finished tnfa.classes (at_number leaf) (rest_left tnfa leaf others) ≡ b
          → place_number tnfa leaf (rest_left tnfa leaf symbols) ≡ place_number tnfa leaf (rest_left tnfa leaf others)
      at true true f g = finished_number tnfa leaf (rest_left tnfa leaf symbols) f ∙ sym (finished_number tnfa leaf (rest_left tnfa leaf others) g)
      at true false f g = absurd (false≢true (sym g ∙ forth [] f))
      at false true f g = absurd (false≢true (sym f ∙ back [] g))
      at false false f g =
          ap (place_number tnfa leaf)
          (residuals_same tnfa.enc tnfa.classes (at_number leaf) (rest_left tnfa leaf symbols) (rest_left tnfa leaf others) left behind are f g
          (left_ends tnfa are rules states fits leaf symbols left so) (left_ends tnfa are rules states fits leaf others behind so')
          (λ later. (forth later, back later)))

  -- the choices of the ways to read a unit rise
  abbrev Rises : (turn leaf unit index later : ℕ) → Type 0
  Rises turn leaf unit index later =
      (choice second : ℕ) × (rest others : List ℕ) × (choices (symbols_from tnfa turn leaf unit index) ≡ choice ∷ rest)
      × (choices (symbols_from tnfa turn leaf unit later) ≡ second ∷ others) × (choice < second)

  way_choices : (leaf unit index : ℕ) (way : List Symbol × ℕ) → IsNth (ways_to_read tnfa (at_number leaf) unit) index way
      → choices (symbols_from tnfa 0 leaf unit index) ≡ choices way.0
  way_choices leaf unit index way nth =
      ap (λ (way : List Symbol × ℕ). choices (mark leaf ∷ (way.0 ++ reads unit ∷ [])))
      (nth_read (ways_to_read tnfa (at_number leaf) unit) index way ([], 0) nth)
      ∙ choices_mark leaf (way.0 ++ reads unit ∷ []) ∙ choices_append way.0 (reads unit ∷ []) ∙ append-nil (choices way.0)

  ways_rise : (leaf unit index later : ℕ) (way second : List Symbol × ℕ) → IsNth (ways_to_read tnfa (at_number leaf) unit) index way
      → IsNth (ways_to_read tnfa (at_number leaf) unit) later second → index < later → Rises 0 leaf unit index later
  ways_rise leaf unit index later way second nth nth' lt =
      let order =
      kept_order (way_of tnfa (at_number leaf) unit) (leaf_starts tnfa (at_number leaf)) index later way second nth nth' lt in
      let first = start_of tnfa (at_number leaf) unit way order.first in
      let last = start_of tnfa (at_number leaf) unit second order.second in
      let rise = leaf_rise tnfa are (at_number leaf) order.first.index order.second.index (way.0, first.rest) (second.0, last.rest) first.nth last.nth order.less in
      (rise.choice, rise.other, [], [], way_choices leaf unit index way nth ∙ rise.is, way_choices leaf unit later second nth' ∙ rise.others, rise.less)

  numbers_rise : (turn leaf unit index later next other : ℕ) → IsNth (numbers_from tnfa turn leaf unit) index next
      → IsNth (numbers_from tnfa turn leaf unit) later other → index < later → Rises turn leaf unit index later
  numbers_rise zero leaf unit index later next other nth nth' lt =
      let shown : List Symbol × ℕ → ℕ = λ way. place_number tnfa leaf way.1 in
      let ways = ways_to_read tnfa (at_number leaf) unit in
      marked (mark_at tnfa.live (leaf + 1)) index next (map shown ways)
      (λ marks more. marked (mark_at tnfa.live (leaf + 1)) later other (map shown ways)
      (λ marks' more'.
      let way = nth_unmap shown ways index next more in
      let second = nth_unmap shown ways later other more' in
      ways_rise leaf unit index later way.0 second.0 way.1 second.1 lt) nth') nth
  numbers_rise (suc rest) leaf unit index later next other nth nth' lt =
      let first = nth_option (place_number tnfa leaf) (rest_after tnfa.classes (at_number leaf) rest unit) index next nth in
      let second = nth_option (place_number tnfa leaf) (rest_after tnfa.classes (at_number leaf) rest unit) later other nth' in
      absurd (omega (arith, first.3, second.3, lt))

  pub numbers_leaves : NumbersLeaves tnfa.enc rules (numbers_after tnfa) (symbols_added tnfa) (number_behind tnfa)
  numbers_leaves = record {
    leaf_sound = λ state unit index next lt nth.
        let r = leaf_read state unit index next lt nth in (r.row, r.choice, r.left, r.at, r.reading, r.number, r.symbols, r.walk);
    leaf_has = leaf_has;
    mid_sound = mid_sound;
    mid_has = mid_has;
    full = λ leaf symbols so begun. finished_number tnfa leaf (rest_left tnfa leaf symbols) (left_ends tnfa are rules states fits leaf symbols [] so);
    same = λ leaf other symbols others left behind so so' begun begun' e. same leaf other symbols others left behind so so' e;
    exact = λ leaf symbols others left behind so so' begun begun' alike. exact leaf symbols others left behind so so' alike;
    order = λ state unit index later next other nth nth' lt.
        numbers_rise (state / length tnfa.states) (state % length tnfa.states) unit index later next other nth nth' lt;
  }

-- the automaton of a rule list gives such numbers
pub automaton_numbers : (enc : Enc) (patterns : List Pattern) (tnfa : Tnfa) → IsTnfaOf enc patterns tnfa → AllClassesFit enc (terms_of patterns)
    → NumbersLeaves enc (terms_of patterns) (numbers_after tnfa) (symbols_added tnfa) (number_behind tnfa)
automaton_numbers enc patterns tnfa of fits =
    subst (λ e. NumbersLeaves e (terms_of patterns) (numbers_after tnfa) (symbols_added tnfa) (number_behind tnfa)) of.enc
    (numbers_leaves tnfa (terms_of patterns) (subst (λ e. AreClasses e tnfa.classes) (sym of.enc) of.classes) of.states
    (subst (λ e. AllClassesFit e (terms_of patterns)) (sym of.enc) fits) of.live)
