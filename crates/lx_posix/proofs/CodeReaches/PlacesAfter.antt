-- The numbers after a point and a unit are those of the places after the places at which its targets are.
use Rattle.std.proofs.Common.{sym, ap, ap₂, ◌∙◌, subst, arith, ⊎_elim}
use Rattle.std.specs.List.{cons_option}
use Rattle.std.specs.Option.{option_map}
use Rattle.std.specs.Prelude.{◌≡◌, ℕ, zero, suc, ◌+◌, ◌*◌, ◌/◌, ◌<◌, List, [], ◌∷◌, ◌++◌, map, filter_map, Option, Some, None, Bool, true, false, option_to_list, if◌then◌else◌, refl}
use Rattle.lx_encode.specs.Graph.{numbered, parts}
use Rattle.lx_encode.specs.declared.graph.Residual.{Residual}
use Rattle.lx_regex.specs.Automaton.{automaton}
use Rattle.lx_regex.specs.Script.{Symbol, reads, units}
use Rattle.lx_regex.specs.Term.{Term}
use Rattle.lx_tnfa.specs.LeafReadings.{IsNth}
use Rattle.lx_tnfa.specs.Live.{mark_at, starts_at, starts_in, state_of}
use Rattle.lx_tnfa.specs.PlaceNumbers.{leaf_starts, numbers_after, numbers_from, place_number, set_at, symbols_added, symbols_from, ways_to_read}
use Rattle.lx_tnfa.specs.Tnfa.{IsRest, Tnfa, place_after, rest_after, state_at}
use Rattle.lx_tnfa.specs.declared.closure.Reach.{Reach}
use Rattle.lx_tnfa.specs.declared.closure.Target.TheVariants.{Leaf}
use Rattle.lx_tnfa.specs.declared.places.Place.{Place}
use Rattle.lx_tnfa.specs.declared.states.Event.{Event}
use Rattle.lx_tnfa.specs.declared.states.State.{State}
use Rattle.lx_tnfa.specs.declared.states.State.TheVariants as held
use Rattle.lx_tnfa.proofs.Construction.NthLists.{mapped_from, nth_map, nth_unmap}
use Rattle.lx_tnfa.proofs.Leaves.LeafNumbers.{read_at, state_turn, way_of}
use Rattle.lx_tnfa.proofs.Leaves.RestPlaces.{rest_stays, start_rest, steps_stay}
use Rattle.lx_tnfa.proofs.Leaves.TableLeaves.{row_or_none}
use Rattle.lx_tnfa.proofs.Searching.SearchBasics.{Each}
use Rattle.lx_tdfa.specs.Steps.{IsInLeaf}
use Rattle.lx_tdfa.proofs.Walks.ClosureSearches.{events_of, number_of}
use Rattle.lx_tdfa.proofs.Walks.LeafReads.{number_reads, start_choice}
use Rattle.lx_tdfa.proofs.Walks.StartLists.{start_listed}
use Rattle.lx_tdfa.proofs.Walks.StopPlaces.{leaf_even, start_leaf}
use Rattle.lx_tdfa.proofs.Walks.StopSteps.{Holds, start_within, state_moves}
use Rattle.lx_posix.specs.Beginnings.{IsPoint, point_number}
use Rattle.lx_posix.specs.Reaching.{IsLeafPoint, reaches_at, start_reach}
use Rattle.lx_posix.specs.declared.points.Point.{Point}
use Rattle.lx_posix.specs.declared.points.Point.TheVariants as point

-- lists that have the same elements at the same places are equal
same_nth : (xs ys : List ℕ) → ((index x : ℕ) → IsNth xs index x → IsNth ys index x) → ((index y : ℕ) → IsNth ys index y → IsNth xs index y)
    → xs ≡ ys
same_nth [] [] there back = refl
same_nth [] (y ∷ ys) there back = absurd (back 0 y refl)
same_nth (x ∷ xs) [] there back = absurd (there 0 x refl)
same_nth (x ∷ xs) (y ∷ ys) there back =
    ap₂ (λ (z : ℕ) (zs : List ℕ). z ∷ zs) (sym (there 0 x refl))
    (same_nth xs ys (λ index z nth. there (suc index) z nth) (λ index z nth. back (suc index) z nth))

-- the places before the leaf at a state, or within a leaf
abbrev pub start_place_at : (state : ℕ) → Residual → Place
start_place_at state rest = record { part = state / 2; rest = rest }

abbrev pub places_at : Tnfa → Point → List Place
places_at tnfa (point.Within place) = place ∷ []
places_at tnfa (point.State state) =
    if mark_at tnfa.live (state + 1) then map (start_place_at state) (starts_in tnfa.classes (state_of tnfa.states state)) else []

abbrev pub places_after : Tnfa → (unit : ℕ) → List Place → List Place
places_after tnfa unit places = filter_map (λ place. place_after tnfa place unit) places

-- a target at a place
abbrev pub target_at : (from : ℕ) → List Event → Place → Reach
target_at from events place = record { to = Leaf place; events = events; from = from }

pub reaches_at-places : (tnfa : Tnfa) (from : ℕ) (at : Point) (events : List Event)
    → reaches_at tnfa from at events ≡ map (target_at from events) (places_at tnfa at)
reaches_at-places tnfa from (point.Within place) events = refl
reaches_at-places tnfa from (point.State state) events =
    by (mark_at tnfa.live (state + 1)) (starts_in tnfa.classes (state_of tnfa.states state))
  where
    all : (starts : List Residual) → map (start_reach from state events) starts
        ≡ map (target_at from events) (map (start_place_at state) starts)
    all [] = refl
    all (start ∷ starts) = ap (λ l. start_reach from state events start ∷ l) (all starts)

    by : (b : Bool) (starts : List Residual)
        → (if b then map (start_reach from state events) starts else [])
        ≡ map (target_at from events) (if b then map (start_place_at state) starts else [])
    by true starts = all starts
    by false starts = refl

-- the symbols that a way to read a unit adds: the last one reads it
pub record Added (tnfa : Tnfa) (number unit pick : ℕ) : Type 0 where
  pub before : List Symbol
  pub added : symbols_added tnfa number unit pick ≡ before ++ reads unit ∷ []
  pub silent : units before ≡ []
  pub still : events_of before ≡ []

module _ (tnfa : Tnfa) (rules : List Term) (is : Holds tnfa rules) where
  choice_start : (state : State) (index : ℕ) (start : List Symbol × ℕ) → IsNth (leaf_starts tnfa state) index start
      → (rest : Residual) × IsNth (starts_in tnfa.classes state) index rest × (rest.0 ≡ start.1)
  choice_start (held.Moves ways) index start nth = absurd nth
  choice_start (held.Class class) index start nth =
      start_listed tnfa.enc (set_at tnfa.classes class) (parts tnfa.enc) (starts_at tnfa.classes class) index start nth
  choice_start held.AnyUnit zero start nth = (numbered 1, refl, ap (λ (s : List Symbol × ℕ). s.1) nth)
  choice_start held.AnyUnit (suc index) start nth = absurd nth

  -- the starts of a leaf with their choices are its starts
  starts_same : (state : ℕ)
      → map (λ (start : List Symbol × ℕ). start.1) (leaf_starts tnfa (state_of tnfa.states state))
      ≡ map (λ (rest : Residual). rest.0) (starts_in tnfa.classes (state_of tnfa.states state))
  starts_same state =
      let chosen : List Symbol × ℕ → ℕ = λ start. start.1 in
      let plain : Residual → ℕ = λ rest. rest.0 in
      let pairs = leaf_starts tnfa (state_of tnfa.states state) in
      let starts = starts_in tnfa.classes (state_of tnfa.states state) in
      same_nth (map chosen pairs) (map plain starts)
      (λ index x nth.
      let pair = nth_unmap chosen pairs index x nth in
      let start = choice_start (state_of tnfa.states state) index pair.0 pair.1 in
      subst (IsNth (map plain starts) index) (start.2 ∙ pair.2) (nth_map plain starts index start.0 start.1))
      (λ index y nth.
      let start = nth_unmap plain starts index y nth in
      let pair = start_choice tnfa rules is state index start.0 start.1 in
      subst (IsNth (map chosen pairs) index) start.2 (nth_map chosen pairs index (pair.0, start.0.0) pair.1))

  -- a unit leads on from one start
  one_after : (leaf part : ℕ) (choice : List Symbol) (o : Option ℕ) (ways : List (List Symbol × ℕ)) (places : List Place) → 2 * part ≡ leaf
      → map (λ (way : List Symbol × ℕ). place_number tnfa leaf way.1) ways ≡ map (number_of tnfa) places
      → map (λ (way : List Symbol × ℕ). place_number tnfa leaf way.1) (cons_option (option_map (λ rest. (choice, rest)) o) ways)
      ≡ map (number_of tnfa) (cons_option (option_map (λ rest. record { part = part; rest = numbered rest }) o) places)
  one_after leaf part choice None ways places even more = more
  one_after leaf part choice (Some rest) ways places even more =
      ap₂ (λ (n : ℕ) (ns : List ℕ). n ∷ ns) (ap (λ n. place_number tnfa n rest) (sym even)) more

  starts_after : (state unit : ℕ) → 2 * (state / 2) ≡ state → (pairs : List (List Symbol × ℕ)) (starts : List Residual)
      → map (λ (start : List Symbol × ℕ). start.1) pairs ≡ map (λ (rest : Residual). rest.0) starts
      → map (λ (way : List Symbol × ℕ). place_number tnfa state way.1) (filter_map (way_of tnfa (state_of tnfa.states state) unit) pairs)
      ≡ map (number_of tnfa) (places_after tnfa unit (map (start_place_at state) starts))
  starts_after state unit even [] [] same = refl
  starts_after state unit even [] (start ∷ starts) same = cc
  starts_after state unit even (pair ∷ pairs) [] same = cc
  starts_after state unit even (pair ∷ pairs) (start ∷ starts) same =
      let head : pair.1 ≡ start.0 = cc in
      let tail : map (λ (s : List Symbol × ℕ). s.1) pairs ≡ map (λ (r : Residual). r.0) starts = cc in
      let leaf = state_of tnfa.states state in
      let ways = filter_map (way_of tnfa leaf unit) pairs in
      let places = places_after tnfa unit (map (start_place_at state) starts) in
      let after : rest_after tnfa.classes leaf pair.1 unit ≡ rest_after tnfa.classes (state_of tnfa.states (2 * (state / 2))) start.0 unit =
      ap₂ (λ (n : ℕ) (rest : ℕ). rest_after tnfa.classes (state_of tnfa.states n) rest unit) (sym even) head in
      one_after state (state / 2) pair.0 (rest_after tnfa.classes leaf pair.1 unit) ways places even
      (starts_after state unit even pairs starts tail)
      ∙ ap (λ o. map (number_of tnfa) (cons_option (option_map (λ rest. record { part = state / 2; rest = numbered rest }) o) places)) after

  -- a state with a start is a leaf, and its number is even
  leaf_starts-after : (state unit : ℕ)
      → map (λ (way : List Symbol × ℕ). place_number tnfa state way.1) (ways_to_read tnfa (state_of tnfa.states state) unit)
      ≡ map (number_of tnfa) (places_after tnfa unit (map (start_place_at state) (starts_in tnfa.classes (state_of tnfa.states state))))
  leaf_starts-after state unit = at (starts_in tnfa.classes (state_of tnfa.states state)) refl
    where
      pairs : List (List Symbol × ℕ)
      pairs = leaf_starts tnfa (state_of tnfa.states state)

      none : (list : List (List Symbol × ℕ)) → map (λ (start : List Symbol × ℕ). start.1) list ≡ [] → list ≡ []
      none [] e = refl
      none (pair ∷ list) e = cc

      at : (starts : List Residual) → starts_in tnfa.classes (state_of tnfa.states state) ≡ starts
          → map (λ (way : List Symbol × ℕ). place_number tnfa state way.1) (ways_to_read tnfa (state_of tnfa.states state) unit)
          ≡ map (number_of tnfa) (places_after tnfa unit (map (start_place_at state) starts))
      at [] e =
          ap (λ l. map (λ (way : List Symbol × ℕ). place_number tnfa state way.1)
          (filter_map (way_of tnfa (state_of tnfa.states state) unit) l))
          (none pairs (starts_same state ∙ ap (λ l. map (λ (rest : Residual). rest.0) l) e))
      at (start ∷ starts) e =
          let nth : IsNth (starts_in tnfa.classes (state_of tnfa.states state)) 0 start = subst (λ l. IsNth l 0 start) (sym e) refl in
          let even = (leaf_even tnfa rules is state (start_leaf tnfa.classes (state_of tnfa.states state) 0 start nth)).0 in
          starts_after state unit even pairs (start ∷ starts) (starts_same state ∙ ap (λ l. map (λ (rest : Residual). rest.0) l) e)

  within_after : (place : Place) (o : Option ℕ)
      → map (place_number tnfa (2 * place.part)) (option_to_list o)
      ≡ map (number_of tnfa) (cons_option (option_map (λ rest. record { part = place.part; rest = numbered rest }) o) [])
  within_after place None = refl
  within_after place (Some rest) = refl

  pub numbers_at : (at : Point) (unit : ℕ) → IsPoint tnfa at
      → numbers_after tnfa (point_number tnfa at) unit ≡ map (number_of tnfa) (places_after tnfa unit (places_at tnfa at))
  numbers_at (point.Within place) unit lt =
      read_at tnfa (λ turn l. numbers_from tnfa turn l unit) (point_number tnfa (point.Within place)) (suc place.rest.0)
      (2 * place.part) lt refl
      ∙ within_after place (rest_after tnfa.classes (state_at tnfa place) place.rest.0 unit)
  numbers_at (point.State state) unit lt =
      read_at tnfa (λ turn l. numbers_from tnfa turn l unit) state 0 state lt (state_turn tnfa state)
      ∙ by (mark_at tnfa.live (state + 1))
    where
      to_number : List Symbol × ℕ → ℕ
      to_number way = place_number tnfa state way.1

      by : (b : Bool)
          → (if b then map to_number (ways_to_read tnfa (state_of tnfa.states state) unit) else [])
          ≡ map (number_of tnfa)
          (places_after tnfa unit (if b then map (start_place_at state) (starts_in tnfa.classes (state_of tnfa.states state)) else []))
      by true = leaf_starts-after state unit
      by false = refl

  pub added_at : (at : Point) (unit pick to : ℕ) → IsPoint tnfa at → IsNth (numbers_after tnfa (point_number tnfa at) unit) pick to
      → Added tnfa (point_number tnfa at) unit pick
  added_at (point.Within place) unit pick to lt nth = record {
    before = [];
    added =
        read_at tnfa (λ turn l. symbols_from tnfa turn l unit pick) (point_number tnfa (point.Within place)) (suc place.rest.0)
        (2 * place.part) lt refl;
    silent = refl;
    still = refl;
  }
  added_at (point.State state) unit pick to lt nth =
      let r = number_reads tnfa rules is state unit pick to lt nth in
      record { before = r.3.before; added = r.3.added; silent = r.3.silent; still = r.3.still }

  -- the places before a leaf are places in it
  start_in_leaf : (state index : ℕ) (rest : Residual) → IsNth (starts_in tnfa.classes (state_of tnfa.states state)) index rest
      → IsInLeaf tnfa (start_place_at state rest)
  start_in_leaf state index rest nth =
      let even = (leaf_even tnfa rules is state (start_leaf tnfa.classes (state_of tnfa.states state) index rest nth)).0 in (
        record {
          part = omega (arith, even, start_within tnfa.classes tnfa.states state index rest nth);
          rest = subst (λ n. IsRest tnfa.classes (state_of tnfa.states n) (state / 2) rest.0) (sym even) a_rest;
        },
        positive state even nth,
      )
    where
      a_rest : IsRest tnfa.classes (state_of tnfa.states state) (state / 2) rest.0
      a_rest =
          let choice = start_choice tnfa rules is state index rest nth in
          ⊎_elim
          (λ row. start_rest tnfa is.are row.0 (state_of tnfa.states state) (state / 2) index rest.0 choice.0 row.2 choice.1)
          (λ none. absurd (subst (λ s. IsNth (starts_in tnfa.classes s) index rest) none nth))
          (row_or_none tnfa.classes (automaton rules) tnfa.states state is.states)

      positive : (state : ℕ) → 2 * (state / 2) ≡ state → IsNth (starts_in tnfa.classes (state_of tnfa.states state)) index rest
          → 0 < state / 2
      positive zero even nth = absurd (subst (λ s. IsNth (starts_in tnfa.classes s) index rest) (state_moves tnfa rules is 0 [] refl) nth)
      positive (suc state) even nth = omega (arith, even)

  pub places_in_leaf : (at : Point) → IsLeafPoint tnfa at → Each (IsInLeaf tnfa) (places_at tnfa at)
  places_in_leaf (point.Within place) in_leaf = (in_leaf, tt)
  places_in_leaf (point.State state) in_leaf =
      by (mark_at tnfa.live (state + 1)) (starts_in tnfa.classes (state_of tnfa.states state)) (start_in_leaf state)
    where
      all : (starts : List Residual) → ((index : ℕ) (rest : Residual) → IsNth starts index rest → IsInLeaf tnfa (start_place_at state rest))
          → Each (IsInLeaf tnfa) (map (start_place_at state) starts)
      all [] each = tt
      all (start ∷ starts) each = (each 0 start refl, all starts (λ index rest nth. each (suc index) rest nth))

      by : (b : Bool) (starts : List Residual)
          → ((index : ℕ) (rest : Residual) → IsNth starts index rest → IsInLeaf tnfa (start_place_at state rest))
          → Each (IsInLeaf tnfa) (if b then map (start_place_at state) starts else [])
      by true starts each = all starts each
      by false starts each = tt

  -- and so are those after them
  pub after_in_leaf : (place : Place) (unit : ℕ) (to : Place) → IsInLeaf tnfa place → place_after tnfa place unit ≡ Some to
      → IsInLeaf tnfa to
  after_in_leaf place unit to in_leaf e =
      let on =
      mapped_from (λ rest. record { part = place.part; rest = numbered rest })
      (rest_after tnfa.classes (state_at tnfa place) place.rest.0 unit) to e in
      subst (IsInLeaf tnfa) on.2 (
        record {
          part = in_leaf.0.part;
          rest =
              rest_stays tnfa.classes (state_at tnfa place) place.part place.rest.0 unit on.0
              (steps_stay tnfa.enc tnfa.classes is.are) in_leaf.0.rest
              on.1;
        },
        in_leaf.1,
      )
