-- What a leaf reads by a start is a number behind its state, with the index of the start among those that the unit leads on from.
use Rattle.std.proofs.Common.{◌≡◌, ℕ, zero, suc, ◌+◌, ◌<◌, arith, Bool, true, false, List, [], ◌∷◌, ◌++◌, map, length, get_or, refl, sym, ap, ◌∙◌, subst, Some, ⊎_elim}
use Rattle.std.specs.Option.{option_map}
use Rattle.std.specs.Prelude.{◌&&◌, Contains, nat_lt, if◌then◌else◌}
use Rattle.lx_base.specs.declared.settings.Enc.{Enc}
use Rattle.lx_base.specs.declared.settings.Enc.TheVariants.{Byte, Ucs2, Utf8, Utf16, Utf32}
use Rattle.lx_encode.specs.Graph.{numbered, parts}
use Rattle.lx_encode.specs.declared.graph.Residual.{Residual}
use Rattle.lx_regex.specs.Automaton as spec
use Rattle.lx_regex.specs.Automaton.{automaton, leaf, moves, unit_leaf}
use Rattle.lx_regex.specs.PartList.{set_of}
use Rattle.lx_regex.specs.Reading.{IsReading, of_point, of_unit}
use Rattle.lx_regex.specs.Script.{Symbol, has_long, has_short, leaf_choice, picks, reads, units}
use Rattle.lx_regex.specs.Term.{Term}
use Rattle.lx_regex.specs.Walk.{mark}
use Rattle.lx_regex.proofs.Walks.PlainWalk.{units_mark}
use Rattle.lx_regex.proofs.Walks.Readings.{code_quiet}
use Rattle.lx_tnfa.specs.LeafReadings.{IsNth}
use Rattle.lx_tnfa.specs.Live.{ReachesEnd, at_end, behind_leaf, leads_to, mark_at, onward, starts_at, state_of}
use Rattle.lx_tnfa.specs.PlaceNumbers.{class_starts, leaf_starts, numbers_after, numbers_from, place_number, set_at, symbols_added, ways_to_read}
use Rattle.lx_tnfa.specs.Rows.{Represents}
use Rattle.lx_tnfa.specs.Tnfa.{Tnfa, rest_after, rows_at}
use Rattle.lx_tnfa.specs.declared.classes.ClassGraph.{ClassGraph}
use Rattle.lx_tnfa.specs.declared.states.State.{State}
use Rattle.lx_tnfa.specs.declared.states.State.TheVariants as held
use Rattle.lx_tnfa.proofs.Leaves.LeafNumbering.{numbers_leaves}
use Rattle.lx_tnfa.proofs.Leaves.LeafNumbers.{read_at, state_turn, way_of}
use Rattle.lx_tnfa.proofs.Leaves.LeafStarts.{class_graph}
use Rattle.lx_tnfa.proofs.Construction.NthLists.{mapped_from, nth_map, nth_unmap}
use Rattle.lx_tnfa.proofs.Leaves.TableLeaves.{row_or_none}
use Rattle.lx_tdfa.proofs.Walks.ClosureSearches.{events_of}
use Rattle.lx_tdfa.proofs.Walks.StartLists.{nth_ranked, rank, rank_nth, start_chosen, start_listed}
use Rattle.lx_tdfa.proofs.Walks.StopPlaces.{IsLeafState, leaf_even, start_leaf, state_count}
use Rattle.lx_tdfa.proofs.Walks.StopSteps.{Holds, events_mark, start_within, starts_in, state_moves}

-- the choice of a leaf is no tag event
choice_events : (enc : Enc) (ranges : List (ℕ × ℕ)) (point : ℕ) → events_of (leaf_choice enc ranges point) ≡ []
choice_events Byte ranges point = refl
choice_events Ucs2 ranges point = refl
choice_events Utf8 ranges point = refl
choice_events Utf16 ranges point = at (has_short ranges && has_long ranges)
  where
    at : (b : Bool) → events_of (if b then picks (if nat_lt point 0x10000 then 1 else 0) ∷ [] else []) ≡ []
    at true = refl
    at false = refl
choice_events Utf32 ranges point = refl

reading_events : (enc : Enc) {row : spec.State} {choice : List Symbol} {units : List ℕ} → IsReading enc row choice units → events_of choice ≡ []
reading_events enc (of_point {ranges} point within) = choice_events enc ranges point
reading_events enc (of_unit unit) = refl

only_one : (x y : ℕ) → Contains (x ∷ []) y → y ≡ x
only_one x y c = at c.0 c.1 c.2
  where
    at : (k : ℕ) → k < 1 → get_or (x ∷ []) k y ≡ y → y ≡ x
    at zero lt is = sym is
    at (suc k) lt is = absurd (omega arith)

behind_only : (list : List Residual) (number next : ℕ) → Contains (behind_leaf list number) next → next ≡ number
behind_only [] number next c = absurd (omega (arith, c.1))
behind_only (start ∷ starts) number next c = only_one number next c

leaf_leads : (classes : List ClassGraph) (state : State) (number next : ℕ) → IsLeafState state → Contains (leads_to classes number state) next
    → next ≡ suc number
leaf_leads classes (held.Moves ways) number next l c = absurd l
leaf_leads classes (held.Class class) number next l c = behind_only (starts_at classes class) (suc number) next c
leaf_leads classes held.AnyUnit number next l c = only_one (suc number) next c

start_leads : (classes : List ClassGraph) (state : State) (number index : ℕ) (rest : Residual) → IsNth (starts_in classes state) index rest
    → Contains (leads_to classes number state) (suc number)
start_leads classes (held.Moves ways) number index rest nth = absurd nth
start_leads classes (held.Class class) number index rest nth = at (starts_at classes class) nth
  where
    at : (list : List Residual) → IsNth list index rest → Contains (behind_leaf list (suc number)) (suc number)
    at [] nth = absurd nth
    at (start ∷ starts) nth = (0, omega arith, refl)
start_leads classes held.AnyUnit number index rest nth = (0, omega arith, refl)

module _ (tnfa : Tnfa) (rules : List Term) (is : Holds tnfa rules) where
  -- behind a leaf from which an end can be reached the same end can be
  leaf_reaches : (number : ℕ) → IsLeafState (state_of tnfa.states number) → ReachesEnd tnfa.classes tnfa.states number
      → ReachesEnd tnfa.classes tnfa.states (suc number)
  leaf_reaches zero l at_end = absurd (subst IsLeafState (state_moves tnfa rules is 0 [] refl) l)
  leaf_reaches number l (onward next leads reaches) =
      subst (ReachesEnd tnfa.classes tnfa.states) (leaf_leads tnfa.classes (state_of tnfa.states number) number next l leads) reaches

  -- a start of the leaf at a state, in the list with choices
  pub start_choice : (number index : ℕ) (rest : Residual) → IsNth (starts_in tnfa.classes (state_of tnfa.states number)) index rest
      → (choice : List Symbol) × IsNth (leaf_starts tnfa (state_of tnfa.states number)) index (choice, rest.0)
  start_choice number index rest nth =
      ⊎_elim
      (λ row. at row.0 (state_of tnfa.states number) row.2 nth)
      (λ none. absurd (subst (λ s. IsNth (starts_in tnfa.classes s) index rest) none nth))
      (row_or_none tnfa.classes (automaton rules) tnfa.states number is.states)
    where
      one : (index : ℕ) → IsNth (numbered 1 ∷ []) index rest → (choice : List Symbol) × IsNth {X = List Symbol × ℕ} (([], 1) ∷ []) index (choice, rest.0)
      one zero nth = ([], ap (λ (r : Residual). ([], r.0)) nth)
      one (suc index) nth = absurd nth

      at : (row : spec.State) (state : State) → Represents tnfa.classes row state → IsNth (starts_in tnfa.classes state) index rest
          → (choice : List Symbol) × IsNth (leaf_starts tnfa state) index (choice, rest.0)
      at row (held.Moves ways) h nth = absurd nth
      at (moves ways) (held.Class class) h nth = absurd h
      at (leaf ranges) (held.Class class) h nth =
          let graph = class_graph tnfa.enc tnfa.classes class (set_of ranges) is.are h in
          let found =
          start_chosen (rows_at tnfa.classes class) tnfa.enc (set_of ranges) graph.1.live (parts tnfa.enc) (starts_at tnfa.classes class) index rest
          graph.1.starts nth in (
            found.0,
            subst (λ s. IsNth (class_starts tnfa.enc s (parts tnfa.enc) (starts_at tnfa.classes class)) index (found.0, rest.0)) (sym graph.0) found.1,
          )
      at unit_leaf (held.Class class) h nth = absurd h
      at row held.AnyUnit h nth = one index nth

  choice_start : (state : State) (index : ℕ) (start : List Symbol × ℕ) → IsNth (leaf_starts tnfa state) index start
      → (rest : Residual) × IsNth (starts_in tnfa.classes state) index rest × (rest.0 ≡ start.1)
  choice_start (held.Moves ways) index start nth = absurd nth
  choice_start (held.Class class) index start nth =
      start_listed tnfa.enc (set_at tnfa.classes class) (parts tnfa.enc) (starts_at tnfa.classes class) index start nth
  choice_start held.AnyUnit zero start nth = (numbered 1, refl, ap (λ (s : List Symbol × ℕ). s.1) nth)
  choice_start held.AnyUnit (suc index) start nth = absurd nth

  -- the index among the starts from which the unit leads on
  abbrev pub pick_of : (number unit index : ℕ) → ℕ
  pick_of number unit index = rank (way_of tnfa (state_of tnfa.states number) unit) (leaf_starts tnfa (state_of tnfa.states number)) index

  -- the state is a leaf that reads the unit by the start with this index, and this is left of it
  pub record Reads (number unit index pick to : ℕ) (rest : Residual) (next : ℕ) : Type 0 where
    pub nth : IsNth (numbers_after tnfa number unit) pick to
    pub to_is : to ≡ place_number tnfa number next
    pub start : IsNth (starts_in tnfa.classes (state_of tnfa.states number)) index rest
    pub leads : rest_after tnfa.classes (state_of tnfa.states number) rest.0 unit ≡ Some next
    pub listed : (choice : List Symbol) × IsNth (leaf_starts tnfa (state_of tnfa.states number)) index (choice, rest.0)
    pub pick_is : pick ≡ pick_of number unit index
    pub reaches : ReachesEnd tnfa.classes tnfa.states number
    pub before : List Symbol
    pub added : symbols_added tnfa number unit pick ≡ before ++ reads unit ∷ []
    pub silent : units before ≡ []
    pub still : events_of before ≡ []

  numbers_are : (number unit : ℕ) → number < length tnfa.states
      → numbers_after tnfa number unit
      ≡ (if mark_at tnfa.live (number + 1)
      then map (λ (way : List Symbol × ℕ). place_number tnfa number way.1) (ways_to_read tnfa (state_of tnfa.states number) unit) else [])
  numbers_are number unit lt = read_at tnfa (λ turn l. numbers_from tnfa turn l unit) number 0 number lt (state_turn tnfa number)

  reads_by : (number unit index pick to : ℕ) (rest : Residual) (next : ℕ) → number < length tnfa.states
      → IsNth (numbers_after tnfa number unit) pick to → to ≡ place_number tnfa number next
      → IsNth (starts_in tnfa.classes (state_of tnfa.states number)) index rest
      → rest_after tnfa.classes (state_of tnfa.states number) rest.0 unit ≡ Some next → pick ≡ pick_of number unit index
      → ReachesEnd tnfa.classes tnfa.states number → Reads number unit index pick to rest next
  reads_by number unit index pick to rest next lt nth to_is start leads pick_is reaches =
      let n = numbers_leaves tnfa rules is.are is.states is.fits is.live in
      let r = n.leaf_sound number unit pick to (omega (arith, lt, state_count tnfa rules is)) nth in record {
        nth = nth;
        to_is = to_is;
        start = start;
        leads = leads;
        listed = start_choice number index rest start;
        pick_is = pick_is;
        reaches = reaches;
        before = mark number ∷ r.1;
        added = r.6;
        silent = units_mark number r.1 ∙ code_quiet tnfa.enc r.4;
        still = events_mark number r.1 ∙ reading_events tnfa.enc r.4;
      }

  -- a start from which the unit leads on is read by
  pub start_reads : (number unit index : ℕ) (rest : Residual) (next : ℕ)
      → IsNth (starts_in tnfa.classes (state_of tnfa.states number)) index rest → ReachesEnd tnfa.classes tnfa.states number
      → rest_after tnfa.classes (state_of tnfa.states number) rest.0 unit ≡ Some next
      → Reads number unit index (pick_of number unit index) (place_number tnfa number next) rest next
  start_reads number unit index rest next nth reaches leads =
      let lt = start_within tnfa.classes tnfa.states number index rest nth in
      let state = state_of tnfa.states number in
      let l = start_leaf tnfa.classes state index rest nth in
      let choice = start_choice number index rest nth in
      let way =
      rank_nth (way_of tnfa state unit) (leaf_starts tnfa state) index (choice.0, rest.0) (choice.0, next) choice.1
      (ap (option_map (λ left. (choice.0, left))) leads) in
      let marked : mark_at tnfa.live (number + 1) ≡ true =
      (is.live (number + 1) (leaf_even tnfa rules is number l).1).1
      (let e : suc number ≡ number + 1 = omega arith in subst (ReachesEnd tnfa.classes tnfa.states) e (leaf_reaches number l reaches)) in
      let all = map (λ (way : List Symbol × ℕ). place_number tnfa number way.1) (ways_to_read tnfa state unit) in
      reads_by number unit index (pick_of number unit index) (place_number tnfa number next) rest next lt
      (subst (λ l. IsNth l (pick_of number unit index) (place_number tnfa number next)) (sym (numbers_are number unit lt))
      (subst (λ b. IsNth (if b then all else []) (pick_of number unit index) (place_number tnfa number next)) (sym marked)
      (nth_map (λ (way : List Symbol × ℕ). place_number tnfa number way.1) (ways_to_read tnfa state unit) (pick_of number unit index) (choice.0, next) way)))
      refl nth leads refl reaches

  -- and each number behind a state is read by a start
  pub number_reads : (number unit pick to : ℕ) → number < length tnfa.states → IsNth (numbers_after tnfa number unit) pick to
      → (index : ℕ) × (rest : Residual) × (next : ℕ) × Reads number unit index pick to rest next
  number_reads number unit pick to lt nth =
      at (mark_at tnfa.live (number + 1)) refl (subst (λ l. IsNth l pick to) (numbers_are number unit lt) nth)
    where
      at : (b : Bool) → mark_at tnfa.live (number + 1) ≡ b
          → IsNth (if b then map (λ (way : List Symbol × ℕ). place_number tnfa number way.1) (ways_to_read tnfa (state_of tnfa.states number) unit) else []) pick to
          → (index : ℕ) × (rest : Residual) × (next : ℕ) × Reads number unit index pick to rest next
      at false e k = absurd k
      at true e k =
          let way = nth_unmap (λ (way : List Symbol × ℕ). place_number tnfa number way.1) (ways_to_read tnfa (state_of tnfa.states number) unit) pick to k in
          let r = nth_ranked (way_of tnfa (state_of tnfa.states number) unit) (leaf_starts tnfa (state_of tnfa.states number)) pick way.0 way.1 in
          let m =
          mapped_from (λ left. (r.x.0, left)) (rest_after tnfa.classes (state_of tnfa.states number) r.x.1 unit) way.0 r.is in
          let start = choice_start (state_of tnfa.states number) r.index r.x r.nth in
          let l = start_leaf tnfa.classes (state_of tnfa.states number) r.index start.0 start.1 in
          let below = (leaf_even tnfa rules is number l).1 in
          let next : m.0 ≡ way.0.1 = ap (λ (s : List Symbol × ℕ). s.1) m.2 in
          let same : number + 1 ≡ suc number = omega arith in (
            r.index,
            start.0,
            m.0,
            reads_by number unit r.index pick to start.0 m.0 lt nth (sym way.2 ∙ ap (place_number tnfa number) (sym next)) start.1
                (ap (λ n. rest_after tnfa.classes (state_of tnfa.states number) n unit) start.2 ∙ m.1) r.at
                (onward (suc number) (start_leads tnfa.classes (state_of tnfa.states number) number r.index start.0 start.1)
                (subst (ReachesEnd tnfa.classes tnfa.states) same ((is.live (number + 1) below).0 e))),
          )
