-- The search with a trail: the entries of its stack stand for stops that wait.
use Rattle.std.proofs.Common.{◌≡◌, ℕ, zero, suc, ◌+◌, ◌<◌, ◌≤◌, ◌⊎◌, arith, List, [], ◌∷◌, ◌++◌, map, take, length, refl, sym, ap, ap₂, ◌∙◌, subst, length-append, Some, None}
use Rattle.std.proofs.lemmas.List.{length-take-le, map-append, reverse-append, reverse-reverse, take-append-le, take_all}
use Rattle.std.proofs.lemmas.List.Elements.{All-push}
use Rattle.std.specs.Prelude.{◌*◌, All, Bool, true, false, Contains, nat_eq, reverse, slice_index_or, if◌then◌else◌}
use Rattle.lx_encode.specs.declared.graph.Residual.{Residual}
use Rattle.lx_encode.specs.Graph.{numbered}
use Rattle.lx_encode.specs.Table.{row_of}
use Rattle.lx_encode.specs.declared.runs.Run.{Run}
use Rattle.lx_tnfa.specs.Closure.{AllPlaces, IsClosureOf, IsDead, IsTarget, IsTargetAt, LeadToTargets, Step, Waiting, beginning_at, beginning_of, behind_or_at, leaf_step, steps_at, steps_from, stop_at, waiting_from}
use Rattle.lx_tnfa.specs.Live.{starts_at, state_of}
use Rattle.lx_tnfa.specs.Search.{entries_at, entry_to, first_entry, move_entries, move_events, trail_to, way_events}
use Rattle.lx_tnfa.specs.Tnfa.{Tnfa, IsPlace, rows_at, state_at}
use Rattle.lx_tnfa.specs.declared.closure.Reach.{Reach}
use Rattle.lx_tnfa.specs.declared.closure.Stop.{Stop}
use Rattle.lx_tnfa.specs.declared.closure.Stop.TheVariants.{AtState, AtTarget}
use Rattle.lx_tnfa.specs.declared.closure.Target.{Target}
use Rattle.lx_tnfa.specs.declared.closure.Target.TheVariants.{Leaf}
use Rattle.lx_tnfa.specs.declared.places.Place.{Place}
use Rattle.lx_tnfa.specs.declared.search.Branch.{Branch}
use Rattle.lx_tnfa.specs.declared.search.Entry.{Entry}
use Rattle.lx_tnfa.specs.declared.states.Event.{Event}
use Rattle.lx_tnfa.specs.declared.states.Move.{Move}
use Rattle.lx_tnfa.specs.declared.states.State.{State}
use Rattle.lx_tnfa.specs.declared.states.State.TheVariants.{Moves, Class, AnyUnit}
use Rattle.lx_tnfa.proofs.Searching.ClosureLoop.{ClosureSoFar, OnTop, closure_begin, closure_dropped, closure_state, closure_target, closure_whole, on_top, one_step_on, top_some, work_dropped, work_left, work_state, work_target}
use Rattle.lx_tnfa.proofs.Searching.SearchBasics.{Each, Each-append}

-- what an entry stands for: a stop that waits, with the events of the walk to it
abbrev pub waiting_of : List State → (trail : List Event) → Entry → Waiting
waiting_of states trail entry = record { stop = entry.stop; events = trail_to states trail entry; from = entry.from }

map_reverse : {X Y : Type 0} (f : X → Y) (xs : List X) → map f (reverse xs) ≡ reverse (map f xs)
map_reverse f [] = refl
map_reverse f (x ∷ xs) =
    ap (map f) (reverse-append (x ∷ []) xs) ∙ map-append f (reverse xs) (x ∷ [])
    ∙ ap (λ l. l ++ f x ∷ []) (map_reverse f xs) ∙ sym (reverse-append (f x ∷ []) (map f xs))

each_reverse : {X : Type 0} (P : X → Type 0) (xs : List X) → Each P xs → Each P (reverse xs)
each_reverse P [] h = tt
each_reverse P (x ∷ xs) h =
    subst (Each P) (sym (reverse-append (x ∷ []) xs)) (Each-append P (reverse xs) (x ∷ []) (each_reverse P xs h.1) (h.0, tt))

each_front : {X : Type 0} (P : X → Type 0) (xs ys : List X) → Each P (xs ++ ys) → Each P xs × Each P ys
each_front P [] ys h = (tt, h)
each_front P (x ∷ xs) ys h = let r = each_front P xs ys h.1 in ((h.0, r.0), r.1)

-- from the top of the stack to its bottom the trail is never longer than at the entry above
abbrev pub Deepens : (limit : ℕ) → List Entry → Type 0
Deepens limit [] = Unit {0}
Deepens limit (entry ∷ entries) = (entry.depth ≤ limit) × Deepens entry.depth entries

deepens_more : (limit more : ℕ) (entries : List Entry) → limit ≤ more → Deepens limit entries → Deepens more entries
deepens_more limit more [] le deep = tt
deepens_more limit more (entry ∷ entries) le deep = let here = deep.0 in (omega (arith, le, here), deep.1)

deepens_on : (limit : ℕ) (news entries : List Entry) → Each (λ (entry : Entry). entry.depth ≡ limit) news → Deepens limit entries
    → Deepens limit (news ++ entries)
deepens_on limit [] entries same deep = deep
deepens_on limit (entry ∷ news) entries same deep =
    let here = same.0 in
    (omega (arith, here), subst (λ n. Deepens n (news ++ entries)) (sym here) (deepens_on limit news entries same.1 deep))

-- below the depth of an entry the trail is what it was
trail_front : (trail more : List Event) (depth limit : ℕ) → depth ≤ limit → limit ≤ length trail
    → take depth (take limit trail ++ more) ≡ take depth trail
trail_front trail more depth limit le within =
    let long = length-take-le limit trail within in
    take-append-le depth (take limit trail) more (omega (arith, le, long)) ∙ take_twice trail depth limit le
  where
    take_twice : (trail : List Event) (depth limit : ℕ) → depth ≤ limit → take depth (take limit trail) ≡ take depth trail
    take_twice trail zero limit le = refl
    take_twice trail (suc depth) zero le = absurd (omega (arith, le))
    take_twice [] (suc depth) (suc limit) le = refl
    take_twice (event ∷ trail) (suc depth) (suc limit) le = ap (λ l. event ∷ l) (take_twice trail depth limit (omega (arith, le)))

same_waiting : (states : List State) (trail more : List Event) (limit : ℕ) (entries : List Entry) → limit ≤ length trail → Deepens limit entries
    → map (waiting_of states (take limit trail ++ more)) entries ≡ map (waiting_of states trail) entries
same_waiting states trail more limit [] within deep = refl
same_waiting states trail more limit (entry ∷ entries) within deep =
    ap₂ (λ front others. record { stop = entry.stop; events = front ++ way_events states entry.way; from = entry.from } ∷ others)
    (trail_front trail more entry.depth limit deep.0 within)
    (same_waiting states trail more limit entries within (deepens_more entry.depth limit entries deep.0 deep.1))

-- the same of the stack from its bottom
same_stack : (states : List State) (trail more : List Event) (limit : ℕ) (waiting : List Entry) → limit ≤ length trail → Deepens limit (reverse waiting)
    → map (waiting_of states (take limit trail ++ more)) waiting ≡ map (waiting_of states trail) waiting
same_stack states trail more limit waiting within deep =
    ap (map (waiting_of states (take limit trail ++ more))) (sym (reverse-reverse waiting))
    ∙ map_reverse (waiting_of states (take limit trail ++ more)) (reverse waiting)
    ∙ ap reverse (same_waiting states trail more limit (reverse waiting) within deep)
    ∙ sym (map_reverse (waiting_of states trail) (reverse waiting))
    ∙ ap (map (waiting_of states trail)) (reverse-reverse waiting)

-- the entries of steps stand for the stops one step on
module _ (tnfa : Tnfa) (branch : Branch) (trail : List Event) (top : Waiting) (depth : branch.depth ≡ length trail)
    (events : top.events ≡ trail) (from : top.from ≡ branch.from) where
  whole : take branch.depth trail ≡ top.events
  whole = let le : length trail ≤ branch.depth = omega (arith, depth) in take_all branch.depth trail le ∙ sym events

  without_way : (to : Stop) → waiting_of tnfa.states trail (entry_to branch None to) ≡ one_step_on top (record { to = to; events = [] })
  without_way to = ap₂ (λ front index. record { stop = to; events = front ++ []; from = index }) whole (sym from)

  begins_stand : (begins : List ℕ)
      → map (waiting_of tnfa.states trail) (map (λ begin. entry_to branch None (AtState begin)) begins)
      ≡ map (one_step_on top) (map (λ begin. record { to = AtState begin; events = [] }) begins)
  begins_stand [] = refl
  begins_stand (begin ∷ begins) = ap₂ (λ a b. a ∷ b) (without_way (AtState begin)) (begins_stand begins)

  starts_stand : (part : ℕ) (starts : List Residual)
      → map (waiting_of tnfa.states trail) (map (λ start. entry_to branch None (leaf_step part start).to) starts)
      ≡ map (one_step_on top) (map (leaf_step part) starts)
  starts_stand part [] = refl
  starts_stand part (start ∷ starts) = ap₂ (λ a b. a ∷ b) (without_way (leaf_step part start).to) (starts_stand part starts)

  moves_stand : (rule first : ℕ) (all ways : List Move) → state_of tnfa.states branch.state ≡ Moves all
      → ((index : ℕ) → slice_index_or (map (λ (way : Move). way.events) ways) index []
      ≡ slice_index_or (map (λ (way : Move). way.events) all) (first + index) [])
      → map (waiting_of tnfa.states trail) (move_entries branch rule first ways)
      ≡ map (one_step_on top) (map (λ (way : Move). record { to = stop_at rule way.to; events = way.events }) ways)
  moves_stand rule first all [] is are = refl
  moves_stand rule first all (way ∷ ways) is are =
      let here : first + 0 ≡ first = omega arith in
      let events_are : way_events tnfa.states (Some (record { state = branch.state; index = first })) ≡ way.events =
      ap (λ s. move_events s first) is
      ∙ sym (are 0 ∙ ap (λ n. slice_index_or (map (λ (way : Move). way.events) all) n []) here) in
      ap₂ (λ a b. a ∷ b)
      (λ i. record { stop = stop_at rule way.to; events = whole i ++ events_are i; from = sym from i })
      (moves_stand rule (suc first) all ways is
      (λ index. let next : first + suc index ≡ suc first + index = omega arith in
      are (suc index) ∙ ap (λ n. slice_index_or (map (λ (way : Move). way.events) all) n []) next))

  entries_stand : map (waiting_of tnfa.states trail) (entries_at tnfa branch branch.state (state_of tnfa.states branch.state))
      ≡ map (one_step_on top) (steps_at tnfa branch.state (state_of tnfa.states branch.state))
  entries_stand = at branch.state (state_of tnfa.states branch.state) refl
    where
      at : (number : ℕ) (state : State) → state_of tnfa.states branch.state ≡ state
          → map (waiting_of tnfa.states trail) (entries_at tnfa branch number state) ≡ map (one_step_on top) (steps_at tnfa number state)
      at zero state is = begins_stand tnfa.begins
      at (suc number) (Moves ways) is =
          moves_stand _ 0 ways ways is
          (λ index. let e : index ≡ 0 + index = omega arith in ap (λ n. slice_index_or (map (λ (way : Move). way.events) ways) n []) e)
      at (suc number) (Class class_number) is = starts_stand _ (starts_at tnfa.classes class_number)
      at (suc number) AnyUnit is = starts_stand _ (numbered 1 ∷ [])

-- all entries of steps have the depth of their branch
entries_deep : (tnfa : Tnfa) (branch : Branch) (number : ℕ) (state : State)
    → Each (λ (entry : Entry). entry.depth ≡ branch.depth) (entries_at tnfa branch number state)
entries_deep tnfa branch zero state = begins tnfa.begins
  where
    begins : (list : List ℕ) → Each (λ (entry : Entry). entry.depth ≡ branch.depth) (map (λ begin. entry_to branch None (AtState begin)) list)
    begins [] = tt
    begins (begin ∷ list) = (refl, begins list)
entries_deep tnfa branch (suc number) (Moves ways) = moves _ 0 ways
  where
    moves : (rule index : ℕ) (list : List Move) → Each (λ (entry : Entry). entry.depth ≡ branch.depth) (move_entries branch rule index list)
    moves rule index [] = tt
    moves rule index (way ∷ list) = (refl, moves rule (suc index) list)
entries_deep tnfa branch (suc number) (Class class_number) = starts _ (starts_at tnfa.classes class_number)
  where
    starts : (part : ℕ) (list : List Residual)
        → Each (λ (entry : Entry). entry.depth ≡ branch.depth) (map (λ start. entry_to branch None (leaf_step part start).to) list)
    starts part [] = tt
    starts part (start ∷ list) = (refl, starts part list)
entries_deep tnfa branch (suc number) AnyUnit = (refl, tt)

-- what waits one step on are places, where the steps lead to places
steps_targets : (tnfa : Tnfa) (top : Waiting) (steps : List Step) → LeadToTargets tnfa steps
    → Each (λ (waiting : Waiting). IsTargetAt tnfa waiting.stop) (map (one_step_on top) steps)
steps_targets tnfa top [] lead = tt
steps_targets tnfa top (step ∷ steps) lead = (lead.0, steps_targets tnfa top steps lead.1)

-- and so do the beginnings of walks
begins_targets : (tnfa : Tnfa) (places : List Place) (from : ℕ) → All (IsPlace tnfa) places
    → Each (λ (waiting : Waiting). IsTargetAt tnfa waiting.stop) (waiting_from tnfa from places)
begins_targets tnfa [] from are = tt
begins_targets tnfa (place ∷ places) from are =
    (at (state_at tnfa place) (are 0 place (omega arith)), begins_targets tnfa places (suc from) (λ k d lt. are (suc k) d (omega (arith, lt))))
  where
    behind : (runs : List Run) → IsPlace tnfa place → IsTargetAt tnfa (behind_or_at runs place)
    behind [] is = tt
    behind (run ∷ runs) is = is

    unit_at : (done : Bool) → IsPlace tnfa place → IsTargetAt tnfa (if done then AtState (2 * place.part + 1) else AtTarget (Leaf place))
    unit_at true is = tt
    unit_at false is = is

    at : (state : State) → IsPlace tnfa place → IsTargetAt tnfa (beginning_at tnfa.classes state place)
    at (Moves ways) is = tt
    at (Class number) is = behind (row_of (rows_at tnfa.classes number) place.rest.0) is
    at AnyUnit is = unit_at (nat_eq place.rest.0 0) is

-- what the search has done
pub record SearchSoFar (tnfa : Tnfa) (places : List Place) (stops : List Stop) (trail : List Event) (waiting : List Entry) (reaches : List Reach) : Type 0 where
  pub so : ClosureSoFar tnfa places stops (map (waiting_of tnfa.states trail) waiting) reaches
  pub deep : Deepens (length trail) (reverse waiting)
  pub targets : Each (λ (next : Waiting). IsTargetAt tnfa next.stop) (map (waiting_of tnfa.states trail) waiting)
  pub reached : AllPlaces tnfa reaches

-- how often its loop is still to be run
abbrev pub search_left : Tnfa → List Stop → List Event → List Entry → ℕ
search_left tnfa stops trail waiting = work_left tnfa stops (map (waiting_of tnfa.states trail) waiting)

first_stand : (tnfa : Tnfa) (from : ℕ) (places : List Place)
    → map (waiting_of tnfa.states []) (map first_entry (waiting_from tnfa from places)) ≡ waiting_from tnfa from places
first_stand tnfa from [] = refl
first_stand tnfa from (place ∷ places) =
    ap (λ l. record { stop = beginning_of tnfa place; events = []; from = from } ∷ l) (first_stand tnfa (suc from) places)

first_deep : (waiting : List Waiting) → Deepens 0 (map first_entry waiting)
first_deep [] = tt
first_deep (next ∷ waiting) = (omega arith, first_deep waiting)

pub search_begin : (tnfa : Tnfa) (places : List Place) (trail : List Event) (waiting old : List Entry) → All (IsPlace tnfa) places → trail ≡ []
    → old ≡ [] → waiting ≡ old ++ reverse (map first_entry (waiting_from tnfa 0 places)) → SearchSoFar tnfa places [] trail waiting []
search_begin tnfa places trail waiting old are no_trail none is =
    let first = waiting_from tnfa 0 places in
    let entries = map first_entry first in
    let all : waiting ≡ reverse entries = is ∙ ap (λ l. l ++ reverse entries) none in
    let stand : map (waiting_of tnfa.states []) (reverse entries) ≡ reverse first =
    map_reverse (waiting_of tnfa.states []) entries ∙ ap reverse (first_stand tnfa 0 places) in
    subst (λ w. SearchSoFar tnfa places [] trail w []) (sym all)
    (subst (λ t. SearchSoFar tnfa places [] t (reverse entries) []) (sym no_trail) (record {
      so = subst (λ w. ClosureSoFar tnfa places [] w []) (sym stand) (closure_begin tnfa places);
      deep = subst (Deepens 0) (sym (reverse-reverse entries)) (first_deep first);
      targets =
          subst (Each (λ (next : Waiting). IsTargetAt tnfa next.stop)) (sym stand)
          (each_reverse (λ (next : Waiting). IsTargetAt tnfa next.stop) first (begins_targets tnfa places 0 are));
      reached = λ k d lt. absurd (omega (arith, lt));
    }))

-- an entry is taken from the top of the stack
pub record Taken (tnfa : Tnfa) (places : List Place) (stops : List Stop) (trail : List Event) (at : Entry) (waiting : List Entry) (reaches : List Reach) : Type 0 where
  pub on : OnTop tnfa places stops (waiting_of tnfa.states trail at) (map (waiting_of tnfa.states trail) waiting) reaches
  pub depth : at.depth ≤ length trail
  pub deep : Deepens at.depth (reverse waiting)
  pub target : IsTargetAt tnfa at.stop
  pub targets : Each (λ (next : Waiting). IsTargetAt tnfa next.stop) (map (waiting_of tnfa.states trail) waiting)
  pub reached : AllPlaces tnfa reaches

was_taken : (tnfa : Tnfa) (trail : List Event) (at : Entry) (old waiting : List Entry) → old ≡ waiting ++ at ∷ []
    → map (waiting_of tnfa.states trail) old ≡ map (waiting_of tnfa.states trail) waiting ++ waiting_of tnfa.states trail at ∷ []
was_taken tnfa trail at old waiting is =
    ap (map (waiting_of tnfa.states trail)) is ∙ map-append (waiting_of tnfa.states trail) waiting (at ∷ [])

pub search_taken : (tnfa : Tnfa) (places : List Place) (stops : List Stop) (trail : List Event) (at : Entry) (old waiting : List Entry)
    (reaches : List Reach) → old ≡ waiting ++ at ∷ [] → SearchSoFar tnfa places stops trail old reaches
    → Taken tnfa places stops trail at waiting reaches
search_taken tnfa places stops trail at old waiting reaches is s =
    let waits = waiting_of tnfa.states trail in
    let were = was_taken tnfa trail at old waiting is in
    let deep : Deepens (length trail) (at ∷ reverse waiting) =
    subst (Deepens (length trail)) (ap reverse is ∙ reverse-append waiting (at ∷ [])) s.deep in
    let parts =
    each_front (λ (next : Waiting). IsTargetAt tnfa next.stop) (map waits waiting) (waits at ∷ [])
    (subst (Each (λ (next : Waiting). IsTargetAt tnfa next.stop)) were s.targets) in
    record {
      on = on_top tnfa places stops (waits at) (map waits old) (map waits waiting) reaches were s.so;
      depth = deep.0;
      deep = deep.1;
      target = parts.1.0;
      targets = parts.0;
      reached = s.reached;
    }

-- a stop is not entered
pub search_dropped : (tnfa : Tnfa) (places : List Place) (stops : List Stop) (trail : List Event) (at : Entry) (waiting : List Entry)
    (reaches : List Reach) → (IsDead tnfa at.stop ⊎ Contains stops at.stop) → Taken tnfa places stops trail at waiting reaches
    → SearchSoFar tnfa places stops trail waiting reaches
search_dropped tnfa places stops trail at waiting reaches known taken = record {
  so =
      closure_dropped tnfa places stops (waiting_of tnfa.states trail at) (map (waiting_of tnfa.states trail) waiting) reaches known taken.on;
  deep = deepens_more at.depth (length trail) (reverse waiting) taken.depth taken.deep;
  targets = taken.targets;
  reached = taken.reached;
}

-- the trail goes on to the stop
kept_waiting : (tnfa : Tnfa) (places : List Place) (stops : List Stop) (trail next : List Event) (at : Entry) (waiting : List Entry) (reaches : List Reach)
    → next ≡ trail_to tnfa.states trail at → Taken tnfa places stops trail at waiting reaches
    → map (waiting_of tnfa.states next) waiting ≡ map (waiting_of tnfa.states trail) waiting
kept_waiting tnfa places stops trail next at waiting reaches is taken =
    ap (λ t. map (waiting_of tnfa.states t) waiting) is
    ∙ same_stack tnfa.states trail (way_events tnfa.states at.way) at.depth waiting taken.depth taken.deep

longer : (tnfa : Tnfa) (places : List Place) (stops : List Stop) (trail next : List Event) (at : Entry) (waiting : List Entry) (reaches : List Reach)
    → next ≡ trail_to tnfa.states trail at → Taken tnfa places stops trail at waiting reaches → Deepens (length next) (reverse waiting)
longer tnfa places stops trail next at waiting reaches is taken =
    let count = ap length is in
    let long = length-append (take at.depth trail) (way_events tnfa.states at.way) in
    let front = length-take-le at.depth trail taken.depth in
    deepens_more at.depth (length next) (reverse waiting) (omega (arith, count, long, front)) taken.deep

-- what waits behind a state that is visited
steps_waiting : (tnfa : Tnfa) (places : List Place) (stops : List Stop) (trail next : List Event) (at : Entry) (waiting more : List Entry) (reaches : List Reach)
    (branch : Branch) → at.stop ≡ AtState branch.state → branch.depth ≡ length next → branch.from ≡ at.from
    → next ≡ trail_to tnfa.states trail at
    → more ≡ waiting ++ reverse (entries_at tnfa branch branch.state (state_of tnfa.states branch.state))
    → Taken tnfa places stops trail at waiting reaches
    → map (waiting_of tnfa.states next) more
    ≡ map (waiting_of tnfa.states trail) waiting ++ reverse (map (one_step_on (waiting_of tnfa.states trail at)) (steps_from tnfa at.stop))
steps_waiting tnfa places stops trail next at waiting more reaches branch is depth from trailed pushed taken =
    let waits = waiting_of tnfa.states next in
    let entries = entries_at tnfa branch branch.state (state_of tnfa.states branch.state) in
    let top = waiting_of tnfa.states trail at in
    ap (map waits) pushed ∙ map-append waits waiting (reverse entries)
    ∙ ap₂ (λ a b. a ++ b) (kept_waiting tnfa places stops trail next at waiting reaches trailed taken)
    (map_reverse waits entries ∙ ap reverse (entries_stand tnfa branch next top depth (sym trailed) (sym from)))
    ∙ ap (λ s. map (waiting_of tnfa.states trail) waiting ++ reverse (map (one_step_on top) (steps_from tnfa s))) (sym is)

pub search_state : (tnfa : Tnfa) (places : List Place) (stops : List Stop) (trail next : List Event) (at : Entry) (waiting more : List Entry)
    (reaches : List Reach) (branch : Branch) → All (IsPlace tnfa) places → at.stop ≡ AtState branch.state → branch.depth ≡ length next
    → branch.from ≡ at.from → ¬ IsDead tnfa at.stop → ¬ Contains stops at.stop → next ≡ trail_to tnfa.states trail at
    → more ≡ waiting ++ reverse (entries_at tnfa branch branch.state (state_of tnfa.states branch.state))
    → LeadToTargets tnfa (steps_at tnfa branch.state (state_of tnfa.states branch.state))
    → Taken tnfa places stops trail at waiting reaches → SearchSoFar tnfa places (stops ++ at.stop ∷ []) next more reaches
search_state tnfa places stops trail next at waiting more reaches branch are is depth from live new trailed pushed lead taken =
    let waits = waiting_of tnfa.states trail in
    let entries = entries_at tnfa branch branch.state (state_of tnfa.states branch.state) in
    let some = top_some tnfa places stops (waits at) (map waits waiting) reaches are taken.on in
    let all = steps_waiting tnfa places stops trail next at waiting more reaches branch is depth from trailed pushed taken in
    let turned : reverse more ≡ entries ++ reverse waiting =
    ap reverse pushed ∙ reverse-append waiting (reverse entries) ∙ ap (λ l. l ++ reverse waiting) (reverse-reverse entries) in
    let steps = subst (λ s. LeadToTargets tnfa (steps_from tnfa s)) (sym is) lead in record {
      so =
          closure_state tnfa some places stops (waits at) (map waits waiting) (map (waiting_of tnfa.states next) more) reaches branch.state is live
          new all taken.on;
      deep =
          subst (Deepens (length next)) (sym turned)
          (subst (λ n. Deepens n (entries ++ reverse waiting)) depth
          (deepens_on branch.depth entries (reverse waiting) (entries_deep tnfa branch branch.state (state_of tnfa.states branch.state))
          (subst (λ n. Deepens n (reverse waiting)) (sym depth)
          (longer tnfa places stops trail next at waiting reaches trailed taken))));
      targets =
          subst (Each (λ (after : Waiting). IsTargetAt tnfa after.stop)) (sym all)
          (Each-append (λ (after : Waiting). IsTargetAt tnfa after.stop) (map waits waiting) (reverse (map (one_step_on (waits at)) (steps_from tnfa at.stop)))
          taken.targets
          (each_reverse (λ (after : Waiting). IsTargetAt tnfa after.stop) (map (one_step_on (waits at)) (steps_from tnfa at.stop))
          (steps_targets tnfa (waits at) (steps_from tnfa at.stop) steps)));
      reached = taken.reached;
    }

pub search_target : (tnfa : Tnfa) (places : List Place) (stops : List Stop) (trail next : List Event) (at : Entry) (waiting : List Entry)
    (reaches more : List Reach) (target : Target) → All (IsPlace tnfa) places → at.stop ≡ AtTarget target → ¬ IsDead tnfa at.stop
    → ¬ Contains stops at.stop → next ≡ trail_to tnfa.states trail at
    → more ≡ reaches ++ record { to = target; events = next; from = at.from } ∷ []
    → Taken tnfa places stops trail at waiting reaches → SearchSoFar tnfa places (stops ++ at.stop ∷ []) next waiting more
search_target tnfa places stops trail next at waiting reaches more target are is live new trailed pushed taken =
    let waits = waiting_of tnfa.states trail in
    let some = top_some tnfa places stops (waits at) (map waits waiting) reaches are taken.on in
    let kept = kept_waiting tnfa places stops trail next at waiting reaches trailed taken in
    let reach : Reach = record { to = target; events = next; from = at.from } in record {
      so =
          subst (λ w. ClosureSoFar tnfa places (stops ++ at.stop ∷ []) w more) (sym kept)
          (closure_target tnfa some places stops (waits at) (map waits waiting) reaches more target is live new
          (pushed ∙ ap (λ e. reaches ++ record { to = target; events = e; from = at.from } ∷ []) trailed) taken.on);
      deep = longer tnfa places stops trail next at waiting reaches trailed taken;
      targets = subst (Each (λ (after : Waiting). IsTargetAt tnfa after.stop)) (sym kept) taken.targets;
      reached =
          subst (AllPlaces tnfa) (sym pushed)
          (All-push (λ (reached : Reach). IsTarget tnfa reached.to) reaches reach taken.reached (subst (IsTargetAt tnfa) is taken.target));
    }

-- the search has come to its end
pub search_end : (tnfa : Tnfa) (places : List Place) (stops : List Stop) (trail : List Event) (waiting : List Entry) (reaches : List Reach)
    → All (IsPlace tnfa) places → waiting ≡ [] → SearchSoFar tnfa places stops trail waiting reaches
    → IsClosureOf tnfa places reaches
search_end tnfa places stops trail waiting reaches are none s =
    closure_whole tnfa places stops reaches are
    (subst (λ w. ClosureSoFar tnfa places stops (map (waiting_of tnfa.states trail) w) reaches) none s.so)

-- each run of the loop leaves less to do
pub left_dropped : (tnfa : Tnfa) (places : List Place) (stops : List Stop) (trail : List Event) (at : Entry) (old waiting : List Entry)
    (reaches : List Reach) → old ≡ waiting ++ at ∷ [] → (IsDead tnfa at.stop ⊎ Contains stops at.stop)
    → Taken tnfa places stops trail at waiting reaches → search_left tnfa stops trail waiting < search_left tnfa stops trail old
left_dropped tnfa places stops trail at old waiting reaches is known taken =
    let waits = waiting_of tnfa.states trail in
    work_dropped tnfa places stops (waits at) (map waits old) (map waits waiting) reaches (was_taken tnfa trail at old waiting is) known taken.on

pub left_state : (tnfa : Tnfa) (places : List Place) (stops : List Stop) (trail next : List Event) (at : Entry) (old waiting more : List Entry)
    (reaches : List Reach) (branch : Branch) → All (IsPlace tnfa) places → old ≡ waiting ++ at ∷ [] → at.stop ≡ AtState branch.state
    → branch.depth ≡ length next → branch.from ≡ at.from → ¬ IsDead tnfa at.stop → ¬ Contains stops at.stop → next ≡ trail_to tnfa.states trail at
    → more ≡ waiting ++ reverse (entries_at tnfa branch branch.state (state_of tnfa.states branch.state))
    → Taken tnfa places stops trail at waiting reaches
    → search_left tnfa (stops ++ at.stop ∷ []) next more < search_left tnfa stops trail old
left_state tnfa places stops trail next at old waiting more reaches branch are was is depth from live new trailed pushed taken =
    let waits = waiting_of tnfa.states trail in
    let some = top_some tnfa places stops (waits at) (map waits waiting) reaches are taken.on in
    work_state tnfa some places stops (waits at) (map waits old) (map waits waiting) (map (waiting_of tnfa.states next) more) reaches
    (was_taken tnfa trail at old waiting was) live new
    (steps_waiting tnfa places stops trail next at waiting more reaches branch is depth from trailed pushed taken) taken.on

pub left_target : (tnfa : Tnfa) (places : List Place) (stops : List Stop) (trail next : List Event) (at : Entry) (old waiting : List Entry)
    (reaches : List Reach) (target : Target) → All (IsPlace tnfa) places → old ≡ waiting ++ at ∷ [] → at.stop ≡ AtTarget target
    → ¬ IsDead tnfa at.stop → ¬ Contains stops at.stop → next ≡ trail_to tnfa.states trail at
    → Taken tnfa places stops trail at waiting reaches
    → search_left tnfa (stops ++ at.stop ∷ []) next waiting < search_left tnfa stops trail old
left_target tnfa places stops trail next at old waiting reaches target are was is live new trailed taken =
    let waits = waiting_of tnfa.states trail in
    let some = top_some tnfa places stops (waits at) (map waits waiting) reaches are taken.on in
    subst (λ w. work_left tnfa (stops ++ at.stop ∷ []) w < search_left tnfa stops trail old)
    (sym (kept_waiting tnfa places stops trail next at waiting reaches trailed taken))
    (work_target tnfa some places stops (waits at) (map waits old) (map waits waiting) reaches target (was_taken tnfa trail at old waiting was) is live new
    taken.on)
