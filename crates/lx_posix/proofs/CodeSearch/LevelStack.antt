-- The search over points and levels with a stack of nodes that wait.
use Rattle.std.proofs.Common.{inl, inr, sym, ap, ap₂, ◌∙◌, subst, arith, append_assoc, append-nil, length-append}
use Rattle.std.proofs.Math.Nat.{mul-le-mul_left, suc-mul}
use Rattle.std.proofs.lemmas.Bool.{leb-true, ltb-true}
use Rattle.std.proofs.lemmas.List.{length-reverse, map-append, reverse-append, reverse-reverse}
use Rattle.std.proofs.lemmas.List.Elements.{All-push}
use Rattle.std.specs.Prelude.{◌≡◌, ℕ, zero, suc, ◌+◌, ◌*◌, ◌/◌, ◌%◌, ◌^◌, ◌<◌, ◌≤◌, List, [], ◌∷◌, ◌++◌, All, Bool, true, false, Contains, get_or, length, map, max, nat_eq, nat_le, nat_lt, reverse, if◌then◌else◌, refl}
use Rattle.lx_regex.specs.Automaton.{automaton}
use Rattle.lx_regex.specs.Pattern.{terms_of}
use Rattle.lx_regex.specs.Walk.{mark}
use Rattle.lx_tnfa.specs.DepthFirst as searched
use Rattle.lx_tnfa.specs.DepthFirst.{IsIn, successors, visited}
use Rattle.lx_tnfa.specs.LeafReadings.{IsNth}
use Rattle.lx_tnfa.specs.Live.{state_of}
use Rattle.lx_tnfa.specs.Moves.{moves_in}
use Rattle.lx_tnfa.specs.Tnfa.{Tnfa}
use Rattle.lx_tnfa.specs.declared.states.Move.{Move}
use Rattle.lx_tnfa.specs.declared.states.State as held
use Rattle.lx_tnfa.proofs.Construction.Membership.{in_reverse}
use Rattle.lx_tnfa.proofs.Construction.WholeTable.{held_length}
use Rattle.lx_tnfa.proofs.Searching.SearchBasics.{Each, Each-append, unvisited-cons}
use Rattle.lx_tnfa.proofs.Searching.SearchStack.{found_by, found_by-new, found_by-seen, found_by-starts, stacked}
use Rattle.lx_tnfa.proofs.Searching.SimplePaths.{unvisited}
use Rattle.lx_tdfa.specs.Graph.{graph_of}
use Rattle.lx_tdfa.proofs.Rules.WithinStates.{moves_stay_within}
use Rattle.lx_tdfa.proofs.Walks.StatePaths.{graph_of-length}
use Rattle.lx_tdfa.proofs.WordKernels.OrderedLists.{nth_at_zero}
use Rattle.lx_posix.specs.Beginnings.{AreBeginnings, IsBeginning, IsPoint, point_number}
use Rattle.lx_posix.specs.Comparing.{Ranked, ranked_at}
use Rattle.lx_posix.specs.Finding.{IsFoundAt, IsSearchable, IsWay, beginning_at, shown_found, ways_from}
use Rattle.lx_posix.specs.LevelSearch.{level_graph, moves_taken, nodes_after, start_at, start_nodes, way_from, ways_found}
use Rattle.lx_posix.specs.Starts as spec
use Rattle.lx_posix.specs.Walks.{depth}
use Rattle.lx_posix.specs.declared.points.Beginning.{Beginning}
use Rattle.lx_posix.specs.declared.points.Point.{Point}
use Rattle.lx_posix.specs.declared.points.Point.TheVariants.{State, Within}
use Rattle.lx_posix.specs.declared.search.Found.{Found}
use Rattle.lx_posix.specs.declared.search.Node.{Node}
use Rattle.lx_posix.proofs.CodeSearch.DroppedSteps.{moves_kept, steps_dropped, steps_kept}
use Rattle.lx_posix.proofs.CodeSearch.FoundPaths.{move_edge}
use Rattle.lx_posix.proofs.CodeSearch.HeldMoves.{leads, successors_held}
use Rattle.lx_posix.proofs.CodeSearch.PointNumbers.{point_same}
use Rattle.lx_posix.proofs.OneSearch.FoundWays.{start_is}
use Rattle.lx_posix.proofs.OneSearch.LevelGraphs.{node, node_after, node_level, node_one, node_past, node_state}

-- a node that waits, with the whole way to it
pub record Waiting : Type 0 where
  pub at : Point
  pub depth : ℕ
  pub level : ℕ
  pub from : ℕ
  pub way : List ℕ

-- those to which moves lead, of which the first has this place
abbrev pub moved_on : Waiting → (first : ℕ) → List Move → List Waiting
moved_on top first [] = []
moved_on top first (way ∷ ways) =
    if nat_le top.level (depth top.depth (mark way.to ∷ []))
    then (record {
      at = State way.to;
      depth = depth top.depth (mark way.to ∷ []);
      level = top.level;
      from = top.from;
      way = top.way ++ first ∷ [];
    }) ∷ moved_on top (suc first) ways
    else moved_on top (suc first) ways

-- the same state one level higher
abbrev pub raised_one : Waiting → Waiting
raised_one top = record { at = top.at; depth = top.depth; level = suc top.level; from = top.from; way = top.way }

-- those one step on, from a point
abbrev pub steps_at : Tnfa → Point → Waiting → List Waiting
steps_at tnfa (State number) top =
    if nat_lt top.level top.depth
    then raised_one top ∷ moved_on top 0 (moves_in (state_of tnfa.states number))
    else moved_on top 0 (moves_in (state_of tnfa.states number))
steps_at tnfa (Within place) top = []

abbrev pub steps_on : Tnfa → Waiting → List Waiting
steps_on tnfa top = steps_at tnfa top.at top

abbrev pub found_at : Waiting → List Found
found_at top =
    if nat_eq top.level top.depth
    then record { from = top.from; at = top.at; depth = top.depth; way = top.way } ∷ []
    else []

abbrev pub node_of_waiting : Waiting → Node
node_of_waiting top = record { at = top.at; level = top.level }

-- the moves of a state do not go beyond the longest list
abbrev pub most_moves : List held.State → ℕ
most_moves [] = 0
most_moves (state ∷ states) = max (length (moves_in state)) (most_moves states)

moves_most : (states : List held.State) (number : ℕ) → length (moves_in (state_of states number)) ≤ most_moves states
moves_most [] number = omega arith
moves_most (state ∷ states) zero = grind arith
moves_most (state ∷ states) (suc number) = let h = moves_most states number in grind (arith, h)

-- all points of a search have numbers less than this
abbrev pub numbers_end : Tnfa → List Beginning → ℕ
numbers_end tnfa [] = length tnfa.states
numbers_end tnfa (beginning ∷ beginnings) = max (suc (point_number tnfa beginning.at)) (numbers_end tnfa beginnings)

end_states : (tnfa : Tnfa) (beginnings : List Beginning) → length tnfa.states ≤ numbers_end tnfa beginnings
end_states tnfa [] = omega arith
end_states tnfa (beginning ∷ beginnings) = let h = end_states tnfa beginnings in grind (arith, h)

end_beginning : (tnfa : Tnfa) (beginnings : List Beginning) (index : ℕ) → index < length beginnings
    → point_number tnfa (beginning_at beginnings index).at < numbers_end tnfa beginnings
end_beginning tnfa [] index lt = absurd (omega arith)
end_beginning tnfa (beginning ∷ beginnings) zero lt = grind arith
end_beginning tnfa (beginning ∷ beginnings) (suc index) lt =
    let h = end_beginning tnfa beginnings index (omega arith) in grind (arith, h)

way_on : (tnfa : Tnfa) (state : ℕ) (way : List ℕ) (to index : ℕ) (move : Move) → IsWay tnfa state way to
    → IsNth (moves_in (state_of tnfa.states to)) index move → IsWay tnfa state (way ++ index ∷ []) move.to
way_on tnfa state [] to index move w h = (move, subst (λ s. IsNth (moves_in (state_of tnfa.states s)) index move) (sym w) h, refl)
way_on tnfa state (first ∷ way) to index move w h = (w.0, w.1, way_on tnfa w.0.to way to index move w.2 h)

taken_append : (choices more : List ℕ) → moves_taken (choices ++ more) ≡ moves_taken choices ++ moves_taken more
taken_append [] more = refl
taken_append (zero ∷ choices) more = taken_append choices more
taken_append (suc index ∷ choices) more = ap (λ l. index ∷ l) (taken_append choices more)

found_append : (graph : List (List ℕ)) (deep : ℕ → ℕ) (width : ℕ) (starts : List spec.Start) (e : searched.Found) (es : List searched.Found)
    → ways_found graph deep width starts (e ∷ es)
    ≡ ways_found graph deep width starts (e ∷ []) ++ ways_found graph deep width starts es
found_append graph deep width starts e es = at (nat_eq (e.state % width) (deep (e.state / width)))
  where
    at : (b : Bool)
        → (if b then (record { state = e.state / width; choices = way_from starts e.choices }) ∷ ways_found graph deep width starts es
        else ways_found graph deep width starts es)
        ≡ (if b then (record { state = e.state / width; choices = way_from starts e.choices }) ∷ [] else [])
        ++ ways_found graph deep width starts es
    at true = refl
    at false = refl

-- the beginning of a place
beginning_is : (tnfa : Tnfa) (deep : ℕ → ℕ) (beginnings : List Beginning) (ranks : List Ranked) (index : ℕ)
    → AreBeginnings tnfa deep beginnings ranks → index < length beginnings
    → IsBeginning tnfa deep (beginning_at beginnings index) (ranked_at ranks index)
beginning_is tnfa deep [] ranks index are lt = absurd (omega arith)
beginning_is tnfa deep (beginning ∷ beginnings) [] index are lt = absurd are
beginning_is tnfa deep (beginning ∷ beginnings) (ranked ∷ ranks) zero are lt = are.0
beginning_is tnfa deep (beginning ∷ beginnings) (ranked ∷ ranks) (suc index) are lt =
    beginning_is tnfa deep beginnings ranks index are.1 (omega arith)

-- the numbers of nodes, where there are so many levels
abbrev pub node_number : Tnfa → (levels : ℕ) → Node → ℕ
node_number tnfa count node = point_number tnfa node.at * count + node.level

number_in : (key : Node → ℕ) (nodes : List Node) (one : Node) → Contains nodes one → IsIn (map key nodes) (key one)
number_in key [] one c = absurd (omega (arith, c.1))
number_in key (other ∷ nodes) one c = at c.0 c.1 c.2 (number_in key nodes one)
  where
    at : (k : ℕ) → k < length (other ∷ nodes) → get_or (other ∷ nodes) k one ≡ one → (Contains nodes one → IsIn (map key nodes) (key one))
        → IsIn (map key (other ∷ nodes)) (key one)
    at zero lt e later = inl (ap key e)
    at (suc k) lt e later = inr (later (k, omega arith, e))

in_number : (key : Node → ℕ) (nodes : List Node) (one : Node) → Each (λ (other : Node). key other ≡ key one → other ≡ one) nodes
    → IsIn (map key nodes) (key one) → Contains nodes one
in_number key [] one same m = absurd m
in_number key (other ∷ nodes) one same (inl e) = (0, omega arith, same.0 e)
in_number key (other ∷ nodes) one same (inr m) = let r = in_number key nodes one same.1 m in (suc r.0, omega (arith, r.1), r.2)

-- the numbers of nodes that were visited, the last one first
abbrev pub seen_numbers : (key : Node → ℕ) → List Node → List ℕ
seen_numbers key nodes = reverse (map key nodes)

seen_more : (key : Node → ℕ) (nodes : List Node) (one : Node) → seen_numbers key (nodes ++ one ∷ []) ≡ key one ∷ seen_numbers key nodes
seen_more key nodes one = ap reverse (map-append key nodes (one ∷ [])) ∙ reverse-append (map key nodes) (key one ∷ [])

seen_known : (key : Node → ℕ) (nodes : List Node) (one : Node) → Contains nodes one → IsIn (seen_numbers key nodes) (key one)
seen_known key nodes one c = in_reverse (map key nodes) (key one) (number_in key nodes one c)

seen_new : (key : Node → ℕ) (nodes : List Node) (one : Node) → Each (λ (other : Node). key other ≡ key one → other ≡ one) nodes
    → ¬ Contains nodes one → IsIn (seen_numbers key nodes) (key one) → ⊥
seen_new key nodes one same new m =
    new (in_number key nodes one same
    (subst (λ l. IsIn l (key one)) (reverse-reverse (map key nodes)) (in_reverse (seen_numbers key nodes) (key one) m)))

-- how often the loop is still to be run, where so many nodes wait
abbrev pub work_left : Tnfa → List Beginning → List Node → (count : ℕ) → ℕ
work_left tnfa beginnings nodes count =
    count
    + suc (suc (most_moves tnfa.states))
    * unvisited (seen_numbers (node_number tnfa (2 ^ 32)) nodes) (numbers_end tnfa beginnings * 2 ^ 32)

moved_count : (top : Waiting) (first : ℕ) (ways : List Move) → length (moved_on top first ways) ≤ length ways
moved_count top first [] = omega arith
moved_count top first (way ∷ ways) =
    at (nat_le top.level (depth top.depth (mark way.to ∷ []))) _ (moved_on top (suc first) ways) (moved_count top (suc first) ways)
  where
    at : (b : Bool) (one : Waiting) (others : List Waiting) → length others ≤ length ways
        → length (if b then one ∷ others else others) ≤ suc (length ways)
    at true one others le = omega arith
    at false one others le = omega arith

steps_count : (tnfa : Tnfa) (point : Point) (top : Waiting) → length (steps_at tnfa point top) ≤ suc (most_moves tnfa.states)
steps_count tnfa (Within place) top = omega arith
steps_count tnfa (State number) top =
    let ways = moves_in (state_of tnfa.states number) in
    let most = moves_most tnfa.states number in
    let count = moved_count top 0 ways in
    at (nat_lt top.level top.depth) (moved_on top 0 ways) (omega (arith, most, count))
  where
    at : (b : Bool) (others : List Waiting) → length others ≤ most_moves tnfa.states
        → length (if b then raised_one top ∷ others else others) ≤ suc (most_moves tnfa.states)
    at true others le = omega arith
    at false others le = omega arith

module _ (tnfa : Tnfa) (beginnings : List Beginning) (is : IsSearchable tnfa beginnings) (starts : List spec.Start) where
  abbrev graph : List (List ℕ)
  graph = graph_of (automaton (terms_of is.patterns))

  abbrev all_levels : List (List ℕ)
  all_levels = level_graph graph is.deep is.width

  abbrev at_node : Point → ℕ → ℕ
  at_node point level = node graph is.deep is.width (point_number tnfa point) level

  abbrev key : Node → ℕ
  key one = node_number tnfa is.width one

  abbrev found_in : List searched.Found → List searched.Found
  found_in es = ways_found graph is.deep is.width starts es

  abbrev nodes_begun : List spec.Start → List ℕ
  nodes_begun list = start_nodes graph is.deep is.width is.ranks list

  -- a node waits for what is to be found: by a way of the same moves
  pub record IsWaitingFor (found : searched.Found) (top : Waiting) : Type 0 where
    pub state : found.state ≡ at_node top.at top.level
    pub first : ℕ
    pub choices : List ℕ
    pub chosen : found.choices ≡ first ∷ choices
    pub begun : (start_at starts first).from ≡ top.from
    pub taken : moves_taken choices ≡ top.way
    pub point : IsPoint tnfa top.at
    pub below : point_number tnfa top.at < numbers_end tnfa beginnings
    pub deep : top.depth ≡ is.deep (point_number tnfa top.at)
    pub low : top.level ≤ top.depth
    pub from : top.from < length beginnings
    pub way : IsWay tnfa (point_number tnfa (beginning_at beginnings top.from).at) top.way (point_number tnfa top.at)

  abbrev pub WaitsFor : List searched.Found → List Waiting → Type 0
  WaitsFor [] [] = Unit {0}
  WaitsFor [] (top ∷ waiting) = ⊥
  WaitsFor (found ∷ stack) [] = ⊥
  WaitsFor (found ∷ stack) (top ∷ waiting) = IsWaitingFor found top × WaitsFor stack waiting

  waits_append : (stack more : List searched.Found) (waiting others : List Waiting) → WaitsFor stack waiting → WaitsFor more others
      → WaitsFor (stack ++ more) (waiting ++ others)
  waits_append [] more [] others w v = v
  waits_append [] more (top ∷ waiting) others w v = absurd w
  waits_append (found ∷ stack) more [] others w v = absurd w
  waits_append (found ∷ stack) more (top ∷ waiting) others w v = (w.0, waits_append stack more waiting others w.1 v)

  one_more : (b c : Bool) (found : searched.Found) (stack : List searched.Found) (top : Waiting) (waiting : List Waiting) → b ≡ c
      → (c ≡ true → IsWaitingFor found top) → WaitsFor stack waiting
      → WaitsFor (if b then found ∷ stack else stack) (if c then top ∷ waiting else waiting)
  one_more true true found stack top waiting e one w = (one refl, w)
  one_more true false found stack top waiting e one w = absurd (cc)
  one_more false true found stack top waiting e one w = absurd (cc)
  one_more false false found stack top waiting e one w = w

  graph_length : length graph ≡ length tnfa.states
  graph_length =
      graph_of-length (automaton (terms_of is.patterns))
      ∙ sym (held_length tnfa.classes (automaton (terms_of is.patterns)) tnfa.states is.of.states)

  leads_on : (number : ℕ) → successors graph number ≡ leads (moves_in (state_of tnfa.states number))
  leads_on number = successors_held tnfa.classes (automaton (terms_of is.patterns)) tnfa.states number is.of.states

  move_within : (number index : ℕ) (way : Move) → IsNth (moves_in (state_of tnfa.states number)) index way → way.to < length tnfa.states
  move_within number index way nth =
      let edge = nth_at_zero (successors graph number) index way.to (move_edge is.enc is.patterns tnfa is.of number index way nth) in
      let lt = moves_stay_within (terms_of is.patterns) number index way.to edge in
      let same = held_length tnfa.classes (automaton (terms_of is.patterns)) tnfa.states is.of.states in
      omega (arith, lt, same)

  move_waits : (found : searched.Found) (top : Waiting) (number : ℕ) → top.at ≡ State number → IsWaitingFor found top
      → (first : ℕ) (way : Move) → IsNth (moves_in (state_of tnfa.states number)) first way
      → top.level ≤ depth top.depth (mark way.to ∷ [])
      → IsWaitingFor (record { state = node graph is.deep is.width way.to top.level; choices = found.choices ++ suc first ∷ [] })
      (record {
        at = State way.to;
        depth = depth top.depth (mark way.to ∷ []);
        level = top.level;
        from = top.from;
        way = top.way ++ first ∷ [];
      })
  move_waits found top number at w first way nth low =
      let stands : point_number tnfa top.at ≡ number = ap (point_number tnfa) at in
      let within = move_within number first way nth in
      let end = end_states tnfa beginnings in record {
        state = refl;
        first = w.first;
        choices = w.choices ++ suc first ∷ [];
        chosen = ap (λ l. l ++ suc first ∷ []) w.chosen;
        begun = w.begun;
        taken = taken_append w.choices (suc first ∷ []) ∙ ap (λ l. l ++ first ∷ []) w.taken;
        point = within;
        below = omega (arith, within, end);
        deep =
            ap (λ d. depth d (mark way.to ∷ [])) (w.deep ∙ ap is.deep stands)
            ∙ sym (is.depths number first way.to (move_edge is.enc is.patterns tnfa is.of number first way nth));
        low = low;
        from = w.from;
        way =
            way_on tnfa (point_number tnfa (beginning_at beginnings top.from).at) top.way number first way
            (subst (IsWay tnfa (point_number tnfa (beginning_at beginnings top.from).at) top.way) stands w.way) nth;
      }

  moves_wait : (found : searched.Found) (top : Waiting) (number : ℕ) → top.at ≡ State number → IsWaitingFor found top
      → (ways : List Move) (first : ℕ)
      → ((index : ℕ) (way : Move) → IsNth ways index way → IsNth (moves_in (state_of tnfa.states number)) (first + index) way)
      → WaitsFor (moves_kept graph is.deep is.width found.choices top.level first (leads ways)) (moved_on top first ways)
  moves_wait found top number at w [] first are = tt
  moves_wait found top number at w (way ∷ ways) first are =
      let here : first + 0 ≡ first = omega arith in
      let nth : IsNth (moves_in (state_of tnfa.states number)) first way =
      subst (λ n. IsNth (moves_in (state_of tnfa.states number)) n way) here (are 0 way refl) in
      let stands : point_number tnfa top.at ≡ number = ap (point_number tnfa) at in
      let deeper : is.deep way.to ≡ depth top.depth (mark way.to ∷ []) =
      is.depths number first way.to (move_edge is.enc is.patterns tnfa is.of number first way nth)
      ∙ ap (λ d. depth d (mark way.to ∷ [])) (sym (w.deep ∙ ap is.deep stands)) in
      one_more (nat_le top.level (is.deep way.to)) (nat_le top.level (depth top.depth (mark way.to ∷ []))) _
      (moves_kept graph is.deep is.width found.choices top.level (suc first) (leads ways)) _ (moved_on top (suc first) ways)
      (ap (nat_le top.level) deeper)
      (λ low. move_waits found top number at w first way nth (leb-true top.level (depth top.depth (mark way.to ∷ [])) low))
      (moves_wait found top number at w ways (suc first)
      (λ index next h. let e : first + suc index ≡ suc first + index = omega arith in
      subst (λ n. IsNth (moves_in (state_of tnfa.states number)) n next) e (are (suc index) next h)))

  raised_waits : (found : searched.Found) (top : Waiting) (number : ℕ) → top.at ≡ State number → IsWaitingFor found top
      → top.level < top.depth
      → IsWaitingFor (record { state = node graph is.deep is.width number (suc top.level); choices = found.choices ++ zero ∷ [] })
      (raised_one top)
  raised_waits found top number at w low = record {
    state = ap (λ n. node graph is.deep is.width n (suc top.level)) (sym (ap (point_number tnfa) at));
    first = w.first;
    choices = w.choices ++ zero ∷ [];
    chosen = ap (λ l. l ++ zero ∷ []) w.chosen;
    begun = w.begun;
    taken = taken_append w.choices (zero ∷ []) ∙ append-nil (moves_taken w.choices) ∙ w.taken;
    point = w.point;
    below = w.below;
    deep = w.deep;
    low = low;
    from = w.from;
    way = w.way;
  }

  -- what the search keeps of the steps from a point
  abbrev steps_of : (point : Point) → (p : List ℕ) → (level : ℕ) → List searched.Found
  steps_of (State number) p level = steps_kept graph is.deep is.width p number level (leads (moves_in (state_of tnfa.states number)))
  steps_of (Within place) p level = []

  steps_wait : (found : searched.Found) (top : Waiting) (point : Point) → top.at ≡ point → IsWaitingFor found top
      → WaitsFor (steps_of point found.choices top.level) (steps_at tnfa point top)
  steps_wait found top (Within place) at w = tt
  steps_wait found top (State number) at w =
      let ways = moves_in (state_of tnfa.states number) in
      let same : is.deep number ≡ top.depth = sym (w.deep ∙ ap (λ p. is.deep (point_number tnfa p)) at) in
      one_more (nat_lt top.level (is.deep number)) (nat_lt top.level top.depth) _
      (moves_kept graph is.deep is.width found.choices top.level 0 (leads ways)) (raised_one top) (moved_on top 0 ways)
      (ap (nat_lt top.level) same)
      (λ low. raised_waits found top number at w (ltb-true top.level top.depth low))
      (moves_wait found top number at w ways 0
      (λ index way h. let e : index ≡ 0 + index = omega arith in subst (λ n. IsNth ways n way) e h))

  small_level : (found : searched.Found) (top : Waiting) → IsWaitingFor found top → top.level < is.width
  small_level found top w = let lt = is.small (point_number tnfa top.at) in omega (arith, lt, w.deep, w.low)

  -- the steps of the definition from a node, of which those back to it may be left out
  steps_same : (point : Point) → IsPoint tnfa point → (p : List ℕ) (level : ℕ) → level < is.width
      → (stack : List searched.Found) (seen : List ℕ) → IsIn seen (at_node point level)
      → found_by all_levels seen (stacked p (successors all_levels (at_node point level)) 0 ++ stack)
      ≡ found_by all_levels seen (steps_of point p level ++ stack)
  steps_same (Within place) lt p level low stack seen m =
      let past : length graph ≤ suc place.rest.0 * length tnfa.states + 2 * place.part =
      omega (arith, graph_length, suc-mul place.rest.0 (length tnfa.states)) in
      ap (λ l. found_by all_levels seen (stacked p l 0 ++ stack))
      (node_past graph is.deep is.width (point_number tnfa (Within place)) level past)
  steps_same (State number) lt p level low stack seen m =
      ap (λ l. found_by all_levels seen (stacked p l 0 ++ stack))
      (node_after graph is.deep is.width number level low (omega (arith, graph_length, lt))
      ∙ ap (nodes_after graph is.deep is.width number level) (leads_on number))
      ∙ steps_dropped graph is.deep is.width p number level (leads (moves_in (state_of tnfa.states number))) stack seen m

  -- a node that was visited is one of the automaton, at a level of the search
  abbrev IsKnown : Node → Type 0
  IsKnown one = IsPoint tnfa one.at × (one.level < is.width)

  known_same : (width : ℕ) → is.width ≤ width → (other one : Node) → IsKnown other → IsKnown one
      → node_number tnfa width other ≡ node_number tnfa width one → other ≡ one
  known_same width le other one known known' e =
      let lt = known.1 in
      let lt' = known'.1 in
      let r =
      node_one graph is.deep width (point_number tnfa other.at) other.level (point_number tnfa one.at) one.level (omega (arith, lt, le))
      (omega (arith, lt', le)) e in
      let point = point_same tnfa other.at one.at known.0 known'.0 r.0 in
      λ i. record { at = point i; level = r.1 i }

  all_same : (width : ℕ) → is.width ≤ width → (nodes : List Node) (one : Node) → Each IsKnown nodes → IsKnown one
      → Each (λ (other : Node). node_number tnfa width other ≡ node_number tnfa width one → other ≡ one) nodes
  all_same width le [] one known is_known = tt
  all_same width le (other ∷ nodes) one known is_known =
      (λ e. known_same width le other one known.0 is_known e, all_same width le nodes one known.1 is_known)

  top_known : (found : searched.Found) (top : Waiting) → IsWaitingFor found top → IsKnown (node_of_waiting top)
  top_known found top w = (w.point, small_level found top w)

  -- what a loop over nodes that wait has done
  pub record LevelSoFar (nodes : List Node) (waiting : List Waiting) (founds : List Found) : Type 0 where
    pub stack : List searched.Found
    pub all : map (shown_found tnfa) founds ++ found_in (found_by all_levels (seen_numbers key nodes) stack)
        ≡ ways_from (terms_of is.patterns) is.deep is.width is.ranks starts
    pub waits : WaitsFor stack (reverse waiting)
    pub known : Each IsKnown nodes
    pub are : All (IsFoundAt tnfa beginnings is.deep) founds

  -- the node on top of those that wait
  pub record OnTop (nodes : List Node) (top : Waiting) (waiting : List Waiting) (founds : List Found) : Type 0 where
    pub found : searched.Found
    pub stack : List searched.Found
    pub all : map (shown_found tnfa) founds ++ found_in (found_by all_levels (seen_numbers key nodes) (found ∷ stack))
        ≡ ways_from (terms_of is.patterns) is.deep is.width is.ranks starts
    pub here : IsWaitingFor found top
    pub waits : WaitsFor stack (reverse waiting)
    pub known : Each IsKnown nodes
    pub are : All (IsFoundAt tnfa beginnings is.deep) founds

  pub on_top : (nodes : List Node) (top : Waiting) (old waiting : List Waiting) (founds : List Found) → old ≡ waiting ++ top ∷ []
      → LevelSoFar nodes old founds → OnTop nodes top waiting founds
  on_top nodes top old waiting founds e so =
      at so.stack so.all (subst (WaitsFor so.stack) (ap reverse e ∙ reverse-append waiting (top ∷ [])) so.waits)
    where
      at : (stack : List searched.Found)
          → map (shown_found tnfa) founds ++ found_in (found_by all_levels (seen_numbers key nodes) stack)
          ≡ ways_from (terms_of is.patterns) is.deep is.width is.ranks starts
          → WaitsFor stack (top ∷ reverse waiting) → OnTop nodes top waiting founds
      at [] all w = absurd w
      at (found ∷ stack) all w =
          record { found = found; stack = stack; all = all; here = w.0; waits = w.1; known = so.known; are = so.are }

  -- a node is dropped
  pub level_dropped : (nodes : List Node) (top : Waiting) (waiting : List Waiting) (founds : List Found)
      → Contains nodes (node_of_waiting top) → OnTop nodes top waiting founds → LevelSoFar nodes waiting founds
  level_dropped nodes top waiting founds old on = record {
    stack = on.stack;
    all =
        ap (λ l. map (shown_found tnfa) founds ++ found_in l)
        (sym (found_by-seen all_levels (seen_numbers key nodes) on.found on.stack
        (subst (IsIn (seen_numbers key nodes)) (sym on.here.state) (seen_known key nodes (node_of_waiting top) old))))
        ∙ on.all;
    waits = on.waits;
    known = on.known;
    are = on.are;
  }

  -- what is found at a node
  found_same : (found : searched.Found) (top : Waiting) → IsWaitingFor found top
      → found_in (found ∷ []) ≡ map (shown_found tnfa) (found_at top)
  found_same found top w =
      at (nat_eq (found.state % is.width) (is.deep (found.state / is.width))) (nat_eq top.level top.depth) (ap₂ nat_eq level deep)
    where
      level : found.state % is.width ≡ top.level
      level =
          ap (λ n. n % is.width) w.state
          ∙ node_level graph is.deep is.width (point_number tnfa top.at) top.level (small_level found top w)

      state : found.state / is.width ≡ point_number tnfa top.at
      state =
          ap (λ n. n / is.width) w.state
          ∙ node_state graph is.deep is.width (point_number tnfa top.at) top.level (small_level found top w)

      deep : is.deep (found.state / is.width) ≡ top.depth
      deep = ap is.deep state ∙ sym w.deep

      way : way_from starts found.choices ≡ top.from ∷ top.way
      way = ap (way_from starts) w.chosen ∙ ap₂ (λ n l. n ∷ l) w.begun w.taken

      at : (b c : Bool) → b ≡ c
          → (if b then (record { state = found.state / is.width; choices = way_from starts found.choices }) ∷ [] else [])
          ≡ map (shown_found tnfa)
          (if c then record { from = top.from; at = top.at; depth = top.depth; way = top.way } ∷ [] else [])
      at true true e = ap₂ (λ s l. record { state = s; choices = l } ∷ []) state way
      at true false e = absurd (cc)
      at false true e = absurd (cc)
      at false false e = refl

  found_are : (found : searched.Found) (top : Waiting) (founds next : List Found) → IsWaitingFor found top → next ≡ founds ++ found_at top
      → All (IsFoundAt tnfa beginnings is.deep) founds → All (IsFoundAt tnfa beginnings is.deep) next
  found_are found top founds next w e are =
      subst (All (IsFoundAt tnfa beginnings is.deep)) (sym e) (at (nat_eq top.level top.depth))
    where
      at : (b : Bool) → All (IsFoundAt tnfa beginnings is.deep)
          (founds ++ (if b then record { from = top.from; at = top.at; depth = top.depth; way = top.way } ∷ [] else []))
      at true =
          All-push (IsFoundAt tnfa beginnings is.deep) founds _ are
          (record { point = w.point; depth = w.deep; from = w.from; way = w.way })
      at false = subst (All (IsFoundAt tnfa beginnings is.deep)) (sym (append-nil founds)) are

  -- what is still to be found behind a node that is visited
  found_next : (nodes : List Node) (top : Waiting) (waiting : List Waiting) (founds : List Found) → ¬ Contains nodes (node_of_waiting top)
      → (on : OnTop nodes top waiting founds)
      → found_by all_levels (seen_numbers key nodes) (on.found ∷ on.stack)
      ≡ on.found ∷ found_by all_levels (seen_numbers key (nodes ++ node_of_waiting top ∷ []))
      (steps_of top.at on.found.choices top.level ++ on.stack)
  found_next nodes top waiting founds new on =
      let one = node_of_waiting top in
      let seen = seen_numbers key nodes in
      let le : is.width ≤ is.width = omega arith in
      let same = all_same is.width le nodes one on.known (top_known on.found top on.here) in
      let fresh : IsIn seen on.found.state → ⊥ = λ m. seen_new key nodes one same new (subst (IsIn seen) on.here.state m) in
      found_by-new all_levels seen on.found on.stack fresh
      ∙ ap (λ n. on.found ∷ found_by all_levels (n ∷ seen) (stacked on.found.choices (successors all_levels n) 0 ++ on.stack)) on.here.state
      ∙ ap (λ l. on.found ∷ l)
      (steps_same top.at on.here.point on.found.choices top.level (small_level on.found top on.here) on.stack
      (at_node top.at top.level ∷ seen) (inl refl))
      ∙ ap (λ s. on.found ∷ found_by all_levels s (steps_of top.at on.found.choices top.level ++ on.stack)) (sym (seen_more key nodes one))

  -- a node is visited
  pub level_entered : (nodes : List Node) (top : Waiting) (waiting more : List Waiting) (founds next : List Found)
      → ¬ Contains nodes (node_of_waiting top) → more ≡ waiting ++ reverse (steps_on tnfa top) → next ≡ founds ++ found_at top
      → OnTop nodes top waiting founds → LevelSoFar (nodes ++ node_of_waiting top ∷ []) more next
  level_entered nodes top waiting more founds next new pushed listed on =
      let one = node_of_waiting top in
      let rest = found_by all_levels (seen_numbers key (nodes ++ one ∷ [])) (steps_of top.at on.found.choices top.level ++ on.stack) in
      let turned : reverse more ≡ steps_on tnfa top ++ reverse waiting =
      ap reverse pushed ∙ reverse-append waiting (reverse (steps_on tnfa top))
      ∙ ap (λ l. l ++ reverse waiting) (reverse-reverse (steps_on tnfa top)) in record {
        stack = steps_of top.at on.found.choices top.level ++ on.stack;
        all =
            ap (λ l. map (shown_found tnfa) l ++ found_in rest) listed
            ∙ ap (λ l. l ++ found_in rest) (map-append (shown_found tnfa) founds (found_at top))
            ∙ append_assoc (map (shown_found tnfa) founds) (map (shown_found tnfa) (found_at top)) (found_in rest)
            ∙ ap (λ l. map (shown_found tnfa) founds ++ (l ++ found_in rest)) (sym (found_same on.found top on.here))
            ∙ ap (λ l. map (shown_found tnfa) founds ++ l) (sym (found_append graph is.deep is.width starts on.found rest))
            ∙ ap (λ l. map (shown_found tnfa) founds ++ found_in l) (sym (found_next nodes top waiting founds new on))
            ∙ on.all;
        waits =
            subst (WaitsFor (steps_of top.at on.found.choices top.level ++ on.stack)) (sym turned)
            (waits_append (steps_of top.at on.found.choices top.level) on.stack (steps_on tnfa top) (reverse waiting)
            (steps_wait on.found top top.at refl on.here) on.waits);
        known = Each-append IsKnown nodes (one ∷ []) on.known (top_known on.found top on.here, tt);
        are = found_are on.found top founds next on.here listed on.are;
      }

  -- the work after a node is visited
  pub work_entered : (nodes : List Node) (top : Waiting) (waiting more : List Waiting) (founds : List Found)
      → ¬ Contains nodes (node_of_waiting top) → more ≡ waiting ++ reverse (steps_on tnfa top) → OnTop nodes top waiting founds
      → work_left tnfa beginnings (nodes ++ node_of_waiting top ∷ []) (length more) < work_left tnfa beginnings nodes (suc (length waiting))
  work_entered nodes top waiting more founds new pushed on =
      let one = node_of_waiting top in
      let wide = node_number tnfa (2 ^ 32) in
      let le : is.width ≤ 2 ^ 32 = let lt = is.narrow in omega (arith, lt) in
      let known = top_known on.found top on.here in
      let fresh = seen_new wide nodes one (all_same (2 ^ 32) le nodes one on.known known) new in
      let below = on.here.below in
      let level = known.1 in
      let end : wide one < numbers_end tnfa beginnings * 2 ^ 32 = omega (arith, below, level, le) in
      let fewer = unvisited-cons (seen_numbers wide nodes) (wide one) (numbers_end tnfa beginnings * 2 ^ 32) end fresh in
      let same = ap (λ l. unvisited l (numbers_end tnfa beginnings * 2 ^ 32)) (seen_more wide nodes one) in
      let count : length more ≡ length waiting + length (steps_on tnfa top) =
      ap length pushed ∙ length-append waiting (reverse (steps_on tnfa top))
      ∙ ap (λ n. length waiting + n) (length-reverse (steps_on tnfa top)) in
      let most = steps_count tnfa top.at top in
      falls (length waiting) (length more) (length (steps_on tnfa top)) (most_moves tnfa.states)
      (unvisited (seen_numbers wide nodes) (numbers_end tnfa beginnings * 2 ^ 32))
      (unvisited (seen_numbers wide (nodes ++ one ∷ [])) (numbers_end tnfa beginnings * 2 ^ 32)) count most
      (subst (λ n. n < unvisited (seen_numbers wide nodes) (numbers_end tnfa beginnings * 2 ^ 32)) (sym same) fewer)
    where
      falls : (count more steps most before after : ℕ) → more ≡ count + steps → steps ≤ suc most → after < before
          → more + suc (suc most) * after < suc count + suc (suc most) * before
      falls count more steps most before after e le lt =
          let h : suc (suc most) * suc after ≤ suc (suc most) * before = mul-le-mul_left (suc (suc most)) lt in omega (arith, e, le, h)

  -- a node at which the search begins
  abbrev pub begun_at : spec.Start → Waiting
  begun_at start = record {
    at = (beginning_at beginnings start.from).at;
    depth = (beginning_at beginnings start.from).depth;
    level = start.level;
    from = start.from;
    way = [];
  }

  abbrev pub Begins : spec.Start → Type 0
  Begins start = (start.from < length beginnings) × (start.level ≤ (beginning_at beginnings start.from).depth)

  begins_wait : (list : List spec.Start) (first : ℕ) → Each Begins list
      → ((index : ℕ) (start : spec.Start) → IsNth list index start → IsNth starts (first + index) start)
      → WaitsFor (stacked [] (nodes_begun list) first) (map begun_at list)
  begins_wait [] first begin are = tt
  begins_wait (start ∷ list) first begin are =
      let here : first + 0 ≡ first = omega arith in
      let nth : IsNth starts first start = subst (λ n. IsNth starts n start) here (are 0 start refl) in
      let stands = beginning_is tnfa is.deep beginnings is.ranks start.from is.are begin.0.0 in (
        record {
          state = ap (λ n. node graph is.deep is.width n start.level) (sym stands.place);
          first = first;
          choices = [];
          chosen = refl;
          begun = ap (λ (s : spec.Start). s.from) (start_is starts first start nth);
          taken = refl;
          point = stands.point;
          below = end_beginning tnfa beginnings start.from begin.0.0;
          deep = stands.depth ∙ ap is.deep (sym stands.place);
          low = begin.0.1;
          from = begin.0.0;
          way = refl;
        },
        begins_wait list (suc first) begin.1
            (λ index next h. let e : first + suc index ≡ suc first + index = omega arith in
            subst (λ n. IsNth starts n next) e (are (suc index) next h)),
      )

  -- the loop begins
  pub level_begin : Each Begins starts → LevelSoFar [] (reverse (map begun_at starts)) []
  level_begin begin = record {
    stack = stacked [] (nodes_begun starts) 0;
    all = ap found_in (found_by-starts all_levels [] (nodes_begun starts));
    waits =
        subst (WaitsFor (stacked [] (nodes_begun starts) 0)) (sym (reverse-reverse (map begun_at starts)))
        (begins_wait starts 0 begin (λ index start h. let e : index ≡ 0 + index = omega arith in
        subst (λ n. IsNth starts n start) e h));
    known = tt;
    are = λ k d lt. absurd (omega arith);
  }

  -- the loop has come to its end
  pub level_end : (nodes : List Node) (founds : List Found) → LevelSoFar nodes [] founds
      → map (shown_found tnfa) founds ≡ ways_from (terms_of is.patterns) is.deep is.width is.ranks starts
  level_end nodes founds so = at so.stack so.all so.waits
    where
      at : (stack : List searched.Found)
          → map (shown_found tnfa) founds ++ found_in (found_by all_levels (seen_numbers key nodes) stack)
          ≡ ways_from (terms_of is.patterns) is.deep is.width is.ranks starts
          → WaitsFor stack [] → map (shown_found tnfa) founds ≡ ways_from (terms_of is.patterns) is.deep is.width is.ranks starts
      at (found ∷ stack) all w = absurd w
      at [] all w = sym (append-nil (map (shown_found tnfa) founds)) ∙ all
