-- The search over points and levels with a trail: the entries of its stack stand for nodes that wait.
use Rattle.std.proofs.Common.{sym, ap, ap₂, ◌∙◌, subst, arith, append-nil, length-append}
use Rattle.std.proofs.lemmas.List.{length-map, length-take-le, map-append, reverse-append, reverse-reverse, take-append-le, take_all}
use Rattle.std.specs.Prelude.{◌≡◌, ℕ, zero, suc, ◌+◌, ◌^◌, ◌<◌, ◌≤◌, List, [], ◌∷◌, ◌++◌, All, Bool, true, false, Contains, length, map, nat_eq, nat_le, nat_lt, option_to_list, reverse, take, if◌then◌else◌, refl}
use Rattle.lx_regex.specs.Pattern.{terms_of}
use Rattle.lx_regex.specs.Walk.{mark}
use Rattle.lx_tnfa.specs.Live.{state_of}
use Rattle.lx_tnfa.specs.Moves.{moves_in}
use Rattle.lx_tnfa.specs.Tnfa.{Tnfa}
use Rattle.lx_tnfa.specs.declared.states.Move.{Move}
use Rattle.lx_tnfa.proofs.Searching.SearchBasics.{Each}
use Rattle.lx_posix.specs.Beginnings.{point_number}
use Rattle.lx_posix.specs.Sweeps.{shown_start}
use Rattle.lx_posix.specs.Finding.{AreStarts, IsFoundAt, IsSearchable, IsStart, beginning_at, entries_at, found_entries, move_entries, moves_from, node_at, shown_found, start_entries, step_entries, trail_to, ways_from}
use Rattle.lx_posix.specs.Starts as spec
use Rattle.lx_posix.specs.Walks.{depth}
use Rattle.lx_posix.specs.declared.points.Beginning.{Beginning}
use Rattle.lx_posix.specs.declared.points.Point.{Point}
use Rattle.lx_posix.specs.declared.points.Point.TheVariants.{State, Within}
use Rattle.lx_posix.specs.declared.search.Entry.{Entry}
use Rattle.lx_posix.specs.declared.search.Found.{Found}
use Rattle.lx_posix.specs.declared.search.Node.{Node}
use Rattle.lx_posix.specs.declared.starts.Start.{Start}
use Rattle.lx_posix.proofs.CodeSearch.FewMoves.{moves_few}
use Rattle.lx_posix.proofs.CodeSearch.LevelStack.{Begins, LevelSoFar, OnTop, Waiting, begun_at, found_at, level_begin, level_dropped, level_end, level_entered, moved_on, on_top, steps_at, steps_on, work_entered, work_left}

-- what an entry stands for: a node that waits, with the way to it
abbrev pub waiting_of : (trail : List ℕ) → Entry → Waiting
waiting_of trail entry = record {
  at = entry.at;
  depth = entry.depth;
  level = entry.level;
  from = entry.from;
  way = trail_to trail entry;
}

map_reverse : {X Y : Type 0} (f : X → Y) (xs : List X) → map f (reverse xs) ≡ reverse (map f xs)
map_reverse f [] = refl
map_reverse f (x ∷ xs) =
    ap (map f) (reverse-append (x ∷ []) xs) ∙ map-append f (reverse xs) (x ∷ [])
    ∙ ap (λ l. l ++ f x ∷ []) (map_reverse f xs) ∙ sym (reverse-append (f x ∷ []) (map f xs))

-- from the top of the stack to its bottom the prefix of the trail is never longer than at the entry above
abbrev pub Shortens : (limit : ℕ) → List Entry → Type 0
Shortens limit [] = Unit {0}
Shortens limit (entry ∷ entries) = (entry.prefix ≤ limit) × Shortens entry.prefix entries

shortens_more : (limit more : ℕ) (entries : List Entry) → limit ≤ more → Shortens limit entries → Shortens more entries
shortens_more limit more [] le short = tt
shortens_more limit more (entry ∷ entries) le short = let here = short.0 in (omega (arith, le, here), short.1)

shortens_on : (limit : ℕ) (news entries : List Entry) → Each (λ (entry : Entry). entry.prefix ≡ limit) news → Shortens limit entries
    → Shortens limit (news ++ entries)
shortens_on limit [] entries same short = short
shortens_on limit (entry ∷ news) entries same short =
    let here = same.0 in
    (omega (arith, here), subst (λ n. Shortens n (news ++ entries)) (sym here) (shortens_on limit news entries same.1 short))

-- below the prefix of an entry the trail is what it was
trail_front : (trail more : List ℕ) (prefix limit : ℕ) → prefix ≤ limit → limit ≤ length trail
    → take prefix (take limit trail ++ more) ≡ take prefix trail
trail_front trail more prefix limit le within =
    let long = length-take-le limit trail within in
    take-append-le prefix (take limit trail) more (omega (arith, le, long)) ∙ take_twice trail prefix limit le
  where
    take_twice : (trail : List ℕ) (prefix limit : ℕ) → prefix ≤ limit → take prefix (take limit trail) ≡ take prefix trail
    take_twice trail zero limit le = refl
    take_twice trail (suc prefix) zero le = absurd (omega (arith, le))
    take_twice [] (suc prefix) (suc limit) le = refl
    take_twice (index ∷ trail) (suc prefix) (suc limit) le = ap (λ l. index ∷ l) (take_twice trail prefix limit (omega (arith, le)))

same_waiting : (trail more : List ℕ) (limit : ℕ) (entries : List Entry) → limit ≤ length trail → Shortens limit entries
    → map (waiting_of (take limit trail ++ more)) entries ≡ map (waiting_of trail) entries
same_waiting trail more limit [] within short = refl
same_waiting trail more limit (entry ∷ entries) within short =
    ap₂
    (λ front others.
    record {
      at = entry.at;
      depth = entry.depth;
      level = entry.level;
      from = entry.from;
      way = front ++ option_to_list entry.last;
    } ∷ others)
    (trail_front trail more entry.prefix limit short.0 within)
    (same_waiting trail more limit entries within (shortens_more entry.prefix limit entries short.0 short.1))

-- the same of the stack from its bottom
same_stack : (trail more : List ℕ) (limit : ℕ) (waiting : List Entry) → limit ≤ length trail → Shortens limit (reverse waiting)
    → map (waiting_of (take limit trail ++ more)) waiting ≡ map (waiting_of trail) waiting
same_stack trail more limit waiting within short =
    ap (map (waiting_of (take limit trail ++ more))) (sym (reverse-reverse waiting))
    ∙ map_reverse (waiting_of (take limit trail ++ more)) (reverse waiting)
    ∙ ap reverse (same_waiting trail more limit (reverse waiting) within short)
    ∙ sym (map_reverse (waiting_of trail) (reverse waiting))
    ∙ ap (map (waiting_of trail)) (reverse-reverse waiting)

-- the entries of steps from an entry stand for the nodes one step on
module _ (before : Entry) (trail next : List ℕ) (gone : next ≡ trail_to trail before) where
  abbrev top : Waiting
  top = waiting_of trail before

  whole : take (length next) next ≡ top.way
  whole = let le : length next ≤ length next = omega arith in take_all (length next) next le ∙ gone

  both : (b : Bool) (entry : Entry) (entries : List Entry) (one : Waiting) (others : List Waiting) → waiting_of next entry ≡ one
      → map (waiting_of next) entries ≡ others
      → map (waiting_of next) (if b then entry ∷ entries else entries) ≡ (if b then one ∷ others else others)
  both true entry entries one others e rest = ap₂ (λ a l. a ∷ l) e rest
  both false entry entries one others e rest = rest

  moves_stand : (first : ℕ) (ways : List Move)
      → map (waiting_of next) (move_entries before (length next) first ways) ≡ moved_on top first ways
  moves_stand first [] = refl
  moves_stand first (way ∷ ways) =
      both (nat_le before.level (depth before.depth (mark way.to ∷ []))) _ (move_entries before (length next) (suc first) ways) _
      (moved_on top (suc first) ways)
      (ap
      (λ front. record {
        at = State way.to;
        depth = depth before.depth (mark way.to ∷ []);
        level = before.level;
        from = before.from;
        way = front ++ first ∷ [];
      }) whole)
      (moves_stand (suc first) ways)

  steps_stand : (tnfa : Tnfa) (point : Point) → map (waiting_of next) (entries_at tnfa point before (length next)) ≡ steps_at tnfa point top
  steps_stand tnfa (Within place) = refl
  steps_stand tnfa (State number) =
      let ways = moves_in (state_of tnfa.states number) in
      both (nat_lt before.level before.depth) _ (move_entries before (length next) 0 ways) _ (moved_on top 0 ways)
      (ap
      (λ way. record { at = before.at; depth = before.depth; level = suc before.level; from = before.from; way = way })
      (append-nil (take (length next) next) ∙ whole))
      (moves_stand 0 ways)

  pick : (b : Bool) (entry : Entry) (entries : List Entry) → entry.prefix ≡ length next
      → Each (λ (entry : Entry). entry.prefix ≡ length next) entries
      → Each (λ (entry : Entry). entry.prefix ≡ length next) (if b then entry ∷ entries else entries)
  pick true entry entries e rest = (e, rest)
  pick false entry entries e rest = rest

  moves_short : (first : ℕ) (ways : List Move)
      → Each (λ (entry : Entry). entry.prefix ≡ length next) (move_entries before (length next) first ways)
  moves_short first [] = tt
  moves_short first (way ∷ ways) =
      pick (nat_le before.level (depth before.depth (mark way.to ∷ []))) _ (move_entries before (length next) (suc first) ways) refl
      (moves_short (suc first) ways)

  steps_short : (tnfa : Tnfa) (point : Point)
      → Each (λ (entry : Entry). entry.prefix ≡ length next) (entries_at tnfa point before (length next))
  steps_short tnfa (Within place) = tt
  steps_short tnfa (State number) =
      pick (nat_lt before.level before.depth) _ (move_entries before (length next) 0 (moves_in (state_of tnfa.states number))) refl
      (moves_short 0 (moves_in (state_of tnfa.states number)))

  founds_stand : found_entries before next ≡ found_at top
  founds_stand =
      ap
      (λ way.
      if nat_eq before.level before.depth then record { from = before.from; at = before.at; depth = before.depth; way = way } ∷ [] else [])
      gone

starts_stand : (beginnings : List Beginning) (starts : List Start)
    → map (waiting_of []) (start_entries beginnings starts)
    ≡ map (λ (start : spec.Start). record {
      at = (beginning_at beginnings start.from).at;
      depth = (beginning_at beginnings start.from).depth;
      level = start.level;
      from = start.from;
      way = [];
    }) (map shown_start starts)
starts_stand beginnings [] = refl
starts_stand beginnings (start ∷ starts) = ap₂ (λ a l. a ∷ l) refl (starts_stand beginnings starts)

starts_short : (beginnings : List Beginning) (starts : List Start) → Shortens 0 (start_entries beginnings starts)
starts_short beginnings [] = tt
starts_short beginnings (start ∷ starts) = (omega arith, starts_short beginnings starts)

module _ (tnfa : Tnfa) (beginnings : List Beginning) (is : IsSearchable tnfa beginnings) (starts : List Start) where
  abbrev begins : List spec.Start
  begins = map shown_start starts

  -- what the search has done
  pub record SearchSoFar (nodes : List Node) (trail : List ℕ) (waiting : List Entry) (founds : List Found) : Type 0 where
    pub so : LevelSoFar tnfa beginnings is begins nodes (map (waiting_of trail) waiting) founds
    pub short : Shortens (length trail) (reverse waiting)

  starts_begin : (list : List Start) → AreStarts beginnings list → Each (Begins tnfa beginnings is begins) (map shown_start list)
  starts_begin [] are = tt
  starts_begin (start ∷ list) are =
      let one : IsStart beginnings start = are 0 start (omega arith) in
      ((one.from, one.level), starts_begin list (λ k d lt. are (suc k) d (omega (arith, lt))))

  pub search_begin : (trail : List ℕ) (waiting old : List Entry) → AreStarts beginnings starts → trail ≡ [] → old ≡ []
      → waiting ≡ old ++ reverse (start_entries beginnings starts) → SearchSoFar [] trail waiting []
  search_begin trail waiting old are no_trail none pushed =
      let entries = start_entries beginnings starts in
      let all : waiting ≡ reverse entries = pushed ∙ ap (λ l. l ++ reverse entries) none in
      let stand : map (waiting_of []) (reverse entries) ≡ reverse (map (begun_at tnfa beginnings is begins) begins) =
      map_reverse (waiting_of []) entries ∙ ap reverse (starts_stand beginnings starts) in
      subst (λ w. SearchSoFar [] trail w []) (sym all)
      (subst (λ t. SearchSoFar [] t (reverse entries) []) (sym no_trail) (record {
        so =
            subst (λ w. LevelSoFar tnfa beginnings is begins [] w []) (sym stand)
            (level_begin tnfa beginnings is begins (starts_begin starts are));
        short = subst (Shortens 0) (sym (reverse-reverse entries)) (starts_short beginnings starts);
      }))

  -- an entry is taken from the top of the stack
  pub record Taken (nodes : List Node) (trail : List ℕ) (entry : Entry) (waiting : List Entry) (founds : List Found) : Type 0 where
    pub on : OnTop tnfa beginnings is begins nodes (waiting_of trail entry) (map (waiting_of trail) waiting) founds
    pub prefix : entry.prefix ≤ length trail
    pub short : Shortens entry.prefix (reverse waiting)

  pub search_taken : (nodes : List Node) (trail : List ℕ) (entry : Entry) (old waiting : List Entry) (founds : List Found)
      → old ≡ waiting ++ entry ∷ [] → SearchSoFar nodes trail old founds → Taken nodes trail entry waiting founds
  search_taken nodes trail entry old waiting founds was s =
      let waits = waiting_of trail in
      let were : map waits old ≡ map waits waiting ++ waits entry ∷ [] = ap (map waits) was ∙ map-append waits waiting (entry ∷ []) in
      let short : Shortens (length trail) (entry ∷ reverse waiting) =
      subst (Shortens (length trail)) (ap reverse was ∙ reverse-append waiting (entry ∷ [])) s.short in
      record {
        on = on_top tnfa beginnings is begins nodes (waits entry) (map waits old) (map waits waiting) founds were s.so;
        prefix = short.0;
        short = short.1;
      }

  -- a node is not entered
  pub search_dropped : (nodes : List Node) (trail : List ℕ) (entry : Entry) (waiting : List Entry) (founds : List Found)
      → Contains nodes (node_at entry) → Taken nodes trail entry waiting founds → SearchSoFar nodes trail waiting founds
  search_dropped nodes trail entry waiting founds known taken = record {
    so = level_dropped tnfa beginnings is begins nodes (waiting_of trail entry) (map (waiting_of trail) waiting) founds known taken.on;
    short = shortens_more entry.prefix (length trail) (reverse waiting) taken.prefix taken.short;
  }

  -- what waits behind a node that is visited
  more_waits : (nodes : List Node) (trail next : List ℕ) (entry : Entry) (waiting more : List Entry) (founds : List Found)
      → next ≡ trail_to trail entry → more ≡ waiting ++ reverse (step_entries tnfa entry (length next))
      → Taken nodes trail entry waiting founds
      → map (waiting_of next) more ≡ map (waiting_of trail) waiting ++ reverse (steps_on tnfa (waiting_of trail entry))
  more_waits nodes trail next entry waiting more founds gone pushed taken =
      let steps = step_entries tnfa entry (length next) in
      ap (map (waiting_of next)) pushed ∙ map-append (waiting_of next) waiting (reverse steps)
      ∙ ap₂ (λ a b. a ++ b)
      (ap (λ t. map (waiting_of t) waiting) gone
      ∙ same_stack trail (option_to_list entry.last) entry.prefix waiting taken.prefix taken.short)
      (map_reverse (waiting_of next) steps ∙ ap reverse (steps_stand entry trail next gone tnfa entry.at))

  pub search_entered : (nodes : List Node) (trail next : List ℕ) (entry : Entry) (waiting more : List Entry) (founds others : List Found)
      → ¬ Contains nodes (node_at entry) → next ≡ trail_to trail entry
      → others ≡ founds ++ found_entries entry next → more ≡ waiting ++ reverse (step_entries tnfa entry (length next))
      → Taken nodes trail entry waiting founds → SearchSoFar (nodes ++ node_at entry ∷ []) next more others
  search_entered nodes trail next entry waiting more founds others new gone listed pushed taken =
      let steps = step_entries tnfa entry (length next) in
      let turned : reverse more ≡ steps ++ reverse waiting =
      ap reverse pushed ∙ reverse-append waiting (reverse steps) ∙ ap (λ l. l ++ reverse waiting) (reverse-reverse steps) in
      let longer : entry.prefix ≤ length next =
      let count = ap length gone in
      let long = length-append (take entry.prefix trail) (option_to_list entry.last) in
      let front = length-take-le entry.prefix trail taken.prefix in
      omega (arith, count, long, front) in record {
        so =
            level_entered tnfa beginnings is begins nodes (waiting_of trail entry) (map (waiting_of trail) waiting)
            (map (waiting_of next) more) founds others new (more_waits nodes trail next entry waiting more founds gone pushed taken)
            (listed ∙ ap (λ l. founds ++ l) (founds_stand entry trail next gone)) taken.on;
        short =
            subst (Shortens (length next)) (sym turned)
            (shortens_on (length next) steps (reverse waiting) (steps_short entry trail next gone tnfa entry.at)
            (shortens_more entry.prefix (length next) (reverse waiting) longer taken.short));
      }

  -- each run of the loop leaves less to do
  pub left_entered : (nodes : List Node) (trail next : List ℕ) (entry : Entry) (waiting more : List Entry) (founds : List Found)
      → ¬ Contains nodes (node_at entry) → next ≡ trail_to trail entry → more ≡ waiting ++ reverse (step_entries tnfa entry (length next))
      → Taken nodes trail entry waiting founds
      → work_left tnfa beginnings (nodes ++ node_at entry ∷ []) (length more) < work_left tnfa beginnings nodes (suc (length waiting))
  left_entered nodes trail next entry waiting more founds new gone pushed taken =
      let less =
      work_entered tnfa beginnings is begins nodes (waiting_of trail entry) (map (waiting_of trail) waiting) (map (waiting_of next) more)
      founds new (more_waits nodes trail next entry waiting more founds gone pushed taken) taken.on in
      let count : length (map (waiting_of next) more) ≡ length more = length-map more (waiting_of next) in
      let old : length (map (waiting_of trail) waiting) ≡ length waiting = length-map waiting (waiting_of trail) in
      subst (λ n. work_left tnfa beginnings (nodes ++ node_at entry ∷ []) n < work_left tnfa beginnings nodes (suc (length waiting))) count
      (subst
      (λ n.
      work_left tnfa beginnings (nodes ++ node_at entry ∷ []) (length (map (waiting_of next) more))
      < work_left tnfa beginnings nodes (suc n))
      old less)

  -- a node that is taken has few moves, and is not too deep
  pub taken_deep : (nodes : List Node) (trail : List ℕ) (entry : Entry) (waiting : List Entry) (founds : List Found)
      → Taken nodes trail entry waiting founds → entry.depth + 1 < 2 ^ 32
  taken_deep nodes trail entry waiting founds taken =
      let lt = is.small (point_number tnfa entry.at) in
      let deep = taken.on.here.deep in
      let narrow = is.narrow in
      omega (arith, lt, deep, narrow)

  pub moves_from_few : (point : Point) → length (moves_from tnfa point) < 2 ^ 32
  moves_from_few (Within place) = omega arith
  moves_from_few (State number) =
      let few = moves_few tnfa.classes (terms_of is.patterns) tnfa.states number is.of.states in
      let limit = is.few in
      omega (arith, few, limit)

  -- the search has come to its end
  pub search_listed : (nodes : List Node) (trail : List ℕ) (waiting : List Entry) (founds : List Found) → waiting ≡ []
      → SearchSoFar nodes trail waiting founds
      → map (shown_found tnfa) founds ≡ ways_from (terms_of is.patterns) is.deep is.width is.ranks begins
  search_listed nodes trail waiting founds none s =
      level_end tnfa beginnings is begins nodes founds
      (subst (λ w. LevelSoFar tnfa beginnings is begins nodes (map (waiting_of trail) w) founds) none s.so)

  pub search_found : (nodes : List Node) (trail : List ℕ) (waiting : List Entry) (founds : List Found)
      → SearchSoFar nodes trail waiting founds → All (IsFoundAt tnfa beginnings is.deep) founds
  search_found nodes trail waiting founds s = s.so.are
