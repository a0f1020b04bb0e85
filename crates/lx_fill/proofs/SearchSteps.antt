-- Each step of a depth-first search keeps what holds of it.
use Rattle.std.proofs.Common.{◌≡◌, ℕ, suc, ◌+◌, ◌-◌, ◌<◌, ◌≤◌, ◌⊎◌, inl, inr, arith, Bool, true, false, List, [], ◌∷◌, ◌++◌, length, get_or, set, take, refl, sym, ap, ◌∙◌, subst}
use Rattle.std.specs.Prelude.{◌≢◌, Contains}
use Rattle.std.proofs.Math.Seq.{get_or-append_seam}
use Rattle.std.proofs.lemmas.Grind.{get_or_default_zero}
use Rattle.std.proofs.lemmas.Bool.{cases_eq, cases_lt}
use Rattle.std.proofs.lemmas.List.{get_or-set_same, get_or-set_other, get_or-take, get_or_append_left, length-set, length-take, length_push}
use Rattle.std.proofs.lemmas.List.Sums.{sum_by-set}
use Rattle.lx_fill.specs.declared.search.Colour.{Colour}
use Rattle.lx_fill.specs.declared.search.Colour.TheVariants.{New, Open, Closed}
use Rattle.lx_fill.specs.Checks.{Graph, Leads, by_edge, onward}
use Rattle.lx_fill.specs.Search.{IsChoice, IsSearchOf, IsTop, StandsBelow, chosen_at, colour_at, is_new, newness}

-- lists that grow and shrink at their end

pub stands-in_front : (states : List ℕ) (last bound state : ℕ) → bound ≤ length states → StandsBelow states bound state
    → StandsBelow (states ++ last ∷ []) bound state
stands-in_front states last bound state le stands =
    (stands.0, stands.1, get_or_append_left states (last ∷ []) 0 stands.0 (omega (arith, stands.1)) ∙ stands.2)

pub stands-pushed : (states : List ℕ) (last state : ℕ) → StandsBelow states (length states) state
    → StandsBelow (states ++ last ∷ []) (length (states ++ last ∷ [])) state
stands-pushed states last state stands =
    let front = stands-in_front states last (length states) state (omega arith) stands in
    let more = length_push states last in
    (front.0, omega (arith, front.1, more), front.2)

pub stands-last : (states : List ℕ) (last : ℕ) → StandsBelow (states ++ last ∷ []) (length (states ++ last ∷ [])) last
stands-last states last =
    let more = length_push states last in (length states, omega (arith, more), get_or-append_seam states last [] 0)

stands-taken : (states : List ℕ) (top state : ℕ) → length states ≡ suc top → get_or states top 0 ≢ state → StandsBelow states (length states) state
    → StandsBelow (take top states) (length (take top states)) state
stands-taken states top state long other stands =
    let short = length-take top states in
    let not_top : stands.0 ≢ top = λ e. other (ap (λ k. get_or states k 0) (sym e) ∙ stands.2) in
    let below : stands.0 < top = omega (arith, not_top, stands.1, long) in
    (stands.0, omega (arith, below, short, long), get_or-take top states stands.0 0 below ∙ stands.2)

-- colours that change at one state

colour-same : (colours : List Colour) (state : ℕ) (colour : Colour) → state < length colours → colour_at (set colours state colour) state ≡ colour
colour-same colours state colour within = get_or-set_same colours state colour New within

colour-other : (colours : List Colour) (state other : ℕ) (colour : Colour) → other ≢ state → colour_at (set colours state colour) other ≡ colour_at colours other
colour-other colours state other colour apart = get_or-set_other colours state other colour New apart

module _ (graph : Graph) (count : ℕ) (colours : List Colour) (passed : List ℕ) (chosen : List Bool) (path order : List ℕ) where
  -- the last state of the path leads on to a new one
  leads-pushed : IsSearchOf graph count colours passed chosen path order → (state : ℕ) → ((last : ℕ) → IsTop path last → Contains (graph last) state)
      → (place later : ℕ) → place < later → later < length (path ++ state ∷ [])
      → Leads graph (get_or (path ++ state ∷ []) place 0) (get_or (path ++ state ∷ []) later 0)
  leads-pushed is state edge place later before within =
      let more = length_push path state in
      let place_within : place < length path = omega (arith, more) in
      subst (λ s. Leads graph s (get_or (path ++ state ∷ []) later 0)) (sym (get_or_append_left path (state ∷ []) 0 place place_within))
      (at place_within (cases_lt later (length path)))
    where
      to : (next : ℕ) → place < length path → Contains (graph (get_or path (length path - 1) 0)) next → Leads graph (get_or path place 0) next
      to next place_within by = elim (cases_lt place (length path - 1)) [
        | inl lt ↦ onward (get_or path place 0) (get_or path (length path - 1) 0) next (is.leads place (length path - 1) lt (omega arith)) by
        | inr ge ↦ let same : length path - 1 ≡ place = omega arith in by_edge (get_or path place 0) next (subst (λ k. Contains (graph (get_or path k 0)) next) same by)
      ]

      at : place < length path → (later < length path) ⊎ (length path ≤ later) → Leads graph (get_or path place 0) (get_or (path ++ state ∷ []) later 0)
      at place_within (inl lt) = subst (λ s. Leads graph (get_or path place 0) s) (sym (get_or_append_left path (state ∷ []) 0 later lt)) (is.leads place later before lt)
      at place_within (inr ge) =
          let more = length_push path state in
          let last : length path ≡ later = omega (arith, more) in
          subst (λ k. Leads graph (get_or path place 0) (get_or (path ++ state ∷ []) k 0)) last
          (subst (λ s. Leads graph (get_or path place 0) s) (sym (get_or-append_seam path state [] 0))
          (to state place_within (edge (get_or path (length path - 1) 0) (omega arith, refl))))

  pub opens : IsSearchOf graph count colours passed chosen path order → (state : ℕ) → state < count → colour_at colours state ≡ New
      → ((last : ℕ) → IsTop path last → Contains (graph last) state)
      → IsSearchOf graph count (set colours state Open) passed chosen (path ++ state ∷ []) order
  opens is state within new edge = record {
    marks = is.marks;
    colours_fit = length-set colours state Open ∙ is.colours_fit;
    passed_fit = is.passed_fit;
    total =
        let fewer = sum_by-set newness colours state Open New in_colours in
        let one : newness (get_or colours state New) ≡ 1 = ap newness new in
        let more = length_push path state in
        omega (arith, fewer, one, more, is.total);
    within = within_pushed;
    opened = opened;
    closed = λ other e. is.closed other (keeps other Closed (λ q. absurd (cc q)) e);
    leads = leads-pushed is state edge;
    edges = λ other place lt in_graph. done (get_or (graph other) place 0) (is.edges other place lt in_graph);
  }
    where
      in_colours : state < length colours
      in_colours = let fit = is.colours_fit in omega arith

      keeps : (other : ℕ) (colour : Colour) → (Open ≡ colour → ⊥) → colour_at (set colours state Open) other ≡ colour → colour_at colours other ≡ colour
      keeps other colour apart_colours e = elim (cases_eq other state) [
        | inl same ↦ absurd (apart_colours (sym (colour-same colours state Open in_colours) ∙ ap (colour_at (set colours state Open)) (sym same) ∙ e))
        | inr apart ↦ sym (colour-other colours state other Open apart) ∙ e
      ]

      within_pushed : (place : ℕ) → place < length (path ++ state ∷ []) → get_or (path ++ state ∷ []) place 0 < count
      within_pushed place lt = elim (cases_lt place (length path)) [
        | inl front ↦ subst (λ s. s < count) (sym (get_or_append_left path (state ∷ []) 0 place front)) (is.within place front)
        | inr ge ↦
            let more = length_push path state in
            let last : length path ≡ place = omega (arith, more) in
            subst (λ k. get_or (path ++ state ∷ []) k 0 < count) last (subst (λ s. s < count) (sym (get_or-append_seam path state [] 0)) within)
      ]

      opened : (other : ℕ) → colour_at (set colours state Open) other ≡ Open → StandsBelow (path ++ state ∷ []) (length (path ++ state ∷ [])) other
      opened other e = elim (cases_eq other state) [
        | inl same ↦ subst (λ s. StandsBelow (path ++ state ∷ []) (length (path ++ state ∷ [])) s) (sym same) (stands-last path state)
        | inr apart ↦ stands-pushed path state other (is.opened other (sym (colour-other colours state other Open apart) ∙ e))
      ]

      done : (next : ℕ) → (chosen_at chosen next ≡ true) ⊎ (colour_at colours next ≡ Closed)
          → (chosen_at chosen next ≡ true) ⊎ (colour_at (set colours state Open) next ≡ Closed)
      done next (inl e) = inl e
      done next (inr e) =
          let apart : next ≢ state = λ same. let both : New ≡ Closed = sym new ∙ ap (colour_at colours) (sym same) ∙ e in cc in
          inr (colour-other colours state next Open apart ∙ e)

  pub closes : IsSearchOf graph count colours passed chosen path order → (state top : ℕ) → length path ≡ suc top → get_or path top 0 ≡ state
      → length (graph state) ≤ get_or passed state 0
      → IsSearchOf graph count (set colours state Closed) passed chosen (take top path) (order ++ state ∷ [])
  closes is state top long last all = record {
    marks = record {
      fit = is.marks.fit;
      within = within_pushed;
      earlier = earlier;
      cycle = is.marks.cycle;
      start = is.marks.start;
    };
    colours_fit = length-set colours state Closed ∙ is.colours_fit;
    passed_fit = is.passed_fit;
    total =
        let fewer = sum_by-set newness colours state Closed New in_colours in
        let more = length_push order state in
        let short = length-take top path in
        omega (arith, fewer, more, short, long, is.total);
    within = λ place lt. let short = length-take top path in let below : place < top = omega (arith, short) in
        subst (λ s. s < count) (sym (get_or-take top path place 0 below)) (is.within place (omega arith));
    opened = opened;
    closed = closed;
    leads = λ place later lt within. let short = length-take top path in let below : later < top = omega (arith, short) in
        subst (λ s. Leads graph s (get_or (take top path) later 0)) (sym (get_or-take top path place 0 (omega arith)))
        (subst (λ s. Leads graph (get_or path place 0) s) (sym (get_or-take top path later 0 below)) (is.leads place later lt (omega arith)));
    edges = λ other place lt in_graph. done (get_or (graph other) place 0) (is.edges other place lt in_graph);
  }
    where
      within : state < count
      within = subst (λ s. s < count) last (is.within top (omega arith))

      in_colours : state < length colours
      in_colours = let fit = is.colours_fit in omega (arith, within)

      within_pushed : (place : ℕ) → place < length (order ++ state ∷ []) → get_or (order ++ state ∷ []) place 0 < count
      within_pushed place lt = elim (cases_lt place (length order)) [
        | inl front ↦ subst (λ s. s < count) (sym (get_or_append_left order (state ∷ []) 0 place front)) (is.marks.within place front)
        | inr ge ↦
            let more = length_push order state in
            let at_end : length order ≡ place = omega (arith, more) in
            subst (λ k. get_or (order ++ state ∷ []) k 0 < count) at_end (subst (λ s. s < count) (sym (get_or-append_seam order state [] 0)) within)
      ]

      -- where an edge of the state that is closed leads
      leads_back : (next : ℕ) → Contains (graph state) next → (chosen_at chosen next ≡ true) ⊎ StandsBelow order (length order) next
      leads_back next m =
          let read : get_or (graph state) m.0 0 ≡ next = sym (get_or_default_zero (graph state) m.0 next m.1) ∙ m.2 in
          at (subst (λ n. (chosen_at chosen n ≡ true) ⊎ (colour_at colours n ≡ Closed)) read (is.edges state m.0 (omega (arith, m.1)) m.1))
        where
          at : (chosen_at chosen next ≡ true) ⊎ (colour_at colours next ≡ Closed) → (chosen_at chosen next ≡ true) ⊎ StandsBelow order (length order) next
          at (inl e) = inl e
          at (inr e) = inr (is.closed next e)

      in_front : (place next : ℕ) → place ≤ length order → (chosen_at chosen next ≡ true) ⊎ StandsBelow order place next
          → (chosen_at chosen next ≡ true) ⊎ StandsBelow (order ++ state ∷ []) place next
      in_front place next le (inl e) = inl e
      in_front place next le (inr stands) = inr (stands-in_front order state place next le stands)

      earlier : (place next : ℕ) → place < length (order ++ state ∷ []) → Contains (graph (get_or (order ++ state ∷ []) place 0)) next
          → (chosen_at chosen next ≡ true) ⊎ StandsBelow (order ++ state ∷ []) place next
      earlier place next lt m = elim (cases_lt place (length order)) [
        | inl front ↦ in_front place next (omega arith)
            (is.marks.earlier place next front (subst (λ s. Contains (graph s) next) (get_or_append_left order (state ∷ []) 0 place front) m))
        | inr ge ↦
            let more = length_push order state in
            let at_end : place ≡ length order = omega (arith, more) in
            let read = ap (λ k. get_or (order ++ state ∷ []) k 0) at_end ∙ get_or-append_seam order state [] 0 in
            in_front place next (omega arith)
            (subst (λ k. (chosen_at chosen next ≡ true) ⊎ StandsBelow order k next) (sym at_end) (leads_back next (subst (λ s. Contains (graph s) next) read m)))
      ]

      opened : (other : ℕ) → colour_at (set colours state Closed) other ≡ Open → StandsBelow (take top path) (length (take top path)) other
      opened other e = elim (cases_eq other state) [
        | inl same ↦ let both : Closed ≡ Open = sym (colour-same colours state Closed in_colours) ∙ ap (colour_at (set colours state Closed)) (sym same) ∙ e in cc
        | inr apart ↦ stands-taken path top other long (λ q. apart (sym q ∙ last)) (is.opened other (sym (colour-other colours state other Closed apart) ∙ e))
      ]

      closed : (other : ℕ) → colour_at (set colours state Closed) other ≡ Closed → StandsBelow (order ++ state ∷ []) (length (order ++ state ∷ [])) other
      closed other e = elim (cases_eq other state) [
        | inl same ↦ subst (λ s. StandsBelow (order ++ state ∷ []) (length (order ++ state ∷ [])) s) (sym same) (stands-last order state)
        | inr apart ↦ stands-pushed order state other (is.closed other (sym (colour-other colours state other Closed apart) ∙ e))
      ]

      done : (next : ℕ) → (chosen_at chosen next ≡ true) ⊎ (colour_at colours next ≡ Closed)
          → (chosen_at chosen next ≡ true) ⊎ (colour_at (set colours state Closed) next ≡ Closed)
      done next (inl e) = inl e
      done next (inr e) = elim (cases_eq next state) [
        | inl same ↦ inr (ap (colour_at (set colours state Closed)) same ∙ colour-same colours state Closed in_colours)
        | inr apart ↦ inr (colour-other colours state next Closed apart ∙ e)
      ]

  -- an edge back to an open state closes a cycle
  cycle-closed : IsSearchOf graph count colours passed chosen path order → (state target : ℕ) → IsTop path state → Contains (graph state) target
      → colour_at colours target ≡ Open → Leads graph target target
  cycle-closed is state target top edge is_open = elim (cases_lt stands.0 (length path - 1)) [
    | inl below ↦ onward target state target (subst (λ s. Leads graph target s) top.1 (subst (λ s. Leads graph s (get_or path (length path - 1) 0)) stands.2 (is.leads stands.0 (length path - 1) below (omega (arith, top.0))))) edge
    | inr ge ↦
        let last : length path - 1 ≡ stands.0 = omega (arith, stands.1, top.0) in
        let same : state ≡ target = sym top.1 ∙ ap (λ k. get_or path k 0) last ∙ stands.2 in
        by_edge target target (subst (λ s. Contains (graph s) target) same edge)
  ]
    where
      stands : StandsBelow path (length path) target
      stands = is.opened target is_open

  pub chooses : IsSearchOf graph count colours passed chosen path order → (state target : ℕ) → IsTop path state → Contains (graph state) target
      → target < count → colour_at colours target ≡ Open → IsSearchOf graph count colours passed (set chosen target true) path order
  chooses is state target top edge within is_open = record {
    marks = record {
      fit = length-set chosen target true ∙ is.marks.fit;
      within = is.marks.within;
      earlier = λ place next lt m. either (StandsBelow order place next) next (is.marks.earlier place next lt m);
      cycle = cycle;
      start = λ some. kept 0 (is.marks.start some);
    };
    colours_fit = is.colours_fit;
    passed_fit = is.passed_fit;
    total = is.total;
    within = is.within;
    opened = is.opened;
    closed = is.closed;
    leads = is.leads;
    edges = λ other place lt in_graph. either (colour_at colours (get_or (graph other) place 0) ≡ Closed) (get_or (graph other) place 0) (is.edges other place lt in_graph);
  }
    where
      same : chosen_at (set chosen target true) target ≡ true
      same = let fit = is.marks.fit in get_or-set_same chosen target true false (omega (arith, within))

      kept : (other : ℕ) → chosen_at chosen other ≡ true → chosen_at (set chosen target true) other ≡ true
      kept other e = elim (cases_eq other target) [
        | inl is_target ↦ ap (chosen_at (set chosen target true)) is_target ∙ same
        | inr apart ↦ get_or-set_other chosen target other true false apart ∙ e
      ]

      either : (P : Type 0) (other : ℕ) → (chosen_at chosen other ≡ true) ⊎ P → (chosen_at (set chosen target true) other ≡ true) ⊎ P
      either P other (inl e) = inl (kept other e)
      either P other (inr p) = inr p

      cycle : (other : ℕ) → chosen_at (set chosen target true) other ≡ true → ((other ≡ 0) × (graph 0 ≢ [])) ⊎ Leads graph other other
      cycle other e = elim (cases_eq other target) [
        | inl is_target ↦ inr (subst (λ s. Leads graph s s) (sym is_target) (cycle-closed is state target top edge is_open))
        | inr apart ↦ is.marks.cycle other (sym (get_or-set_other chosen target other true false apart) ∙ e)
      ]

  pub passes : IsSearchOf graph count colours passed chosen path order → (state target after : ℕ) → state < count
      → target ≡ get_or (graph state) (get_or passed state 0) 0 → after ≡ get_or passed state 0 + 1
      → (chosen_at chosen target ≡ true) ⊎ (colour_at colours target ≡ Closed)
      → IsSearchOf graph count colours (set passed state after) chosen path order
  passes is state target after within next one done = record {
    marks = is.marks;
    colours_fit = is.colours_fit;
    passed_fit = length-set passed state after ∙ is.passed_fit;
    total = is.total;
    within = is.within;
    opened = is.opened;
    closed = is.closed;
    leads = is.leads;
    edges = edges;
  }
    where
      here : get_or (set passed state after) state 0 ≡ after
      here = let fit = is.passed_fit in get_or-set_same passed state after 0 (omega (arith, within))

      edges : (other place : ℕ) → place < get_or (set passed state after) other 0 → place < length (graph other)
          → (chosen_at chosen (get_or (graph other) place 0) ≡ true) ⊎ (colour_at colours (get_or (graph other) place 0) ≡ Closed)
      edges other place lt in_graph = elim (cases_eq other state) [
        | inl same ↦
            let below : place < after = subst (λ n. place < n) (ap (λ s. get_or (set passed state after) s 0) same ∙ here) lt in
            elim (cases_lt place (get_or passed state 0)) [
              | inl earlier ↦ is.edges other place (subst (λ s. place < get_or passed s 0) (sym same) earlier) in_graph
              | inr ge ↦
                  let at_end : place ≡ get_or passed state 0 = omega (arith, below, one) in
                  let read : target ≡ get_or (graph other) place 0 =
                  next ∙ ap (λ k. get_or (graph state) k 0) (sym at_end) ∙ ap (λ s. get_or (graph s) place 0) (sym same) in
                  subst (λ t. (chosen_at chosen t ≡ true) ⊎ (colour_at colours t ≡ Closed)) read done
            ]
        | inr apart ↦ is.edges other place (subst (λ n. place < n) (get_or-set_other passed state other after 0 apart) lt) in_graph
      ]

  -- where all states were met and none is open, all are closed
  pub all-closed : IsSearchOf graph count colours passed chosen path order → path ≡ []
      → ((state : ℕ) → state < count → is_new (colour_at colours state) ≡ false) → IsChoice graph count chosen order
  all-closed is none met = record {
    marks = is.marks;
    few = let total = is.total in omega arith;
    every = λ state lt. closed state (colour_at colours state) refl (met state lt);
  }
    where
      closed : (state : ℕ) (colour : Colour) → colour_at colours state ≡ colour → is_new colour ≡ false → StandsBelow order (length order) state
      closed state New e is_old = absurd cc
      closed state Open e is_old =
          let stands = is.opened state e in let empty : length path ≡ 0 = ap length none in absurd (omega (arith, stands.1, empty))
      closed state Closed e is_old = is.closed state e
