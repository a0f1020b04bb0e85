-- What holds of all blocks of a layout with a supply of units.
use Rattle.std.specs.Prelude.{◌≡◌, ℕ, zero, suc, ◌+◌, ◌<◌, ◌≤◌, Bool, true, false, List, [], ◌∷◌, ◌++◌, length, Option, Some, None, IsSome, ◌⊎◌, refl, if◌then◌else◌}
use Rattle.std.proofs.Common.{inl, inr, sym, ap, ◌∙◌, subst, arith, true≢false}
use Rattle.std.specs.List.{AllByRecursion}
use Rattle.std.proofs.lemmas.Option.{slice_get_within}
use Rattle.lx_auto.specs.Automaton.{edge_on, state_of}
use Rattle.lx_auto.specs.declared.automaton.Accept.{Accept}
use Rattle.lx_auto.specs.declared.automaton.Auto.{Auto}
use Rattle.lx_auto.specs.declared.automaton.Edge.{Edge}
use Rattle.lx_auto.specs.declared.automaton.State.{State}
use Rattle.lx_auto.specs.declared.ops.Op.{Op}
use Rattle.lx_ccode.specs.declared.piece.Stmt.{Stmt}
use Rattle.lx_layout.specs.Codes.{accept_code}
use Rattle.lx_layout.specs.Endings.{Ending}
use Rattle.lx_layout.specs.Halting.{Halting, halted_accept, is_entered, kept_number}
use Rattle.lx_layout.specs.Layout.{end_block, end_blocks, end_size, lone_blocks, own_block, own_blocks, own_size}
use Rattle.lx_layout.specs.SuppliedLayout.{at_end_blocks, at_end_size, blocks_by, class_blocks, classes_begin, kept, lone_number, own_end, reader_blocks, reader_size, size_in, sized, state_blocks, state_end, state_size, state_to, state_way, states_blocks, tests_of, tests_size, turn_begin, turn_of, turn_size, with_blocks}
use Rattle.lx_layout.specs.Supplies.{Reader, Supply, state}
use Rattle.lx_dispatch.specs.TestTrees.{Asked, EachTest, TestTree, by_cases, fork, leaf, switch, test}
use Rattle.lx_dispatch.specs.TransitionClasses.{class_place, classes_onto, edge_class, has_class, transition_classes}
use Rattle.lx_dispatch.proofs.Cases.{each-cases_by, units-by}
use Rattle.lx_dispatch.proofs.ClassLists.{class_found, has_class-on}
use Rattle.lx_layout.proofs.SuppliedLayouts.EachBlock.{EachFrom, HoldsOfSorts, each-at_end, each-reader, each_from-append}
use Rattle.lx_layout.proofs.SuppliedLayouts.Lengths.{length-class_blocks, length-state_blocks, length-tests_of, length-turn_of}
use Rattle.lx_layout.proofs.SuppliedLayouts.Readers.{reader_size-with_blocks}
use Rattle.lx_layout.proofs.SuppliedLayouts.ReaderWays.{end_places, places-size}
use Rattle.lx_layout.proofs.Validity.EachElement.{each-append}
use Rattle.lx_layout.proofs.Validity.LayoutFits.{HaveClasses-onto}

-- what holds of edges holds of their classes
pub each-classes : (Q : Edge → Type 0) (found edges : List Edge) → AllByRecursion Q found → AllByRecursion Q edges
    → AllByRecursion Q (classes_onto found edges)
each-classes Q found [] h g = h
each-classes Q found (edge ∷ edges) h g = by (has_class found edge) (λ more also. each-classes Q more edges also g.1)
  where
    by : (t : Bool) → ((more : List Edge) → AllByRecursion Q more → AllByRecursion Q (classes_onto more edges))
        → AllByRecursion Q (classes_onto (if t then found else found ++ edge ∷ []) edges)
    by true again = again found h
    by false again = again (found ++ edge ∷ []) (each-append Q found (edge ∷ []) h (g.0, tt))

-- of blocks in place of classes
pub each-with_blocks : (G : Asked → Type 0) (W : Option ℕ → Type 0) (B : ℕ → Type 0) (block : Option ℕ → ℕ) → ((class : Option ℕ) → W class → B (block class))
    → (tree : TestTree (Option ℕ)) → EachTest G W tree → EachTest G B (with_blocks block tree)
each-with_blocks G W B block f (leaf class) h = f class h
each-with_blocks G W B block f (switch cases last) h = (
  subst (λ units. G (by_cases units)) (sym (units-by block cases)) h.0,
  each-cases_by W B block f cases h.1,
  f last h.2,
)
each-with_blocks G W B block f (test question class high) h = (h.0, f class h.1, each-with_blocks G W B block f high h.2)
each-with_blocks G W B block f (fork question low high) h = (h.0, each-with_blocks G W B block f low h.1, each-with_blocks G W B block f high h.2)

-- edges have a class
pub some_class : (edge : Edge) (edges : List Edge) → 0 < length (transition_classes (edge ∷ edges))
some_class edge edges =
    let found = class_found (transition_classes (edge ∷ edges)) edge (HaveClasses-onto (edge ∷ edges) []).0 in
    let within = slice_get_within (transition_classes (edge ∷ edges)) _ found.0 found.1 in omega (arith, within)

module _ (B : ℕ → Type 0) (halting : Halting) where
  -- a match can end in the state with this number, or nothing is asked of blocks
  abbrev pub CanEnd : (s : ℕ) → Type 0
  CanEnd s = (halting.halts s ≡ true) ⊎ ((block : ℕ) → B block)

  -- a way of this state is one of so many, or the end, where a match can end
  abbrev pub IsWay : (s count : ℕ) → Option ℕ → Type 0
  IsWay s count None = CanEnd s
  IsWay s count (Some place) = place < count

-- a match can end in each state whose blocks lead to the end, and it falls back where it ends without an accept
pub record EndsRight (B : ℕ → Type 0) (supply : Supply) (halting : Halting) (end_rule : Option ℕ) (auto : Auto) : Type 0 where
  pub lone : (s : ℕ) → s < length auto.states → (state_of auto.states s).edges ≡ [] → CanEnd B halting s
  pub turned : (s : ℕ) → s < length auto.states → IsSome supply.eof → is_entered end_rule auto s ≡ true → CanEnd B halting s
  pub falls : (s : ℕ) → s < length auto.states → (state_of auto.states s).accept ≡ None → halting.halts s ≡ true
      → (halting.falls s ≡ true) ⊎ ((block : ℕ) → B block)

module _ (P : ℕ → List Stmt → Type 0) (B : ℕ → Type 0) (G : Asked → Type 0) (R : Reader → ℕ → Type 0) (C : ℕ → Type 0) (E : State → Edge → Type 0) (A : Accept → Type 0) (D : ℕ → Type 0)
    (supply : Supply) (halting : Halting) (endings : ℕ → Ending) (auto : Auto) (holds : HoldsOfSorts P B G R C E A D supply halting endings auto)
    (end_rule : Option ℕ) (trees : Reader → TestTree (Option ℕ)) (begin n : ℕ) (range : (block : ℕ) → begin ≤ block → block < n → B block)
    (asked_of : (s : ℕ) → C (supply.check s)) where
  -- a reader's tree tests such units, and leads to one of the ways of its state
  abbrev pub LeadsWithin : (s : ℕ) → Reader → List Edge → Type 0
  LeadsWithin s reader edges = EachTest G (IsWay B halting s (end_places supply.eof + length (transition_classes edges))) (trees reader)

  module _ (rules : ℕ → ℕ) (fall : ℕ) where
    -- an accept of the sort, whose rule has a block; or the fallback has one
    abbrev pub EndIsThere : Option Accept → Type 0
    EndIsThere None = B fall
    EndIsThere (Some accept) = A accept × B (rules accept.rule)

    end_each : (from : ℕ) (o : Option Accept) → EndIsThere o → EachFrom P from (end_blocks auto rules fall o)
    end_each from None there = tt
    end_each from (Some accept) there = by accept.ops refl
      where
        by : (ops : List Op) → accept.ops ≡ ops → EachFrom P from (own_blocks auto rules fall (rules accept.rule) ops)
        by [] e = tt
        by (op ∷ ops) e =
            (subst (λ l. P from (accept_code auto l (rules accept.rule))) e (holds.accepts accept (rules accept.rule) there.0 there.1 from), tt)

    -- the own end of a state stands only where a match can end
    halted_each : (s from : ℕ) (given : State) → (CanEnd B halting s → EndIsThere given.accept)
        → EachFrom P from (end_blocks auto rules fall (halted_accept halting s given))
    halted_each s from given there = by (halting.halts s) refl
      where
        by : (t : Bool) → halting.halts s ≡ t → EachFrom P from (end_blocks auto rules fall (if t then given.accept else None))
        by true e = end_each from given.accept (there (inl e))
        by false e = tt

    lone_each : (number from : ℕ) (o : Option Accept) → EndIsThere o → EachFrom P from (lone_blocks auto rules fall number o)
    lone_each zero from None there = (holds.jumps fall there from, tt)
    lone_each zero from (Some accept) there = (holds.accepts accept (rules accept.rule) there.0 there.1 from, tt)
    lone_each (suc number) from o there = end_each from o there

    pub end_within : (own : ℕ) (o : Option Accept) → EndIsThere o → begin ≤ own → own + end_size o ≤ n → B (end_block auto rules fall own o)
    end_within own None there low high = there
    end_within own (Some accept) there low high = by accept.ops high
      where
        by : (ops : List Op) → own + own_size ops ≤ n → B (own_block own (rules accept.rule) ops)
        by [] high = there.1
        by (op ∷ ops) high = range own low (omega (arith, high))

    -- ---- a state

    -- its own end lies within the blocks
    pub record StateFits (s from : ℕ) (given : State) : Type 0 where
      pub low : begin ≤ from
      pub ends : CanEnd B halting s → EndIsThere given.accept
      pub classes : classes_begin supply halting end_rule trees auto s from given.edges + length (transition_classes given.edges) ≤ n
      pub end : own_end supply halting end_rule trees auto s from given.edges + end_size (halted_accept halting s given) ≤ n
      pub above : begin ≤ own_end supply halting end_rule trees auto s from given.edges

    module _ (s from : ℕ) (given : State) (fits : StateFits s from given) where
      pub state_end-within : CanEnd B halting s → B (state_end supply halting end_rule trees auto rules fall begin s from given)
      state_end-within (inr all) = all (state_end supply halting end_rule trees auto rules fall begin s from given)
      state_end-within (inl halts) =
          end_within (own_end supply halting end_rule trees auto s from given.edges) given.accept (fits.ends (inl halts)) fits.above
          (subst (λ t. own_end supply halting end_rule trees auto s from given.edges + end_size (if t then given.accept else None) ≤ n) halts fits.end)

      pub first_above : begin ≤ classes_begin supply halting end_rule trees auto s from given.edges
      first_above = let low = fits.low in by given.edges low
        where
          by : (edges : List Edge) → begin ≤ from → begin ≤ classes_begin supply halting end_rule trees auto s from edges
          by [] low = low
          by (edge ∷ edges) low = omega (arith, low)

      pub way_within : (class : Option ℕ) → IsWay B halting s (length (transition_classes given.edges)) class
          → B (state_way supply halting end_rule trees auto rules fall begin s from given class)
      way_within None can = state_end-within can
      way_within (Some place) is =
          let classes = fits.classes in
          let above = first_above in
          range (classes_begin supply halting end_rule trees auto s from given.edges + place) (omega (arith, above)) (omega (arith, is, classes))

      pub to_within : (unit : ℕ)
          → (edge_on given.edges unit ≡ None → B (state_end supply halting end_rule trees auto rules fall begin s from given))
          → B (state_to supply halting end_rule trees auto rules fall begin s from given unit)
      to_within unit ends = by (edge_on given.edges unit) ends (λ edge on. has_class-on given.edges unit edge on)
        where
          by : (o : Option Edge) → (o ≡ None → B (state_end supply halting end_rule trees auto rules fall begin s from given)) → ((edge : Edge) → o ≡ Some edge → has_class (transition_classes given.edges) edge ≡ true)
              → B (state_way supply halting end_rule trees auto rules fall begin s from given (edge_class (transition_classes given.edges) o))
          by None ends has = ends refl
          by (Some edge) ends has =
              let found = class_found (transition_classes given.edges) edge (has edge refl) in
              way_within (Some (class_place (transition_classes given.edges) edge))
              (slice_get_within (transition_classes given.edges) (class_place (transition_classes given.edges) edge) found.0 found.1)

    -- an edge of the sort, which leads to a state that is there
    abbrev pub IsEdge : State → Edge → Type 0
    IsEdge given edge = E given edge × (edge.to < length auto.states)

    module _ (saved_list : List Accept) (place : ℕ → ℕ) (places : (s : ℕ) → s < length auto.states → B (place s)) where
      classes_each : (from : ℕ) (given : State) (classes : List Edge) → AllByRecursion (IsEdge given) classes
          → EachFrom P from (class_blocks halting auto saved_list place given classes)
      classes_each from given [] h = tt
      classes_each from given (class ∷ classes) h =
          (holds.edges given (kept_number halting saved_list given.accept) (place class.to) class h.0.0 (places class.to h.0.1) from, classes_each (suc from) given classes h.1)

      -- what reads, in a state to which a match comes
      module _ (s from : ℕ) (given : State) (fits : StateFits s from given) (entered : is_entered end_rule auto s ≡ true)
          (turn : turn_begin supply halting end_rule trees auto s from given.edges + at_end_size supply ≤ n)
          (tests : from + reader_size supply.eof (supply.check s) (trees (state s)) ≤ n) (here : from < n)
          (can : IsSome supply.eof → CanEnd B halting s) (leads : LeadsWithin s (state s) given.edges) (reader : R (state s) from) where
        abbrev way : Option ℕ → ℕ
        way class = state_way supply halting end_rule trees auto rules fall begin s from given class

        reader_way-within : (class : Option ℕ) → IsWay B halting s (end_places supply.eof + length (transition_classes given.edges)) class → B (way class)
        reader_way-within None can = state_end-within s from given fits can
        reader_way-within (Some number) is =
            let few = places-size supply in
            let above = first_above s from given fits in
            range (classes_begin supply halting end_rule trees auto s from given.edges + number) (omega (arith, above)) (omega (arith, is, few, turn))

        reader_each : EachFrom P from (reader_blocks supply.stored (state s) supply.eof (supply.check s) from (with_blocks way (trees (state s))))
        reader_each =
            let low = fits.low in
            let size = reader_size-with_blocks way supply.eof (supply.check s) (trees (state s)) in
            each-reader P B G R C E A D supply halting endings auto holds (state s) (supply.check s) from (with_blocks way (trees (state s))) (asked_of s)
            (each-with_blocks G (IsWay B halting s (end_places supply.eof + length (transition_classes given.edges))) B way reader_way-within (trees (state s)) leads)
            reader (λ block lt le. range block (omega (arith, low, le)) (omega (arith, lt, size, tests)))

        turn_each : EachFrom P (turn_begin supply halting end_rule trees auto s from given.edges)
            (at_end_blocks supply (state s) from (turn_begin supply halting end_rule trees auto s from given.edges)
            (state_to supply halting end_rule trees auto rules fall begin s from given) (state_end supply halting end_rule trees auto rules fall begin s from given))
        turn_each =
            let low = fits.low in
            let above = first_above s from given fits in
            each-at_end P B G R C E A D supply halting endings auto holds (state s) from (turn_begin supply halting end_rule trees auto s from given.edges)
            (state_to supply halting end_rule trees auto rules fall begin s from given) (state_end supply halting end_rule trees auto rules fall begin s from given)
            reader (range from (omega (arith, low)) (omega (arith, here)))
            (λ unit is.
            let some : IsSome supply.eof = subst (λ o. IsSome o) (sym is) refl in
            (to_within s from given fits unit (λ none. state_end-within s from given fits (can some)), state_end-within s from given fits (can some)))
            (λ next lt le. range next (omega (arith, le, above)) (omega (arith, lt, turn)))

      -- ---- the blocks of a state

      kept_each : (t : Bool) (from : ℕ) (codes : List (List Stmt)) → (t ≡ true → EachFrom P from codes) → EachFrom P from (kept t codes)
      kept_each false from codes h = tt
      kept_each true from codes h = h refl

      sized_whole : (t : Bool) (size : ℕ) → t ≡ true → sized t size ≡ size
      sized_whole true size e = refl
      sized_whole false size e = absurd (true≢false (sym e))

      -- what is asked of a state, whose blocks begin at `from`
      pub record StateHolds (s from : ℕ) (given : State) : Type 0 where
        pub low : begin ≤ from
        pub high : from + state_size supply halting end_rule trees auto s given ≤ n
        pub ends : CanEnd B halting s → EndIsThere given.accept
        pub lone : given.edges ≡ [] → CanEnd B halting s
        pub turned : IsSome supply.eof → is_entered end_rule auto s ≡ true → CanEnd B halting s
        pub edges : AllByRecursion (IsEdge given) given.edges
        pub leads : LeadsWithin s (state s) given.edges
        pub reader : is_entered end_rule auto s ≡ true → (given.edges ≡ [] → ⊥) → R (state s) from

      module _ (s from : ℕ) (given : State) (asked : StateHolds s from given) where
        with_edge : (edge : Edge) (edges : List Edge) → given.edges ≡ edge ∷ edges
            → EachFrom P from (blocks_by supply halting end_rule trees auto rules fall begin saved_list place s from given (edge ∷ edges))
        with_edge edge edges some =
            let tests_row : List (List Stmt) = tests_of supply halting end_rule trees auto rules fall begin saved_list place s from given in
            let classes_row : List (List Stmt) = class_blocks halting auto saved_list place given (transition_classes (edge ∷ edges)) in
            let turn_row : List (List Stmt) = turn_of supply halting end_rule trees auto rules fall begin saved_list place s from given in
            let end_row : List (List Stmt) = end_blocks auto rules fall (halted_accept halting s given) in
            let a = length-tests_of supply halting end_rule trees auto rules fall begin saved_list place s from given in
            let b = length-class_blocks halting auto saved_list place given (transition_classes (edge ∷ edges)) in
            let c = length-turn_of supply halting end_rule trees auto rules fall begin saved_list place s from given in
            let low = asked.low in
            let high : from + size_in supply halting end_rule trees auto s given (edge ∷ edges) ≤ n =
            subst (λ l. from + size_in supply halting end_rule trees auto s given l ≤ n) some asked.high in
            let one = some_class edge edges in
            let here : from < n = omega (arith, high, one) in
            let never : given.edges ≡ [] → ⊥ = λ none. (let e = sym some ∙ none in cc) in
            let turn_at : turn_begin supply halting end_rule trees auto s from given.edges ≡ from + tests_size supply halting end_rule trees auto s
            + length (transition_classes (edge ∷ edges)) = ap (λ l. turn_begin supply halting end_rule trees auto s from l) some in
            let end_at : own_end supply halting end_rule trees auto s from given.edges ≡ from + tests_size supply halting end_rule trees auto s
            + length (transition_classes (edge ∷ edges)) + turn_size supply halting end_rule trees auto s =
            ap (λ l. own_end supply halting end_rule trees auto s from l) some in
            let fits : StateFits s from given = record {
              low = asked.low;
              ends = asked.ends;
              classes = omega (arith, turn_at, high);
              end = omega (arith, end_at, high);
              above = omega (arith, end_at, low);
            } in
            let whole_turn = λ (entered : is_entered end_rule auto s ≡ true). sized_whole (is_entered end_rule auto s) (at_end_size supply) entered in
            let whole_tests = λ (entered : is_entered end_rule auto s ≡ true).
            sized_whole (is_entered end_rule auto s) (reader_size supply.eof (supply.check s) (trees (state s))) entered in
            let turn_fits = λ (entered : is_entered end_rule auto s ≡ true). turn_room (whole_turn entered) turn_at high in
            let tests_fit = λ (entered : is_entered end_rule auto s ≡ true). tests_room (whole_tests entered) high in
            let classes_at : from + length tests_row ≡ from + tests_size supply halting end_rule trees auto s = ap (λ k. from + k) a in
            let row_at : from + tests_size supply halting end_rule trees auto s + length classes_row ≡ turn_begin supply halting end_rule trees auto s from given.edges =
            omega (arith, b, turn_at) in
            let tests_each = kept_each (is_entered end_rule auto s) from _
            (λ entered. reader_each s from given fits entered (turn_fits entered) (tests_fit entered) here
            (λ at_end. asked.turned at_end entered) asked.leads
            (asked.reader entered never)) in
            let turns_each = kept_each (is_entered end_rule auto s) (turn_begin supply halting end_rule trees auto s from given.edges) _
            (λ entered. turn_each s from given fits entered (turn_fits entered) (tests_fit entered) here
            (λ at_end. asked.turned at_end entered) asked.leads
            (asked.reader entered never)) in
            let own_classes = each-classes (IsEdge given) [] (edge ∷ edges) tt (subst (λ l. AllByRecursion (IsEdge given) l) some asked.edges) in
            each_from-append P from tests_row (classes_row ++ (turn_row ++ end_row)) tests_each
            (subst (λ k. EachFrom P k (classes_row ++ (turn_row ++ end_row))) (sym classes_at)
            (each_from-append P (from + tests_size supply halting end_rule trees auto s) classes_row (turn_row ++ end_row)
            (classes_each (from + tests_size supply halting end_rule trees auto s) given (transition_classes (edge ∷ edges)) own_classes)
            (subst (λ k. EachFrom P k (turn_row ++ end_row)) (sym row_at)
            (each_from-append P (turn_begin supply halting end_rule trees auto s from given.edges) turn_row end_row turns_each
            (halted_each s (turn_begin supply halting end_rule trees auto s from given.edges + length turn_row) given asked.ends)))))
          where
            turn_room : turn_size supply halting end_rule trees auto s ≡ at_end_size supply
                → turn_begin supply halting end_rule trees auto s from given.edges ≡ from + tests_size supply halting end_rule trees auto s + length (transition_classes (edge ∷ edges))
                → from + size_in supply halting end_rule trees auto s given (edge ∷ edges) ≤ n
                → turn_begin supply halting end_rule trees auto s from given.edges + at_end_size supply ≤ n
            turn_room whole at high = omega (arith, whole, at, high)

            tests_room : tests_size supply halting end_rule trees auto s ≡ reader_size supply.eof (supply.check s) (trees (state s))
                → from + size_in supply halting end_rule trees auto s given (edge ∷ edges) ≤ n
                → from + reader_size supply.eof (supply.check s) (trees (state s)) ≤ n
            tests_room whole high = omega (arith, whole, high)

        pub state_each : EachFrom P from (state_blocks supply halting end_rule trees auto rules fall begin saved_list place s from given)
        state_each = by given.edges refl
          where
            by : (edges : List Edge) → given.edges ≡ edges
                → EachFrom P from (blocks_by supply halting end_rule trees auto rules fall begin saved_list place s from given edges)
            by [] none = lone_each (lone_number end_rule s) from given.accept (asked.ends (asked.lone none))
            by (edge ∷ edges) some = with_edge edge edges some

      -- ---- the blocks of all states

      -- what is asked of each of them
      abbrev pub StatesHold : (s from : ℕ) → List State → Type 0
      StatesHold s from [] = Unit {0}
      StatesHold s from (given ∷ states) = StateHolds s from given × StatesHold (suc s) (from + state_size supply halting end_rule trees auto s given) states

      pub states_each : (s from : ℕ) (states : List State) → StatesHold s from states
          → EachFrom P from (states_blocks supply halting end_rule trees auto rules fall begin saved_list place s from states)
      states_each s from [] asked = tt
      states_each s from (given ∷ states) asked =
          let own : List (List Stmt) = state_blocks supply halting end_rule trees auto rules fall begin saved_list place s from given in
          let next : ℕ = from + state_size supply halting end_rule trees auto s given in
          let others : List (List Stmt) = states_blocks supply halting end_rule trees auto rules fall begin saved_list place (suc s)
          (from + state_size supply halting end_rule trees auto s given) states in
          let l = ap (λ k. from + k) (length-state_blocks supply halting end_rule trees auto rules fall begin saved_list place s from given) in
          each_from-append P from own others (state_each s from given asked.0)
          (subst (λ k. EachFrom P k others) (sym l) (states_each (suc s) (from + state_size supply halting end_rule trees auto s given) states asked.1))
