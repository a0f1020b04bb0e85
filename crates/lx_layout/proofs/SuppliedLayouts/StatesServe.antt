-- The blocks of a state, and of an entry that stands apart, serve where they stand.
use Rattle.std.specs.Prelude.{◌≡◌, ℕ, zero, suc, ◌+◌, ◌<◌, ◌≤◌, Bool, true, false, List, [], ◌∷◌, ◌++◌, length, Option, Some, None, All, IsSome, ◌&&◌, is_some, nat_eq, refl, slice_get, if◌then◌else◌}
use Rattle.std.proofs.Common.{inl, inr, sym, ap, ◌∙◌, subst, arith, eq-eqb}
use Rattle.std.proofs.lemmas.List.Elements.{All-get_or}
use Rattle.lx_auto.specs.Automaton.{AreApartFrom, edge_on, state_of}
use Rattle.lx_auto.specs.declared.automaton.Accept.{Accept}
use Rattle.lx_auto.specs.declared.automaton.Auto.{Auto}
use Rattle.lx_auto.specs.declared.automaton.Edge.{Edge}
use Rattle.lx_auto.specs.declared.automaton.State.{State}
use Rattle.lx_auto.specs.declared.ops.Op.{Op}
use Rattle.lx_auto.proofs.Edges.{edge_on-here}
use Rattle.lx_ccode.specs.declared.piece.Stmt.{Stmt}
use Rattle.lx_ccode.specs.declared.piece.Stmt.TheVariants.{Goto, Skip}
use Rattle.lx_layout.specs.Codes.{accept_code, list_code, save_code, saved_by}
use Rattle.lx_layout.specs.Endings.{Ending, ending_code}
use Rattle.lx_layout.specs.Layout.{StandsFrom, end_block, end_blocks, lone_blocks, lone_code, lone_place, own_block, own_blocks, saved_number}
use Rattle.lx_layout.specs.Supplied.{EndsBy, IsEnd, IsTarget, ServesReader, ServesState, ends, goes, reads}
use Rattle.lx_layout.specs.Fallback.{edge_code}
use Rattle.lx_layout.specs.Halting.{Halting, halted_accept, is_entered, saves_on, kept_number, keeps_numbers, saved_accepts}
use Rattle.lx_layout.specs.SuppliedLayout.{at_end_blocks, blocks_by, class_blocks, classes_begin, entry_tests_size, entry_way, kept, lone_number, own_end, place_by, reader_blocks, reader_size, sized, state_end, state_to, state_way, tests_of, tests_size, turn_begin, turn_of, with_blocks, number_in}
use Rattle.lx_layout.specs.Supplies.{Reader, Supply, entry, state}
use Rattle.lx_dispatch.specs.Dispatch.{top_of}
use Rattle.lx_dispatch.specs.TestTrees.{PicksAs, TestTree, fork, leaf, picked, switch, test}
use Rattle.lx_dispatch.specs.TransitionClasses.{class_place, edge_class, has_class, same_class, transition_classes}
use Rattle.lx_dispatch.specs.UnitApart.{reader_split}
use Rattle.lx_dispatch.proofs.ClassLists.{class_found, class_place-first, has_class-on, same_class-ops, same_class-to}
use Rattle.lx_dispatch.proofs.Splits.{picked-tree}
use Rattle.lx_layout.proofs.BlockLayouts.CodesInBlocks.{StandsFrom-back, StandsFrom-front, StandsFrom-get}
use Rattle.lx_layout.proofs.SuppliedLayouts.ApartUnits.{picked-other, picked-own}
use Rattle.lx_layout.proofs.SuppliedLayouts.Lengths.{length-class_blocks, length-tests_of, length-turn_of}
use Rattle.lx_layout.proofs.SuppliedLayouts.Readers.{LeadsRight, picked-with_blocks, reader_serves}

-- the class of an edge is one of the classes
place_within : (classes : List Edge) (place : ℕ) (class : Edge) → slice_get classes place ≡ Some class → place < length classes
place_within [] place class is = absurd (cc)
place_within (first ∷ classes) zero class is = omega arith
place_within (first ∷ classes) (suc place) class is = let within = place_within classes place class is in omega (arith, within)

-- ---- the blocks of classes

module _ (halting : Halting) (auto : Auto) (saved_list : List Accept) (place : ℕ → ℕ) where
  pub slice_get-class_blocks : (given : State) (classes : List Edge) (j : ℕ) (class : Edge) → slice_get classes j ≡ Some class
      → slice_get (class_blocks halting auto saved_list place given classes) j
      ≡ Some (edge_code halting auto given (kept_number halting saved_list given.accept) class (place class.to))
  slice_get-class_blocks given [] j class e = absurd (cc)
  slice_get-class_blocks given (first ∷ classes) zero class e =
      let same : first ≡ class = cc in ap (λ w. Some (edge_code halting auto given (kept_number halting saved_list given.accept) w (place w.to))) same
  slice_get-class_blocks given (first ∷ classes) (suc j) class e = slice_get-class_blocks given classes j class e

  edge_code-same : (number : Option ℕ) (given : State) (class edge : Edge) → same_class class edge ≡ true
      → edge_code halting auto given number class (place class.to) ≡ edge_code halting auto given number edge (place edge.to)
  edge_code-same number given class edge same =
      ap (λ ops. save_code (saves_on halting given class) number (list_code auto given.leave (list_code auto ops (Skip ∷ Goto (place class.to) ∷ []))))
      (same_class-ops class edge same)
      ∙ ap (λ to. save_code (is_some given.accept && halting.falls to) number
      (list_code auto given.leave (list_code auto edge.ops (Skip ∷ Goto (place to) ∷ []))))
      (same_class-to class edge same)

-- a state is saved by the number that is kept of what it accepts, if one is
pub number_in-kept : (halting : Halting) (states : List State) (s : ℕ)
    → saved_by (number_in halting states) s ≡ kept_number halting (saved_accepts halting states) (state_of states s).accept
number_in-kept halting states s = by (keeps_numbers halting halting.format (saved_accepts halting states))
  where
    by : (t : Bool)
        → saved_by (if t then Some (λ number. saved_number (saved_accepts halting states) (state_of states number).accept) else None) s
        ≡ (if t then Some (saved_number (saved_accepts halting states) (state_of states s).accept) else None)
    by true = refl
    by false = refl

-- a match can end in a state without an edge, where a unit has no edge, and where a unit stands at the end of the input
pub record HaltsRight (supply : Supply) (halting : Halting) (greatest : ℕ) (end_rule : Option ℕ) (auto : Auto) (s : ℕ) (given : State) : Type 0 where
  pub lone : given.edges ≡ [] → halting.halts s ≡ true
  pub bare : (unit : ℕ) → unit ≤ greatest → edge_on given.edges unit ≡ None → halting.halts s ≡ true
  pub turned : IsSome supply.eof → is_entered end_rule auto s ≡ true → halting.halts s ≡ true

module _ (supply : Supply) (halting : Halting) (endings : ℕ → Ending) (greatest : ℕ) (end_rule : Option ℕ) (trees : Reader → TestTree (Option ℕ)) (auto : Auto)
    (rules : ℕ → ℕ) (fall begin : ℕ) (saved : Option (ℕ → ℕ)) (saved_list : List Accept) (place : ℕ → ℕ) (blocks : List (List Stmt)) where
  abbrev Target : (s : ℕ) → State → Option Edge → ℕ → Type 0
  Target s given o block = IsTarget supply halting endings greatest auto blocks place saved rules fall s given o block

  abbrev Ends : (s : ℕ) → Option Accept → ℕ → Type 0
  Ends s o block = IsEnd supply halting endings greatest auto blocks place saved rules fall s o block

  abbrev By : Option Accept → ℕ → Type 0
  By o block = EndsBy supply halting endings greatest auto blocks place saved rules fall o block

  abbrev Halts : (s : ℕ) → State → Type 0
  Halts s given = HaltsRight supply halting greatest end_rule auto s given

  -- the end by what a state accepts stands in its own block, or nothing is to be done before the rule's
  own_ends : (own : ℕ) (o : Option Accept) → StandsFrom blocks own (end_blocks auto rules fall o) → By o (end_block auto rules fall own o)
  own_ends own None h = refl
  own_ends own (Some accept) h = by accept.ops refl h
    where
      by : (ops : List Op) → accept.ops ≡ ops → StandsFrom blocks own (own_blocks auto rules fall (rules accept.rule) ops)
          → By (Some accept) (own_block own (rules accept.rule) ops)
      by [] e h = inr (refl, e)
      by (op ∷ ops) e h = inl (h.0 ∙ ap (λ l. Some (accept_code auto l (rules accept.rule))) (sym e))

  -- ---- where each unit leads

  -- the blocks of the classes of a state, and that of its end, stand where they should
  pub record WaysStand (s from : ℕ) (given : State) : Type 0 where
    pub number : saved_by saved s ≡ kept_number halting saved_list given.accept
    pub classes : StandsFrom blocks (classes_begin supply halting end_rule trees auto s from given.edges)
        (class_blocks halting auto saved_list place given (transition_classes given.edges))
    pub ends : halting.halts s ≡ true
        → StandsFrom blocks (own_end supply halting end_rule trees auto s from given.edges) (end_blocks auto rules fall given.accept)

  module _ (s from : ℕ) (given : State) (stand : WaysStand s from given) where
    abbrev way : Option ℕ → ℕ
    way class = state_way supply halting end_rule trees auto rules fall begin s from given class

    abbrev first : ℕ
    first = classes_begin supply halting end_rule trees auto s from given.edges

    ends_here : halting.halts s ≡ true → Ends s given.accept (state_end supply halting end_rule trees auto rules fall begin s from given)
    ends_here halts = (halts, own_ends (own_end supply halting end_rule trees auto s from given.edges) given.accept (stand.ends halts))

    class_target : (o : Option Edge) → (o ≡ None → halting.halts s ≡ true) → ((edge : Edge) → o ≡ Some edge → has_class (transition_classes given.edges) edge ≡ true)
        → Target s given o (way (edge_class (transition_classes given.edges) o))
    class_target None halts has = ends_here (halts refl)
    class_target (Some edge) halts has =
        let classes : List Edge = transition_classes given.edges in
        let found = class_found classes edge (has edge refl) in
        StandsFrom-get blocks first (class_place classes edge) (class_blocks halting auto saved_list place given (transition_classes given.edges))
        (edge_code halting auto given (kept_number halting saved_list given.accept) found.0 (place found.0.to)) stand.classes
        (slice_get-class_blocks halting auto saved_list place given classes (class_place classes edge) found.0 found.1)
        ∙ ap (λ c. Some c) (edge_code-same halting auto saved_list place (kept_number halting saved_list given.accept) given found.0 edge found.2)
        ∙ ap (λ n. Some (edge_code halting auto given n edge (place edge.to))) (sym stand.number)

    -- each unit of the input
    way_target : (unit : ℕ) → (edge_on given.edges unit ≡ None → halting.halts s ≡ true)
        → Target s given (edge_on given.edges unit) (state_to supply halting end_rule trees auto rules fall begin s from given unit)
    way_target unit halts = class_target (edge_on given.edges unit) halts (λ edge on. has_class-on given.edges unit edge on)

  -- ---- a state with an edge

  module _ (s from : ℕ) (given : State) (stand : WaysStand s from given) (first_edge : Edge) (edges : List Edge) (some : given.edges ≡ first_edge ∷ edges)
      (at : place s ≡ from) (entered : is_entered end_rule auto s ≡ true) (apart : AreApartFrom 0 given.edges)
      (within : All (λ (edge : Edge). edge.hi ≤ greatest) given.edges) (picks : PicksAs (top_of supply.eof greatest) supply.among (reader_split supply.eof greatest given.edges) (trees (state s)))
      (halts : Halts s given) where
    abbrev tree : TestTree ℕ
    tree = with_blocks (state_way supply halting end_rule trees auto rules fall begin s from given) (trees (state s))

    abbrev block_of : Option ℕ → ℕ
    block_of class = state_way supply halting end_rule trees auto rules fall begin s from given class

    abbrev to_class : ℕ → Option ℕ
    to_class unit = edge_class (transition_classes given.edges) (edge_on given.edges unit)

    plain_picks : supply.eof ≡ None → (unit : ℕ) → unit ≤ greatest → picked supply.among (trees (state s)) unit ≡ to_class unit
    plain_picks none unit le =
        picked-tree supply.among greatest given.edges (trees (state s)) unit
        (subst (λ o. PicksAs (top_of o greatest) supply.among (reader_split o greatest given.edges) (trees (state s))) none picks) apart le

    -- some unit goes to the first class
    first_class : supply.eof ≡ None → (class : Option ℕ) → trees (state s) ≡ leaf class → class ≡ Some 0
    first_class none class is =
        let parts : AreApartFrom 0 (first_edge ∷ edges) = subst (λ l. AreApartFrom 0 l) some apart in
        let tops : All (λ (edge : Edge). edge.hi ≤ greatest) (first_edge ∷ edges) =
        subst (λ l. All (λ (edge : Edge). edge.hi ≤ greatest) l) some within in
        let top : first_edge.hi ≤ greatest = All-get_or (λ (edge : Edge). edge.hi ≤ greatest) (first_edge ∷ edges) 0 first_edge (omega arith) tops in
        sym (ap (λ t. picked supply.among t first_edge.lo) is)
        ∙ plain_picks none first_edge.lo (omega (arith, parts.1, top))
        ∙ ap (λ l. edge_class (transition_classes l) (edge_on l first_edge.lo)) some
        ∙ ap (λ o. edge_class (transition_classes (first_edge ∷ edges)) o) (edge_on-here first_edge edges first_edge.lo (omega arith) parts.1)
        ∙ ap (λ n. Some n) (class_place-first first_edge edges)

    next_block : supply.eof ≡ None → supply.check s ≡ 0 → (block : ℕ) → tree ≡ leaf block → block ≡ from
    next_block none unchecked block is = by (trees (state s)) refl is
      where
        by : (given_tree : TestTree (Option ℕ)) → trees (state s) ≡ given_tree → with_blocks block_of given_tree ≡ leaf block → block ≡ from
        by (leaf class) e is =
            let same : block_of class ≡ block = cc in
            let zeroth = first_class none class e in
            let size : tests_size supply halting end_rule trees auto s ≡ 0 =
            ap (λ t. sized t (reader_size supply.eof (supply.check s) (trees (state s)))) entered
            ∙ ap (λ o. reader_size o (supply.check s) (trees (state s))) none
            ∙ ap (λ n. reader_size None n (trees (state s))) unchecked ∙ ap (λ t. reader_size None 0 t) e in
            let begins : classes_begin supply halting end_rule trees auto s from given.edges ≡ from + tests_size supply halting end_rule trees auto s =
            ap (λ l. classes_begin supply halting end_rule trees auto s from l) some in
            let here : classes_begin supply halting end_rule trees auto s from given.edges + 0 ≡ from = omega (arith, size, begins) in
            sym same ∙ ap block_of zeroth ∙ here
        by (test top class high) e is = absurd (cc)
        by (fork top low high) e is = absurd (cc)
        by (switch cases last) e is = absurd (cc)

    leads_right : LeadsRight supply halting endings greatest auto blocks place saved rules fall (state s) (supply.check s) from
        (turn_begin supply halting end_rule trees auto s from given.edges) tree (state_to supply halting end_rule trees auto rules fall begin s from given)
        (state_end supply halting end_rule trees auto rules fall begin s from given) (λ unit block. Target s given (edge_on given.edges unit) block)
        (Ends s given.accept) supply.eof
    leads_right = record {
      next = λ none unchecked block is. next_block none unchecked block is;
      all = λ none unit le.
          subst (λ block. Target s given (edge_on given.edges unit) block)
          (sym (picked-with_blocks block_of supply.among (trees (state s)) unit ∙ ap block_of (plain_picks none unit le)))
          (way_target s from given stand unit (λ bare. halts.bare unit le bare));
      others = λ eof is unit le other.
          subst (λ block. Target s given (edge_on given.edges unit) block)
          (sym (picked-with_blocks block_of supply.among (trees (state s)) unit
          ∙ ap block_of (picked-other supply.among eof greatest given.edges (trees (state s)) unit
          (subst (λ o. PicksAs (top_of o greatest) supply.among (reader_split o greatest given.edges) (trees (state s))) is picks) apart le other)))
          (way_target s from given stand unit (λ bare. halts.bare unit le bare));
      own = λ eof is.
          picked-with_blocks block_of supply.among (trees (state s)) eof
          ∙ ap block_of (picked-own supply.among eof greatest given.edges (trees (state s))
          (subst (λ o. PicksAs (top_of o greatest) supply.among (reader_split o greatest given.edges) (trees (state s))) is picks));
      itself = λ eof is le. way_target s from given stand eof (λ bare. halts.turned (subst (λ o. IsSome o) (sym is) refl) entered);
      ends = λ eof is. ends_here s from given stand (halts.turned (subst (λ o. IsSome o) (sym is) refl) entered);
    }

    state_reads : StandsFrom blocks from (tests_of supply halting end_rule trees auto rules fall begin saved_list place s from given)
        → StandsFrom blocks (turn_begin supply halting end_rule trees auto s from given.edges)
        (turn_of supply halting end_rule trees auto rules fall begin saved_list place s from given)
        → ServesState supply halting endings greatest auto blocks place saved rules fall s given
    state_reads tests turns =
        let row : StandsFrom blocks from (reader_blocks supply.stored (state s) supply.eof (supply.check s) from tree) =
        subst (λ t. StandsFrom blocks from (kept t (reader_blocks supply.stored (state s) supply.eof (supply.check s) from tree))) entered tests in
        let turn : StandsFrom blocks (turn_begin supply halting end_rule trees auto s from given.edges)
        (at_end_blocks supply (state s) from (turn_begin supply halting end_rule trees auto s from given.edges)
        (state_to supply halting end_rule trees auto rules fall begin s from given) (state_end supply halting end_rule trees auto rules fall begin s from given)) =
        subst (λ t. StandsFrom blocks (turn_begin supply halting end_rule trees auto s from given.edges)
        (kept t (at_end_blocks supply (state s) from (turn_begin supply halting end_rule trees auto s from given.edges)
        (state_to supply halting end_rule trees auto rules fall begin s from given) (state_end supply halting end_rule trees auto rules fall begin s from given))))
        entered turns in
        let reader = reader_serves supply halting endings greatest auto blocks place saved rules fall (state s) (supply.check s) from
        (turn_begin supply halting end_rule trees auto s from given.edges) tree (state_to supply halting end_rule trees auto rules fall begin s from given)
        (state_end supply halting end_rule trees auto rules fall begin s from given) (λ unit block. Target s given (edge_on given.edges unit) block)
        (Ends s given.accept) row turn leads_right in
        reads (λ none. let e = sym some ∙ none in cc)
        (subst (λ n. ServesReader supply halting endings greatest auto blocks place saved rules fall (state s) (supply.check s) n
        (λ unit block. Target s given (edge_on given.edges unit) block) (Ends s given.accept)) (sym at) reader)

  -- ---- a state without an edge

  lone_serves : (s from : ℕ) (given : State) → given.edges ≡ [] → halting.halts s ≡ true → (number : ℕ) → place s ≡ lone_place auto rules fall number from given.accept
      → StandsFrom blocks from (lone_blocks auto rules fall number given.accept)
      → ServesState supply halting endings greatest auto blocks place saved rules fall s given
  lone_serves s from given none halts zero at h = first given.accept refl h
    where
      first : (o : Option Accept) → given.accept ≡ o → StandsFrom blocks from (lone_code auto rules fall o ∷ [])
          → ServesState supply halting endings greatest auto blocks place saved rules fall s given
      first None e h = goes none fall (ap (λ n. slice_get blocks n) at ∙ h.0) (halts, subst (λ o. By o fall) (sym e) refl)
      first (Some accept) e h = ends none (halts, subst (λ o. By o (place s)) (sym e) (inl (ap (λ n. slice_get blocks n) at ∙ h.0)))
  lone_serves s from given none halts (suc number) at h =
      ends none (halts, subst (λ n. By given.accept n) (sym at) (own_ends from given.accept h))

  -- ---- the blocks of a state

  -- those of a state with an edge stand one behind the other
  module _ (s from : ℕ) (given : State) (edge : Edge) (edges : List Edge) (some : given.edges ≡ edge ∷ edges)
      (h : StandsFrom blocks from (blocks_by supply halting end_rule trees auto rules fall begin saved_list place s from given (edge ∷ edges))) where
    abbrev tests_row : List (List Stmt)
    tests_row = tests_of supply halting end_rule trees auto rules fall begin saved_list place s from given

    abbrev classes_row : List (List Stmt)
    classes_row = class_blocks halting auto saved_list place given (transition_classes (edge ∷ edges))

    abbrev turn_row : List (List Stmt)
    turn_row = turn_of supply halting end_rule trees auto rules fall begin saved_list place s from given

    abbrev end_row : List (List Stmt)
    end_row = end_blocks auto rules fall (halted_accept halting s given)

    behind_tests : StandsFrom blocks (from + tests_size supply halting end_rule trees auto s) (classes_row ++ (turn_row ++ end_row))
    behind_tests =
        let l = length-tests_of supply halting end_rule trees auto rules fall begin saved_list place s from given in
        subst (λ n. StandsFrom blocks (from + n) (classes_row ++ (turn_row ++ end_row))) l
        (StandsFrom-back blocks from tests_row (classes_row ++ (turn_row ++ end_row)) h)

    behind_classes : StandsFrom blocks (turn_begin supply halting end_rule trees auto s from (edge ∷ edges)) (turn_row ++ end_row)
    behind_classes =
        let l = length-class_blocks halting auto saved_list place given (transition_classes (edge ∷ edges)) in
        subst (λ n. StandsFrom blocks (from + tests_size supply halting end_rule trees auto s + n) (turn_row ++ end_row)) l
        (StandsFrom-back blocks (from + tests_size supply halting end_rule trees auto s) classes_row (turn_row ++ end_row) behind_tests)

    behind_turn : StandsFrom blocks (own_end supply halting end_rule trees auto s from (edge ∷ edges)) end_row
    behind_turn =
        let l = length-turn_of supply halting end_rule trees auto rules fall begin saved_list place s from given in
        subst (λ n. StandsFrom blocks (turn_begin supply halting end_rule trees auto s from (edge ∷ edges) + n) end_row) l
        (StandsFrom-back blocks (turn_begin supply halting end_rule trees auto s from (edge ∷ edges)) turn_row end_row behind_classes)

    pub ways_stand : saved_by saved s ≡ kept_number halting saved_list given.accept → WaysStand s from given
    ways_stand number = record {
      number = number;
      classes = subst (λ l. StandsFrom blocks (classes_begin supply halting end_rule trees auto s from l)
          (class_blocks halting auto saved_list place given (transition_classes l))) (sym some)
          (StandsFrom-front blocks (from + tests_size supply halting end_rule trees auto s) classes_row (turn_row ++ end_row) behind_tests);
      ends = λ halts.
          subst (λ l. StandsFrom blocks (own_end supply halting end_rule trees auto s from l) (end_blocks auto rules fall given.accept)) (sym some)
          (subst (λ t. StandsFrom blocks (own_end supply halting end_rule trees auto s from (edge ∷ edges))
          (end_blocks auto rules fall (if t then given.accept else None))) halts behind_turn);
    }

    pub tests_stand : StandsFrom blocks from tests_row
    tests_stand = StandsFrom-front blocks from tests_row (classes_row ++ (turn_row ++ end_row)) h

    pub turn_stands : StandsFrom blocks (turn_begin supply halting end_rule trees auto s from given.edges) turn_row
    turn_stands =
        subst (λ l. StandsFrom blocks (turn_begin supply halting end_rule trees auto s from l) turn_row) (sym some)
        (StandsFrom-front blocks (turn_begin supply halting end_rule trees auto s from (edge ∷ edges)) turn_row end_row behind_classes)

  module _ (s from : ℕ) (given : State) (number : saved_by saved s ≡ kept_number halting saved_list given.accept)
      (h : StandsFrom blocks from (blocks_by supply halting end_rule trees auto rules fall begin saved_list place s from given given.edges)) where
    -- the ways of a state stand, where a rule stands at the end of the input also without an edge
    pub ways : (rule : ℕ) → end_rule ≡ Some rule → WaysStand s from given
    ways rule apart = by given.edges refl h
      where
        by : (edges : List Edge) → given.edges ≡ edges
            → StandsFrom blocks from (blocks_by supply halting end_rule trees auto rules fall begin saved_list place s from given edges) → WaysStand s from given
        by [] none h = record {
          number = number;
          classes = subst (λ l. StandsFrom blocks (classes_begin supply halting end_rule trees auto s from l)
              (class_blocks halting auto saved_list place given (transition_classes l))) (sym none) tt;
          ends = λ halts. subst (λ l. StandsFrom blocks (own_end supply halting end_rule trees auto s from l) (end_blocks auto rules fall given.accept)) (sym none)
              (subst (λ o. StandsFrom blocks from (lone_blocks auto rules fall (lone_number o s) given.accept)) apart h);
        }
        by (edge ∷ edges) some h = ways_stand s from given edge edges some h number

    pub state_serves : place s ≡ place_by supply halting end_rule trees auto rules fall begin s from given.edges given.accept
        → is_entered end_rule auto s ≡ true → AreApartFrom 0 given.edges → All (λ (edge : Edge). edge.hi ≤ greatest) given.edges
        → PicksAs (top_of supply.eof greatest) supply.among (reader_split supply.eof greatest given.edges) (trees (state s)) → Halts s given
        → ServesState supply halting endings greatest auto blocks place saved rules fall s given
    state_serves at entered apart within picks halts = by given.edges refl at h
      where
        by : (edges : List Edge) → given.edges ≡ edges → place s ≡ place_by supply halting end_rule trees auto rules fall begin s from edges given.accept
            → StandsFrom blocks from (blocks_by supply halting end_rule trees auto rules fall begin saved_list place s from given edges)
            → ServesState supply halting endings greatest auto blocks place saved rules fall s given
        by [] none at h = lone_serves s from given none (halts.lone none) (lone_number end_rule s) at h
        by (edge ∷ edges) some at h =
            state_reads s from given (ways_stand s from given edge edges some h number) edge edges some
            (at ∙ ap (λ t. if t then from else begin) entered) entered apart within picks halts
            (tests_stand s from given edge edges some h) (turn_stands s from given edge edges some h)

  -- ---- the entry

  module _ (from : ℕ) (given : State) (stand : WaysStand 0 from given) (rule end eof : ℕ) (is : supply.eof ≡ Some eof)
      (apart : AreApartFrom 0 given.edges) (picks : PicksAs (top_of supply.eof greatest) supply.among (reader_split supply.eof greatest given.edges) (trees entry))
      (halts : Halts 0 given)
      (ends_there : slice_get blocks end ≡ Some (ending_code endings rule [])) where
    abbrev entry_tree : TestTree ℕ
    entry_tree = with_blocks (entry_way supply halting end_rule trees auto rules fall begin from given) (trees entry)

    abbrev entry_block : Option ℕ → ℕ
    entry_block class = entry_way supply halting end_rule trees auto rules fall begin from given class

    not_none : supply.eof ≡ None → ⊥
    not_none none = let e = sym none ∙ is in cc

    -- a class is not the unit at the end
    pub entry_to : (o : Option Edge) → ((edge : Edge) → o ≡ Some edge → has_class (transition_classes given.edges) edge ≡ true)
        → entry_block (edge_class (transition_classes given.edges) o)
        ≡ state_way supply halting end_rule trees auto rules fall begin 0 from given (edge_class (transition_classes given.edges) o)
    entry_to None has = refl
    entry_to (Some edge) has = by (nat_eq (class_place (transition_classes given.edges) edge) (length (transition_classes given.edges))) refl
      where
        by : (t : Bool) → nat_eq (class_place (transition_classes given.edges) edge) (length (transition_classes given.edges)) ≡ t
            → (if t then begin + entry_tests_size supply halting end_rule trees auto
            else state_way supply halting end_rule trees auto rules fall begin 0 from given (Some (class_place (transition_classes given.edges) edge)))
            ≡ state_way supply halting end_rule trees auto rules fall begin 0 from given (Some (class_place (transition_classes given.edges) edge))
        by true e =
            let found = class_found (transition_classes given.edges) edge (has edge refl) in
            let within = place_within (transition_classes given.edges) (class_place (transition_classes given.edges) edge) found.0 found.1 in
            let same : class_place (transition_classes given.edges) edge ≡ length (transition_classes given.edges) = grind (arith, e) in
            absurd (omega (arith, within, same))
        by false e = refl

    entry_own : entry_block (Some (length (transition_classes given.edges))) ≡ begin + entry_tests_size supply halting end_rule trees auto
    entry_own =
        ap (λ t. if t then begin + entry_tests_size supply halting end_rule trees auto
        else state_way supply halting end_rule trees auto rules fall begin 0 from given (Some (length (transition_classes given.edges))))
        (eq-eqb (length (transition_classes given.edges)) (length (transition_classes given.edges)) refl)

    abbrev IsEndOfRule : ℕ → Type 0
    IsEndOfRule block = slice_get blocks block ≡ Some (ending_code endings rule [])

    entry_leads : LeadsRight supply halting endings greatest auto blocks place saved rules fall entry 0 begin
        (begin + entry_tests_size supply halting end_rule trees auto) entry_tree (state_to supply halting end_rule trees auto rules fall begin 0 from given) end
        (λ unit block. Target 0 given (edge_on given.edges unit) block) IsEndOfRule supply.eof
    entry_leads = record {
      next = λ none unchecked block is. absurd (not_none none);
      all = λ none unit le. absurd (not_none none);
      others = λ unit_at is_at unit le other.
          subst (λ block. Target 0 given (edge_on given.edges unit) block)
          (sym (picked-with_blocks entry_block supply.among (trees entry) unit
          ∙ ap entry_block (picked-other supply.among unit_at greatest given.edges (trees entry) unit
          (subst (λ o. PicksAs (top_of o greatest) supply.among (reader_split o greatest given.edges) (trees entry)) is_at picks) apart le other)
          ∙ entry_to (edge_on given.edges unit) (λ edge on. has_class-on given.edges unit edge on)))
          (way_target 0 from given stand unit (λ bare. halts.bare unit le bare));
      own = λ unit_at is_at.
          picked-with_blocks entry_block supply.among (trees entry) unit_at
          ∙ ap entry_block (picked-own supply.among unit_at greatest given.edges (trees entry)
          (subst (λ o. PicksAs (top_of o greatest) supply.among (reader_split o greatest given.edges) (trees entry)) is_at picks)) ∙ entry_own;
      itself = λ unit_at is_at le. way_target 0 from given stand unit_at (λ bare. halts.bare unit_at le bare);
      ends = λ unit_at is_at. ends_there;
    }

    pub entry_serves : StandsFrom blocks begin (reader_blocks supply.stored entry supply.eof 0 begin entry_tree)
        → StandsFrom blocks (begin + entry_tests_size supply halting end_rule trees auto)
        (at_end_blocks supply entry begin (begin + entry_tests_size supply halting end_rule trees auto)
        (state_to supply halting end_rule trees auto rules fall begin 0 from given) end)
        → ServesReader supply halting endings greatest auto blocks place saved rules fall entry 0 begin
        (λ unit block. Target 0 given (edge_on given.edges unit) block) IsEndOfRule
    entry_serves row turn =
        reader_serves supply halting endings greatest auto blocks place saved rules fall entry 0 begin
        (begin + entry_tests_size supply halting end_rule trees auto) entry_tree (state_to supply halting end_rule trees auto rules fall begin 0 from given) end
        (λ unit block. Target 0 given (edge_on given.edges unit) block) IsEndOfRule row turn entry_leads
