-- The blocks of a state with an edge: each of them is led to, if the block for its tests is, or if its units lead on in another way.
use Rattle.std.specs.Prelude.{◌≡◌, ℕ, ◌+◌, ◌≤◌, Bool, true, false, All, IsSome, List, ◌∷◌, ◌++◌, Option, Some, None, refl, if◌then◌else◌}
use Rattle.std.proofs.Common.{sym, ap, ◌∙◌, subst, arith, true≢false}
use Rattle.std.proofs.lemmas.List.Elements.{All-get_or}
use Rattle.lx_auto.specs.Automaton.{AreApartFrom, edge_on}
use Rattle.lx_auto.specs.declared.automaton.Accept.{Accept}
use Rattle.lx_auto.specs.declared.automaton.Auto.{Auto}
use Rattle.lx_auto.specs.declared.automaton.Edge.{Edge}
use Rattle.lx_auto.specs.declared.automaton.State.{State}
use Rattle.lx_auto.proofs.Edges.{edge_on-here}
use Rattle.lx_ccode.specs.declared.piece.Stmt.{Stmt}
use Rattle.lx_dispatch.specs.Dispatch.{top_of}
use Rattle.lx_dispatch.specs.TestTrees.{PicksAs, TestTree, fork, leaf, picked, switch, test}
use Rattle.lx_dispatch.specs.TransitionClasses.{edge_class, transition_classes}
use Rattle.lx_dispatch.specs.UnitApart.{reader_split}
use Rattle.lx_dispatch.proofs.ClassLists.{class_place-first}
use Rattle.lx_dispatch.proofs.Splits.{picked-tree}
use Rattle.lx_layout.specs.Endings.{Ending}
use Rattle.lx_layout.specs.Halting.{Halting, halted_accept, is_entered}
use Rattle.lx_layout.specs.Layout.{StandsFrom, end_blocks}
use Rattle.lx_layout.specs.SuppliedLayout.{at_end_blocks, blocks_by, class_blocks, classes_begin, kept, own_end, reader_blocks, reader_size, sized, state_end, state_to, state_way, tests_of, tests_size, turn_begin, turn_of, with_blocks}
use Rattle.lx_layout.specs.Supplies.{Reader, Supply, state}
use Rattle.lx_layout.proofs.LiveBlocks.LedEnds.{IsEndLed, own_led}
use Rattle.lx_layout.proofs.LiveBlocks.LedReaders.{IsClosed, reader_led}
use Rattle.lx_layout.proofs.LiveBlocks.LedTrees.{AllFrom, all_from-parts}
use Rattle.lx_layout.proofs.LiveBlocks.LedWays.{AreLed, classes_led, ways_led}
use Rattle.lx_layout.proofs.SuppliedLayouts.ApartUnits.{picked-own}
use Rattle.lx_layout.proofs.SuppliedLayouts.Lengths.{length-class_blocks, length-tests_of, length-turn_of}
use Rattle.lx_layout.proofs.SuppliedLayouts.Readers.{picked-with_blocks}
use Rattle.lx_layout.proofs.SuppliedLayouts.StatesServe.{WaysStand, tests_stand, turn_stands}

module _ (R : ℕ → Type 0) (blocks : List (List Stmt)) (closed : IsClosed R blocks) (supply : Supply) (halting : Halting)
    (endings : ℕ → Ending) (greatest : ℕ) (end_rule : Option ℕ) (trees : Reader → TestTree (Option ℕ)) (auto : Auto) (rules : ℕ → ℕ)
    (fall begin : ℕ) (saved : Option (ℕ → ℕ))
    (saved_list : List Accept) (place : ℕ → ℕ) (s from : ℕ) (given : State) (first_edge : Edge) (edges : List Edge)
    (some : given.edges ≡ first_edge ∷ edges) (apart : AreApartFrom 0 given.edges)
    (within : All (λ (edge : Edge). edge.hi ≤ greatest) given.edges)
    (stands : StandsFrom blocks from
    (blocks_by supply halting end_rule trees auto rules fall begin saved_list place s from given (first_edge ∷ edges))) where
  abbrev way : Option ℕ → ℕ
  way class = state_way supply halting end_rule trees auto rules fall begin s from given class

  abbrev tree : TestTree ℕ
  tree = with_blocks (state_way supply halting end_rule trees auto rules fall begin s from given) (trees (state s))

  abbrev to : ℕ → ℕ
  to unit = state_to supply halting end_rule trees auto rules fall begin s from given unit

  abbrev end : ℕ
  end = state_end supply halting end_rule trees auto rules fall begin s from given

  abbrev turn : ℕ
  turn = turn_begin supply halting end_rule trees auto s from given.edges

  -- its tests, the blocks for the end of the input, and where units and the end of the input lead
  pub record IsLedState : Type 0 where
    pub tests : AllFrom R from (tests_of supply halting end_rule trees auto rules fall begin saved_list place s from given)
    pub turn : AllFrom R (turn_begin supply halting end_rule trees auto s from given.edges)
        (turn_of supply halting end_rule trees auto rules fall begin saved_list place s from given)
    pub ways : AreLed R supply halting end_rule trees auto rules fall begin greatest s from given
    pub turned : IsSome supply.eof → is_entered end_rule auto s ≡ true
        → R (state_end supply halting end_rule trees auto rules fall begin s from given)

  -- where no match comes to its tests
  pub never_led : is_entered end_rule auto s ≡ false → AreLed R supply halting end_rule trees auto rules fall begin greatest s from given
      → IsLedState
  never_led never ways = record {
    tests =
        subst (λ t. AllFrom R from (kept t (reader_blocks supply.stored (state s) supply.eof (supply.check s) from tree))) (sym never) tt;
    turn = subst (λ t. AllFrom R turn (kept t (at_end_blocks supply (state s) from turn to end))) (sym never) tt;
    ways = ways;
    turned = λ some entered. absurd (true≢false (sym entered ∙ never));
  }

  module _ (entered : is_entered end_rule auto s ≡ true)
      (picks : PicksAs (top_of supply.eof greatest) supply.among (reader_split supply.eof greatest given.edges) (trees (state s))) where
    plain_picks : supply.eof ≡ None → (unit : ℕ) → unit ≤ greatest
        → picked supply.among (trees (state s)) unit ≡ edge_class (transition_classes given.edges) (edge_on given.edges unit)
    plain_picks none unit le =
        picked-tree supply.among greatest given.edges (trees (state s)) unit
        (subst (λ o. PicksAs (top_of o greatest) supply.among (reader_split o greatest given.edges) (trees (state s))) none picks) apart le

    -- some unit goes to the first class
    first_class : supply.eof ≡ None → (class : Option ℕ) → trees (state s) ≡ leaf class → class ≡ Some 0
    first_class none class is =
        let parts : AreApartFrom 0 (first_edge ∷ edges) = subst (λ l. AreApartFrom 0 l) some apart in
        let tops : All (λ (edge : Edge). edge.hi ≤ greatest) (first_edge ∷ edges) =
        subst (λ l. All (λ (edge : Edge). edge.hi ≤ greatest) l) some within in
        let top : first_edge.hi ≤ greatest =
        All-get_or (λ (edge : Edge). edge.hi ≤ greatest) (first_edge ∷ edges) 0 first_edge (omega arith) tops in
        sym (ap (λ t. picked supply.among t first_edge.lo) is)
        ∙ plain_picks none first_edge.lo (omega (arith, parts.1, top))
        ∙ ap (λ l. edge_class (transition_classes l) (edge_on l first_edge.lo)) some
        ∙ ap (λ o. edge_class (transition_classes (first_edge ∷ edges)) o)
        (edge_on-here first_edge edges first_edge.lo (omega arith) parts.1)
        ∙ ap (λ n. Some n) (class_place-first first_edge edges)

    -- so a tree that is no test, with no check before it, leads to the block of the first class, which comes next
    next_block : supply.eof ≡ None → supply.check s ≡ 0 → (block : ℕ)
        → with_blocks (state_way supply halting end_rule trees auto rules fall begin s from given) (trees (state s)) ≡ leaf block
        → block ≡ from
    next_block none unchecked block is = by (trees (state s)) refl is
      where
        by : (given_tree : TestTree (Option ℕ)) → trees (state s) ≡ given_tree
            → with_blocks (state_way supply halting end_rule trees auto rules fall begin s from given) given_tree ≡ leaf block
            → block ≡ from
        by (leaf class) e is =
            let same : way class ≡ block = cc in
            let zeroth = first_class none class e in
            let size : tests_size supply halting end_rule trees auto s ≡ 0 =
            ap (λ t. sized t (reader_size supply.eof (supply.check s) (trees (state s)))) entered
            ∙ ap (λ o. reader_size o (supply.check s) (trees (state s))) none
            ∙ ap (λ n. reader_size None n (trees (state s))) unchecked ∙ ap (λ t. reader_size None 0 t) e in
            let begins : classes_begin supply halting end_rule trees auto s from given.edges
            ≡ from + tests_size supply halting end_rule trees auto s =
            ap (λ l. classes_begin supply halting end_rule trees auto s from l) some in
            let here : classes_begin supply halting end_rule trees auto s from given.edges + 0 ≡ from = omega (arith, size, begins) in
            sym same ∙ ap way zeroth ∙ here
        by (test top class high) e is = absurd (cc)
        by (fork top low high) e is = absurd (cc)
        by (switch cases last) e is = absurd (cc)

    own_way : (unit : ℕ) → supply.eof ≡ Some unit → picked supply.among tree unit ≡ turn
    own_way unit is =
        picked-with_blocks way supply.among (trees (state s)) unit
        ∙ ap way (picked-own supply.among unit greatest given.edges (trees (state s))
        (subst (λ o. PicksAs (top_of o greatest) supply.among (reader_split o greatest given.edges) (trees (state s))) is picks))

    -- where a match comes to them
    pub entered_led : R from → IsLedState
    entered_led own =
        let row : StandsFrom blocks from (reader_blocks supply.stored (state s) supply.eof (supply.check s) from tree) =
        subst (λ t. StandsFrom blocks from (kept t (reader_blocks supply.stored (state s) supply.eof (supply.check s) from tree))) entered
        (tests_stand supply halting endings greatest end_rule trees auto rules fall begin saved saved_list place blocks s from given
        first_edge edges some stands) in
        let turns : StandsFrom blocks turn (at_end_blocks supply (state s) from turn to end) =
        subst (λ t. StandsFrom blocks turn (kept t (at_end_blocks supply (state s) from turn to end))) entered
        (turn_stands supply halting endings greatest end_rule trees auto rules fall begin saved saved_list place blocks s from given
        first_edge edges some stands) in
        let led = reader_led R blocks closed supply (state s) (supply.check s) from turn tree to end next_block own_way own row turns in
        record {
          tests =
              subst (λ t. AllFrom R from (kept t (reader_blocks supply.stored (state s) supply.eof (supply.check s) from tree)))
              (sym entered) led.tests;
          turn = subst (λ t. AllFrom R turn (kept t (at_end_blocks supply (state s) from turn to end))) (sym entered) led.turn;
          ways =
              ways_led R supply greatest given.edges (trees (state s)) way to apart picks (λ unit. refl) led.ways
              (λ unit is. (led.ends unit is).0);
          turned = λ there entered. by supply.eof refl there (λ unit is. (led.ends unit is).1);
        }
      where
        by : (eof : Option ℕ) → supply.eof ≡ eof → IsSome eof → ((unit : ℕ) → supply.eof ≡ Some unit → R end) → R end
        by None is there led = absurd (cc)
        by (Some unit) is there led = led unit is

  -- ---- all of its blocks

  module _
      (stand : WaysStand supply halting endings greatest end_rule trees auto rules fall begin saved saved_list place blocks s from given)
      (led : IsLedState)
      (ends : halting.halts s ≡ true → R (state_end supply halting end_rule trees auto rules fall begin s from given)) where
    abbrev own : ℕ
    own = own_end supply halting end_rule trees auto s from given.edges

    pub end_led : halting.halts s ≡ true
        → AllFrom R (own_end supply halting end_rule trees auto s from given.edges) (end_blocks auto rules fall given.accept)
        × IsEndLed R blocks closed auto rules fall given.accept
    end_led halts = own_led R blocks closed auto rules fall own given.accept (ends halts) (stand.ends halts)

    end_row : AllFrom R own (end_blocks auto rules fall (halted_accept halting s given))
    end_row = by (halting.halts s) refl
      where
        by : (t : Bool) → halting.halts s ≡ t → AllFrom R own (end_blocks auto rules fall (if t then given.accept else None))
        by false is = tt
        by true is = (end_led is).0

    pub blocks_led : AllFrom R from
        (blocks_by supply halting end_rule trees auto rules fall begin saved_list place s from given (first_edge ∷ edges))
    blocks_led =
        let tests_row : List (List Stmt) = tests_of supply halting end_rule trees auto rules fall begin saved_list place s from given in
        let classes_row : List (List Stmt) = class_blocks halting auto saved_list place given (transition_classes (first_edge ∷ edges)) in
        let turn_row : List (List Stmt) = turn_of supply halting end_rule trees auto rules fall begin saved_list place s from given in
        let ends_row : List (List Stmt) = end_blocks auto rules fall (halted_accept halting s given) in
        let tests_long = length-tests_of supply halting end_rule trees auto rules fall begin saved_list place s from given in
        let classes_long = length-class_blocks halting auto saved_list place given (transition_classes (first_edge ∷ edges)) in
        let turn_long = length-turn_of supply halting end_rule trees auto rules fall begin saved_list place s from given in
        let classes : AllFrom R (classes_begin supply halting end_rule trees auto s from (first_edge ∷ edges)) classes_row =
        subst (λ l. AllFrom R (classes_begin supply halting end_rule trees auto s from l)
        (class_blocks halting auto saved_list place given (transition_classes l))) some
        (classes_led R supply halting end_rule trees auto rules fall begin greatest s from given led.ways apart within saved_list place) in
        let turned : AllFrom R (turn_begin supply halting end_rule trees auto s from (first_edge ∷ edges)) turn_row =
        subst (λ l. AllFrom R (turn_begin supply halting end_rule trees auto s from l) turn_row) some led.turn in
        let ended : AllFrom R (own_end supply halting end_rule trees auto s from (first_edge ∷ edges)) ends_row =
        subst (λ l. AllFrom R (own_end supply halting end_rule trees auto s from l) ends_row) some end_row in
        all_from-parts R from (classes_begin supply halting end_rule trees auto s from (first_edge ∷ edges)) tests_row
        (classes_row ++ (turn_row ++ ends_row))
        (ap (λ n. from + n) tests_long) led.tests
        (all_from-parts R (classes_begin supply halting end_rule trees auto s from (first_edge ∷ edges))
        (turn_begin supply halting end_rule trees auto s from (first_edge ∷ edges)) classes_row (turn_row ++ ends_row)
        (ap (λ n. classes_begin supply halting end_rule trees auto s from (first_edge ∷ edges) + n) classes_long) classes
        (all_from-parts R (turn_begin supply halting end_rule trees auto s from (first_edge ∷ edges))
        (own_end supply halting end_rule trees auto s from (first_edge ∷ edges)) turn_row ends_row
        (ap (λ n. turn_begin supply halting end_rule trees auto s from (first_edge ∷ edges) + n) turn_long) turned ended))
