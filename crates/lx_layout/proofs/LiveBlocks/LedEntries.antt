-- The blocks of an entry that stands apart: each of them is led to, and units lead from it as from state 0.
use Rattle.std.specs.Prelude.{◌≡◌, ℕ, ◌+◌, Bool, true, false, List, length, Option, Some, None, nat_eq, refl, if◌then◌else◌}
use Rattle.std.proofs.Common.{sym, ap, ◌∙◌, subst, arith, eq-eqb}
use Rattle.lx_auto.specs.Automaton.{AreApartFrom, edge_on}
use Rattle.lx_auto.specs.declared.automaton.Auto.{Auto}
use Rattle.lx_auto.specs.declared.automaton.Edge.{Edge}
use Rattle.lx_auto.specs.declared.automaton.State.{State}
use Rattle.lx_ccode.specs.declared.piece.Stmt.{Stmt}
use Rattle.lx_dispatch.specs.Dispatch.{top_of}
use Rattle.lx_dispatch.specs.TestTrees.{PicksAs, TestTree, leaf, picked}
use Rattle.lx_dispatch.specs.TransitionClasses.{class_place, edge_class, has_class, transition_classes}
use Rattle.lx_dispatch.specs.UnitApart.{reader_split}
use Rattle.lx_dispatch.proofs.ClassLists.{class_place-found, has_class-on}
use Rattle.lx_layout.specs.Halting.{Halting}
use Rattle.lx_layout.specs.Layout.{StandsFrom}
use Rattle.lx_layout.specs.SuppliedLayout.{at_end_blocks, entry_blocks, entry_tests_size, entry_way, reader_blocks, state_to, state_way, with_blocks}
use Rattle.lx_layout.specs.Supplies.{Reader, Supply, entry}
use Rattle.lx_layout.proofs.BlockLayouts.CodesInBlocks.{StandsFrom-back, StandsFrom-front}
use Rattle.lx_layout.proofs.LiveBlocks.LedReaders.{IsClosed, reader_led}
use Rattle.lx_layout.proofs.LiveBlocks.LedTrees.{AllFrom, all_from-parts}
use Rattle.lx_layout.proofs.LiveBlocks.LedWays.{AreLed, ways_led}
use Rattle.lx_layout.proofs.SuppliedLayouts.ApartUnits.{picked-own}
use Rattle.lx_layout.proofs.SuppliedLayouts.Readers.{length-reader_blocks, picked-with_blocks, reader_size-with_blocks}

module _ (R : ℕ → Type 0) (blocks : List (List Stmt)) (closed : IsClosed R blocks) (supply : Supply) (halting : Halting) (greatest : ℕ)
    (end_rule : Option ℕ) (trees : Reader → TestTree (Option ℕ)) (auto : Auto) (rules : ℕ → ℕ) (fall begin end from : ℕ) (given : State)
    (eof : ℕ) (is : supply.eof ≡ Some eof) (apart : AreApartFrom 0 given.edges)
    (picks : PicksAs (top_of supply.eof greatest) supply.among (reader_split supply.eof greatest given.edges) (trees entry)) where
  abbrev way : Option ℕ → ℕ
  way class = entry_way supply halting end_rule trees auto rules fall begin from given class

  abbrev tree : TestTree ℕ
  tree = with_blocks (entry_way supply halting end_rule trees auto rules fall begin from given) (trees entry)

  abbrev to : ℕ → ℕ
  to unit = state_to supply halting end_rule trees auto rules fall begin 0 from given unit

  abbrev turn : ℕ
  turn = begin + entry_tests_size supply halting end_rule trees auto

  -- a class is not the unit at the end
  way_to : (o : Option Edge) → ((edge : Edge) → o ≡ Some edge → has_class (transition_classes given.edges) edge ≡ true)
      → way (edge_class (transition_classes given.edges) o)
      ≡ state_way supply halting end_rule trees auto rules fall begin 0 from given (edge_class (transition_classes given.edges) o)
  way_to None has = refl
  way_to (Some edge) has = by (nat_eq (class_place (transition_classes given.edges) edge) (length (transition_classes given.edges))) refl
    where
      by : (t : Bool) → nat_eq (class_place (transition_classes given.edges) edge) (length (transition_classes given.edges)) ≡ t
          → (if t then turn else state_way supply halting end_rule trees auto rules fall begin 0 from given
          (Some (class_place (transition_classes given.edges) edge)))
          ≡ state_way supply halting end_rule trees auto rules fall begin 0 from given
          (Some (class_place (transition_classes given.edges) edge))
      by true e =
          let within = class_place-found (transition_classes given.edges) edge (has edge refl) in
          let same : class_place (transition_classes given.edges) edge ≡ length (transition_classes given.edges) = grind (arith, e) in
          absurd (omega (arith, within, same))
      by false e = refl

  way_own : way (Some (length (transition_classes given.edges))) ≡ turn
  way_own =
      ap (λ t. if t then turn
      else state_way supply halting end_rule trees auto rules fall begin 0 from given (Some (length (transition_classes given.edges))))
      (eq-eqb (length (transition_classes given.edges)) (length (transition_classes given.edges)) refl)

  own_way : (unit : ℕ) → supply.eof ≡ Some unit → picked supply.among tree unit ≡ turn
  own_way unit at =
      picked-with_blocks way supply.among (trees entry) unit
      ∙ ap way (picked-own supply.among unit greatest given.edges (trees entry)
      (subst (λ o. PicksAs (top_of o greatest) supply.among (reader_split o greatest given.edges) (trees entry)) at picks)) ∙ way_own

  -- a unit stands at the end
  no_next : supply.eof ≡ None → ◌≡◌ {A = ℕ} 0 0 → (block : ℕ) → tree ≡ leaf block → block ≡ begin
  no_next none unchecked block same = absurd (let e = sym none ∙ is in cc)

  pub record IsLedEntry : Type 0 where
    pub all : AllFrom R begin (entry_blocks supply halting end_rule trees auto rules fall begin end from given)
    pub ways : AreLed R supply halting end_rule trees auto rules fall begin greatest 0 from given
    pub end_led : R end

  pub entry_led : R begin → StandsFrom blocks begin (entry_blocks supply halting end_rule trees auto rules fall begin end from given)
      → IsLedEntry
  entry_led own stands =
      let size =
      length-reader_blocks supply.stored entry supply.eof 0 begin tree ∙ reader_size-with_blocks way supply.eof 0 (trees entry) in
      let led = reader_led R blocks closed supply entry 0 begin turn tree to end no_next own_way own
      (StandsFrom-front blocks begin (reader_blocks supply.stored entry supply.eof 0 begin tree)
      (at_end_blocks supply entry begin turn to end) stands)
      (subst (λ n. StandsFrom blocks (begin + n) (at_end_blocks supply entry begin turn to end)) size
      (StandsFrom-back blocks begin (reader_blocks supply.stored entry supply.eof 0 begin tree)
      (at_end_blocks supply entry begin turn to end) stands)) in
      record {
        all =
            all_from-parts R begin turn (reader_blocks supply.stored entry supply.eof 0 begin tree)
            (at_end_blocks supply entry begin turn to end)
            (ap (λ n. begin + n) size) led.tests led.turn;
        ways = ways_led R supply greatest given.edges (trees entry) way to apart picks
            (λ unit. way_to (edge_on given.edges unit) (λ edge on. has_class-on given.edges unit edge on)) led.ways
            (λ unit at. (led.ends unit at).0);
        end_led = (led.ends eof is).1;
      }
