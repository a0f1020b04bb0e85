-- Where the units of a state lead, if all ways of a reader's tests are of some sort of blocks: each leads to a block of the sort.
use Rattle.std.specs.Prelude.{◌≡◌, ◌≢◌, ℕ, suc, ◌+◌, ◌<◌, ◌≤◌, Bool, true, false, All, Contains, List, [], ◌∷◌, length, Option, Some, None, nat_eq, refl}
use Rattle.std.proofs.Common.{sym, ap, ◌∙◌, subst, arith, eqb-true}
use Rattle.std.proofs.lemmas.List.Elements.{recursion_from_All}
use Rattle.lx_auto.specs.Automaton.{AreApartFrom, edge_on}
use Rattle.lx_auto.specs.declared.automaton.Accept.{Accept}
use Rattle.lx_auto.specs.declared.automaton.Auto.{Auto}
use Rattle.lx_auto.specs.declared.automaton.Edge.{Edge}
use Rattle.lx_auto.specs.declared.automaton.State.{State}
use Rattle.lx_ccode.specs.declared.piece.Stmt.{Stmt}
use Rattle.lx_dispatch.specs.Dispatch.{top_of}
use Rattle.lx_dispatch.specs.TestTrees.{PicksAs, TestTree, picked}
use Rattle.lx_dispatch.specs.TransitionClasses.{class_place, edge_class, transition_classes}
use Rattle.lx_dispatch.specs.UnitApart.{reader_split}
use Rattle.lx_dispatch.proofs.ClassLists.{class_found, has_class-on, same_class-to}
use Rattle.lx_dispatch.proofs.Splits.{picked-tree}
use Rattle.lx_layout.specs.Fallback.{edge_code}
use Rattle.lx_layout.specs.Halting.{Halting, kept_number}
use Rattle.lx_layout.specs.Layout.{StandsFrom}
use Rattle.lx_layout.specs.SuppliedLayout.{class_blocks, classes_begin, state_to, state_way, with_blocks}
use Rattle.lx_layout.specs.Supplies.{Reader, Supply}
use Rattle.lx_layout.proofs.BlockLayouts.CodesInBlocks.{StandsFrom-get}
use Rattle.lx_layout.proofs.LiveBlocks.LedClasses.{each-contained, each_class, first_unit}
use Rattle.lx_layout.proofs.LiveBlocks.LedCodes.{leads-edge}
use Rattle.lx_layout.proofs.LiveBlocks.LedReaders.{IsClosed}
use Rattle.lx_layout.proofs.LiveBlocks.LedTrees.{AllFrom}
use Rattle.lx_layout.proofs.SuppliedLayouts.ApartUnits.{picked-other}
use Rattle.lx_layout.proofs.SuppliedLayouts.Lengths.{length-class_blocks}
use Rattle.lx_layout.proofs.SuppliedLayouts.OwnBlocks.{all-contained}
use Rattle.lx_layout.proofs.SuppliedLayouts.Readers.{picked-with_blocks}
use Rattle.lx_layout.proofs.SuppliedLayouts.StatesServe.{slice_get-class_blocks}

module _ (R : ℕ → Type 0) where
  -- blocks one by one
  pub all_from-each : (from : ℕ) (codes : List (List Stmt)) → ((k : ℕ) → k < length codes → R (from + k)) → AllFrom R from codes
  all_from-each from [] h = tt
  all_from-each from (code ∷ codes) h =
      let at : from + 0 ≡ from = omega arith in (
        subst R at (h 0 (omega arith)),
        all_from-each (suc from) codes
            (λ k lt. let e : from + suc k ≡ suc from + k = omega arith in subst R e (h (suc k) (omega (arith, lt)))),
      )

  -- Each unit goes by a way of the tests; the one at the end of the input, if one stands there, by the blocks that tell it apart.
  pub ways_led : (supply : Supply) (greatest : ℕ) (edges : List Edge) (tree : TestTree (Option ℕ)) (way : Option ℕ → ℕ) (to : ℕ → ℕ)
      → AreApartFrom 0 edges
      → PicksAs (top_of supply.eof greatest) supply.among (reader_split supply.eof greatest edges) tree
      → ((unit : ℕ) → way (edge_class (transition_classes edges) (edge_on edges unit)) ≡ to unit)
      → ((unit : ℕ) → R (picked supply.among (with_blocks way tree) unit)) → ((unit : ℕ) → supply.eof ≡ Some unit → R (to unit))
      → (unit : ℕ) → unit ≤ greatest → R (to unit)
  ways_led supply greatest edges tree way to apart picks same ways ended unit le = by supply.eof refl picks
    where
      by : (eof : Option ℕ) → supply.eof ≡ eof → PicksAs (top_of eof greatest) supply.among (reader_split eof greatest edges) tree
          → R (to unit)
      by None none picks =
          subst R
          (picked-with_blocks way supply.among tree unit ∙ ap way (picked-tree supply.among greatest edges tree unit picks apart le)
          ∙ same unit) (ways unit)
      by (Some eof) is picks = one (nat_eq unit eof) refl
        where
          one : (t : Bool) → nat_eq unit eof ≡ t → R (to unit)
          one true e = let own : unit ≡ eof = eqb-true unit eof e in ended unit (is ∙ ap (λ n. Some n) (sym own))
          one false e =
              let other : unit ≢ eof = grind (arith, e) in
              subst R
              (picked-with_blocks way supply.among tree unit ∙ ap way
              (picked-other supply.among eof greatest edges tree unit picks apart le other) ∙ same unit)
              (ways unit)

  -- ---- a state from which each unit leads to a block of the sort

  module _ (supply : Supply) (halting : Halting) (end_rule : Option ℕ) (trees : Reader → TestTree (Option ℕ)) (auto : Auto) (rules : ℕ → ℕ)
      (fall begin greatest : ℕ) (s from : ℕ) (given : State) where
    abbrev pub AreLed : Type 0
    AreLed = (unit : ℕ) → unit ≤ greatest → R (state_to supply halting end_rule trees auto rules fall begin s from given unit)

    abbrev first : ℕ
    first = classes_begin supply halting end_rule trees auto s from given.edges

    module _ (led : AreLed) (apart : AreApartFrom 0 given.edges) (within : All (λ (edge : Edge). edge.hi ≤ greatest) given.edges) where
      -- the class of each edge
      pub edge_led : (edge : Edge) → Contains given.edges edge → R (first + class_place (transition_classes given.edges) edge)
      edge_led edge has =
          let on = first_unit given.edges edge apart has in
          let low = on.0 in
          let top : edge.hi ≤ greatest =
          all-contained (λ (edge : Edge). edge.hi ≤ greatest) given.edges edge (recursion_from_All _ given.edges within) has in
          subst (λ o. R (state_way supply halting end_rule trees auto rules fall begin s from given
          (edge_class (transition_classes given.edges) o))) on.1
          (led edge.lo (omega (arith, low, top)))

      pub classes_led : (saved : List Accept) (place : ℕ → ℕ)
          → AllFrom R first (class_blocks halting auto saved place given (transition_classes given.edges))
      classes_led saved place =
          let l = length-class_blocks halting auto saved place given (transition_classes given.edges) in
          all_from-each first (class_blocks halting auto saved place given (transition_classes given.edges))
          (λ k lt. each_class (λ n. R (first + n)) given.edges
          (each-contained (λ edge. R (first + class_place (transition_classes given.edges) edge)) given.edges
          (λ edge has. edge_led edge has)) k
          (omega (arith, l, lt)))

      -- an edge leads to the place of its state
      pub target_led : (saved : List Accept) (place : ℕ → ℕ) (blocks : List (List Stmt)) → IsClosed R blocks
          → StandsFrom blocks first (class_blocks halting auto saved place given (transition_classes given.edges)) → (edge : Edge)
          → Contains given.edges edge → R (place edge.to)
      target_led saved place blocks closed stands edge has =
          let on = first_unit given.edges edge apart has in
          let found = class_found (transition_classes given.edges) edge (has_class-on given.edges edge.lo edge on.1) in
          let code : List Stmt = edge_code halting auto given (kept_number halting saved given.accept) found.0 (place found.0.to) in
          let here = StandsFrom-get blocks first (class_place (transition_classes given.edges) edge)
          (class_blocks halting auto saved place given (transition_classes given.edges))
          (edge_code halting auto given (kept_number halting saved given.accept) found.0 (place found.0.to)) stands
          (slice_get-class_blocks halting auto saved place given (transition_classes given.edges)
          (class_place (transition_classes given.edges) edge) found.0 found.1) in
          subst (λ n. R (place n)) (same_class-to found.0 edge found.2)
          (leads-edge R halting auto given (kept_number halting saved given.accept) found.0 (place found.0.to)
          (closed.goes (first + class_place (transition_classes given.edges) edge) code here (edge_led edge has)))

    -- where a unit has no edge the match ends
    pub bare_led : AreLed → (unit : ℕ) → unit ≤ greatest → edge_on given.edges unit ≡ None
        → R (state_way supply halting end_rule trees auto rules fall begin s from given None)
    bare_led led unit le none =
        subst (λ o. R (state_way supply halting end_rule trees auto rules fall begin s from given
        (edge_class (transition_classes given.edges) o))) none (led unit le)
