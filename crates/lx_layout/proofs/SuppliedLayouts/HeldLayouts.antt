-- What holds of the code of each sort holds of all blocks of a layout, where the marks of its states are right, or nothing is asked of blocks.
use Rattle.std.specs.Prelude.{◌≡◌, ◌⊎◌, ℕ, suc, ◌+◌, ◌<◌, ◌≤◌, true, List, [], ◌∷◌, length, Option, Some, None}
use Rattle.std.proofs.Common.{inl, inr, subst, arith}
use Rattle.std.specs.List.{AllByRecursion}
use Rattle.lx_auto.specs.Automaton.{IsAuto, state_of}
use Rattle.lx_auto.specs.declared.automaton.Accept.{Accept}
use Rattle.lx_auto.specs.declared.automaton.Auto.{Auto}
use Rattle.lx_auto.specs.declared.automaton.Edge.{Edge}
use Rattle.lx_auto.specs.declared.automaton.State.{State}
use Rattle.lx_auto.proofs.States.{state_formed}
use Rattle.lx_ccode.specs.declared.piece.Stmt.{Stmt}
use Rattle.lx_layout.specs.Endings.{Ending}
use Rattle.lx_layout.specs.Halting.{AreHalting, Halting, at_end, bare, here, is_entered, lone}
use Rattle.lx_layout.specs.SuppliedLayout.{EachReader, end_rule_block, end_rule_part, place_of, states_begin, supplied_layout}
use Rattle.lx_layout.specs.Supplies.{Reader, Supply, entry, state}
use Rattle.lx_dispatch.specs.TestTrees.{EachTest, HasWay, TestTree}
use Rattle.lx_dispatch.specs.TransitionClasses.{transition_classes}
use Rattle.lx_dispatch.specs.UnitApart.{reader_split}
use Rattle.lx_layout.proofs.BlockLayouts.FirstAccepts.{Chosen}
use Rattle.lx_dispatch.proofs.SplitTrees.{each-tests}
use Rattle.lx_layout.proofs.SuppliedLayouts.BareUnits.{bare_unit}
use Rattle.lx_layout.proofs.SuppliedLayouts.EachBlock.{EachFrom, HoldsOfSorts}
use Rattle.lx_layout.proofs.SuppliedLayouts.EachLayout.{CanEnd, EndsRight, IsWay}
use Rattle.lx_layout.proofs.SuppliedLayouts.Lengths.{length-layout}
use Rattle.lx_layout.proofs.SuppliedLayouts.Places.{begin_in, tree_at}
use Rattle.lx_layout.proofs.SuppliedLayouts.ReaderWays.{end_places, reader_way}
use Rattle.lx_layout.proofs.SuppliedLayouts.WholeLayout.{layout_each, places}
use Rattle.lx_layout.proofs.SuppliedLayouts.LeadingTrees.{LeadsWithin}

-- nothing is asked of accepts and of edges
pub accepts_any : (states : List State) → AllByRecursion (λ (state : State). Chosen (λ accept. Unit {0}) state.accept) states
accepts_any [] = tt
accepts_any (given ∷ states) = (by given.accept, accepts_any states)
  where
    by : (o : Option Accept) → Chosen (λ accept. Unit {0}) o
    by None = tt
    by (Some accept) = tt

pub edges_any : (states : List State) → AllByRecursion (λ (state : State). AllByRecursion (λ (edge : Edge). Unit {0}) state.edges) states
edges_any [] = tt
edges_any (given ∷ states) = (by given.edges, edges_any states)
  where
    by : (edges : List Edge) → AllByRecursion (λ (edge : Edge). Unit {0}) edges
    by [] = tt
    by (edge ∷ edges) = (tt, by edges)

pub each_from-all : (P : List Stmt → Type 0) (from : ℕ) (codes : List (List Stmt)) → EachFrom (λ at code. P code) from codes → AllByRecursion P codes
each_from-all P from [] h = tt
each_from-all P from (code ∷ codes) h = (h.0, each_from-all P (suc from) codes h.1)

-- ---- where a match can end

module _ (B : ℕ → Type 0) (supply : Supply) (halting : Halting) (end_rule : Option ℕ) (greatest : ℕ) (auto : Auto) where
  -- nothing is asked of blocks, or the marks of states are right
  abbrev pub IsMarked : Type 0
  IsMarked = ((block : ℕ) → B block) ⊎ AreHalting supply.eof end_rule greatest auto halting

  pub ends_right : IsMarked → EndsRight B supply halting end_rule auto
  ends_right (inl all) = record {
    lone = λ s lt none. inr all;
    turned = λ s lt some entered. inr all;
    falls = λ s lt none halts. inr all;
  }
  ends_right (inr marked) = record {
    lone = λ s lt none. inl ((marked.halts s lt).1 (lone none));
    turned = λ s lt some entered. inl ((marked.halts s lt).1 (at_end some entered));
    falls = λ s lt none halts. inl ((marked.falls s lt).1 (here s none ((marked.halts s lt).0 halts)));
  }

  bare_ends : IsAuto auto → IsMarked → (s : ℕ) → s < length auto.states
      → HasWay (reader_split supply.eof greatest (state_of auto.states s).edges).tests (reader_split supply.eof greatest (state_of auto.states s).edges).last None
      → CanEnd B halting s
  bare_ends formed (inl all) s lt has = inr all
  bare_ends formed (inr marked) s lt has =
      let unit = bare_unit supply.eof greatest (state_of auto.states s).edges (state_formed auto s formed).apart has in
      inl ((marked.halts s lt).1 (bare unit.0 unit.1 unit.2))

  -- ---- where tests lead

  module _ (formed : IsAuto auto) (marked : IsMarked) where
    tree_leads : (s : ℕ) → s < length auto.states → (tree : TestTree (Option ℕ)) → LeadsWithin (reader_split supply.eof greatest (state_of auto.states s).edges) tree
        → EachTest (λ asked. Unit {0}) (IsWay B halting s (end_places supply.eof + length (transition_classes (state_of auto.states s).edges))) tree
    tree_leads s lt tree within =
        let edges : List Edge = (state_of auto.states s).edges in
        each-tests (λ asked. Unit {0}) (λ asked. Unit {0})
        (HasWay (reader_split supply.eof greatest edges).tests (reader_split supply.eof greatest edges).last)
        (IsWay B halting s (end_places supply.eof + length (transition_classes edges)))
        (λ asked any. any) (λ class has. way class has) tree within
      where
        way : (class : Option ℕ)
            → HasWay (reader_split supply.eof greatest (state_of auto.states s).edges).tests (reader_split supply.eof greatest (state_of auto.states s).edges).last class
            → IsWay B halting s (end_places supply.eof + length (transition_classes (state_of auto.states s).edges)) class
        way None has = bare_ends formed marked s lt has
        way (Some place) has = reader_way supply.eof greatest (state_of auto.states s).edges (Some place) has

    module _ (trees : Reader → TestTree (Option ℕ)) (are : EachReader LeadsWithin supply.eof greatest trees auto) where
      pub state_leads : (s : ℕ) → s < length auto.states
          → EachTest (λ asked. Unit {0}) (IsWay B halting s (end_places supply.eof + length (transition_classes (state_of auto.states s).edges))) (trees (state s))
      state_leads s lt =
          let e : 0 + s ≡ s = omega arith in
          tree_leads s lt (trees (state s))
          (subst (λ k. LeadsWithin (reader_split supply.eof greatest (state_of auto.states s).edges) (trees (state k))) e
          (tree_at LeadsWithin supply.eof greatest trees 0 auto.states are.states s lt))

      pub entry_leads : EachTest (λ asked. Unit {0}) (IsWay B halting 0 (end_places supply.eof + length (transition_classes (state_of auto.states 0).edges))) (trees entry)
      entry_leads = tree_leads 0 formed.start (trees entry) are.entry

-- ---- the whole

-- the property holds of the code of each sort, and jumps go to blocks of the layout
module _ (P : ℕ → List Stmt → Type 0) (B : ℕ → Type 0) (R : Reader → ℕ → Type 0) (C : ℕ → Type 0) (E : State → Edge → Type 0) (A : Accept → Type 0) (D : ℕ → Type 0)
    (supply : Supply) (halting : Halting) (endings : ℕ → Ending) (auto : Auto) (holds : HoldsOfSorts P B (λ asked. Unit {0}) R C E A D supply halting endings auto)
    (end_rule : Option ℕ) (greatest : ℕ) (trees : Reader → TestTree (Option ℕ)) (begin : ℕ)
    (range : (block : ℕ) → begin ≤ block → block < begin + length (supplied_layout supply halting endings end_rule trees auto begin) → B block)
    (marked : IsMarked B supply halting end_rule greatest auto) (formed : IsAuto auto) (are : EachReader LeadsWithin supply.eof greatest trees auto) where
  module _ (asked : (s : ℕ) → C (supply.check s))
      (accepts : AllByRecursion (λ (state : State). Chosen A state.accept) auto.states)
      (edges : AllByRecursion (λ (state : State). AllByRecursion (E state) state.edges) auto.states)
      (readers : (s : ℕ) → s < length auto.states → is_entered end_rule auto s ≡ true → ((state_of auto.states s).edges ≡ [] → ⊥)
      → R (state s) (begin_in supply halting end_rule trees auto 0 (states_begin supply halting end_rule trees auto begin) auto.states s))
      (entry_reads : (rule : ℕ) → end_rule ≡ Some rule → R entry begin) (ends_by : (rule : ℕ) → end_rule ≡ Some rule → D rule) where
    abbrev end : ℕ
    end = begin + length (supplied_layout supply halting endings end_rule trees auto begin)

    room : end_rule_block supply halting end_rule trees auto begin + length (end_rule_part endings end_rule) ≤ end
    room = let l = length-layout supply halting endings end_rule trees auto begin in omega (arith, l)

    pub layout_holds : EachFrom P begin (supplied_layout supply halting endings end_rule trees auto begin)
    layout_holds =
        layout_each P B (λ asked. Unit {0}) R C E A D supply halting endings auto holds end_rule trees begin end range asked room formed accepts edges
        (ends_right B supply halting end_rule greatest auto marked)
        (state_leads B supply halting end_rule greatest auto formed marked trees are)
        (entry_leads B supply halting end_rule greatest auto formed marked trees are) readers entry_reads ends_by

    -- states stand at blocks of the sort
    pub places_hold : (s : ℕ) → s < length auto.states → B (place_of supply halting end_rule trees auto begin s)
    places_hold s lt =
        places P B (λ asked. Unit {0}) R C E A D supply halting endings auto holds end_rule trees begin end range asked room formed accepts edges
        (ends_right B supply halting end_rule greatest auto marked)
        (state_leads B supply halting end_rule greatest auto formed marked trees are)
        (entry_leads B supply halting end_rule greatest auto formed marked trees are) readers entry_reads ends_by s lt

-- the same where nothing is asked but of what reads and of its checks
module _ (P : ℕ → List Stmt → Type 0) (R : Reader → ℕ → Type 0) (C : ℕ → Type 0) (supply : Supply) (halting : Halting) (endings : ℕ → Ending) (auto : Auto)
    (holds : HoldsOfSorts P (λ block. Unit {0}) (λ unit. Unit {0}) R C (λ given edge. Unit {0}) (λ accept. Unit {0}) (λ rule. Unit {0}) supply halting endings auto)
    (end_rule : Option ℕ) (greatest : ℕ) (trees : Reader → TestTree (Option ℕ)) (begin : ℕ) (formed : IsAuto auto)
    (are : EachReader LeadsWithin supply.eof greatest trees auto) where
  pub layout_any : ((s : ℕ) → C (supply.check s))
      → ((s : ℕ) → s < length auto.states → is_entered end_rule auto s ≡ true → ((state_of auto.states s).edges ≡ [] → ⊥)
      → R (state s) (begin_in supply halting end_rule trees auto 0 (states_begin supply halting end_rule trees auto begin) auto.states s))
      → ((rule : ℕ) → end_rule ≡ Some rule → R entry begin)
      → EachFrom P begin (supplied_layout supply halting endings end_rule trees auto begin)
  layout_any asked readers entry_reads =
      layout_holds P (λ block. Unit {0}) R C (λ given edge. Unit {0}) (λ accept. Unit {0}) (λ rule. Unit {0}) supply halting endings auto holds
      end_rule greatest trees begin (λ block low lt. tt) (inl (λ block. tt)) formed are asked (accepts_any auto.states) (edges_any auto.states)
      readers entry_reads (λ rule is. tt)
