-- A piece whose blocks are a layout with a supply of units carries the automaton.
use Rattle.std.specs.Prelude.{◌≡◌, ◌⊎◌, ℕ, ◌+◌, ◌≤◌, Bool, true, false, List, Option, Some, None, All, IsSome, refl, slice_get}
use Rattle.std.proofs.Common.{inl, inr, sym, ap, subst, true≢false}
use Rattle.std.specs.List.{AllByRecursion}
use Rattle.lx_auto.specs.Automaton.{IsAuto}
use Rattle.lx_auto.specs.declared.automaton.Auto.{Auto}
use Rattle.lx_auto.specs.declared.automaton.Edge.{Edge}
use Rattle.lx_auto.specs.declared.automaton.State.{State}
use Rattle.lx_ccode.specs.Scanners.{IsOfScanner, StandsIn}
use Rattle.lx_ccode.specs.States.{states_from}
use Rattle.lx_ccode.specs.Statements.{code_of}
use Rattle.lx_ccode.specs.Traces.{is_peek}
use Rattle.lx_ccode.specs.Validity.{AreOnce}
use Rattle.lx_ccode.specs.declared.piece.Piece.{Piece}
use Rattle.lx_ccode.specs.declared.piece.Stmt.{Stmt}
use Rattle.lx_ccode.specs.declared.piece.Stmt.TheVariants.{Peek}
use Rattle.lx_layout.specs.Carries.{Carries, HasEdge, IsUnitOf, NamesItsOwn}
use Rattle.lx_layout.specs.Endings.{Ending}
use Rattle.lx_auto.specs.Shapes.{AreAgreed}
use Rattle.lx_layout.specs.Layout.{StandsFrom}
use Rattle.lx_layout.specs.SuppliedLayout.{EachReader, entry_by, entry_of, fall_block, number_in, place_of, rule_block, supplied_layout}
use Rattle.lx_layout.specs.Halting.{AreHalting, Halting}
use Rattle.lx_layout.specs.Supplies.{Reader, Supply}
use Rattle.lx_dispatch.specs.Dispatch.{top_of}
use Rattle.lx_dispatch.specs.TestTrees.{PicksAs, TestTree}
use Rattle.lx_layout.proofs.BlockLayouts.Questions.{FitsTable}
use Rattle.lx_layout.proofs.Carrying.SuppliedCarried.{supplied_carries_at}
use Rattle.lx_layout.proofs.SuppliedLayouts.ApartPlaces.{entered_place, places_apart}
use Rattle.lx_layout.proofs.SuppliedLayouts.EachBlock.{EachFrom}
use Rattle.lx_layout.proofs.SuppliedLayouts.HeldLayouts.{layout_any}
use Rattle.lx_layout.proofs.SuppliedLayouts.LayoutServes.{layout_entered, layout_serves}
use Rattle.lx_layout.proofs.SuppliedLayouts.OwnBlocks.{all-contained, all-get, each_from-get, none-contained, scanner_code}
use Rattle.lx_layout.proofs.SuppliedLayouts.PeekedBlocks.{ReadsAtHome, peeks, peeks-sorts}
use Rattle.lx_layout.proofs.SuppliedLayouts.LeadingTrees.{LeadsWithin}

module _ (piece : Piece) (endings : ℕ → Ending) (end_rule : Option ℕ) (greatest : ℕ) (auto : Auto) (supply : Supply) (halting : Halting)
    (trees : Reader → TestTree (Option ℕ)) (begin : ℕ) (formed : IsAuto auto)
    (within : All (λ (state : State). All (λ (edge : Edge). edge.hi ≤ greatest) state.edges) auto.states)
    (agreed : AreAgreed auto.states) (some : IsSome end_rule → IsSome supply.eof)
    (picked : EachReader (PicksAs (top_of supply.eof greatest) supply.among) supply.eof greatest trees auto)
    (are : EachReader LeadsWithin supply.eof greatest trees auto) (marked : AreHalting supply.eof end_rule greatest auto halting)
    (stands : StandsFrom (code_of piece.blocks) begin (supplied_layout supply halting endings end_rule trees auto begin))
    (stored : (supply.stored ≡ None) ⊎ AreOnce (states_from 0 piece.blocks)) where
  abbrev place : ℕ → ℕ
  place = place_of supply halting end_rule trees auto begin

  abbrev first : ℕ
  first = entry_of supply halting end_rule trees auto begin

  abbrev codes : List (List Stmt)
  codes = supplied_layout supply halting endings end_rule trees auto begin

  -- where a unit may be read
  abbrev Home : ℕ → Type 0
  Home block = (block ≡ first) ⊎ ((number : ℕ) × HasEdge auto number × (place number ≡ block))

  homes : EachFrom (ReadsAtHome Home) begin (supplied_layout supply halting endings end_rule trees auto begin)
  homes =
      layout_any (ReadsAtHome Home) (λ reader at. Home at) (λ units. Unit {0}) supply halting endings auto (peeks-sorts Home supply halting endings auto)
      end_rule greatest trees begin formed are (λ s. tt)
      (λ s lt entered edge. inr (s, edge, entered_place supply halting end_rule trees auto begin some s lt edge entered))
      (λ rule is. inl (sym (ap (λ o. entry_by supply halting end_rule trees auto begin o) is)))

  -- a statement of the scanner is one of the layout
  found : (block : ℕ) (statement : Stmt) → IsOfScanner piece.blocks first block → (there : StandsIn piece.blocks block statement)
      → (k : ℕ) × (begin + k ≡ block) × (slice_get (supplied_layout supply halting endings end_rule trees auto begin) k ≡ Some there.0)
  found block statement of there =
      scanner_code piece.blocks supply halting endings end_rule greatest trees auto begin formed are marked stands stored block of there.0 there.1

  home : (block : ℕ) → IsOfScanner piece.blocks first block → StandsIn piece.blocks block Peek → Home block
  home block of there = by (peeks there.0) refl
    where
      by : (t : Bool) → peeks there.0 ≡ t → Home block
      by true reads =
          let at = found block Peek of there in
          subst (λ k. Home k) at.1 (each_from-get (ReadsAtHome Home) begin codes at.0 there.0 homes at.2 reads)
      by false none = absurd (true≢false (none-contained is_peek there.0 Peek none there.2))

  -- with the places of the layout
  pub layout_carries_at : piece.eof ≡ supply.eof → FitsTable supply.among piece → ((unit : ℕ) → IsUnitOf piece unit → unit ≤ greatest)
      → AllByRecursion (λ code. AllByRecursion (NamesItsOwn auto) code) (supplied_layout supply halting endings end_rule trees auto begin)
      → (carries : Carries piece (entry_of supply halting end_rule trees auto begin) endings auto)
      × (carries.place ≡ place_of supply halting end_rule trees auto begin)
  layout_carries_at eof fits units own =
      supplied_carries_at supply halting endings greatest auto piece (place_of supply halting end_rule trees auto begin) (number_in halting auto.states)
      (rule_block supply halting end_rule trees auto begin) (fall_block supply halting end_rule trees auto begin) end_rule first
      (layout_serves supply halting endings end_rule greatest trees auto begin (code_of piece.blocks) stands formed within picked marked agreed)
      (layout_entered supply halting endings end_rule greatest trees auto begin (code_of piece.blocks) stands formed within picked marked some) formed fits units
      (λ s t. places_apart supply halting end_rule trees auto begin some s t) (λ block of peek. home block of peek)
      (λ statement made.
      let at = found made.0 statement made.1 made.2 in
      let there = made.2 in
      all-contained (NamesItsOwn auto) there.0 statement
      (all-get (λ code. AllByRecursion (NamesItsOwn auto) code) codes at.0 there.0 own at.2) there.2)

  pub layout_carries : piece.eof ≡ supply.eof → FitsTable supply.among piece → ((unit : ℕ) → IsUnitOf piece unit → unit ≤ greatest)
      → AllByRecursion (λ code. AllByRecursion (NamesItsOwn auto) code) (supplied_layout supply halting endings end_rule trees auto begin)
      → Carries piece (entry_of supply halting end_rule trees auto begin) endings auto
  layout_carries eof fits units own = (layout_carries_at eof fits units own).0
