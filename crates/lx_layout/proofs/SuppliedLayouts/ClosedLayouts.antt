-- Each block of a layout with a supply of units ends once, and its jumps go to blocks of the layout.
use Rattle.std.specs.Prelude.{◌≡◌, ℕ, ◌+◌, ◌<◌, ◌≤◌, true, List, [], ◌∷◌, length, Option}
use Rattle.std.proofs.Common.{inr}
use Rattle.std.specs.List.{AllByRecursion}
use Rattle.lx_auto.specs.Automaton.{IsAuto}
use Rattle.lx_auto.specs.declared.automaton.Auto.{Auto}
use Rattle.lx_ccode.specs.Validity.{ends_once}
use Rattle.lx_ccode.specs.declared.piece.Stmt.{Stmt}
use Rattle.lx_layout.specs.Endings.{Ending}
use Rattle.lx_layout.specs.Halting.{AreHalting, Halting}
use Rattle.lx_layout.specs.SuppliedLayout.{EachReader, JumpsTo, JumpsWithin, supplied_layout}
use Rattle.lx_layout.specs.Supplies.{Reader, Supply}
use Rattle.lx_dispatch.specs.TestTrees.{TestTree}
use Rattle.lx_layout.proofs.SuppliedLayouts.ClosedCodes.{Fits, sorts_fit}
use Rattle.lx_layout.proofs.SuppliedLayouts.HeldLayouts.{accepts_any, each_from-all, edges_any, layout_any, layout_holds}
use Rattle.lx_layout.proofs.SuppliedLayouts.LeadingTrees.{LeadsWithin}

module _ (B : ℕ → Type 0) where
  all_jump : (codes : List (List Stmt)) → AllByRecursion (Fits B) codes → AllByRecursion (λ code. AllByRecursion (JumpsTo B) code) codes
  all_jump [] h = tt
  all_jump (code ∷ codes) h = (h.0.jumps, all_jump codes h.1)

  all_end : (codes : List (List Stmt)) → AllByRecursion (Fits B) codes → AllByRecursion (λ code. ends_once code ≡ true) codes
  all_end [] h = tt
  all_end (code ∷ codes) h = (h.0.ends, all_end codes h.1)

module _ (supply : Supply) (halting : Halting) (endings : ℕ → Ending) (end_rule : Option ℕ) (greatest : ℕ) (trees : Reader → TestTree (Option ℕ)) (auto : Auto)
    (begin : ℕ) (formed : IsAuto auto) (are : EachReader LeadsWithin supply.eof greatest trees auto) where
  abbrev codes : List (List Stmt)
  codes = supplied_layout supply halting endings end_rule trees auto begin

  abbrev end : ℕ
  end = begin + length codes

  abbrev IsOwn : ℕ → Type 0
  IsOwn block = (begin ≤ block) × (block < begin + length (supplied_layout supply halting endings end_rule trees auto begin))

  pub closed_jumps : AreHalting supply.eof end_rule greatest auto halting
      → AllByRecursion (λ code. AllByRecursion (JumpsWithin begin (begin + length (supplied_layout supply halting endings end_rule trees auto begin))) code)
      (supplied_layout supply halting endings end_rule trees auto begin)
  closed_jumps marked =
      all_jump IsOwn codes (each_from-all (Fits IsOwn) begin codes
      (layout_holds (λ at code. Fits IsOwn code) IsOwn (λ reader at. Unit {0}) (λ units. Unit {0}) (λ given edge. Unit {0})
      (λ accept. Unit {0}) (λ rule. Unit {0}) supply halting endings auto (sorts_fit IsOwn supply halting endings auto) end_rule greatest trees begin
      (λ block low lt. (low, lt)) (inr marked) formed are (λ s. tt) (accepts_any auto.states) (edges_any auto.states)
      (λ s lt entered some. tt) (λ rule is. tt) (λ rule is. tt)))

  pub closed_ends : AllByRecursion (λ code. ends_once code ≡ true) (supplied_layout supply halting endings end_rule trees auto begin)
  closed_ends =
      all_end (λ block. Unit {0}) codes (each_from-all (Fits (λ block. Unit {0})) begin codes
      (layout_any (λ at code. Fits (λ block. Unit {0}) code) (λ reader at. Unit {0}) (λ units. Unit {0}) supply halting endings auto
      (sorts_fit (λ block. Unit {0}) supply halting endings auto) end_rule greatest trees begin formed are (λ s. tt) (λ s lt entered some. tt)
      (λ rule is. tt)))
