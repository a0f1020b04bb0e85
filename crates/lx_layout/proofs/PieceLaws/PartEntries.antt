-- A match begins at the first block of a scanner.
use Rattle.std.specs.Prelude.{◌≡◌, ℕ, List, [], ◌∷◌, Option, Some, None, refl}
use Rattle.std.proofs.Common.{◌∙◌, arith}
use Rattle.lx_auto.specs.declared.automaton.Accept.{Accept}
use Rattle.lx_auto.specs.declared.automaton.Auto.{Auto}
use Rattle.lx_auto.specs.declared.automaton.Edge.{Edge}
use Rattle.lx_auto.specs.declared.automaton.State.{State}
use Rattle.lx_layout.specs.Halting.{Halting}
use Rattle.lx_layout.specs.SuppliedLayout.{entry_of, fall_block, place_by, place_in, rule_block, states_begin}
use Rattle.lx_layout.specs.Supplies.{Reader, Supply}
use Rattle.lx_dispatch.specs.TestTrees.{TestTree}

module _ (supply : Supply) (halting : Halting) (trees : Reader → TestTree (Option ℕ)) (auto : Auto) where
  first_place : (rules : ℕ → ℕ) (fall begin from : ℕ) (edges : List Edge) (accept : Option Accept)
      → place_by supply halting None trees auto rules fall begin 0 from edges accept ≡ from
  first_place rules fall begin from [] accept = refl
  first_place rules fall begin from (edge ∷ edges) accept = refl

  first_state : (rules : ℕ → ℕ) (fall begin from : ℕ) (states : List State)
      → place_in supply halting None trees auto rules fall begin 0 from states 0 ≡ from
  first_state rules fall begin from [] = refl
  first_state rules fall begin from (given ∷ states) = first_place rules fall begin from given.edges given.accept

  pub entry_first : (end_rule : Option ℕ) (begin : ℕ) → entry_of supply halting end_rule trees auto begin ≡ begin
  entry_first None begin =
      let none : states_begin supply halting None trees auto begin ≡ begin = omega arith in
      first_state (rule_block supply halting None trees auto begin) (fall_block supply halting None trees auto begin) begin
      (states_begin supply halting None trees auto begin) auto.states ∙ none
  entry_first (Some rule) begin = refl
