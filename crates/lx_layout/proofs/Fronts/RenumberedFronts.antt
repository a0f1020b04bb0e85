-- The front of a layout is the same for an automaton with greater numbers of rules.
use Rattle.std.specs.Prelude.{◌≡◌, ℕ, ◌+◌, List, [], ◌∷◌, ◌++◌, Option, Some, None, is_some, refl}
use Rattle.std.proofs.Common.{ap, ap₂, ◌∙◌, true≢false}
use Rattle.std.proofs.lemmas.Bool.{false≢true}
use Rattle.lx_auto.specs.Automaton.{state_of}
use Rattle.lx_auto.specs.declared.automaton.Auto.{Auto}
use Rattle.lx_ccode.specs.declared.piece.Stmt.{Stmt}
use Rattle.lx_layout.specs.Copies.{front_layout}
use Rattle.lx_layout.specs.Fallback.{fallback_code}
use Rattle.lx_layout.specs.Halting.{Halting, saved_accepts}
use Rattle.lx_layout.specs.Layout.{choices_from, restore_blocks}
use Rattle.lx_layout.specs.SuppliedLayout.{end_rule_block, entry_blocks, entry_part, fall_block, fallback_part, first_restore, kept, place_in, place_of, rule_block, states_begin, states_blocks, states_part}
use Rattle.lx_layout.specs.Supplies.{Reader, Supply}
use Rattle.lx_dispatch.specs.TestTrees.{TestTree}
use Rattle.lx_renumber.specs.Renumbered.{renumbered}
use Rattle.lx_layout.proofs.Fronts.RenumberedAccepts.{any_falls-renumbered, choices_from-renumbered, saved_accepts-renumbered, state_of-renumbered}
use Rattle.lx_layout.proofs.Fronts.RenumberedBlocks.{entry_blocks-renumbered, place_in-renumbered, states_blocks-renumbered}
use Rattle.lx_layout.proofs.Fronts.RenumberedEnds.{restore_blocks-renumbered}
use Rattle.lx_layout.proofs.Fronts.RenumberedSizes.{end_rule_block-renumbered, fall_block-renumbered, first_restore-renumbered, rule_block-renumbered, states_begin-renumbered}

module _ (by : ℕ) (supply : Supply) (halting : Halting) (end_rule other : Option ℕ) (same : is_some other ≡ is_some end_rule)
    (trees : Reader → TestTree (Option ℕ)) (auto : Auto) (begin : ℕ) where
  abbrev copy : Auto
  copy = renumbered by auto

  -- the blocks of the rules, and where the fallback and the states begin
  abbrev others : ℕ → ℕ
  others = rule_block supply halting other trees copy begin

  abbrev rules : ℕ → ℕ
  rules = rule_block supply halting end_rule trees auto begin

  abbrev fall : ℕ
  fall = fall_block supply halting end_rule trees auto begin

  abbrev start : ℕ
  start = states_begin supply halting end_rule trees auto begin

  are : (rule : ℕ) → others (rule + by) ≡ rules rule
  are = rule_block-renumbered by supply halting end_rule other same trees auto begin

  place_of-renumbered : (number : ℕ)
      → place_of supply halting other trees copy begin number ≡ place_of supply halting end_rule trees auto begin number
  place_of-renumbered number =
      ap₂ (λ block from. place_in supply halting other trees copy others block begin 0 from copy.states number)
      (fall_block-renumbered by supply halting end_rule other same trees auto begin)
      (states_begin-renumbered by supply halting end_rule other same trees auto begin)
      ∙ place_in-renumbered by supply halting end_rule other same trees auto others rules are fall begin 0 start auto.states number

  entry_part-renumbered : (rule another : Option ℕ) → is_some another ≡ is_some rule
      → entry_part supply halting other trees copy begin another ≡ entry_part supply halting end_rule trees auto begin rule
  entry_part-renumbered None None alike = refl
  entry_part-renumbered None (Some another) alike = absurd (true≢false alike)
  entry_part-renumbered (Some rule) None alike = absurd (false≢true alike)
  entry_part-renumbered (Some rule) (Some another) alike =
      ap₂ (λ block end. entry_blocks supply halting other trees copy others block begin end
      (states_begin supply halting other trees copy begin) (state_of copy.states 0))
      (fall_block-renumbered by supply halting end_rule other same trees auto begin)
      (end_rule_block-renumbered by supply halting end_rule other same trees auto begin)
      ∙ ap₂ (λ from given. entry_blocks supply halting other trees copy others fall begin
      (end_rule_block supply halting end_rule trees auto begin) from given)
      (states_begin-renumbered by supply halting end_rule other same trees auto begin) (state_of-renumbered by auto.states 0)
      ∙ entry_blocks-renumbered by supply halting end_rule other same trees auto others rules are fall begin
      (end_rule_block supply halting end_rule trees auto begin) start (state_of auto.states 0)

  states_part-renumbered : states_part supply halting other trees copy begin ≡ states_part supply halting end_rule trees auto begin
  states_part-renumbered =
      ap₂ (λ block from. states_blocks supply halting other trees copy others block begin (saved_accepts halting copy.states)
      (place_of supply halting other trees copy begin) 0 from copy.states)
      (fall_block-renumbered by supply halting end_rule other same trees auto begin)
      (states_begin-renumbered by supply halting end_rule other same trees auto begin)
      ∙ ap (λ accepts. states_blocks supply halting other trees copy others fall begin accepts
      (place_of supply halting other trees copy begin) 0 start copy.states)
      (saved_accepts-renumbered by halting auto.states)
      ∙ states_blocks-renumbered by supply halting end_rule other same trees auto others rules are fall begin
      (saved_accepts halting auto.states)
      (place_of supply halting other trees copy begin) (place_of supply halting end_rule trees auto begin)
      place_of-renumbered 0 start auto.states

  fallback_part-renumbered : fallback_part halting copy (first_restore supply halting other trees copy begin)
      ≡ fallback_part halting auto (first_restore supply halting end_rule trees auto begin)
  fallback_part-renumbered =
      ap₂ (λ t choices. kept t (fallback_code (halting.falls 0) choices ∷ [])) (any_falls-renumbered by halting 0 auto.states)
      (ap₂ (λ block accepts. choices_from 1 block accepts) (first_restore-renumbered by supply halting end_rule other same trees auto begin)
      (saved_accepts-renumbered by halting auto.states)
      ∙ choices_from-renumbered by 1 (first_restore supply halting end_rule trees auto begin) (saved_accepts halting auto.states))

  pub front-renumbered : front_layout supply halting other trees (renumbered by auto) begin
      ≡ front_layout supply halting end_rule trees auto begin
  front-renumbered =
      ap₂ (λ (a b : List (List Stmt)). a ++ b) (entry_part-renumbered end_rule other same)
      (ap₂ (λ (a b : List (List Stmt)). a ++ b) states_part-renumbered
      (ap₂ (λ (a b : List (List Stmt)). a ++ b) fallback_part-renumbered
      (ap (λ accepts. restore_blocks others accepts) (saved_accepts-renumbered by halting auto.states)
      ∙ restore_blocks-renumbered by others rules are (saved_accepts halting auto.states))))
