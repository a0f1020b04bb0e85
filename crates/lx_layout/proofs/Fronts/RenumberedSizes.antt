-- How many blocks the parts of a layout have: as many for an automaton with greater numbers of rules.
use Rattle.std.specs.Prelude.{◌≡◌, ℕ, suc, ◌+◌, List, [], ◌∷◌, length, map, Option, Some, None, is_some, refl}
use Rattle.std.proofs.Common.{ap, ap₂, ◌∙◌, true≢false}
use Rattle.std.proofs.lemmas.Bool.{false≢true}
use Rattle.std.proofs.lemmas.List.{length-map}
use Rattle.lx_auto.specs.declared.automaton.Auto.{Auto}
use Rattle.lx_auto.specs.declared.automaton.Edge.{Edge}
use Rattle.lx_auto.specs.declared.automaton.State.{State}
use Rattle.lx_layout.specs.Halting.{Halting, ended_accepts, halted_accept, saved_accepts}
use Rattle.lx_layout.specs.Layout.{end_size, lone_size, rule_place}
use Rattle.lx_layout.specs.SuppliedLayout.{at_end_size, classes_begin, end_of, end_rule_block, entry_part_size, fall_block, first_restore, first_rule, lone_number, own_end, reader_size, rule_block, size_in, sized, state_size, states_begin, tests_size, turn_begin, turn_size}
use Rattle.lx_layout.specs.Supplies.{Reader, Supply, state as by_state}
use Rattle.lx_dispatch.specs.TestTrees.{TestTree}
use Rattle.lx_dispatch.specs.TransitionClasses.{transition_classes}
use Rattle.lx_renumber.specs.Renumbered.{renumbered, renumbered_accept, renumbered_state}
use Rattle.lx_layout.proofs.Fronts.RenumberedAccepts.{any_falls-renumbered, ended_accepts-renumbered, halted-renumbered, rule_place-renumbered, saved_accepts-renumbered}
use Rattle.lx_layout.proofs.Fronts.RenumberedEnds.{end_size-renumbered, lone_size-renumbered}
use Rattle.lx_layout.proofs.Fronts.RenumberedMarks.{is_entered-renumbered}

pub lone_number-renumbered : (end_rule other : Option ℕ) → is_some other ≡ is_some end_rule → (number : ℕ)
    → lone_number other number ≡ lone_number end_rule number
lone_number-renumbered None None same number = refl
lone_number-renumbered None (Some rule) same number = absurd (true≢false same)
lone_number-renumbered (Some rule) None same number = absurd (false≢true same)
lone_number-renumbered (Some rule) (Some another) same number = refl

module _ (by : ℕ) (supply : Supply) (halting : Halting) (end_rule other : Option ℕ) (same : is_some other ≡ is_some end_rule)
    (trees : Reader → TestTree (Option ℕ)) (auto : Auto) where
  abbrev copy : Auto
  copy = renumbered by auto

  pub tests_size-renumbered : (number : ℕ)
      → tests_size supply halting other trees copy number ≡ tests_size supply halting end_rule trees auto number
  tests_size-renumbered number =
      ap (λ t. sized t (reader_size supply.eof (supply.check number) (trees (by_state number))))
      (is_entered-renumbered by auto end_rule other same number)

  turn_size-renumbered : (number : ℕ)
      → turn_size supply halting other trees copy number ≡ turn_size supply halting end_rule trees auto number
  turn_size-renumbered number = ap (λ t. sized t (at_end_size supply)) (is_entered-renumbered by auto end_rule other same number)

  pub classes_begin-renumbered : (number from : ℕ) (edges : List Edge)
      → classes_begin supply halting other trees copy number from edges ≡ classes_begin supply halting end_rule trees auto number from edges
  classes_begin-renumbered number from [] = refl
  classes_begin-renumbered number from (edge ∷ edges) = ap (λ size. from + size) (tests_size-renumbered number)

  pub turn_begin-renumbered : (number from : ℕ) (edges : List Edge)
      → turn_begin supply halting other trees copy number from edges ≡ turn_begin supply halting end_rule trees auto number from edges
  turn_begin-renumbered number from edges = ap (λ n. n + length (transition_classes edges)) (classes_begin-renumbered number from edges)

  pub own_end-renumbered : (number from : ℕ) (edges : List Edge)
      → own_end supply halting other trees copy number from edges ≡ own_end supply halting end_rule trees auto number from edges
  own_end-renumbered number from [] = refl
  own_end-renumbered number from (edge ∷ edges) =
      ap₂ (λ n size. n + size) (turn_begin-renumbered number from (edge ∷ edges)) (turn_size-renumbered number)

  size_in-renumbered : (number : ℕ) (given : State) (edges : List Edge)
      → size_in supply halting other trees copy number (renumbered_state by given) edges
      ≡ size_in supply halting end_rule trees auto number given edges
  size_in-renumbered number given [] =
      ap (λ n. lone_size n (renumbered_state by given).accept) (lone_number-renumbered end_rule other same number)
      ∙ lone_size-renumbered by (lone_number end_rule number) given.accept
  size_in-renumbered number given (edge ∷ edges) =
      ap₂ (λ tests rest. tests + (length (transition_classes (edge ∷ edges)) + rest)) (tests_size-renumbered number)
      (ap₂ (λ turn size. turn + size) (turn_size-renumbered number)
      (ap end_size (halted-renumbered by halting number given) ∙ end_size-renumbered by (halted_accept halting number given)))

  pub state_size-renumbered : (number : ℕ) (given : State)
      → state_size supply halting other trees copy number (renumbered_state by given)
      ≡ state_size supply halting end_rule trees auto number given
  state_size-renumbered number given = size_in-renumbered number given given.edges

  end_of-renumbered : (number from : ℕ) (states : List State)
      → end_of supply halting other trees copy number from (map (renumbered_state by) states)
      ≡ end_of supply halting end_rule trees auto number from states
  end_of-renumbered number from [] = refl
  end_of-renumbered number from (given ∷ states) =
      ap (λ size. end_of supply halting other trees copy (suc number) (from + size) (map (renumbered_state by) states))
      (state_size-renumbered number given)
      ∙ end_of-renumbered (suc number) (from + state_size supply halting end_rule trees auto number given) states

  entry_part_size-renumbered : (rule another : Option ℕ) → is_some another ≡ is_some rule
      → entry_part_size supply halting other trees copy another ≡ entry_part_size supply halting end_rule trees auto rule
  entry_part_size-renumbered None None alike = refl
  entry_part_size-renumbered None (Some another) alike = absurd (true≢false alike)
  entry_part_size-renumbered (Some rule) None alike = absurd (false≢true alike)
  entry_part_size-renumbered (Some rule) (Some another) alike = refl

  -- ---- where the parts begin

  module _ (begin : ℕ) where
    pub states_begin-renumbered : states_begin supply halting other trees copy begin ≡ states_begin supply halting end_rule trees auto begin
    states_begin-renumbered = ap (λ size. begin + size) (entry_part_size-renumbered end_rule other same)

    pub fall_block-renumbered : fall_block supply halting other trees copy begin ≡ fall_block supply halting end_rule trees auto begin
    fall_block-renumbered =
        ap (λ from. end_of supply halting other trees copy 0 from copy.states) states_begin-renumbered
        ∙ end_of-renumbered 0 (states_begin supply halting end_rule trees auto begin) auto.states

    pub first_restore-renumbered : first_restore supply halting other trees copy begin
        ≡ first_restore supply halting end_rule trees auto begin
    first_restore-renumbered =
        ap₂ (λ n t. n + sized t 1) fall_block-renumbered (any_falls-renumbered by halting 0 auto.states)

    first_rule-renumbered : first_rule supply halting other trees copy begin ≡ first_rule supply halting end_rule trees auto begin
    first_rule-renumbered =
        ap₂ (λ n size. n + size) first_restore-renumbered
        (ap length (saved_accepts-renumbered by halting auto.states)
        ∙ length-map (saved_accepts halting auto.states) (renumbered_accept by))

    pub rule_block-renumbered : (rule : ℕ)
        → rule_block supply halting other trees copy begin (rule + by) ≡ rule_block supply halting end_rule trees auto begin rule
    rule_block-renumbered rule =
        ap₂ (λ n place. n + place) first_rule-renumbered
        (ap (λ accepts. rule_place accepts (rule + by)) (ended_accepts-renumbered by halting auto.states)
        ∙ rule_place-renumbered by (ended_accepts halting auto.states) rule)

    pub end_rule_block-renumbered : end_rule_block supply halting other trees copy begin
        ≡ end_rule_block supply halting end_rule trees auto begin
    end_rule_block-renumbered =
        ap₂ (λ n size. n + size) first_rule-renumbered
        (ap length (ended_accepts-renumbered by halting auto.states)
        ∙ length-map (ended_accepts halting auto.states) (renumbered_accept by))
