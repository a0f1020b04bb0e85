-- A layout that reads units asks for them before, or for a refill at the end, where all that reads does.
use Rattle.std.specs.Prelude.{◌≡◌, ◌⊎◌, ℕ, suc, ◌+◌, Bool, true, List, [], ◌∷◌, ◌++◌, Option, Some, None, refl}
use Rattle.std.proofs.Common.{ap, inl, inr, subst, sym}
use Rattle.std.proofs.lemmas.Bool.{false≢true}
use Rattle.lx_auto.specs.Automaton.{state_of}
use Rattle.lx_auto.specs.declared.automaton.Auto.{Auto}
use Rattle.lx_auto.specs.declared.automaton.Edge.{Edge}
use Rattle.lx_auto.specs.declared.automaton.State.{State}
use Rattle.lx_ccode.specs.Statements.{is_reading}
use Rattle.lx_ccode.specs.declared.piece.Stmt.{Stmt}
use Rattle.lx_layout.specs.Endings.{Ending}
use Rattle.lx_layout.specs.Halting.{Halting, ended_accepts, halted_accept, is_entered, saved_accepts}
use Rattle.lx_layout.specs.Layout.{end_blocks, ending_blocks, restore_blocks}
use Rattle.lx_layout.specs.SuppliedLayout.{at_end_blocks, blocks_by, class_blocks, end_rule_block, end_rule_part, entry_part, entry_tests_size, entry_way, fall_block, fallback_part, first_restore, kept, lone_number, place_of, reader_blocks, rule_block, state_end, state_size, state_to, state_way, states_begin, states_blocks, states_part, supplied_layout, tests_of, turn_begin, turn_of, with_blocks}
use Rattle.lx_layout.specs.Supplies.{Reader, Supply, entry, state}
use Rattle.lx_dispatch.specs.TestTrees.{TestTree}
use Rattle.lx_dispatch.specs.TransitionClasses.{transition_classes}
use Rattle.lx_layout.proofs.PartLayouts.AskedLayouts.{Has, has-back, has-front, has-nowhere, has-split}
use Rattle.lx_layout.proofs.PartLayouts.StillBlocks.{still_lone, still_rest}

either : {A B C : Type 0} → A ⊎ B → (A → C) → (B → C) → C
either (inl a) f g = f a
either (inr b) f g = g b

module _ (passes : Stmt → Bool) (supply : Supply) (halting : Halting) (endings : ℕ → Ending) (end_rule : Option ℕ) (trees : Reader → TestTree (Option ℕ))
    (auto : Auto) where
  -- a statement of what reads passes the test, in its tests or at the end of the input
  abbrev pub Passes : Reader → (units : ℕ) → Type 0
  Passes reader units = (from block here : ℕ) (tree : TestTree ℕ) (to : ℕ → ℕ) (end : ℕ)
      → Has passes (reader_blocks supply.stored reader supply.eof units from tree) ⊎ Has passes (at_end_blocks supply reader block here to end)

  module _ (rules : ℕ → ℕ) (fall begin : ℕ) (place : ℕ → ℕ) where
    abbrev own_blocks : (s from : ℕ) → State → (edges : List Edge) → List (List Stmt)
    own_blocks s from given edges = blocks_by supply halting end_rule trees auto rules fall begin (saved_accepts halting auto.states) place s from given edges

    kept_true : (t : Bool) (codes : List (List Stmt)) → t ≡ true → Has passes codes → Has passes (kept t codes)
    kept_true t codes e h = subst (λ y. Has passes (kept y codes)) (sym e) h

    -- a state that has an edge, and to which a match comes
    pub state_passes : (s from : ℕ) (given : State) (edge : Edge) (edges : List Edge) → is_entered end_rule auto s ≡ true
        → Passes (state s) (supply.check s) → Has passes (own_blocks s from given (edge ∷ edges))
    state_passes s from given edge edges entered asks =
        let tests_row : List (List Stmt) = tests_of supply halting end_rule trees auto rules fall begin (saved_accepts halting auto.states) place s from given in
        let classes_row : List (List Stmt) = class_blocks halting auto (saved_accepts halting auto.states) place given (transition_classes (edge ∷ edges)) in
        let turn_row : List (List Stmt) = turn_of supply halting end_rule trees auto rules fall begin (saved_accepts halting auto.states) place s from given in
        let end_row : List (List Stmt) = end_blocks auto rules fall (halted_accept halting s given) in
        either (asks from from (turn_begin supply halting end_rule trees auto s from given.edges)
        (with_blocks (state_way supply halting end_rule trees auto rules fall begin s from given) (trees (state s)))
        (state_to supply halting end_rule trees auto rules fall begin s from given)
        (state_end supply halting end_rule trees auto rules fall begin s from given))
        (λ h. has-front passes tests_row (classes_row ++ (turn_row ++ end_row)) (kept_true (is_entered end_rule auto s) _ entered h))
        (λ h. has-back passes tests_row (classes_row ++ (turn_row ++ end_row))
        (has-back passes classes_row (turn_row ++ end_row) (has-front passes turn_row end_row (kept_true (is_entered end_rule auto s) _ entered h))))

    state_reads : (s from : ℕ) (given : State) (edges : List Edge) → is_entered end_rule auto s ≡ true
        → ((edges ≡ [] → ⊥) → Passes (state s) (supply.check s)) → Has is_reading (own_blocks s from given edges) → Has passes (own_blocks s from given edges)
    state_reads s from given [] entered asks h =
        absurd (has-nowhere is_reading _ (still_lone halting endings auto rules fall (lone_number end_rule s) given.accept) h)
    state_reads s from given (edge ∷ edges) entered asks h = state_passes s from given edge edges entered (asks (λ e. absurd (cc)))

    -- what is asked of each state that has an edge
    abbrev pub EachPasses : (s : ℕ) → List State → Type 0
    EachPasses s [] = Unit {0}
    EachPasses s (given ∷ states) = ((given.edges ≡ [] → ⊥) → Passes (state s) (supply.check s)) × EachPasses (suc s) states

    abbrev all_blocks : (s from : ℕ) → List State → List (List Stmt)
    all_blocks s from states = states_blocks supply halting end_rule trees auto rules fall begin (saved_accepts halting auto.states) place s from states

    states_read : (s from : ℕ) (states : List State) → ((s : ℕ) → is_entered end_rule auto s ≡ true) → EachPasses s states
        → Has is_reading (all_blocks s from states) → Has passes (all_blocks s from states)
    states_read s from [] entered asks h = absurd (false≢true h)
    states_read s from (given ∷ states) entered asks h =
        either (has-split is_reading (own_blocks s from given given.edges) (all_blocks (suc s) (from + state_size supply halting end_rule trees auto s given) states) h)
        (λ g. has-front passes (own_blocks s from given given.edges) (all_blocks (suc s) (from + state_size supply halting end_rule trees auto s given) states)
        (state_reads s from given given.edges (entered s) asks.0 g))
        (λ g. has-back passes (own_blocks s from given given.edges) (all_blocks (suc s) (from + state_size supply halting end_rule trees auto s given) states)
        (states_read (suc s) (from + state_size supply halting end_rule trees auto s given) states entered asks.1 g))

    -- if state 0 has an edge
    first_passes : (from : ℕ) (states : List State) → ((state_of states 0).edges ≡ [] → ⊥) → is_entered end_rule auto 0 ≡ true
        → Passes (state 0) (supply.check 0) → Has passes (all_blocks 0 from states)
    first_passes from [] some entered asks = absurd (some refl)
    first_passes from (given ∷ states) some entered asks =
        has-front passes (own_blocks 0 from given given.edges) (all_blocks 1 (from + state_size supply halting end_rule trees auto 0 given) states)
        (by given.edges some)
      where
        by : (edges : List Edge) → (edges ≡ [] → ⊥) → Has passes (own_blocks 0 from given edges)
        by [] some = absurd (some refl)
        by (edge ∷ edges) some = state_passes 0 from given edge edges entered asks

  -- ---- the whole

  module _ (begin : ℕ) where
    abbrev rule_at : ℕ → ℕ
    rule_at = rule_block supply halting end_rule trees auto begin

    abbrev fall_at : ℕ
    fall_at = fall_block supply halting end_rule trees auto begin

    abbrev start : ℕ
    start = states_begin supply halting end_rule trees auto begin

    abbrev place_at : ℕ → ℕ
    place_at = place_of supply halting end_rule trees auto begin

    abbrev rest : List (List Stmt)
    rest =
        fallback_part halting auto (first_restore supply halting end_rule trees auto begin)
        ++ (restore_blocks (rule_block supply halting end_rule trees auto begin) (saved_accepts halting auto.states)
        ++ (ending_blocks endings (ended_accepts halting auto.states) ++ end_rule_part endings end_rule))

    -- where a rule stands at the end, the entry reads in any case
    entry_passes : (o : Option ℕ) (rule : ℕ) → o ≡ Some rule → Passes entry 0 → Has passes (entry_part supply halting end_rule trees auto begin o)
    entry_passes None rule e asks = absurd (cc)
    entry_passes (Some other) rule e asks =
        let way = entry_way supply halting end_rule trees auto rule_at fall_at begin start (state_of auto.states 0) in
        let tests_row : List (List Stmt) = reader_blocks supply.stored entry supply.eof 0 begin (with_blocks way (trees entry)) in
        let turn_row : List (List Stmt) = at_end_blocks supply entry begin (begin + entry_tests_size supply halting end_rule trees auto)
        (state_to supply halting end_rule trees auto rule_at fall_at begin 0 start (state_of auto.states 0))
        (end_rule_block supply halting end_rule trees auto begin) in
        either (asks begin begin (begin + entry_tests_size supply halting end_rule trees auto) (with_blocks way (trees entry))
        (state_to supply halting end_rule trees auto rule_at fall_at begin 0 start (state_of auto.states 0))
        (end_rule_block supply halting end_rule trees auto begin))
        (λ g. has-front passes tests_row turn_row g) (λ g. has-back passes tests_row turn_row g)

    pub layout_reads : ((rule : ℕ) → end_rule ≡ Some rule → Passes entry 0) → EachPasses rule_at fall_at begin place_at 0 auto.states
        → Has is_reading (supplied_layout supply halting endings end_rule trees auto begin)
        → Has passes (supplied_layout supply halting endings end_rule trees auto begin)
    layout_reads entry_asks asks h = by end_rule refl
      where
        first : List (List Stmt)
        first = entry_part supply halting end_rule trees auto begin end_rule

        states : List (List Stmt)
        states = states_part supply halting end_rule trees auto begin

        by : (o : Option ℕ) → end_rule ≡ o → Has passes (supplied_layout supply halting endings end_rule trees auto begin)
        by (Some rule) e = has-front passes first (states ++ rest) (entry_passes end_rule rule e (entry_asks rule e))
        by None e =
            either (has-split is_reading first (states ++ rest) h)
            (λ g. absurd (false≢true (subst (λ o. Has is_reading (entry_part supply halting end_rule trees auto begin o)) e g)))
            (λ g. has-back passes first (states ++ rest)
            (either (has-split is_reading states rest g)
            (λ k. has-front passes states rest
            (states_read rule_at fall_at begin place_at 0 start auto.states (λ s. ap (λ o. is_entered o auto s) e) asks k))
            (λ k. absurd (has-nowhere is_reading rest (still_rest halting endings auto rule_at (first_restore supply halting end_rule trees auto begin) end_rule) k))))

    pub layout_starts : ((state_of auto.states 0).edges ≡ [] → ⊥) → is_entered end_rule auto 0 ≡ true → Passes (state 0) (supply.check 0)
        → Has passes (supplied_layout supply halting endings end_rule trees auto begin)
    layout_starts some entered asks =
        let first : List (List Stmt) = entry_part supply halting end_rule trees auto begin end_rule in
        let states : List (List Stmt) = states_part supply halting end_rule trees auto begin in
        has-back passes first (states ++ rest)
        (has-front passes states rest (first_passes rule_at fall_at begin place_at start auto.states some entered asks))
