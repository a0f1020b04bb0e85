-- By which numbers layouts store what reads, one behind another.
use Rattle.std.specs.Prelude.{◌≡◌, ℕ, zero, suc, ◌+◌, ◌<◌, Bool, true, false, ◌&&◌, List, [], ◌∷◌, ◌++◌, length, Option, Some, None, is_some, refl}
use Rattle.std.proofs.Common.{◌∙◌, ap, ap₂, arith, subst, sym}
use Rattle.std.proofs.lemmas.List.{append-nil, map-append}
use Rattle.std.specs.List.{range_with_len}
use Rattle.lx_auto.specs.Automaton.{state_of}
use Rattle.lx_auto.specs.declared.automaton.Auto.{Auto}
use Rattle.lx_auto.specs.declared.automaton.Edge.{Edge}
use Rattle.lx_auto.specs.declared.automaton.State.{State}
use Rattle.lx_ccode.specs.Statements.{code_of}
use Rattle.lx_ccode.specs.declared.piece.CodeBlock.{CodeBlock}
use Rattle.lx_ccode.specs.declared.piece.Stmt.{Stmt}
use Rattle.lx_layout.specs.Endings.{Ending}
use Rattle.lx_layout.specs.FormedParts.{AllStore, all_asked}
use Rattle.lx_layout.specs.Halting.{Halting, ended_accepts, halted_accept, is_entered, saved_accepts}
use Rattle.lx_layout.specs.Layout.{end_blocks, ending_blocks, restore_blocks}
use Rattle.lx_layout.specs.Parts.{Demand, Part, asked, asked_below, asks_by, asks_with, entry_asks, given_asked, labelled, number_of, one_if, part_blocks, part_codes, parts_blocks, stored_from, supply_from}
use Rattle.lx_layout.specs.Plans.{unlabelled}
use Rattle.lx_layout.specs.SuppliedLayout.{at_end_blocks, blocks_at_end, blocks_by, class_blocks, end_rule_block, end_rule_part, entry_part, entry_tests_size, entry_way, fall_block, fallback_part, first_restore, kept, lone_number, place_of, reader_blocks, rule_block, state_blocks, state_end, state_size, state_to, state_way, states_begin, states_blocks, states_part, supplied_layout, tests_of, turn_begin, turn_of, with_blocks}
use Rattle.lx_layout.specs.Supplies.{Reader, Supply, entry, state}
use Rattle.lx_dispatch.specs.TestTrees.{TestTree}
use Rattle.lx_dispatch.specs.TransitionClasses.{transition_classes}
use Rattle.lx_layout.proofs.PartLayouts.CalmBlocks.{calm_classes, calm_end, calm_lone, calm_rest}
use Rattle.lx_layout.proofs.PartLayouts.StoredNumbers.{checks_by, listed, stored-append, stored-calm, stored-tests, stored-turn, stored_of, tries_by}

-- ---- numbers in a row

pub range-append : (a n m : ℕ) → range_with_len a n ++ range_with_len (a + n) m ≡ range_with_len a (n + m)
range-append a zero m =
    let e : a + 0 ≡ a = omega arith in let f : 0 + m ≡ m = omega arith in ap₂ (λ x y. range_with_len x y) e (sym f)
range-append a (suc n) m =
    let e : a + suc n ≡ (a + 1) + n = omega arith in
    let f : suc n + m ≡ suc (n + m) = omega arith in
    ap (λ x. a ∷ (range_with_len (a + 1) n ++ range_with_len x m)) e ∙ ap (λ l. a ∷ l) (range-append (a + 1) n m) ∙ ap (λ x. range_with_len a x) (sym f)

-- ---- codes in a row

module _ (a b c d : List (List Stmt)) where
  pub stored-four : (first second : List ℕ) → stored_of a ≡ first → stored_of b ≡ [] → stored_of c ≡ second → stored_of d ≡ []
      → stored_of (a ++ (b ++ (c ++ d))) ≡ first ++ second
  stored-four first second sa sb sc sd =
      stored-append a (b ++ (c ++ d))
      ∙ ap₂ (λ x y. x ++ y) sa (stored-append b (c ++ d) ∙ ap₂ (λ x y. x ++ y) sb (stored-append c d ∙ ap₂ (λ x y. x ++ y) sc sd) ∙ append-nil second)

abbrev pub when : Bool → List ℕ → List ℕ
when false list = []
when true list = list

stored-kept : (t : Bool) (codes : List (List Stmt)) (list : List ℕ) → stored_of codes ≡ list → stored_of (kept t codes) ≡ when t list
stored-kept false codes list h = refl
stored-kept true codes list h = h

-- ---- a layout that stores

module _ (demand : Demand) (end_rule : Option ℕ) (halting : Halting) (endings : ℕ → Ending) (trees : Reader → TestTree (Option ℕ)) (auto : Auto)
    (first : ℕ) (stores : demand.stores ≡ true) where
  abbrev supply : Supply
  supply = supply_from demand end_rule auto first

  abbrev number : Reader → ℕ
  number = number_of demand end_rule auto first

  back : stored_from demand end_rule auto demand.stores first ≡ Some (number_of demand end_rule auto first)
  back = ap (λ t. stored_from demand end_rule auto t first) stores

  tests_stored : (reader : Reader) (units from : ℕ) (tree : TestTree ℕ)
      → stored_of (reader_blocks supply.stored reader demand.eof units from tree) ≡ listed (checks_by number reader demand.eof units) (number reader)
  tests_stored reader units from tree =
      subst (λ o. stored_of (reader_blocks o reader demand.eof units from tree) ≡ listed (checks_by number reader demand.eof units) (number reader)) (sym back)
      (stored-tests number reader demand.eof units from tree)

  turn_stored : (reader : Reader) (block here : ℕ) (to : ℕ → ℕ) (end : ℕ)
      → stored_of (at_end_blocks supply reader block here to end) ≡ listed (tries_by number reader demand.eof demand.tries) (number reader)
  turn_stored reader block here to end =
      subst (λ o. stored_of (blocks_at_end o reader demand.eof demand.tries block here to end)
      ≡ listed (tries_by number reader demand.eof demand.tries) (number reader)) (sym back)
      (stored-turn number reader demand.eof demand.tries block here to end)

  module _ (rules : ℕ → ℕ) (fall begin : ℕ) (place : ℕ → ℕ) where
    asked_once : (s : ℕ) (t : Bool) (eof : Option ℕ)
        → when t (listed (checks_by number (state s) eof (demand.check s)) (number (state s)))
        ++ when t (listed (tries_by number (state s) eof demand.tries) (number (state s)))
        ≡ listed (t && asks_by demand end_rule auto eof s) (number (state s))
    asked_once s false eof = refl
    asked_once s true None = append-nil _
    asked_once s true (Some unit) = refl

    state_stored : (s from : ℕ) (given : State) (edges : List Edge)
        → stored_of (blocks_by supply halting end_rule trees auto rules fall begin (saved_accepts halting auto.states) place s from given edges)
        ≡ listed (asks_with demand end_rule auto s edges) (number (state s))
    state_stored s from given [] =
        stored-calm _ (calm_lone halting endings auto rules fall (lone_number end_rule s) given.accept)
    state_stored s from given (edge ∷ edges) =
        let tests_row : List (List Stmt) = tests_of supply halting end_rule trees auto rules fall begin (saved_accepts halting auto.states) place s from given in
        let classes_row : List (List Stmt) = class_blocks halting auto (saved_accepts halting auto.states) place given (transition_classes (edge ∷ edges)) in
        let turn_row : List (List Stmt) = turn_of supply halting end_rule trees auto rules fall begin (saved_accepts halting auto.states) place s from given in
        let end_row : List (List Stmt) = end_blocks auto rules fall (halted_accept halting s given) in
        stored-four tests_row classes_row turn_row end_row
        (when (is_entered end_rule auto s) (listed (checks_by number (state s) demand.eof (demand.check s)) (number (state s))))
        (when (is_entered end_rule auto s) (listed (tries_by number (state s) demand.eof demand.tries) (number (state s))))
        (stored-kept (is_entered end_rule auto s) _ _
        (tests_stored (state s) (demand.check s) from
        (with_blocks (state_way supply halting end_rule trees auto rules fall begin s from given) (trees (state s)))))
        (stored-calm classes_row
        (calm_classes halting endings auto (saved_accepts halting auto.states) place given (transition_classes (edge ∷ edges))))
        (stored-kept (is_entered end_rule auto s) _ _
        (turn_stored (state s) from (turn_begin supply halting end_rule trees auto s from given.edges)
        (state_to supply halting end_rule trees auto rules fall begin s from given)
        (state_end supply halting end_rule trees auto rules fall begin s from given)))
        (stored-calm end_row (calm_end halting endings auto rules fall (halted_accept halting s given)))
        ∙ asked_once s (is_entered end_rule auto s) demand.eof

    -- how many of some states ask
    abbrev asking : (s : ℕ) → List State → ℕ
    asking s [] = 0
    asking s (given ∷ states) = one_if demand end_rule auto (asks_with demand end_rule auto s given.edges) + asking (suc s) states

    -- some states are those from a number on
    abbrev Are : (s : ℕ) → List State → Type 0
    Are s states = (k : ℕ) → k < length states → state_of auto.states (s + k) ≡ state_of states k

    are_first : (s : ℕ) (given : State) (states : List State) → Are s (given ∷ states) → (state_of auto.states s).edges ≡ given.edges
    are_first s given states are =
        let e : s ≡ s + 0 = omega arith in
        ap (λ n. (state_of auto.states n).edges) e ∙ ap (λ (given : State). given.edges) (are 0 (omega arith))

    are_rest : (s : ℕ) (given : State) (states : List State) → Are s (given ∷ states) → Are (suc s) states
    are_rest s given states are k lt =
        let e : suc s + k ≡ s + suc k = omega arith in
        ap (λ n. state_of auto.states n) e ∙ are (suc k) (omega (arith, lt))

    asked-next : (s : ℕ) (given : State) → (state_of auto.states s).edges ≡ given.edges
        → asked_below demand end_rule auto (suc s)
        ≡ asked_below demand end_rule auto s + one_if demand end_rule auto (asks_with demand end_rule auto s given.edges)
    asked-next s given same =
        ap (λ edges. asked_below demand end_rule auto s + one_if demand end_rule auto (asks_with demand end_rule auto s edges)) same

    asked-all : (s : ℕ) (states : List State) → Are s states
        → asked_below demand end_rule auto s + asking s states ≡ asked_below demand end_rule auto (s + length states)
    asked-all s [] are = let e : s + 0 ≡ s = omega arith in rw e (omega arith)
    asked-all s (given ∷ states) are =
        let e : s + length (given ∷ states) ≡ suc s + length states = omega arith in
        let next = asked-next s given (are_first s given states are) in
        let again = asked-all (suc s) states (are_rest s given states are) in
        rw e (omega (arith, next, again))

    listed-range : (t : Bool) (a : ℕ) → listed t a ≡ range_with_len a (one_if demand end_rule auto t)
    listed-range false a = refl
    listed-range true a = refl

    pub states_stored : (s from : ℕ) (states : List State) → Are s states
        → stored_of (states_blocks supply halting end_rule trees auto rules fall begin (saved_accepts halting auto.states) place s from states)
        ≡ range_with_len (first + asked_below demand end_rule auto s) (asking s states)
    states_stored s from [] are = refl
    states_stored s from (given ∷ states) are =
        let own : List (List Stmt) = state_blocks supply halting end_rule trees auto rules fall begin (saved_accepts halting auto.states) place s from given in
        let others : List (List Stmt) = states_blocks supply halting end_rule trees auto rules fall begin (saved_accepts halting auto.states) place (suc s)
        (from + state_size supply halting end_rule trees auto s given) states in
        let t : Bool = asks_with demand end_rule auto s given.edges in
        let next = asked-next s given (are_first s given states are) in
        let e : first + asked_below demand end_rule auto (suc s)
        ≡ (first + asked_below demand end_rule auto s) + one_if demand end_rule auto (asks_with demand end_rule auto s given.edges) = omega (arith, next) in
        stored-append own others
        ∙ ap₂ (λ x y. x ++ y) (state_stored s from given given.edges ∙ listed-range (asks_with demand end_rule auto s given.edges) (number (state s)))
        (states_stored (suc s) (from + state_size supply halting end_rule trees auto s given) states (are_rest s given states are)
        ∙ ap (λ x. range_with_len x (asking (suc s) states)) e)
        ∙ range-append (first + asked_below demand end_rule auto s) (one_if demand end_rule auto (asks_with demand end_rule auto s given.edges))
        (asking (suc s) states)

  module _ (begin : ℕ) where
    abbrev rules : ℕ → ℕ
    rules = rule_block supply halting end_rule trees auto begin

    abbrev fall : ℕ
    fall = fall_block supply halting end_rule trees auto begin

    abbrev start : ℕ
    start = states_begin supply halting end_rule trees auto begin

    entry_once : (eof : Option ℕ) → listed (checks_by number entry eof 0) first ++ listed (tries_by number entry eof demand.tries) first
        ≡ listed (is_some eof && demand.tries) first
    entry_once None = refl
    entry_once (Some unit) = refl

    entry_stored : (o : Option ℕ) → stored_of (entry_part supply halting end_rule trees auto begin o)
        ≡ listed (is_some o && (is_some demand.eof && demand.tries)) first
    entry_stored None = refl
    entry_stored (Some rule) =
        let way = entry_way supply halting end_rule trees auto rules fall begin start (state_of auto.states 0) in
        let tests_row : List (List Stmt) = reader_blocks supply.stored entry supply.eof 0 begin (with_blocks way (trees entry)) in
        let turn_row : List (List Stmt) = at_end_blocks supply entry begin (begin + entry_tests_size supply halting end_rule trees auto)
        (state_to supply halting end_rule trees auto rules fall begin 0 start (state_of auto.states 0))
        (end_rule_block supply halting end_rule trees auto begin) in
        stored-append tests_row turn_row
        ∙ ap₂ (λ x y. x ++ y) (tests_stored entry 0 begin (with_blocks way (trees entry)))
        (turn_stored entry begin (begin + entry_tests_size supply halting end_rule trees auto)
        (state_to supply halting end_rule trees auto rules fall begin 0 start (state_of auto.states 0))
        (end_rule_block supply halting end_rule trees auto begin))
        ∙ entry_once demand.eof

    pub layout_stored : stored_of (supplied_layout supply halting endings end_rule trees auto begin)
        ≡ range_with_len first (asked demand end_rule auto)
    layout_stored =
        let place : ℕ → ℕ = place_of supply halting end_rule trees auto begin in
        let head : List (List Stmt) = entry_part supply halting end_rule trees auto begin end_rule in
        let states : List (List Stmt) = states_part supply halting end_rule trees auto begin in
        let rest : List (List Stmt) = fallback_part halting auto (first_restore supply halting end_rule trees auto begin)
        ++ (restore_blocks rules (saved_accepts halting auto.states)
        ++ (ending_blocks endings (ended_accepts halting auto.states) ++ end_rule_part endings end_rule)) in
        let is_all = λ (k : ℕ) (lt : k < length auto.states). let e : 0 + k ≡ k = omega arith in ap (λ n. state_of auto.states n) e in
        stored-append head (states ++ rest)
        ∙ ap₂ (λ x y. x ++ y) (entry_stored end_rule ∙ listed-range rules fall begin place (entry_asks demand end_rule auto) first)
        (stored-append states rest
        ∙ ap₂ (λ x y. x ++ y) (states_stored rules fall begin place 0 start auto.states is_all)
        (stored-calm rest (calm_rest halting endings auto rules (first_restore supply halting end_rule trees auto begin) end_rule))
        ∙ append-nil _)
        ∙ range-append first (one_if demand end_rule auto (entry_asks demand end_rule auto)) (asking rules fall begin place 0 auto.states)
        ∙ ap (λ n. range_with_len first n) (whole is_all)
      where
        whole : ((k : ℕ) → k < length auto.states → state_of auto.states (0 + k) ≡ state_of auto.states k)
            → one_if demand end_rule auto (entry_asks demand end_rule auto)
            + asking rules fall begin (place_of supply halting end_rule trees auto begin) 0 auto.states ≡ asked demand end_rule auto
        whole is_all =
            asked-all rules fall begin (place_of supply halting end_rule trees auto begin) 0 auto.states is_all
            ∙ (let e : 0 + length auto.states ≡ length auto.states = omega arith in ap (λ n. asked_below demand end_rule auto n) e)

-- ---- scanners one behind another

codes-unlabelled : (codes : List (List Stmt)) → code_of (unlabelled codes) ≡ codes
codes-unlabelled [] = refl
codes-unlabelled (code ∷ codes) = ap (λ l. code ∷ l) (codes-unlabelled codes)

codes-labelled : (cond : Option (List ℕ)) (codes : List (List Stmt)) → code_of (labelled cond codes) ≡ codes
codes-labelled cond [] = refl
codes-labelled cond (code ∷ codes) = ap (λ l. code ∷ l) (codes-unlabelled codes)

pub codes-parts : (begin first : ℕ) (part : Part) (parts : List Part) → code_of (parts_blocks begin first (part ∷ parts))
    ≡ part_codes part begin first ++ code_of (parts_blocks (begin + length (part_codes part begin first)) (first + given_asked part.given) parts)
codes-parts begin first part parts =
    let others : List CodeBlock = parts_blocks (begin + length (part_codes part begin first)) (first + given_asked part.given) parts in
    map-append (λ (block : CodeBlock). block.stmts) (part_blocks part begin first) others
    ∙ ap (λ l. l ++ code_of others) (codes-labelled part.given.cond (part_codes part begin first))

pub parts_stored : (begin first : ℕ) (parts : List Part) → AllStore true parts
    → stored_of (code_of (parts_blocks begin first parts)) ≡ range_with_len first (all_asked parts)
parts_stored begin first [] stores = refl
parts_stored begin first (part ∷ parts) stores =
    let others : List (List Stmt) = code_of (parts_blocks (begin + length (part_codes part begin first)) (first + given_asked part.given) parts) in
    ap (λ l. stored_of l) (codes-parts begin first part parts)
    ∙ stored-append (part_codes part begin first) others
    ∙ ap₂ (λ x y. x ++ y)
    (layout_stored part.given.demand part.given.end_rule part.halting part.given.endings part.trees part.given.auto first stores.0 begin)
    (parts_stored (begin + length (part_codes part begin first)) (first + given_asked part.given) parts stores.1)
    ∙ range-append first (given_asked part.given) (all_asked parts)
