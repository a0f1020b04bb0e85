-- A block in which a refill is tried behind what was stored is not the last of a layout.
use Rattle.std.specs.Prelude.{◌≡◌, ℕ, suc, ◌+◌, Bool, true, false, ◌||◌, List, [], ◌∷◌, ◌++◌, length, Option, Some, None, refl, if◌then◌else◌}
use Rattle.std.proofs.Common.{◌∙◌, ap, subst, sym}
use Rattle.std.proofs.lemmas.Bool.{false≢true}
use Rattle.std.specs.List.{AllByRecursion}
use Rattle.lx_auto.specs.Automaton.{state_of}
use Rattle.lx_auto.specs.declared.automaton.Auto.{Auto}
use Rattle.lx_auto.specs.declared.automaton.Edge.{Edge}
use Rattle.lx_auto.specs.declared.automaton.State.{State}
use Rattle.lx_ccode.specs.Statements.{code_of, is_state, is_try}
use Rattle.lx_ccode.specs.Validity.{last_statements, tries_after_state}
use Rattle.lx_ccode.specs.declared.piece.CodeBlock.{CodeBlock}
use Rattle.lx_ccode.specs.declared.piece.Stmt.{Stmt}
use Rattle.lx_layout.specs.Endings.{Ending}
use Rattle.lx_layout.specs.Halting.{Halting, ended_accepts, halted_accept, is_entered, saved_accepts}
use Rattle.lx_layout.specs.Layout.{end_blocks, ending_blocks, restore_blocks}
use Rattle.lx_layout.specs.Parts.{Part, given_asked, given_supply, part_codes, parts_blocks}
use Rattle.lx_layout.specs.SuppliedLayout.{at_end_blocks, blocks_at_end, blocks_by, class_blocks, end_rule_block, end_rule_part, entry_part, entry_tests_size, entry_way, fall_block, fallback_part, first_restore, kept, lone_number, place_of, reader_blocks, rule_block, state_blocks, state_end, state_size, state_to, state_way, states_begin, states_blocks, states_part, supplied_layout, tests_of, turn_begin, turn_of, with_blocks}
use Rattle.lx_layout.specs.Supplies.{Reader, Supply, entry, state}
use Rattle.lx_dispatch.specs.TestTrees.{TestTree}
use Rattle.lx_dispatch.specs.TransitionClasses.{transition_classes}
use Rattle.lx_ccode.specs.Machine.{is_among}
use Rattle.lx_layout.proofs.BlockLayouts.Questions.{any_question}
use Rattle.lx_layout.proofs.PartLayouts.CalmBlocks.{Calm, IsCalm, calm_classes, calm_end, calm_lone, calm_rest}
use Rattle.lx_layout.proofs.PartLayouts.EachStatement.{units_any}
use Rattle.lx_layout.proofs.PartLayouts.ReaderBlocks.{reader-tests}
use Rattle.lx_layout.proofs.PartLayouts.StatementSorts.{reader_statements}
use Rattle.lx_layout.proofs.PartLayouts.StoredLayouts.{codes-parts}
use Rattle.lx_layout.proofs.Validity.EachElement.{each-map}

-- the last code, if there is one
abbrev pub MayBeLast : List (List Stmt) → Type 0
MayBeLast [] = Unit {0}
MayBeLast (code ∷ []) = tries_after_state false code ≡ false
MayBeLast (code ∷ next ∷ codes) = MayBeLast (next ∷ codes)

last-append : (a b : List (List Stmt)) → MayBeLast a → MayBeLast b → MayBeLast (a ++ b)
last-append [] b h g = g
last-append (code ∷ []) [] h g = h
last-append (code ∷ []) (next ∷ b) h g = g
last-append (code ∷ next ∷ a) b h g = last-append (next ∷ a) b h g

abbrev TriesNone : List Stmt → Type 0
TriesNone code = AllByRecursion (λ statement. is_try statement ≡ false) code

none_tried : (t : Bool) (code : List Stmt) → TriesNone code → tries_after_state t code ≡ false
none_tried t [] h = refl
none_tried t (statement ∷ code) h =
    ap (λ y. (if t then y else false) || tries_after_state (is_state statement) code) h.0 ∙ by t ∙ none_tried (is_state statement) code h.1
  where
    by : (t : Bool) → ((if t then false else false) || tries_after_state (is_state statement) code) ≡ tries_after_state (is_state statement) code
    by true = refl
    by false = refl

last-none : (codes : List (List Stmt)) → AllByRecursion TriesNone codes → MayBeLast codes
last-none [] h = tt
last-none (code ∷ []) h = none_tried false code h.0
last-none (code ∷ next ∷ codes) h = last-none (next ∷ codes) h.1

last-calm : (codes : List (List Stmt)) → AllByRecursion Calm codes → MayBeLast codes
last-calm codes h =
    last-none codes (each-map Calm TriesNone (λ code is. each-map IsCalm (λ statement. is_try statement ≡ false) (λ statement calm. calm.try) code is) codes h)

last-kept : (t : Bool) (codes : List (List Stmt)) → MayBeLast codes → MayBeLast (kept t codes)
last-kept false codes h = tt
last-kept true codes h = h

-- ---- what reads

last-tests : (stored : Option (Reader → ℕ)) (reader : Reader) (eof : Option ℕ) (units from : ℕ) (tree : TestTree ℕ)
    → MayBeLast (reader_blocks stored reader eof units from tree)
last-tests stored reader eof units from tree =
    last-none (reader_blocks stored reader eof units from tree)
    (reader-tests TriesNone (λ unit. Unit {0}) (λ reader. Unit {0}) (λ units. Unit {0})
    (record { eof = eof; tries = false; check = λ number. 0; stored = stored; among = is_among [] })
    (reader_statements (λ statement. is_try statement ≡ false) (λ unit. Unit {0}) (λ reader. Unit {0}) (λ units. Unit {0})
    (record { eof = eof; tries = false; check = λ number. 0; stored = stored; among = is_among [] })
    (record {
      goes = λ block. refl;
      unit = λ question block is. any_question (λ statement. is_try statement ≡ false) block (λ greatest. refl) (λ unit. refl) (λ set. refl) question;
      switches = λ cases last is. refl;
      peeks = refl;
      unchecked = tt;
      needs = λ units is. refl;
      stores = λ number reader same is. refl;
      tries = λ block some tries. absurd (false≢true tries);
      at_end = λ block. refl;
    })) reader units from tree tt (λ none. tt) (units_any tree))

last-turn : (stored : Option (Reader → ℕ)) (reader : Reader) (eof : Option ℕ) (tries : Bool) (block here : ℕ) (to : ℕ → ℕ) (end : ℕ)
    → MayBeLast (blocks_at_end stored reader eof tries block here to end)
last-turn stored reader None tries block here to end = tt
last-turn stored reader (Some eof) false block here to end = refl
last-turn None reader (Some eof) true block here to end = refl
last-turn (Some number) reader (Some eof) true block here to end = refl

-- ---- a layout

module _ (supply : Supply) (halting : Halting) (endings : ℕ → Ending) (end_rule : Option ℕ) (trees : Reader → TestTree (Option ℕ)) (auto : Auto) where
  module _ (rules : ℕ → ℕ) (fall begin : ℕ) (place : ℕ → ℕ) where
    state_last : (s from : ℕ) (given : State) (edges : List Edge)
        → MayBeLast (blocks_by supply halting end_rule trees auto rules fall begin (saved_accepts halting auto.states) place s from given edges)
    state_last s from given [] = last-calm _ (calm_lone halting endings auto rules fall (lone_number end_rule s) given.accept)
    state_last s from given (edge ∷ edges) =
        let tests_row : List (List Stmt) = tests_of supply halting end_rule trees auto rules fall begin (saved_accepts halting auto.states) place s from given in
        let classes_row : List (List Stmt) = class_blocks halting auto (saved_accepts halting auto.states) place given (transition_classes (edge ∷ edges)) in
        let turn_row : List (List Stmt) = turn_of supply halting end_rule trees auto rules fall begin (saved_accepts halting auto.states) place s from given in
        let end_row : List (List Stmt) = end_blocks auto rules fall (halted_accept halting s given) in
        last-append tests_row (classes_row ++ (turn_row ++ end_row))
        (last-kept (is_entered end_rule auto s) _
        (last-tests supply.stored (state s) supply.eof (supply.check s) from
        (with_blocks (state_way supply halting end_rule trees auto rules fall begin s from given) (trees (state s)))))
        (last-append classes_row (turn_row ++ end_row)
        (last-calm classes_row (calm_classes halting endings auto (saved_accepts halting auto.states) place given (transition_classes (edge ∷ edges))))
        (last-append turn_row end_row
        (last-kept (is_entered end_rule auto s) _
        (last-turn supply.stored (state s) supply.eof supply.tries from (turn_begin supply halting end_rule trees auto s from given.edges)
        (state_to supply halting end_rule trees auto rules fall begin s from given)
        (state_end supply halting end_rule trees auto rules fall begin s from given)))
        (last-calm end_row (calm_end halting endings auto rules fall (halted_accept halting s given)))))

    states_last : (s from : ℕ) (states : List State)
        → MayBeLast (states_blocks supply halting end_rule trees auto rules fall begin (saved_accepts halting auto.states) place s from states)
    states_last s from [] = tt
    states_last s from (given ∷ states) =
        last-append (state_blocks supply halting end_rule trees auto rules fall begin (saved_accepts halting auto.states) place s from given)
        (states_blocks supply halting end_rule trees auto rules fall begin (saved_accepts halting auto.states) place (suc s)
        (from + state_size supply halting end_rule trees auto s given) states)
        (state_last s from given given.edges) (states_last (suc s) (from + state_size supply halting end_rule trees auto s given) states)

  module _ (begin : ℕ) where
    abbrev rule_at : ℕ → ℕ
    rule_at = rule_block supply halting end_rule trees auto begin

    abbrev fall_at : ℕ
    fall_at = fall_block supply halting end_rule trees auto begin

    abbrev start : ℕ
    start = states_begin supply halting end_rule trees auto begin

    entry_last : (o : Option ℕ) → MayBeLast (entry_part supply halting end_rule trees auto begin o)
    entry_last None = tt
    entry_last (Some rule) =
        let way = entry_way supply halting end_rule trees auto rule_at fall_at begin start (state_of auto.states 0) in
        last-append (reader_blocks supply.stored entry supply.eof 0 begin (with_blocks way (trees entry)))
        (at_end_blocks supply entry begin (begin + entry_tests_size supply halting end_rule trees auto)
        (state_to supply halting end_rule trees auto rule_at fall_at begin 0 start (state_of auto.states 0))
        (end_rule_block supply halting end_rule trees auto begin))
        (last-tests supply.stored entry supply.eof 0 begin (with_blocks way (trees entry)))
        (last-turn supply.stored entry supply.eof supply.tries begin (begin + entry_tests_size supply halting end_rule trees auto)
        (state_to supply halting end_rule trees auto rule_at fall_at begin 0 start (state_of auto.states 0))
        (end_rule_block supply halting end_rule trees auto begin))

    layout_last : MayBeLast (supplied_layout supply halting endings end_rule trees auto begin)
    layout_last =
        let first : List (List Stmt) = entry_part supply halting end_rule trees auto begin end_rule in
        let states : List (List Stmt) = states_part supply halting end_rule trees auto begin in
        let rest : List (List Stmt) = fallback_part halting auto (first_restore supply halting end_rule trees auto begin)
        ++ (restore_blocks (rule_block supply halting end_rule trees auto begin) (saved_accepts halting auto.states)
        ++ (ending_blocks endings (ended_accepts halting auto.states) ++ end_rule_part endings end_rule)) in
        last-append first (states ++ rest) (entry_last end_rule)
        (last-append states rest (states_last rule_at fall_at begin (place_of supply halting end_rule trees auto begin) 0 start auto.states)
        (last-calm rest (calm_rest halting endings auto rule_at (first_restore supply halting end_rule trees auto begin) end_rule)))

-- ---- scanners one behind another

parts_last : (begin first : ℕ) (parts : List Part) → MayBeLast (code_of (parts_blocks begin first parts))
parts_last begin first [] = tt
parts_last begin first (part ∷ parts) =
    let others : List (List Stmt) = code_of (parts_blocks (begin + length (part_codes part begin first)) (first + given_asked part.given) parts) in
    subst (λ l. MayBeLast l) (sym (codes-parts begin first part parts))
    (last-append (part_codes part begin first) others
    (layout_last (given_supply part.given first) part.halting part.given.endings part.given.end_rule part.trees part.given.auto begin)
    (parts_last (begin + length (part_codes part begin first)) (first + given_asked part.given) parts))

last_of : (blocks : List CodeBlock) → MayBeLast (code_of blocks) → tries_after_state false (last_statements blocks) ≡ false
last_of [] h = refl
last_of (block ∷ []) h = h
last_of (block ∷ next ∷ blocks) h = last_of (next ∷ blocks) h

pub last_tries_none : (first : ℕ) (parts : List Part) (blocks : List CodeBlock) → blocks ≡ parts_blocks 0 first parts
    → tries_after_state false (last_statements blocks) ≡ false
last_tries_none first parts blocks same =
    subst (λ l. tries_after_state false (last_statements l) ≡ false) (sym same) (last_of (parts_blocks 0 first parts) (parts_last 0 first parts))
